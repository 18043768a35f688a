use Rattle.std.proofs.Common.{ℕ, ◌∙◌, sym, take, get_or, Ok}
use Rattle.name_table.specs.Characters.{bare, escaped, characters}
use Rattle.name_table.specs.SdfNames.{respelled, canonical}
use Rattle.name_table.proofs.Reading.{read_escaped, read_slash, read_bare, leaves_escape, enters_escape, stays_outside, flat_map-push}
use Rattle.name_table.proofs.Spelling.{canonical_stays, settled_as}
use Rattle.name_table.proofs.sdf_names.canonical_sdf.Goals as goal
use Rattle.name_table.proofs.sdf_names.canonical_sdf.Goals.{then-is_taken+in_ok-push_spelled, else-is_taken+then-byte-eq92, else-is_taken+else-byte-eq92+in_ok-push_respelled}

-- src/sdf_names.rt
pub loop-byte-preserved : goal.loop-byte-preserved
loop-byte-preserved c =
    let word = c.args.word.now in
    let place = c.loop-byte.byte-index in
    let more = flat_map-push (respelled c.args.divider) (characters (take place word)) in
    elim c.if-is_taken.branch [
      | then-is_taken+in_ok-push_spelled w ↦
          let inside = sym c.loop-byte.invariant.within ∙ w.if-is_taken.true in
          let read = read_escaped word place c.loop-byte-test.true inside in
          let pushed = more (escaped (get_or word place 0)) in
          let ok = w.in_ok-push_spelled.ensures.ok in
          record { so_far = cc; within = w.is_taken-is ∙ sym (leaves_escape word place c.loop-byte-test.true inside) }
      | else-is_taken+then-byte-eq92 w ↦
          let outside = sym c.loop-byte.invariant.within ∙ w.if-is_taken.false in
          let read = read_slash word place c.loop-byte-test.true outside w.if-byte-eq92.true in
          record { so_far = cc; within = w.is_taken-is ∙ sym (enters_escape word place c.loop-byte-test.true outside w.if-byte-eq92.true) }
      | else-is_taken+else-byte-eq92+in_ok-push_respelled w ↦
          let outside = sym c.loop-byte.invariant.within ∙ w.if-is_taken.false in
          let read = read_bare word place c.loop-byte-test.true outside w.if-byte-eq92.false in
          let pushed = more (bare (get_or word place 0)) in
          let ok = w.in_ok-push_respelled.ensures.ok in
          record { so_far = cc; within = w.is_taken-is ∙ w.if-is_taken.false ∙ sym (stays_outside word place c.loop-byte-test.true outside w.if-byte-eq92.false) }
    ]

pub returns-clause-settled : goal.returns-clause-settled
returns-clause-settled c =
    settled_as {E = ℕ} (Ok c.from_vec.result) _ (canonical c.args.divider (take c.loop-byte.byte-index c.args.word.now)) c.from_vec.ensures c.loop-byte.invariant.so_far
    (canonical_stays c.args.divider (take c.loop-byte.byte-index c.args.word.now))
