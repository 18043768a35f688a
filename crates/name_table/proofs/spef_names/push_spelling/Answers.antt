use Rattle.std.proofs.Common.{◌∙◌, append_assoc, sym, take, get_or}
use Rattle.name_table.specs.Characters.{bare, escaped, characters}
use Rattle.name_table.specs.SpefNames.{sdf_of, spelling_of}
use Rattle.name_table.proofs.Reading.{read_escaped, read_slash, read_bare, leaves_escape, enters_escape, stays_outside, flat_map-push}
use Rattle.name_table.proofs.spef_names.push_spelling.Goals as goal
use Rattle.name_table.proofs.spef_names.push_spelling.Goals.{then-is_taken+in_ok-push_spelled, else-is_taken+then-byte-eq92, else-is_taken+else-byte-eq92+in_ok-push_mark_or_spelled}

-- src/spef_names.rt
pub loop-byte-preserved : goal.loop-byte-preserved
loop-byte-preserved c =
    let word = c.args.word.now in
    let place = c.loop-byte.byte-index in
    let before = spelling_of c.args.marks.now (characters (take place word)) in
    let more = flat_map-push (sdf_of c.args.marks.now) (characters (take place word)) in
    elim c.if-is_taken.branch [
      | then-is_taken+in_ok-push_spelled w ↦
          let inside = sym c.loop-byte.invariant.within ∙ w.if-is_taken.true in
          let read = read_escaped word place c.loop-byte-test.true inside in
          let pushed = more (escaped (get_or word place 0)) in
          let grouped = append_assoc c.args.sdf.now.items before (sdf_of c.args.marks.now (escaped (get_or word place 0))) in
          let ok = w.in_ok-push_spelled.ensures.ok in
          record { so_far = cc; within = w.is_taken-is ∙ sym (leaves_escape word place c.loop-byte-test.true inside) }
      | else-is_taken+then-byte-eq92 w ↦
          let outside = sym c.loop-byte.invariant.within ∙ w.if-is_taken.false in
          let read = read_slash word place c.loop-byte-test.true outside w.if-byte-eq92.true in
          record { so_far = cc; within = w.is_taken-is ∙ sym (enters_escape word place c.loop-byte-test.true outside w.if-byte-eq92.true) }
      | else-is_taken+else-byte-eq92+in_ok-push_mark_or_spelled w ↦
          let outside = sym c.loop-byte.invariant.within ∙ w.if-is_taken.false in
          let read = read_bare word place c.loop-byte-test.true outside w.if-byte-eq92.false in
          let pushed = more (bare (get_or word place 0)) in
          let grouped = append_assoc c.args.sdf.now.items before (sdf_of c.args.marks.now (bare (get_or word place 0))) in
          let ok = w.in_ok-push_mark_or_spelled.ensures in
          record { so_far = cc; within = w.is_taken-is ∙ w.if-is_taken.false ∙ sym (stays_outside word place c.loop-byte-test.true outside w.if-byte-eq92.false) }
    ]
