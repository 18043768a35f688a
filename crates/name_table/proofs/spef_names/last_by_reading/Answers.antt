use Rattle.std.proofs.Common.{◌∙◌, sym}
use Rattle.name_table.proofs.Cutting.{last_stays, last_here, in_escape, is_backslash, is_apart}
use Rattle.name_table.proofs.Reading.{leaves_escape, enters_escape, stays_outside}
use Rattle.name_table.proofs.spef_names.last_by_reading.Goals as goal
use Rattle.name_table.proofs.spef_names.last_by_reading.Goals.{then-is_taken, else-is_taken+then-byte-eq92, else-is_taken+else-byte-eq92+then-byte-delimiter, else-is_taken+else-byte-eq92+else-byte-delimiter}

-- src/spef_names.rt
pub loop-place-preserved : goal.loop-place-preserved
loop-place-preserved c =
    let word = c.args.word.now in
    let place = c.loop-place.place in
    let within = c.loop-place-test.true in
    let so_far = c.loop-place.invariant.so_far in
    elim c.if-is_taken.branch [
      | then-is_taken w ↦
          let inside = sym c.loop-place.invariant.within ∙ w.if-is_taken.true in
          record { so_far = last_stays c.args.delimiter word place _ _ within so_far w.last-is (in_escape inside); within = w.is_taken-is ∙ sym (leaves_escape word place within inside) }
      | else-is_taken+then-byte-eq92 w ↦
          let outside = sym c.loop-place.invariant.within ∙ w.if-is_taken.false in
          record { so_far = last_stays c.args.delimiter word place _ _ within so_far w.last-is (is_backslash w.if-byte-eq92.true); within = w.is_taken-is ∙ sym (enters_escape word place within outside w.if-byte-eq92.true) }
      | else-is_taken+else-byte-eq92+then-byte-delimiter w ↦
          let outside = sym c.loop-place.invariant.within ∙ w.if-is_taken.false in
          record { so_far = last_here c.args.delimiter word place _ within outside w.if-byte-eq92.false w.if-byte-delimiter.true w.last-is; within = w.is_taken-is ∙ w.if-is_taken.false ∙ sym (stays_outside word place within outside w.if-byte-eq92.false) }
      | else-is_taken+else-byte-eq92+else-byte-delimiter w ↦
          let outside = sym c.loop-place.invariant.within ∙ w.if-is_taken.false in
          record { so_far = last_stays c.args.delimiter word place _ _ within so_far w.last-is (is_apart w.if-byte-delimiter.false); within = w.is_taken-is ∙ w.if-is_taken.false ∙ sym (stays_outside word place within outside w.if-byte-eq92.false) }
    ]
