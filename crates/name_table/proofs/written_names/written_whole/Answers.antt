use Rattle.std.proofs.Common.{refl, sym, ◌∙◌}
use Rattle.name_table.proofs.Staying.{text_stays, spelling_stays}
use Rattle.name_table.proofs.written_names.written_whole.Goals as goal

-- src/written_names.rt
pub returns-then-all_stay : goal.returns-then-all_stay
returns-then-all_stay c =
    let stays = sym c.all_stay.ensures ∙ c.if-all_stay.true in
    record {
      head = sym (text_stays c.args.marks.now c.args.word.now stays);
      tail = refl;
      sdf = sym (spelling_stays c.args.marks.now c.args.word.now stays);
    }
