use Rattle.std.proofs.Common.{◌++◌, ◌∷◌, ap, sym, ◌∙◌}
use Rattle.std.specs.Prelude.{Some}
use Rattle.edge_io.specs.Bytes.{slash}
use Rattle.name_table.proofs.Staying.{text_stays, spelling_stays}
use Rattle.name_table.proofs.written_names.written_halves.Goals as goal

-- src/written_names.rt
pub returns-then-all_stay-2 : goal.returns-then-all_stay-2
returns-then-all_stay-2 c =
    let front_stays = sym c.all_stay.ensures ∙ c.if-all_stay.true in
    let back_stays = sym c.all_stay-then-all_stay.ensures ∙ c.if-all_stay-2.true in
    let front_spelled = spelling_stays c.args.marks.now c.args.front.now front_stays in
    let back_spelled = spelling_stays c.args.marks.now c.args.back.now back_stays in
    record {
      head = sym (text_stays c.args.marks.now c.args.front.now front_stays);
      tail = ap Some (sym (text_stays c.args.marks.now c.args.back.now back_stays));
      sdf = sym (λ i. front_spelled i ++ slash ∷ back_spelled i);
    }
