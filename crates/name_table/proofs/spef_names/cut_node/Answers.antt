use Rattle.std.proofs.Common.{◌≡◌, sym, ◌∙◌}
use Rattle.name_table.specs.Characters.{characters}
use Rattle.name_table.specs.SpefNames.{cut_node}
use Rattle.name_table.proofs.Cutting.{answered}
use Rattle.name_table.proofs.Staying.{halves_stay}
use Rattle.name_table.proofs.spef_names.cut_node.Goals as goal

-- src/spef_names.rt
pub returns-then-all_stay-2 : goal.returns-then-all_stay-2
returns-then-all_stay-2 c =
    answered (λ node. node ≡ cut_node c.args.marks.now (characters c.args.front.now) (characters c.args.back.now)) _ _ c.stayed_halves.ensures
    (halves_stay c.args.marks.now c.args.front.now c.args.back.now
    (sym c.all_stay.ensures ∙ c.if-all_stay.true) (sym c.all_stay-then-all_stay.ensures ∙ c.if-all_stay-2.true))
