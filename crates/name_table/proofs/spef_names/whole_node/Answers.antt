use Rattle.std.proofs.Common.{◌≡◌, sym, ◌∙◌}
use Rattle.name_table.specs.Characters.{characters}
use Rattle.name_table.specs.SpefNames.{whole_node}
use Rattle.name_table.proofs.Cutting.{answered}
use Rattle.name_table.proofs.Staying.{whole_stays}
use Rattle.name_table.proofs.spef_names.whole_node.Goals as goal

-- src/spef_names.rt
pub returns-then-all_stay : goal.returns-then-all_stay
returns-then-all_stay c =
    answered (λ node. node ≡ whole_node c.args.marks.now (characters c.args.word.now)) _ _ c.stayed_whole.ensures
    (whole_stays c.args.marks.now c.args.word.now (sym c.all_stay.ensures ∙ c.if-all_stay.true))
