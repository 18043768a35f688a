-- The instance, the divider and the pin stand one behind another.
use Rattle.std.proofs.Common.{sym, ◌∙◌, arith}
use Rattle.sdf_writer.proofs.EndNames.{pin_name_is}
use Rattle.sdf_writer.proofs.ends.is_pin_name.Goals as goal

-- src/ends.rt:19:1
pub returns-then-are_equal : goal.returns-then-are_equal
returns-then-are_equal c same =
    pin_name_is c.args.text.now c.args.instance.now c.args.pin.now _ _ c.split_at.ensures.by_index.0 c.in-47.len_at_least (omega arith)
    (sym c.are_equal.ensures ∙ c.if-are_equal.true) (sym c.are_equal-then-are_equal.ensures ∙ same)
