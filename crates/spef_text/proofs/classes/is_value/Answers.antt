-- The literal in front, and a colon behind it or not.
use Rattle.std.proofs.Common.{sym, ◌∙◌}
use Rattle.spef_text.proofs.Parting.{colon_value, no_colon_value, none_value}
use Rattle.spef_text.proofs.classes.is_value.Goals as goal

pub returns-in_default : goal.returns-in_default
returns-in_default c = sym (none_value c.args.text.now c.in_default.ensures.none)

pub returns-in-Some-strip : goal.returns-in-Some-strip
returns-in-Some-strip c =
    c.are_two_literals.ensures ∙ sym (colon_value c.args.text.now c.in-Some.ensures.some.0 _ _ c.in-Some.ensures.some.1 c.in-Some-strip.ensures)

pub returns-in-None : goal.returns-in-None
returns-in-None c = no_colon_value c.args.text.now c.in-Some.ensures.some.0 _ c.is_empty.result c.in-Some.ensures.some.1 c.in-None.ensures c.is_empty.ensures
