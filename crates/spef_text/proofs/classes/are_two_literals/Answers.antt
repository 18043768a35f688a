-- The literal in front, and a colon behind it or not.
use Rattle.std.proofs.Common.{sym, ◌∙◌}
use Rattle.spef_text.proofs.Parting.{colon_two, no_colon_two, none_two}
use Rattle.spef_text.proofs.classes.are_two_literals.Goals as goal

pub returns-in_default : goal.returns-in_default
returns-in_default c = sym (none_two c.args.text.now c.in_default.ensures.none)

pub returns-in-Some-strip : goal.returns-in-Some-strip
returns-in-Some-strip c =
    c.is_literal.ensures.value ∙ sym (colon_two c.args.text.now c.in-Some.ensures.some.0 _ _ c.in-Some.ensures.some.1 c.in-Some-strip.ensures)

pub returns-in-None : goal.returns-in-None
returns-in-None c = sym (no_colon_two c.args.text.now c.in-Some.ensures.some.0 _ c.in-Some.ensures.some.1 c.in-None.ensures)
