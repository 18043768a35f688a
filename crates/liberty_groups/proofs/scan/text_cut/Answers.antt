-- The first quote ends the text, or it is looked for byte by byte.
use Rattle.std.proofs.Common.{sym, ◌∙◌}
use Rattle.liberty_groups.proofs.Cutting.{first_quote}
use Rattle.liberty_groups.proofs.scan.text_cut.Goals as goal

pub returns-in-Some-clause-value : goal.returns-in-Some-clause-value
returns-in-Some-clause-value c =
    sym (first_quote c.args.rest.now c.in-Some.place c.in-Some.ensures (sym c.is_behind_backslash.ensures ∙ c.if-not-is_behind_backslash.true))
