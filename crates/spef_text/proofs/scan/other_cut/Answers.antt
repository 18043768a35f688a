-- A blank is passed over by itself.
use Rattle.std.proofs.Common.{sym, ◌∙◌}
use Rattle.spef_text.proofs.Cutting.{cut_blank}
use Rattle.spef_text.proofs.scan.other_cut.Goals as goal

pub returns-then-is_blank : goal.returns-then-is_blank
returns-then-is_blank c = sym (cut_blank c.args.first c.args.rest.now (sym c.is_blank.ensures ∙ c.if-is_blank.true))
