-- A text without a byte that is escaped is pushed as it is.
use Rattle.std.proofs.Common.{sym, ◌∙◌}
use Rattle.sdf_writer.proofs.Escaping.{none_escaped}
use Rattle.sdf_writer.proofs.text.write_escaped.Goals as goal

pub returns-else-has_escaped : goal.returns-else-has_escaped
returns-else-has_escaped g c = rw (none_escaped c.args.text.now (sym c.has_escaped.ensures ∙ c.if-has_escaped.false)) (record { pushes = c.push.ensures.pushes })
