use Rattle.std.proofs.Common.{Some, sym, ap, ◌∙◌}
use Rattle.spef_nets.proofs.source.Source.put_copy.Goals as goal

-- src/source.rt
pub returns-clause-ok : goal.returns-clause-ok
returns-clause-ok c = c.in_ok-name.ensures.ok ∙ ap Some (sym (c.in_ok-put_copy.ensures ∙ c.bytes.ensures))
