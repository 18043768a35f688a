use Rattle.std.proofs.Common.{true, subst, ◌∙◌}
use Rattle.spef_text.specs.SpefFiles.{SpefText}
use Rattle.spef_text.specs.Heads.{text_of}
use Rattle.spef_text.specs.References.{NamesAsWritten}
use Rattle.spef_nets.proofs.Naming.{resolved_node}
use Rattle.spef_nets.proofs.source.Source.key_at.Goals as goal

-- src/source.rt
pub returns-in-Some-clause-key : goal.returns-in-Some-clause-key
returns-in-Some-clause-key c =
    let as_written = subst (λ (f : SpefText). NamesAsWritten f true (text_of f c.args.token) c.in-Some.name) c.requires.file c.in-Some.ensures.name in (
      as_written.node,
      resolved_node c.args.self.now.file.now c.args.self.now.head.now c.args.token as_written.node c.requires.head as_written.names,
      c.of_written.ensures ∙ (λ i. record { head = as_written.written.head i; tail = as_written.written.tail i }),
    )
