use Rattle.std.proofs.Common.{false, Some, sym, ap, subst, ◌∙◌}
use Rattle.spef_text.specs.Heads.{HeadedFile, text_of}
use Rattle.spef_text.specs.References.{NamesAsWritten}
use Rattle.spef_nets.proofs.Naming.{resolved_net}
use Rattle.spef_nets.proofs.source.Source.put_net.Goals as goal

-- src/source.rt
pub returns-in-Some-clause-ok : goal.returns-in-Some-clause-ok
returns-in-Some-clause-ok c =
    let as_written = subst (λ (h : HeadedFile). NamesAsWritten h.file false (text_of h.file c.args.token) c.in-Some.name) c.new.ensures c.in-Some.ensures.name in
    resolved_net c.args.self.now.file.now c.args.self.now.head.now c.args.token as_written.node c.requires as_written.names
    ∙ ap Some (sym (c.put.ensures ∙ as_written.written.head))
