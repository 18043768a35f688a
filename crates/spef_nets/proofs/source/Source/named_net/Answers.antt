use Rattle.std.proofs.Common.{refl, sym, ◌∙◌}
use Rattle.spef_text.specs.Heads.{text_of}
use Rattle.spef_nets.proofs.Naming.{named_of_unknown, unknown_of_named}
use Rattle.spef_nets.proofs.source.Source.named_net.Goals as goal

-- src/source.rt
pub returns-in-None-clause-err : goal.returns-in-None-clause-err
returns-in-None-clause-err c =
    let word = text_of c.args.self.now.file.now c.args.token in
    (refl, named_of_unknown c.args.self.now.file.now _ word (unknown_of_named c.args.self.now.file.now _ word (sym c.in_ok-node.ensures ∙ c.in-None.is)))
