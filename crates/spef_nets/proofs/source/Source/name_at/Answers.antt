use Rattle.std.proofs.Common.{sym}
use Rattle.spef_text.specs.Heads.{text_of}
use Rattle.spef_nets.proofs.Naming.{named_of_node, named_of_unknown}
use Rattle.spef_nets.proofs.source.Source.name_at.Goals as goal

-- src/source.rt
pub returns-in-Ok : goal.returns-in-Ok
returns-in-Ok c = sym (named_of_node c.args.self.now.file.now c.args.self.now.head.now c.args.cut (text_of c.args.self.now.file.now c.args.token) c.in-Ok.node c.requires c.in-Ok.ensures.named)

pub returns-in-Err-UnknownIndex : goal.returns-in-Err-UnknownIndex
returns-in-Err-UnknownIndex c =
    let refused = rw c.in-Err-UnknownIndex.field-0-is at c.in-Err-UnknownIndex.ensures.refused in
    sym (named_of_unknown c.args.self.now.file.now c.args.cut (text_of c.args.self.now.file.now c.args.token) refused.1)
