use Rattle.std.proofs.Common.{sym, subst, ◌∙◌}
use Rattle.std.specs.Prelude.{slice_index}
use Rattle.spef_text.specs.References.{IsResolveEnd}
use Rattle.spef_nets.proofs.Naming.{refused_node}
use Rattle.spef_nets.proofs.NodeNameLemmas.{resolved_there, nothing_named}
use Rattle.spef_nets.proofs.node_names.NodeNames.name.Goals as goal

-- src/node_names.rt
pub unreachable-requires : goal.unreachable-requires
unreachable-requires c =
    let file = c.args.self.now.file.now in
    let token = slice_index c.args.self.now.tokens.now c.args.node in
    let (node, names) = c.requires.spelled.each c.args.node 0 c.requires.within in
    let refused = subst (IsResolveEnd file token) c.in-Err-UnknownIndex.field-0-is c.in-Err-UnknownIndex.ensures.refused in
    nothing_named node (sym (refused_node file token c.in-Err-UnknownIndex.field-0-0 refused).1 ∙ names)

pub returns-in-Ok : goal.returns-in-Ok
returns-in-Ok c =
    resolved_there c.args.self.now.file.now c.args.self.now.head.now c.args.self.now.tokens.now c.args.node c.in-Ok.name c.requires.spelled c.requires.within c.in-Ok.ensures.named
