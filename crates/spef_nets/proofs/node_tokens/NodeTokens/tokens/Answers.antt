use Rattle.std.proofs.Common.{◌≡◌, sym, ap, subst}
use Rattle.spef_nets.specs.Nodes.{nodes_at}
use Rattle.spef_nets.specs.NodeNames.{SpelledNodes, NameNodes}
use Rattle.spef_nets.proofs.node_tokens.NodeTokens.tokens.Goals as goal

-- src/node_tokens.rt
pub returns-clause-nodes : goal.returns-clause-nodes
returns-clause-nodes c =
    subst (λ (n : SpelledNodes). nodes_at n.file c.as_slice.result.now ≡ n.nodes) c.self.view_is (ap (nodes_at c.self.inside.names.file) c.as_slice.ensures.value)

pub returns-clause-each : goal.returns-clause-each
returns-clause-each c =
    subst (λ (n : SpelledNodes). NameNodes n.file c.as_slice.result.now) c.self.view_is
    (subst (NameNodes c.self.inside.names.file) (sym c.as_slice.ensures.value) c.self.invariant.each)
