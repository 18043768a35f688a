use Rattle.std.proofs.Common.{◌≡◌, sym, ap, ◌∙◌, length, rules}
use Rattle.spef_nets.specs.NodeNames.{SpelledNodes}
use Rattle.spef_nets.proofs.NodeNameLemmas.{as_many_names}
use Rattle.spef_nets.proofs.node_tokens.NodeTokens.len.Goals as goal

-- src/node_tokens.rt
pub returns : goal.returns
returns c =
    let count : c.len.result ≡ length c.self.inside.tokens.items = search rules in
    count ∙ sym (as_many_names c.self.inside.names.file c.self.inside.tokens.items c.self.invariant.each) ∙ ap (λ (n : SpelledNodes). length n.nodes) c.self.view_is
