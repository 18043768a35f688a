use Rattle.std.proofs.Common.{sym, ap, subst}
use Rattle.spef_text.specs.SpefFiles.{SpefText}
use Rattle.spef_nets.specs.NodeNames.{NamesOne, SpelledNodes}
use Rattle.spef_nets.proofs.NodeNameLemmas.{still_spelled}
use Rattle.spef_nets.proofs.node_tokens.NodeTokens.push.Goals as goal

-- src/node_tokens.rt
pub invariant_of-self : goal.invariant_of-self
invariant_of-self c =
    still_spelled c.self.inside.names.file c.self.inside.names.head c.self.inside.tokens.items c.push_token.new.tokens.items c.args.token c.push_token.result c.self.invariant
    (subst (λ (file : SpefText). NamesOne file c.args.token) (sym (ap (λ (n : SpelledNodes). n.file) c.self.view_is)) c.requires)
    c.push_token.ensures.ok c.push_token.ensures.err
