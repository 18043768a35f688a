use Rattle.std.proofs.Common.{sym}
use Rattle.spef_nets.proofs.NodeNameLemmas.{as_many_names}
use Rattle.spef_nets.proofs.node_names.NodeNames.count.Goals as goal

-- src/node_names.rt
pub returns : goal.returns
returns c = sym (as_many_names c.args.self.now.file.now c.args.self.now.tokens.now c.requires.each)
