use Rattle.spef_nets.proofs.KeyLemmas.{interned}
use Rattle.spef_nets.proofs.node_table.intern.Goals as goal

-- src/node_table.rt
pub returns : goal.returns
returns c = interned c.args.keys.now.keys c.insert_full.new.self.keys c.args.key c.in-Ok.place c.in-Ok.ensures.keys c.in-Ok.ensures.index c.in-Ok.ensures.stored
