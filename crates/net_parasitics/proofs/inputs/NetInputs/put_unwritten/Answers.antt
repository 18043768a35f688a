use Rattle.std.proofs.Common.{◌≡◌, ◌<◌, ℕ, length, sym, ap, subst, ◌∙◌, arith}
use Rattle.netlist_link.specs.FlatNetlist.{net_at}
use Rattle.rc_tree.specs.declared.ends.TreeEnd.TheVariants.{TooLarge}
use Rattle.net_parasitics.specs.Inputs.{Inputs}
use Rattle.net_parasitics.specs.NetSteps.{HasOwnLoad, net_refused}
use Rattle.net_parasitics.proofs.TreeTimes.{unwritten_large, unwritten_times}
use Rattle.net_parasitics.proofs.inputs.NetInputs.put_unwritten.Goals as goal

-- src/nets.rt
pub returns-then-sink_count-ge-MOST-clause-refused : goal.returns-then-sink_count-ge-MOST-clause-refused
returns-then-sink_count-ge-MOST-clause-refused g c =
    let many : c.sink_count.result ≡ length (net_at c.args.self.now.netlist c.args.net).sinks =
    c.sink_count.ensures.count ∙ ap (λ (i : Inputs). length (net_at i.netlist c.args.net).sinks) c.self.view_is in
    net_refused TooLarge (unwritten_large c.args.self.now c.args.net c.args.driver c.requires.wired c.requires.absent (omega (arith, many, c.if-sink_count-ge-MOST.true)))

pub returns-clause-times : goal.returns-clause-times
returns-clause-times g c =
    let many : c.sink_count.result ≡ length (net_at c.args.self.now.netlist c.args.net).sinks =
    c.sink_count.ensures.count ∙ ap (λ (i : Inputs). length (net_at i.netlist c.args.net).sinks) c.self.view_is in
    unwritten_times c.args.self.now c.args.net c.args.driver c.requires.wired c.requires.absent c.args.delays.now c.put_own_load.new.delays
    (omega (arith, many, c.if-sink_count-ge-MOST.false)) c.requires.zero c.put_own_load.ensures.others.starts c.put_own_load.ensures.elmores
    (subst (λ n. (corner : ℕ) → corner < n → HasOwnLoad c.args.self.now n c.put_own_load.new.delays c.args.net corner) (sym c.sound.ensures.count) c.put_own_load.ensures.load)
