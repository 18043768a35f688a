use Rattle.std.proofs.Common.{◌≡◌, ◌+◌, ◌*◌, ◌<◌, ◌≤◌, ℕ, length, sym, ap, subst, ◌∙◌, arith}
use Rattle.netlist_link.specs.FlatNetlist.{net_at}
use Rattle.rc_tree.specs.Builds.{IsTreeEnd, IsTreeOf}
use Rattle.net_parasitics.specs.NetPins.{net_pins}
use Rattle.net_parasitics.specs.NetSteps.{DrawnTree, AreSums, HasTreeTimes}
use Rattle.net_parasitics.proofs.AllNets.{some_corner}
use Rattle.net_parasitics.proofs.TreeTimes.{net_end_of, sinks_many, times_of_tree, takes_work}
use Rattle.net_parasitics.proofs.inputs.NetInputs.put_written.Goals as goal

-- src/nets.rt
pub returns-in-Err-clause-refused : goal.returns-in-Err-clause-refused
returns-in-Err-clause-refused g c =
    net_end_of c.args.self.now c.args.net c.args.driver c.args.section.now c.in-Err.end c.end_of_net.result (record { wired = c.requires.wired; written = c.requires.written })
    (subst (λ n. IsTreeEnd n c.args.section.now (net_pins c.args.self.now c.args.net c.args.driver) c.in-Err.end) (sym c.sound.ensures.count) c.in-Err.ensures.refused) c.end_of_net.ensures

pub returns-in-Err-clause-work : goal.returns-in-Err-clause-work
returns-in-Err-clause-work g c =
    let joints = length c.args.section.now.joints in
    let caps = length c.args.section.now.caps in
    let sinks = length (net_at c.args.self.now.netlist c.args.net).sinks in
    takes_work c.args.self.now c.args.net c.args.driver c.args.section.now c.args.steps.now c.draw.new.steps (record { wired = c.requires.wired; written = c.requires.written })
    (subst (λ n. 0 < n) (sym c.sound.ensures.count) (some_corner g.C.CornerSet.COUNT g.met.C.CornerSet.one_or_three))
    (subst (λ n. c.draw.new.steps ≤ c.args.steps.now + (joints + n * (joints + caps) + 12 * n * (joints + 1) + n * sinks)) (sym c.sound.ensures.count) (omega (arith, c.draw.ensures.steps)))

pub put_times-requires-clause-sums : goal.put_times-requires-clause-sums
put_times-requires-clause-sums g c =
    subst (λ (d : DrawnTree). (corner : ℕ) → corner < g.C.CornerSet.COUNT → AreSums g.C.CornerSet.COUNT d.tree d.sums corner) (sym c.work.view_is) c.in_default.ensures.sums

pub put_times-requires-clause-sinks : goal.put_times-requires-clause-sinks
put_times-requires-clause-sinks g c = λ sink below.
    let there = c.requires.wired.there in
    let of = subst (λ (d : DrawnTree). IsTreeOf g.C.CornerSet.COUNT c.args.section.now (net_pins c.args.self.now c.args.net c.args.driver) d.tree) (sym c.work.view_is) c.in_default.ensures.tree in
    let many : length c.work.inside.tree.sinks ≡ length (net_at c.args.self.now.netlist c.args.net).sinks =
    of.sinks ∙ sinks_many c.args.self.now c.args.net c.args.driver in
    (omega (arith, there, c.requires.fits.len), omega (arith, below, many, c.requires.fits.next c.args.net there))

pub returns-clause-times : goal.returns-clause-times
returns-clause-times g c =
    times_of_tree c.args.self.now c.args.net c.args.driver c.args.section.now c.work.inside.tree c.put_times.new.delays (record { wired = c.requires.wired; written = c.requires.written })
    (subst (λ n. IsTreeOf n c.args.section.now (net_pins c.args.self.now c.args.net c.args.driver) c.work.inside.tree) (sym c.sound.ensures.count)
    (subst (λ (d : DrawnTree). IsTreeOf g.C.CornerSet.COUNT c.args.section.now (net_pins c.args.self.now c.args.net c.args.driver) d.tree) (sym c.work.view_is) c.in_default.ensures.tree))
    (subst (λ n. (corner : ℕ) → corner < n → HasTreeTimes n c.work.inside.tree c.put_times.new.delays c.args.net corner) (sym c.sound.ensures.count) c.put_times.ensures.times)

pub returns-clause-work : goal.returns-clause-work
returns-clause-work g c =
    let joints = length c.args.section.now.joints in
    let caps = length c.args.section.now.caps in
    let sinks = length (net_at c.args.self.now.netlist c.args.net).sinks in
    let of = subst (λ (d : DrawnTree). IsTreeOf g.C.CornerSet.COUNT c.args.section.now (net_pins c.args.self.now c.args.net c.args.driver) d.tree) (sym c.work.view_is) c.in_default.ensures.tree in
    let many : length c.work.inside.tree.sinks ≡ sinks = of.sinks ∙ sinks_many c.args.self.now c.args.net c.args.driver in
    let turns = ap (λ k. g.C.CornerSet.COUNT * k) many in
    takes_work c.args.self.now c.args.net c.args.driver c.args.section.now c.args.steps.now c.put_times.new.steps (record { wired = c.requires.wired; written = c.requires.written })
    (subst (λ n. 0 < n) (sym c.sound.ensures.count) (some_corner g.C.CornerSet.COUNT g.met.C.CornerSet.one_or_three))
    (subst (λ n. c.put_times.new.steps ≤ c.args.steps.now + (joints + n * (joints + caps) + 12 * n * (joints + 1) + n * sinks)) (sym c.sound.ensures.count)
    (omega (arith, c.draw.ensures.steps, c.put_times.ensures.steps, turns)))
