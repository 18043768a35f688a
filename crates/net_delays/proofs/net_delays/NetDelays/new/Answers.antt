use Rattle.std.proofs.Common.{ℕ, arith}
use Rattle.std.proofs.lemmas.List.{get_or_read}
use Rattle.net_delays.proofs.Starts.{new_times}
use Rattle.net_delays.proofs.net_delays.NetDelays.new.Goals as goal

pub invariant_of-result : goal.invariant_of-result
invariant_of-result g c =
    let starts = c.in_ok-starts.starts.items in
    let are = c.in_ok-starts.ensures in
    let nets = c.net_count-nets.ensures.count in
    let last = get_or_read {X = ℕ} starts c.net_count-nets.result c.index-sinks.result.now (omega (arith, nets, are.len)) c.index-sinks.ensures 0 in
    new_times g.C.CornerSet.COUNT c.args.netlist.now starts (record { 0 = 0 }) c.net_count-nets.result c.index-sinks.result.now _ _ are nets last
    c.in_ok-with_rows.ensures.values c.in_ok-with_rows-2.ensures.values
