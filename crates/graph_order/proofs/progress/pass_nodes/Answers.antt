use Rattle.std.proofs.Common.{arith}
use Rattle.graph_order.proofs.Waiting.{stuck_end}
use Rattle.graph_order.proofs.progress.pass_nodes.Goals as goal

-- src/progress.rt
pub returns-clause-stuck : goal.returns-clause-stuck
returns-clause-stuck c =
    stuck_end c.args.nodes c.loop-head.head c.args.sources.now c.args.targets.now c.loop-head.progress.order.items c.loop-head.progress.waits.items (omega (arith, c.loop-head-test.false)) c.requires.same (λ l l_in. c.requires.sources l 0 l_in)
    c.loop-head.invariant.waiting c.loop-head.invariant.passed
