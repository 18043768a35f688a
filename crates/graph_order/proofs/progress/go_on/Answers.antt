use Rattle.std.proofs.Common.{sym, ◌∙◌}
use Rattle.graph_order.proofs.Waiting.{gone_back, gone_in}
use Rattle.graph_order.proofs.progress.go_on.Goals as goal

-- src/progress.rt
pub returns-then-is_some-clause-waiting : goal.returns-then-is_some-clause-waiting
returns-then-is_some-clause-waiting c = (gone_back c.args.sources.now c.args.targets.now c.args.progress.now.order.items c.args.progress.now.waits.items c.loop-next.progress.order.items c.loop-next.progress.waits.items c.args.link c.in-Some.found c.loop-next.next c.index.result.now
    c.requires.same c.requires.sources c.requires.targets c.requires.waiting c.requires.link c.requires.free c.requires.waits c.loop-next.invariant.waits c.loop-next.invariant.order c.loop-next.invariant.earlier c.in-Some.is c.index.ensures (sym c.is_some.ensures ∙ c.if-is_some.true)).waiting

pub returns-then-is_some-clause-goes : goal.returns-then-is_some-clause-goes
returns-then-is_some-clause-goes c = (gone_back c.args.sources.now c.args.targets.now c.args.progress.now.order.items c.args.progress.now.waits.items c.loop-next.progress.order.items c.loop-next.progress.waits.items c.args.link c.in-Some.found c.loop-next.next c.index.result.now
    c.requires.same c.requires.sources c.requires.targets c.requires.waiting c.requires.link c.requires.free c.requires.waits c.loop-next.invariant.waits c.loop-next.invariant.order c.loop-next.invariant.earlier c.in-Some.is c.index.ensures (sym c.is_some.ensures ∙ c.if-is_some.true)).goes

pub returns-clause-waiting : goal.returns-clause-waiting
returns-clause-waiting c = (gone_in c.args.sources.now c.args.targets.now c.args.progress.now.order.items c.args.progress.now.waits.items c.loop-next.progress.order.items c.loop-next.progress.waits.items c.push.new.items.items c.args.link c.loop-next.next
    c.requires.same c.requires.sources c.requires.targets c.requires.waiting c.requires.link c.requires.free c.requires.waits c.loop-next.invariant.waits c.loop-next.invariant.order c.loop-next.invariant.earlier c.in_default.is c.in_ok-push.ensures.ok).waiting

pub returns-clause-goes : goal.returns-clause-goes
returns-clause-goes c = (gone_in c.args.sources.now c.args.targets.now c.args.progress.now.order.items c.args.progress.now.waits.items c.loop-next.progress.order.items c.loop-next.progress.waits.items c.push.new.items.items c.args.link c.loop-next.next
    c.requires.same c.requires.sources c.requires.targets c.requires.waiting c.requires.link c.requires.free c.requires.waits c.loop-next.invariant.waits c.loop-next.invariant.order c.loop-next.invariant.earlier c.in_default.is c.in_ok-push.ensures.ok).goes
