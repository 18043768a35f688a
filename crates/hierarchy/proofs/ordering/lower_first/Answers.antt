-- A turn of the search is one of the lemmas on turns, at what the code has then.
use Rattle.std.proofs.Common.{◌<◌, length, arith}
use Rattle.hierarchy.specs.declared.ordering.Mark.TheVariants.{New, Open, Done}
use Rattle.hierarchy.proofs.Searching.{has_entered, has_entered_less, has_met_open, has_passed, is_within, has_finished, mark_read}
use Rattle.hierarchy.proofs.ordering.lower_first.Goals as goal

pub loop-step-preserved-in-Continue-branch-4 : goal.loop-step-preserved-in-Continue-branch-4
loop-step-preserved-in-Continue-branch-4 c =
    let l = c.loop-step in
    let lt : c.in-Some.step.next < length c.at-row.result.now = omega arith in
    let new = mark_read c.args.lowers.now c.args.top l.marks.items l.order.items l.steps.items c.pop.new.self.items c.in-Some.step c.at-row.result.now
    l.invariant c.in-Some.ensures.items c.at-row.ensures c.requires.below lt c.index.result.now New c.index.ensures c.in-New.is in
    has_entered c.args.lowers.now c.args.top l.marks.items l.order.items l.steps.items c.pop.new.self.items c.in-Some.step c.at-row.result.now
    l.invariant c.in-Some.ensures.items c.at-row.ensures c.push-in-New.new.items.items c.push-in-New-2.new.items.items c.requires.below lt new
    c.in_ok-push-in-New.ensures.ok c.in_ok-push-in-New-2.ensures.ok

pub loop-step-smaller-in-Continue-branch-4 : goal.loop-step-smaller-in-Continue-branch-4
loop-step-smaller-in-Continue-branch-4 c =
    let l = c.loop-step in
    let lt : c.in-Some.step.next < length c.at-row.result.now = omega arith in
    let new = mark_read c.args.lowers.now c.args.top l.marks.items l.order.items l.steps.items c.pop.new.self.items c.in-Some.step c.at-row.result.now
    l.invariant c.in-Some.ensures.items c.at-row.ensures c.requires.below lt c.index.result.now New c.index.ensures c.in-New.is in
    has_entered_less c.args.lowers.now c.args.top l.marks.items l.order.items l.steps.items c.pop.new.self.items c.in-Some.step c.at-row.result.now
    l.invariant c.in-Some.ensures.items c.at-row.ensures c.push-in-New.new.items.items c.push-in-New-2.new.items.items c.requires.below lt new
    c.in_ok-push-in-New.ensures.ok c.in_ok-push-in-New-2.ensures.ok

pub returns-in-Open-clause-refused : goal.returns-in-Open-clause-refused
returns-in-Open-clause-refused c =
    let l = c.loop-step in
    let lt : c.in-Some.step.next < length c.at-row.result.now = omega arith in
    has_met_open c.args.lowers.now c.args.top l.marks.items l.order.items l.steps.items c.pop.new.self.items c.in-Some.step c.at-row.result.now
    l.invariant c.in-Some.ensures.items c.at-row.ensures lt
    (mark_read c.args.lowers.now c.args.top l.marks.items l.order.items l.steps.items c.pop.new.self.items c.in-Some.step c.at-row.result.now
    l.invariant c.in-Some.ensures.items c.at-row.ensures c.requires.below lt c.index.result.now Open c.index.ensures c.in-Open.is)

pub loop-step-preserved-in-Continue-branch-5 : goal.loop-step-preserved-in-Continue-branch-5
loop-step-preserved-in-Continue-branch-5 c =
    let l = c.loop-step in
    let lt : c.in-Some.step.next < length c.at-row.result.now = omega arith in
    has_passed c.args.lowers.now c.args.top l.marks.items l.order.items l.steps.items c.pop.new.self.items c.in-Some.step c.at-row.result.now
    l.invariant c.in-Some.ensures.items c.at-row.ensures c.push-in-Done.new.items.items lt
    (mark_read c.args.lowers.now c.args.top l.marks.items l.order.items l.steps.items c.pop.new.self.items c.in-Some.step c.at-row.result.now
    l.invariant c.in-Some.ensures.items c.at-row.ensures c.requires.below lt c.index.result.now Done c.index.ensures c.in-Done.is)
    c.in_ok-push-in-Done.ensures.ok

pub index_mut-requires-else-step-row : goal.index_mut-requires-else-step-row
index_mut-requires-else-step-row c =
    let l = c.loop-step in
    omega (
      arith,
      is_within c.args.lowers.now c.args.top l.marks.items l.order.items l.steps.items c.pop.new.self.items c.in-Some.step
          c.at-row.result.now l.invariant c.in-Some.ensures.items c.at-row.ensures,
      l.marks.ok.0,
    )

pub loop-step-preserved : goal.loop-step-preserved
loop-step-preserved c =
    let l = c.loop-step in
    has_finished c.args.lowers.now c.args.top l.marks.items l.order.items l.steps.items c.pop.new.self.items c.in-Some.step c.at-row.result.now
    l.invariant c.in-Some.ensures.items c.at-row.ensures c.push-else-step-row.new.items.items (omega arith) c.in_ok-push-2.ensures.ok
