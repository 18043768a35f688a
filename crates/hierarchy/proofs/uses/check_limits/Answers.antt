-- The limits in turn.
use Rattle.std.proofs.lemmas.Result.{err_from_is_err_and}
use Rattle.hierarchy.proofs.Limiting.{instances_end, names_end, pins_end, walkable}
use Rattle.hierarchy.proofs.uses.check_limits.Goals as goal

pub returns-in_err-check_total-clause-refused : goal.returns-in_err-check_total-clause-refused
returns-in_err-check_total-clause-refused c =
    let p = err_from_is_err_and c.from_residual-in_err-check_total.result c.from_residual-in_err-check_total.ensures.1 in
    rw (p.1, p.2) (instances_end c.args.modules.now c.args.top c.requires.within c.args.lowers.now c.requires.lowers c.args.order.now
    c.requires.order c.in_ok-check_depth.ensures.ok _ c.in_err-check_total.ensures.refused)

pub returns-in_err-check_total-2-clause-refused : goal.returns-in_err-check_total-2-clause-refused
returns-in_err-check_total-2-clause-refused c =
    let p = err_from_is_err_and c.from_residual-in_err-check_total-2.result c.from_residual-in_err-check_total-2.ensures.1 in
    rw (p.1, p.2) (names_end c.args.modules.now c.args.top c.requires.within c.args.lowers.now c.requires.lowers c.args.order.now
    c.requires.order c.in_ok-check_depth.ensures.ok c.in_ok-check_total.ensures.ok _ c.in_err-check_total-2.ensures.refused)

pub returns-in_err-check_total-3-clause-refused : goal.returns-in_err-check_total-3-clause-refused
returns-in_err-check_total-3-clause-refused c =
    let p = err_from_is_err_and c.from_residual-in_err-check_total-3.result c.from_residual-in_err-check_total-3.ensures.1 in
    rw (p.1, p.2) (pins_end c.args.modules.now c.args.top c.requires.within c.args.lowers.now c.requires.lowers c.args.order.now
    c.requires.order c.in_ok-check_depth.ensures.ok c.in_ok-check_total.ensures.ok c.in_ok-check_total-2.ensures.ok _ c.in_err-check_total-3.ensures.refused)

pub returns-clause-ok : goal.returns-clause-ok
returns-clause-ok c =
    walkable c.args.modules.now c.args.top c.requires.within c.args.lowers.now c.requires.lowers c.args.order.now
    c.requires.order c.in_ok-check_depth.ensures.ok c.in_ok-check_total.ensures.ok c.in_ok-check_total-2.ensures.ok c.in_ok-check_total-3.ensures.ok
