-- The depth of the top against the limit.
use Rattle.std.proofs.Common.{arith}
use Rattle.hierarchy.proofs.Limiting.{memory_end, deep_end, read_value}
use Rattle.std.proofs.lemmas.Result.{err_from_is_err_and}
use Rattle.hierarchy.proofs.uses.check_depth.Goals as goal

pub returns-in_err-depths-clause-refused : goal.returns-in_err-depths-clause-refused
returns-in_err-depths-clause-refused c =
    let p = err_from_is_err_and c.from_residual.result c.from_residual.ensures.1 in
    rw (p.1, p.2) (memory_end c.args.modules.now c.args.top c.requires.within)

pub returns-then-index-gt-MOST_DEPTH-clause-refused : goal.returns-then-index-gt-MOST_DEPTH-clause-refused
returns-then-index-gt-MOST_DEPTH-clause-refused c =
    let modules = c.args.modules.now in
    let lowers = c.args.lowers.now in
    let passed = c.in_ok-depths.ensures in
    let at = read_value modules c.args.top c.requires.within lowers c.requires.lowers c.args.order.now c.requires.order
    c.in_ok-depths.depths.items c.index.result.now passed.size c.index.ensures in
    deep_end modules c.args.top c.requires.within lowers c.requires.lowers c.args.order.now c.requires.order
    c.in_ok-depths.depths.items passed (omega (arith, at, c.if-index-gt-MOST_DEPTH.true))
