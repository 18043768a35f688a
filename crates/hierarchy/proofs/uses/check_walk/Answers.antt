-- Want of memory.
use Rattle.std.proofs.lemmas.Result.{err_from_is_err_and}
use Rattle.hierarchy.proofs.Limiting.{memory_end}
use Rattle.hierarchy.proofs.uses.check_walk.Goals as goal

pub returns-in_err-lowers-clause-refused : goal.returns-in_err-lowers-clause-refused
returns-in_err-lowers-clause-refused c =
    let p = err_from_is_err_and c.from_residual.result c.from_residual.ensures.1 in
    rw (p.1, p.2) (memory_end c.args.modules.now c.args.top c.requires.within)
