-- Want of memory.
use Rattle.std.proofs.lemmas.Result.{err_from_is_err_and}
use Rattle.hierarchy.specs.Uses.{no_memory}
use Rattle.hierarchy.proofs.uses.cells_below.Goals as goal

pub returns-in_err-cells-clause-refused : goal.returns-in_err-cells-clause-refused
returns-in_err-cells-clause-refused c =
    let p = err_from_is_err_and c.from_residual.result c.from_residual.ensures.1 in
    rw (p.1, p.2) no_memory

pub returns-in_err-names-clause-refused : goal.returns-in_err-names-clause-refused
returns-in_err-names-clause-refused c =
    let p = err_from_is_err_and c.from_residual-in_err-names.result c.from_residual-in_err-names.ensures.1 in
    rw (p.1, p.2) no_memory
