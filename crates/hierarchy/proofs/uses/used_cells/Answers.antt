-- Want of memory, and a top that is not there.
use Rattle.std.proofs.Common.{sym, ◌∙◌}
use Rattle.std.proofs.lemmas.Result.{err_from_is_err_and}
use Rattle.hierarchy.specs.Uses.{no_top, no_memory}
use Rattle.hierarchy.proofs.uses.used_cells.Goals as goal

pub returns-in_default-clause-refused : goal.returns-in_default-clause-refused
returns-in_default-clause-refused c = no_top (λ m lt e. c.in_default.ensures.none m lt (e ∙ sym c.bytes.ensures))

pub returns-in_err-used-clause-refused : goal.returns-in_err-used-clause-refused
returns-in_err-used-clause-refused c =
    let p = err_from_is_err_and c.from_residual-in_err-used.result c.from_residual-in_err-used.ensures.1 in
    rw (p.1, p.2) no_memory
