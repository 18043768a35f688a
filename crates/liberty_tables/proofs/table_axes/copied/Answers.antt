use Rattle.std.proofs.Common.{Ok, Err, sym, subst}
use Rattle.liberty_tables.specs.Kept.{IsCopy, is_same, no_count}
use Rattle.liberty_tables.proofs.table_axes.copied.Goals as goal

pub returns-in-Ok-copied : goal.returns-in-Ok-copied
returns-in-Ok-copied c =
    subst (λ answer. IsCopy answer (Ok c.in-Ok-copied.copy)) (sym c.in-Ok.is) (subst (λ points. IsCopy (Ok c.in-Ok.axis) (Ok points)) (sym c.in-Ok-copied.ensures) is_same)

pub returns-in-Err-copied : goal.returns-in-Err-copied
returns-in-Err-copied c = no_count

pub returns-in-Err : goal.returns-in-Err
returns-in-Err c = subst (λ answer. IsCopy answer (Err c.in-Err.fault)) (sym c.in-Err.is) is_same
