use Rattle.std.proofs.Common.{Err, Ok, sym, subst}
use Rattle.liberty_tables.specs.FullTables.{IsFullTable, full}
use Rattle.liberty_tables.proofs.TableLemmas.{refused_table}
use Rattle.liberty_tables.proofs.tables.full_table.Goals as goal

pub returns-in-Ok-clause-table : goal.returns-in-Ok-clause-table
returns-in-Ok-clause-table c =
    subst (λ t. IsFullTable (record { slew = c.args.slew; load = c.args.load; order = c.args.order; values = c.args.values.now }) (Ok t)) (sym c.in-Ok.ensures.ok) (full c.in-Ok.ensures.count)

pub returns-in-Err-clause-table : goal.returns-in-Err-clause-table
returns-in-Err-clause-table c =
    subst (λ f. IsFullTable (record { slew = c.args.slew; load = c.args.load; order = c.args.order; values = c.args.values.now }) (Err f)) (sym c.refusal_of.ensures)
    (refused_table c.args.slew c.args.load c.args.order c.args.values.now c.in-Err.fault c.in-Err.ensures.refused)
