use Rattle.std.proofs.Common.{option_map}
use Rattle.liberty_groups.specs.Tables.{tree_of, group_at}
use Rattle.timing_arcs.proofs.EdgeLemmas.{delay_refused}
use Rattle.timing_arcs.proofs.delay_groups.read_tables.Goals as goal

pub returns-in-Err-clause-refused : goal.returns-in-Err-clause-refused
returns-in-Err-clause-refused c =
    delay_refused (tree_of c.args.cell.now.tree) (group_at c.args.cell.now.tree c.args.delay.0) (option_map (λ slew. group_at c.args.cell.now.tree slew.0) c.args.slew) c.args.cell.now.units c.in-Err.fault c.delay_table.ensures.reading.known c.in-Err.ensures.means
