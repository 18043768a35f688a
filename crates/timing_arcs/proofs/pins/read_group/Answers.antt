use Rattle.std.proofs.Common.{sym}
use Rattle.timing_arcs.specs.CellFaults.{no_direction}
use Rattle.timing_arcs.proofs.Refusals.{refused_at_once}
use Rattle.timing_arcs.proofs.pins.read_group.Goals as goal

pub returns-in_default-clause-refused : goal.returns-in_default-clause-refused
returns-in_default-clause-refused c = λ name. refused_at_once _ (no_direction (sym c.in_default.ensures))
