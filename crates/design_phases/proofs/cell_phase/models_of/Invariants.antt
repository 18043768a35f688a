-- The models at the corners before this one are made.
use Rattle.std.proofs.Common.{map}
use Rattle.liberty_groups.specs.Tables.{tree_of}
use Rattle.design_phases.specs.CellPhase.{AreFirstModels}
use Rattle.design_phases.proofs.cell_phase.models_of.Given as goal

abbrev pub invariant-loop-corner : goal.invariant-loop-corner
invariant-loop-corner g l = AreFirstModels (map tree_of l.libraries) l.name l.corner l.cells
