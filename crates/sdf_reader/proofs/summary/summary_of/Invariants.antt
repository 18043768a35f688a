-- The summary is that of the rows before this one.
use Rattle.std.proofs.Common.{take}
use Rattle.sdf_reader.specs.Summaries.{IsSummaryOf}
use Rattle.sdf_reader.proofs.summary.summary_of.Given as goal

abbrev pub invariant-loop-row : goal.invariant-loop-row
invariant-loop-row l = IsSummaryOf (take l.row-index l.row-items) l.summary
