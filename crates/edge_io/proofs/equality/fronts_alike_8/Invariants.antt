-- So many bytes at the front are equal.
use Rattle.std.proofs.Common.{length}
use Rattle.edge_io.proofs.Words.{AlikeSoFar}
use Rattle.edge_io.proofs.equality.fronts_alike_8.Given as goal

abbrev pub invariant-loop-rest : goal.invariant-loop-rest
invariant-loop-rest l = AlikeSoFar l.one l.other l.rest l.twin

abbrev pub decreases-loop-rest : goal.decreases-loop-rest
decreases-loop-rest l = length l.rest
