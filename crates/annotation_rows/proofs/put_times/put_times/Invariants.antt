use Rattle.annotation_rows.specs.PathTables.{kept_at}
use Rattle.annotation_rows.proofs.EdgeTimes.{AreTimesTo}
use Rattle.annotation_rows.proofs.put_times.put_times.Given as goal

abbrev pub invariant-loop-number : goal.invariant-loop-number
invariant-loop-number g l = AreTimesTo (kept_at g.C.CornerSet.COUNT l.values.values l.row) g.C.CornerSet.COUNT l.number l.times.values
