use Rattle.annotation_rows.specs.WireRows.{femto_of}
use Rattle.net_delays.specs.NetTimes.{elmore_at}
use Rattle.annotation_rows.proofs.Filling.{IsFilled}
use Rattle.annotation_rows.proofs.wire_rows.put_delays.Given as goal

abbrev pub invariant-loop-number : goal.invariant-loop-number
invariant-loop-number g l = IsFilled (λ corner. femto_of (elmore_at g.C.CornerSet.COUNT l.nets l.net l.sink corner)) g.C.CornerSet.COUNT l.number l.delay.values
