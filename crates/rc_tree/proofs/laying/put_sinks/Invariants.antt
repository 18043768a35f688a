use Rattle.std.proofs.Common.{◌≡◌, ℕ, ◌<◌, length}
use Rattle.rc_tree.proofs.Judging.{HasSink}
use Rattle.rc_tree.proofs.laying.put_sinks.Given as goal

-- the sinks so far
abbrev pub invariant-loop-sink : goal.invariant-loop-sink
invariant-loop-sink g l = record {
  size : length l.sinks.items ≡ l.sink;
  sinks : (k : ℕ) → k < l.sink → HasSink l.section (g.P.PinSource.pins l.pins l.section) l.found.numbers.items l.sinks.items k;
}
