use Rattle.std.proofs.Common.{◌≡◌, length, bytes_eq}
use Rattle.edge_io.proofs.equality.few_alike.Given as goal

-- what is left is as long, and equal where the whole is
abbrev pub invariant-loop-byte : goal.invariant-loop-byte
invariant-loop-byte l =
    (length l.byte-iterator.a.rest.now ≡ length l.byte-iterator.b.rest.now) × (bytes_eq l.one l.other ≡ bytes_eq l.byte-iterator.a.rest.now l.byte-iterator.b.rest.now)
