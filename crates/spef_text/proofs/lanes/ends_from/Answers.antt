-- A bit is set where the byte is at most a space or a backslash.
use Rattle.std.proofs.Common.{take, drop, leb, eqb, sym, ◌∙◌, w8, arith}
use Rattle.std.proofs.lemmas.Simd.{bitmask_splat, length-chunk}
use Rattle.std.specs.Int.{bit_at}
use Rattle.std.specs.Int.Bits.{bit_or}
use Rattle.spef_text.proofs.LaneLemmas.{neither_set}
use Rattle.spef_text.proofs.lanes.ends_from.Goals as goal

pub returns : goal.returns
returns c k lt off =
    let lanes = take 16 (drop c.args.place c.args.bytes.now) in
    let long = length-chunk c.args.place 16 c.args.bytes.now c.requires in
    let low = bitmask_splat w8 leb lanes 16 32 long (omega arith) in
    let slashes = bitmask_splat w8 eqb lanes 16 92 long (omega arith) in
    neither_set c.args.bytes.now c.args.place k c.requires lt (sym (λ i. bit_at (bit_or (low i) (slashes i)) k) ∙ off)
