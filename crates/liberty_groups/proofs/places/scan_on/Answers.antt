-- One byte more, and where the scan ends.
use Rattle.std.proofs.Common.{ℕ, ◌+◌, List, ◌++◌, length, drop, sym, ap, ◌∙◌, arith, length-append, length-drop}
use Rattle.liberty_groups.specs.Places.{scanned}
use Rattle.liberty_groups.proofs.Placing.{ends_scan, ends_within, scan_step}
use Rattle.liberty_groups.proofs.places.scan_on.Goals as goal

pub loop-byte-preserved : goal.loop-byte-preserved
loop-byte-preserved c =
    let i : ℕ = c.loop-byte.byte-index in
    let bytes : List ℕ = c.args.bytes.now in
    let passed : ℕ = c.loop-byte.passed in
    let count = c.loop-byte.invariant.count in
    let some = c.requires.count.0 in
    record {
      within = omega arith;
      count = omega arith;
      opened = c.behind-now.ensures.within;
      so_far = λ more.
          scan_step c.args.scan c.args.count bytes i c.loop-byte.now c.in-Begun.place passed c.in-Begun.is c.loop-byte-test.true (omega arith) c.loop-byte.invariant.so_far more
          ∙ ap (λ s. scanned s (passed + 1) (drop (i + 1) bytes ++ more)) (sym c.behind-now.ensures.value);
    }

pub returns-in_default : goal.returns-in_default
returns-in_default c =
    let i : ℕ = c.loop-byte.byte-index in
    let bytes : List ℕ = c.args.bytes.now in
    let passed : ℕ = c.loop-byte.passed in
    let count = c.loop-byte.invariant.count in
    let within = c.loop-byte.invariant.within in
    let left = length-drop i bytes in
    record {
      value = λ more.
          let all = length-append (drop i bytes) more in
          c.loop-byte.invariant.so_far more
          ∙ ends_scan c.loop-byte.now c.in_default.not-Begun passed (c.args.count + length bytes) (drop i bytes ++ more) more (omega arith);
      within = ends_within c.loop-byte.now c.in_default.not-Begun (c.args.count + length bytes);
    }
