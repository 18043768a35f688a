-- A byte that is no digit, or digits of too large a number, end what may be a size.
use Rattle.std.proofs.Common.{arith, refl}
use Rattle.gdc_words.proofs.SizeDigits.{read_more, no_size_low, no_size_high, no_size_past}
use Rattle.gdc_words.proofs.sizes.size_of.Goals as goal
use Rattle.gdc_words.proofs.sizes.size_of.Goals.{then-byte-lt48-via-then-byte-lt48, then-byte-lt48-via-else-byte-lt48+then-byte-gt57}

pub returns-then-byte-lt48-clause-none : goal.returns-then-byte-lt48-clause-none
returns-then-byte-lt48-clause-none c =
    elim c.then-byte-lt48.branch [
      | then-byte-lt48-via-then-byte-lt48 w ↦ (λ size. no_size_low c.args.value.now c.loop-byte.byte-index _ size c.loop-byte-test.true refl w.if-byte-lt48.true)
      | then-byte-lt48-via-else-byte-lt48+then-byte-gt57 w ↦ (λ size. no_size_high c.args.value.now c.loop-byte.byte-index _ size c.loop-byte-test.true refl w.if-byte-gt57.true)
    ]

pub returns-then-size-gt-MOST_SIZE-clause-none : goal.returns-then-size-gt-MOST_SIZE-clause-none
returns-then-size-gt-MOST_SIZE-clause-none c = λ size.
    no_size_past c.args.value.now c.loop-byte.byte-index c.loop-byte.size _ size c.loop-byte-test.true refl c.if-size-gt-MOST_SIZE.true c.loop-byte.invariant

pub loop-byte-preserved : goal.loop-byte-preserved
loop-byte-preserved c =
    read_more c.args.value.now c.loop-byte.byte-index c.loop-byte.size _ c.loop-byte-test.true refl (omega (arith, c.if-byte-lt48.false)) (omega (arith, c.if-byte-gt57.false))
    (omega (arith, c.if-size-gt-MOST_SIZE.false)) c.loop-byte.invariant
