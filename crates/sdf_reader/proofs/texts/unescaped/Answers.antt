-- A byte more, or a backslash that takes the next one.
use Rattle.std.proofs.Common.{◌+◌, ℕ, List, sym, ◌∙◌, subst}
use Rattle.sdf_reader.proofs.Saying.{SaidSoFar, said_takes, said_keeps, said_ends}
use Rattle.sdf_reader.proofs.texts.unescaped.Goals as goal
use Rattle.sdf_reader.proofs.texts.unescaped.Goals.{then-not-is_taken+in_ok-push_all, else-not-is_taken}

pub loop-byte-preserved : goal.loop-byte-preserved
loop-byte-preserved c =
    elim c.if-not-is_taken.branch [
      | then-not-is_taken+in_ok-push_all w ↦ subst (λ (l : List ℕ). SaidSoFar c.args.raw.now l c.takes-is_taken.result (c.loop-byte.byte-index + 1)) (sym (w.text-is ∙ w.in_ok-push_all.ensures.ok))
          (said_keeps c.args.raw.now c.loop-byte.text c.loop-byte.is_taken c.loop-byte.byte-index c.takes-is_taken.result c.loop-byte.invariant c.loop-byte-test.true c.takes-is_taken.ensures w.if-not-is_taken.true)
      | else-not-is_taken w ↦ subst (λ (l : List ℕ). SaidSoFar c.args.raw.now l c.takes-is_taken.result (c.loop-byte.byte-index + 1)) (sym w.text-is)
          (said_takes c.args.raw.now c.loop-byte.text c.loop-byte.is_taken c.loop-byte.byte-index c.takes-is_taken.result c.loop-byte.invariant c.loop-byte-test.true c.takes-is_taken.ensures w.if-not-is_taken.false)
    ]

pub returns : goal.returns
returns c = said_ends c.args.raw.now c.loop-byte.text c.loop-byte.is_taken c.loop-byte.byte-index c.loop-byte.invariant c.loop-byte-test.false
