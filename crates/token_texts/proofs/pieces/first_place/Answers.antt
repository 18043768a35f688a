-- A byte more that is not of the class, and the first that is, or the end.
use Rattle.std.proofs.Common.{sym, ◌∙◌}
use Rattle.token_texts.specs.PieceLemmas.{none_at_first, none_more, first_here, first_nowhere}
use Rattle.token_texts.proofs.pieces.first_place.Goals as goal

pub loop-place-init : goal.loop-place-init
loop-place-init g c = none_at_first g.C.ByteClass.is_in c.args.bytes.now

pub loop-place-preserved : goal.loop-place-preserved
loop-place-preserved g c =
    none_more g.C.ByteClass.is_in c.args.bytes.now c.loop-place.place c.loop-place.invariant c.loop-place-test.true (sym c.has.ensures ∙ c.if-has.false)

pub returns-after-loop-place-clause-value : goal.returns-after-loop-place-clause-value
returns-after-loop-place-clause-value g c =
    first_nowhere g.C.ByteClass.is_in c.args.bytes.now c.loop-place.place c.loop-place.invariant c.loop-place-test.false

pub returns-then-has-clause-value : goal.returns-then-has-clause-value
returns-then-has-clause-value g c =
    first_here g.C.ByteClass.is_in c.args.bytes.now c.loop-place.place c.loop-place.invariant (sym c.has.ensures ∙ c.if-has.true)
