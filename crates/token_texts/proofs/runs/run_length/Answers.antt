-- A byte more of the run, and where it ends.
use Rattle.std.proofs.Common.{sym, ◌∙◌}
use Rattle.token_texts.specs.RunLemmas.{run_goes_on, run_stops, run_ends}
use Rattle.token_texts.proofs.runs.run_length.Goals as goal

pub loop-place-preserved : goal.loop-place-preserved
loop-place-preserved g c =
    run_goes_on g.C.ByteClass.is_in c.args.bytes.now c.loop-place.place c.loop-place.invariant c.loop-place-test.true (sym c.has.ensures ∙ c.if-not-has.false)

pub returns-after-loop-place-clause-value : goal.returns-after-loop-place-clause-value
returns-after-loop-place-clause-value g c =
    run_ends g.C.ByteClass.is_in c.args.bytes.now c.loop-place.place c.loop-place.invariant c.loop-place-test.false

pub returns-then-not-has-clause-value : goal.returns-then-not-has-clause-value
returns-then-not-has-clause-value g c =
    run_stops g.C.ByteClass.is_in c.args.bytes.now c.loop-place.place c.loop-place.invariant c.loop-place-test.true (sym c.has.ensures ∙ c.if-not-has.true)
