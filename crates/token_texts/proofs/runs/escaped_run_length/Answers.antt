-- A byte more of the run, two where a backslash takes one, and where the run ends.
use Rattle.std.proofs.Common.{sym, ◌∙◌}
use Rattle.token_texts.specs.RunLemmas.{escaped_goes_on, escaped_takes, escaped_stops, escaped_ends, escaped_ends_taking}
use Rattle.token_texts.proofs.runs.escaped_run_length.Goals as goal
use Rattle.token_texts.proofs.runs.escaped_run_length.Goals.{else-byte-ne92-via-then-byte-ne92+else-has, else-byte-ne92-via-else-byte-ne92}

pub loop-place-preserved-then-has : goal.loop-place-preserved-then-has
loop-place-preserved-then-has g c =
    escaped_goes_on g.C.ByteClass.is_in c.args.bytes.now c.loop-place.place c.loop-place.invariant c.loop-place-test.true c.if-byte-ne92.true (sym c.has.ensures ∙ c.if-has.true)

pub loop-place-preserved : goal.loop-place-preserved
loop-place-preserved g c =
    escaped_takes g.C.ByteClass.is_in c.args.bytes.now c.loop-place.place c.loop-place.invariant c.loop-place-test.true c.if-byte-eq92.true c.if-bytes-place-eq1.false

pub returns-after-loop-place-clause-value : goal.returns-after-loop-place-clause-value
returns-after-loop-place-clause-value g c =
    escaped_ends g.C.ByteClass.is_in c.args.bytes.now c.loop-place.place c.loop-place.invariant c.loop-place-test.false

pub returns-then-bytes-place-eq1-clause-value : goal.returns-then-bytes-place-eq1-clause-value
returns-then-bytes-place-eq1-clause-value g c =
    escaped_ends_taking g.C.ByteClass.is_in c.args.bytes.now c.loop-place.place c.loop-place.invariant c.loop-place-test.true c.if-byte-eq92.true c.if-bytes-place-eq1.true

pub returns-else-byte-eq92-clause-value : goal.returns-else-byte-eq92-clause-value
returns-else-byte-eq92-clause-value g c =
    elim c.else-byte-ne92.branch [
      | else-byte-ne92-via-then-byte-ne92+else-has w ↦
          escaped_stops g.C.ByteClass.is_in c.args.bytes.now c.loop-place.place c.loop-place.invariant c.loop-place-test.true c.if-byte-eq92.false (sym w.has.ensures ∙ w.if-has.false)
      | else-byte-ne92-via-else-byte-ne92 w ↦ absurd (c.if-byte-eq92.false w.if-byte-ne92.false)
    ]
