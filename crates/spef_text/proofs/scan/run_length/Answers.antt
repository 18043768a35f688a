-- A byte more of the run, and where it ends.
use Rattle.std.proofs.Common.{not, sym, ap, ◌∙◌, arith}
use Rattle.token_texts.specs.RunLemmas.{escaped_goes_on, escaped_takes, escaped_stops, escaped_ends, escaped_ends_taking}
use Rattle.spef_text.specs.Tokens.{is_solid}
use Rattle.spef_text.proofs.Runs.{run_goes_far}
use Rattle.spef_text.proofs.scan.run_length.Goals as goal

pub loop-place-preserved-then-byte-eq92 : goal.loop-place-preserved-then-byte-eq92
loop-place-preserved-then-byte-eq92 c =
    let far = run_goes_far c.args.bytes.now c.loop-place.place c.plain_length-place.result c.loop-place.invariant c.plain_length-place.ensures.within c.plain_length-place.ensures.plain in
    escaped_takes is_solid c.args.bytes.now _ far (omega (arith, c.plain_length-place.ensures.within, c.if-place-bytes.false)) c.if-byte-eq92.true c.if-bytes-place-eq1.false

pub loop-place-preserved : goal.loop-place-preserved
loop-place-preserved c =
    let far = run_goes_far c.args.bytes.now c.loop-place.place c.plain_length-place.result c.loop-place.invariant c.plain_length-place.ensures.within c.plain_length-place.ensures.plain in
    escaped_goes_on is_solid c.args.bytes.now _ far (omega (arith, c.plain_length-place.ensures.within, c.if-place-bytes.false)) c.if-byte-eq92.false (ap not (sym c.is_blank.ensures ∙ c.if-is_blank.false))

pub returns-then-is_blank-clause-value : goal.returns-then-is_blank-clause-value
returns-then-is_blank-clause-value c =
    let far = run_goes_far c.args.bytes.now c.loop-place.place c.plain_length-place.result c.loop-place.invariant c.plain_length-place.ensures.within c.plain_length-place.ensures.plain in
    escaped_stops is_solid c.args.bytes.now _ far (omega (arith, c.plain_length-place.ensures.within, c.if-place-bytes.false)) c.if-byte-eq92.false (ap not (sym c.is_blank.ensures ∙ c.if-is_blank.true))

pub returns-after-loop-place-clause-value : goal.returns-after-loop-place-clause-value
returns-after-loop-place-clause-value c =
    escaped_ends is_solid c.args.bytes.now c.loop-place.place c.loop-place.invariant c.loop-place-test.false

pub returns-then-place-bytes-clause-value : goal.returns-then-place-bytes-clause-value
returns-then-place-bytes-clause-value c =
    let far = run_goes_far c.args.bytes.now c.loop-place.place c.plain_length-place.result c.loop-place.invariant c.plain_length-place.ensures.within c.plain_length-place.ensures.plain in
    escaped_ends is_solid c.args.bytes.now _ far (omega (arith, c.if-place-bytes.true))

pub returns-then-bytes-place-eq1-clause-value : goal.returns-then-bytes-place-eq1-clause-value
returns-then-bytes-place-eq1-clause-value c =
    let far = run_goes_far c.args.bytes.now c.loop-place.place c.plain_length-place.result c.loop-place.invariant c.plain_length-place.ensures.within c.plain_length-place.ensures.plain in
    escaped_ends_taking is_solid c.args.bytes.now _ far (omega (arith, c.plain_length-place.ensures.within, c.if-place-bytes.false)) c.if-byte-eq92.true c.if-bytes-place-eq1.true
