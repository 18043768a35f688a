-- An index of a later number is none of those before.
use Rattle.std.proofs.Common.{ap, ◌∙◌, arith}
use Rattle.spef_text.specs.Classes.{index_digits}
use Rattle.spef_text.specs.IndexNumbers.{number_of}
use Rattle.spef_text.proofs.MapLemmas.{rises_on}
use Rattle.spef_text.proofs.name_map.rising_runs.Goals as goal

pub loop-place-preserved : goal.loop-place-preserved
loop-place-preserved c =
    rises_on c.args.file.now c.map-entries.result.now c.loop-place.place c.loop-place.last c.number_of-number.result (record { index = 0; name = 0 })
    c.loop-place.invariant c.loop-place-test.true (omega (arith, c.if-number-last.false))
    (c.number_of-number.ensures ∙ ap number_of (c.index_digits-digits.ensures ∙ ap index_digits c.text_of.ensures))
