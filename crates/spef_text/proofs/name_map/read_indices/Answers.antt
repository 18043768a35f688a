use Rattle.std.proofs.Common.{ap, ◌∙◌, length, take, arith}
use Rattle.std.proofs.lemmas.List.{length-map, length-take}
use Rattle.spef_text.specs.Classes.{index_digits}
use Rattle.spef_text.specs.Heads.{digits_of}
use Rattle.spef_text.specs.Starts.{texts}
use Rattle.spef_text.proofs.MapLemmas.{repeated}
use Rattle.spef_text.proofs.MapOrder.{few_entries}
use Rattle.spef_text.proofs.name_map.read_indices.Goals as goal

-- there are no more indices than tokens
pub put_index-requires : goal.put_index-requires
put_index-requires c =
    let file = c.file.inside in
    let few = few_entries (texts file.bytes.now file.starts.items) (record { head = file.head; sections = file.sections.done }) c.file.invariant.0.formed in
    let map = ap length c.map-entries.ensures in
    let part = length-take c.loop-entry.entry-index c.map-entries.result.now in
    let size = ap length c.loop-entry.invariant.so_far ∙ length-map (take c.loop-entry.entry-index c.map-entries.result.now) (digits_of c.args.file.now) in
    record { room = omega (arith, few, map, part, size, c.loop-entry-test.true, c.file.invariant.0.few) }

pub returns-in-Ok-false-clause-repeated : goal.returns-in-Ok-false-clause-repeated
returns-in-Ok-false-clause-repeated c =
    repeated c.args.file.now c.map-entries.result.now c.loop-entry.entry-index (record { index = 0; name = 0 }) c.loop-entry.indices c.index_digits.result.now
    (c.map-entries.ensures ∙ ap (λ f. f.reading.head.map) c.file.view_is) c.loop-entry-test.true c.loop-entry.invariant.so_far c.loop-entry.invariant.distinct
    (c.index_digits.ensures ∙ ap index_digits c.text_of.ensures) (c.in-Ok-false.ensures.held c.in-Ok-false.field-0-test)
