use Rattle.std.proofs.Common.{◌≡◌, ℕ, [], length, map, get_or, arith, sym, ap, ◌∙◌, subst}
use Rattle.std.specs.Prelude.{slice_get, Some}
use Rattle.std.proofs.lemmas.Option.{get_or_from_slice_get, slice_get_within}
use Rattle.std.proofs.lemmas.List.{get_or-map, length-map}
use Rattle.cell_models.specs.CornerCells.{pins_at}
use Rattle.cell_models.specs.declared.cell.Pin.{Pin}
use Rattle.netlist_link.specs.PortTables.{HoldsNamed, IsPinNamed}
use Rattle.netlist_link.proofs.PortNaming.{named_next}
use Rattle.netlist_link.proofs.port_numbers.pins_of_cell.Goals as goal

pub loop-j-preserved : goal.loop-j-preserved
loop-j-preserved g c =
    let pins = pins_at c.args.cell.now 0 in
    let j = c.loop-j.j in
    let pin = c.pin.result.now in
    let here : slice_get pins j ≡ Some pin = subst (λ (corner : ℕ). slice_get (pins_at c.args.cell.now corner) j ≡ Some pin) c.requires c.pin.ensures in
    let named : get_or (map (λ pin. pin.name) pins) j [] ≡ pin.name =
    get_or-map (λ (pin : Pin). pin.name) pins j pin [] (slice_get_within pins j pin here) ∙ ap (λ (p : Pin). p.name) (get_or_from_slice_get pins j pin pin here) in
    let key_is : c.bytes.result.now ≡ pin.name = c.bytes.ensures in
    named_next (IsPinNamed (map (λ pin. pin.name) pins)) j c.bytes.result c.loop-j.numbers.entries c.insert.new.self.entries
    (record { text = named ∙ sym key_is }) (λ name its. key_is ∙ sym named ∙ its.text) c.loop-j.invariant c.in-Ok.ensures.updates.0

pub returns : goal.returns
returns g c =
    let pins = pins_at c.args.cell.now 0 in
    let end : c.loop-j.j ≡ length (map (λ pin. pin.name) pins) =
    (let past = c.loop-j-test.false in let few = c.loop-j.auto.j-end in let count = c.pin_count-j-end.ensures.count in
    let len = length-map pins (λ (pin : Pin). pin.name) in omega arith) in
    subst (λ (n : ℕ). HoldsNamed (IsPinNamed (map (λ pin. pin.name) pins)) n c.loop-j.numbers.entries) end c.loop-j.invariant
