use Rattle.rc_tree.specs.ListedPins.{listed_pins}
use Rattle.rc_tree.specs.Pins.{pin_nodes}
use Rattle.rc_tree.proofs.Judging.{section_named, has_spot, spot_is}
use Rattle.rc_tree.proofs.Spellings.{no_other_pin, pin_in_section}
use Rattle.rc_tree.proofs.pin_source.ListedPinsPinSource.name_at.Goals as goal

-- src/pin_source.rt
pub section_name-requires-clause-there : goal.section_name-requires-clause-there
section_name-requires-clause-there g c =
    let section = c.args.section.now in
    let pins = listed_pins g.C.CornerSet.COUNT section c.args.self.now.driver in
    let spots = c.args.numbered.now.spots.items in
    has_spot section pins spots c.args.numbered.now.count c.args.number c.requires.numbered c.requires.below
    (λ k name pin at. (let here = pin_in_section g.C.CornerSet.COUNT section c.args.self.now.driver (pin_nodes pins) c.requires.some c.requires.listed k name pin in
    spot_is section pins spots c.args.numbered.now.count c.args.number here.0 name c.requires.numbered here.1 at))

pub returns : goal.returns
returns g c =
    let pins = listed_pins g.C.CornerSet.COUNT c.args.section.now c.args.self.now.driver in
    section_named c.args.section.now pins c.args.numbered.now.spots.items c.args.number c.in_ok-name.name c.requires.numbered.are_spots c.distinct.ensures
    (no_other_pin g.C.CornerSet.COUNT c.args.section.now c.args.self.now.driver (pin_nodes pins) c.in_ok-name.ensures.0 c.in_ok-name.name c.distinct.ensures c.requires.listed c.in_ok-name.ensures.2)
    c.in_ok-name.ensures
