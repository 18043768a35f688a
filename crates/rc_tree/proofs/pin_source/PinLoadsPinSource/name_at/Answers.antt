use Rattle.std.proofs.Common.{◌<◌, length, Some, sym, ◌∙◌, ap, arith}
use Rattle.rc_tree.proofs.Judging.{section_named, sink_named, spot_named, no_pin, behind_pins}
use Rattle.rc_tree.proofs.pin_source.PinLoadsPinSource.name_at.Goals as goal

-- src/pin_source.rt
pub sink-requires : goal.sink-requires
sink-requires g c = omega (arith, c.len.ensures.len, c.if-number-len.true, c.if-number-eq0.false)

pub section_name-requires-clause-there : goal.section_name-requires-clause-there
section_name-requires-clause-there g c =
    behind_pins c.args.section.now c.args.self.now c.args.numbered.now.spots.items c.args.numbered.now.count c.args.number c.requires.numbered c.len.ensures.apart (omega (arith, c.len.ensures.len, c.if-number-len.false)) c.requires.below

pub returns-then-number-len : goal.returns-then-number-len
returns-then-number-len g c =
    sink_named c.args.section.now c.args.self.now c.len.ensures.apart c.args.number c.in_ok-name.name (omega (arith, c.if-number-eq0.false)) (c.sink.ensures ∙ ap Some (sym c.in_ok-name.ensures))

pub returns : goal.returns
returns g c =
    section_named c.args.section.now c.args.self.now c.args.numbered.now.spots.items c.args.number c.in_ok-name-2.name c.requires.numbered.are_spots c.distinct.ensures
    (no_pin c.args.section.now c.args.self.now c.args.numbered.now.spots.items c.args.numbered.now.count c.args.number c.in_ok-name-2.name c.requires.numbered c.len.ensures.apart (omega (arith, c.len.ensures.len, c.if-number-len.false))
    (spot_named c.args.section.now c.args.self.now c.args.numbered.now.spots.items c.args.number c.in_ok-name-2.name c.requires.numbered.are_spots c.in_ok-name-2.ensures))
    c.in_ok-name-2.ensures
