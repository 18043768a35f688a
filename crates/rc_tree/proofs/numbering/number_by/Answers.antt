use Rattle.rc_tree.proofs.Judging.{numbered_all}
use Rattle.rc_tree.proofs.numbering.number_by.Goals as goal

-- src/numbering.rt
pub refuse_stranger-requires : goal.refuse_stranger-requires
refuse_stranger-requires g c =
    numbered_all c.args.section.now c.args.pins.now c.args.table.now c.number_section.new.spots.items c.in_ok-numbered.field-0 c.requires c.in_ok-numbered.ensures.apart c.in_ok-numbered.ensures.count c.in_ok-numbered.ensures.spots

pub returns-clause-numbered : goal.returns-clause-numbered
returns-clause-numbered g c =
    numbered_all c.args.section.now c.args.pins.now c.args.table.now c.number_section.new.spots.items c.in_ok-numbered.field-0 c.requires c.in_ok-numbered.ensures.apart c.in_ok-numbered.ensures.count c.in_ok-numbered.ensures.spots
