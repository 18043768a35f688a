use Rattle.std.proofs.Common.{subst}
use Rattle.rc_tree.specs.Builds.{IsTreeEnd}
use Rattle.rc_tree.specs.ListedPins.{listed_pins}
use Rattle.wire_phases.proofs.net_rows.put_tree.Goals as goal

pub unreachable-requires : goal.unreachable-requires
unreachable-requires g c =
    c.no_stranger.ensures 1 c.args.net.now c.args.pins.now.driver c.in-Err-StrangePin.field-0-0 c.requires
    (subst (IsTreeEnd 1 c.args.net.now (listed_pins 1 c.args.net.now c.args.pins.now.driver)) c.in-Err-StrangePin.field-0-is c.in-Err-StrangePin.ensures.refused)
