use Rattle.std.proofs.Common.{List, Option, length, take, sym, subst, ◌∙◌}
use Rattle.netlist_link.specs.KeptEnds.{AreDrivers}
use Rattle.netlist_link.specs.declared.grouping.KeptEnd.{KeptEnd}
use Rattle.netlist_link.proofs.Driving.{none_drive, drives_step}
use Rattle.netlist_link.proofs.net_ends.keep_drivers.Goals as goal

pub loop-end-init : goal.loop-end-init
loop-end-init c = subst (λ (l : List (Option KeptEnd)). AreDrivers (length c.args.drivers.now) (take 0 c.args.driving.now) l) (sym c.requires.none)
    (none_drive (length c.args.drivers.now) c.args.driving.now)

pub loop-end-preserved : goal.loop-end-preserved
loop-end-preserved c = drives_step (length c.args.drivers.now) c.args.driving.now c.loop-end.drivers c.loop-end.end-index
    c.requires.on c.loop-end-test.true c.loop-end.invariant (sym c.is_some.ensures ∙ c.if-is_some.false)
