use Rattle.std.proofs.Common.{subst}
use Rattle.elmore_pass.specs.Delays.{HasDelay}
use Rattle.rc_tree.specs.Builds.{IsTreeEnd}
use Rattle.rc_tree.specs.Pins.{Pins}
use Rattle.net_parasitics.specs.NetPins.{net_pins}
use Rattle.net_parasitics.proofs.AllNets.{handed_on}
use Rattle.net_parasitics.proofs.net_trees.TreeWork.draw.Goals as goal

-- src/net_trees.rt
pub returns-in_err-rebuild-clause-refused : goal.returns-in_err-rebuild-clause-refused
returns-in_err-rebuild-clause-refused g c =
    handed_on (IsTreeEnd g.C.CornerSet.COUNT c.args.section.now (net_pins c.args.inputs.now c.args.net c.args.driver)) c.from_residual-in_err-rebuild.result c.in_err-rebuild.field-0.0
    c.from_residual-in_err-rebuild.ensures.1
    (subst (λ (p : Pins). IsTreeEnd g.C.CornerSet.COUNT c.args.section.now p c.in_err-rebuild.field-0.0) c.in_ok-put_pins.ensures.pins c.in_err-rebuild.ensures.refused)

pub returns-clause-sums : goal.returns-clause-sums
returns-clause-sums g c = λ corner below node within.
    let law = g.met.C.CornerSet.number_of_corner corner below in
    subst (λ n. HasDelay g.C.CornerSet.COUNT c.rebuild.new.self c.elmore_into.new.scratch node n) law.2 (c.elmore_into.ensures.delays node law.0 within)
