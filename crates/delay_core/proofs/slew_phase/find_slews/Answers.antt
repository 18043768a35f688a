-- The end of the slews is one of the design, and so is its refusal.
use Rattle.std.proofs.Common.{unsigned_abs}
use Rattle.slew_order.specs.Timings.{SlewSource, source_of}
use Rattle.delay_core.specs.SlewPhase.{no_slews}
use Rattle.delay_core.proofs.SlewEnds.{end_there}
use Rattle.delay_core.proofs.slew_phase.find_slews.Goals as goal

pub slew_refusal-requires : goal.slew_refusal-requires
slew_refusal-requires g c =
    let source : SlewSource = source_of c.args.loaded.now.linked.now.netlist c.args.loaded.now.linked.now.cells g.C.CornerSet.COUNT c.args.loaded.now.nets.now c.args.settings.now.beyond c.args.settings.now.wire_slew (unsigned_abs c.args.settings.now.input_slew.0) in
    end_there source c.in-Err.end c.args.loaded.now.linked.now.linked c.in-Err.ensures.end

pub returns-in_ok-refusal-in-Err-clause-follows : goal.returns-in_ok-refusal-in-Err-clause-follows
returns-in_ok-refusal-in-Err-clause-follows g c = no_slews c.in-Err.end c.in_ok-refusal-in-Err.refusal c.in-Err.ensures.end c.in_ok-refusal-in-Err.ensures
