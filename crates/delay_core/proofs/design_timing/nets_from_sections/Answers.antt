-- A refusal of the nets comes behind the sections of the file.
use Rattle.std.specs.Prelude.{List}
use Rattle.spef_nets.specs.Drafts.{corners_of}
use Rattle.spef_nets.specs.NetElements.{NetElements}
use Rattle.net_delays.specs.NetTimes.{NetTimes}
use Rattle.design_phases.proofs.LibraryLemmas.{no_file_on}
use Rattle.wire_phases.specs.SpefPhases.{NetsSpef}
use Rattle.delay_core.specs.TimingHalves.{FindsFileNets}
use Rattle.delay_core.proofs.Following.{sections_refused, sections_follow}
use Rattle.delay_core.proofs.Work.{sections_work, sections_leave}
use Rattle.delay_core.proofs.design_timing.nets_from_sections.Goals as goal

pub returns-in_err-sections-clause-follows : goal.returns-in_err-sections-clause-follows
returns-in_err-sections-clause-follows g c =
    let corners = corners_of g.C.CornerSet.COUNT g.C.CornerSet.number_of g.C.CornerSet.member_of c.args.settings.now.pick in
    no_file_on (List NetElements) NetTimes c.from_residual.result c.in_err-sections.field-0.0
    (NetsSpef corners c.args.file.now c.args.head.now) (FindsFileNets corners c.args.design.now c.args.file.now c.args.head.now c.args.settings.now)
    c.from_residual.ensures.1 c.in_err-sections.ensures.follows
    (λ refusal says. sections_refused corners c.args.design.now c.args.settings.now c.args.file.now c.args.head.now refusal says)

pub returns-clause-follows : goal.returns-clause-follows
returns-clause-follows g c =
    sections_follow (corners_of g.C.CornerSet.COUNT g.C.CornerSet.number_of g.C.CornerSet.member_of c.args.settings.now.pick) c.args.design.now c.args.settings.now
    c.args.file.now c.args.head.now c.in_ok-sections.sections c.find_design_delays.result c.in_ok-sections.ensures.follows c.find_design_delays.ensures.follows

pub returns-clause-steps : goal.returns-clause-steps
returns-clause-steps g c =
    sections_work (corners_of g.C.CornerSet.COUNT g.C.CornerSet.number_of g.C.CornerSet.member_of c.args.settings.now.pick) c.args.design.now c.args.file.now c.args.head.now
    c.args.settings.now c.in_ok-sections.sections c.args.steps.now c.find_design_delays.new.steps c.in_ok-sections.ensures.follows c.find_design_delays.ensures.work c.find_design_delays.ensures.none_missing

pub returns-clause-ahead : goal.returns-clause-ahead
returns-clause-ahead g c =
    sections_leave (corners_of g.C.CornerSet.COUNT g.C.CornerSet.number_of g.C.CornerSet.member_of c.args.settings.now.pick) c.args.design.now c.args.file.now c.args.head.now
    c.args.settings.now c.in_ok-sections.sections c.args.steps.now c.find_design_delays.new.steps c.find_design_delays.result c.in_ok-sections.ensures.follows
    c.find_design_delays.ensures.work c.find_design_delays.ensures.follows
