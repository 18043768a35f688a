-- What the sections of the file give, its bytes give.
use Rattle.spef_nets.specs.Drafts.{corners_of}
use Rattle.spef_text.specs.Heads.{HeadText}
use Rattle.spef_text.specs.SpefFiles.{SpefText}
use Rattle.net_delays.specs.NetTimes.{NetTimes}
use Rattle.design_phases.proofs.LibraryLemmas.{no_file_on}
use Rattle.wire_phases.specs.SpefPhases.{ParsesSpef, HeadsSpef, at_grammar, at_head}
use Rattle.delay_core.specs.TimingHalves.{slews_work, FindsNets, at_sections}
use Rattle.delay_core.proofs.Following.{text_follows}
use Rattle.delay_core.proofs.Work.{bytes_work, bytes_leave}
use Rattle.delay_core.proofs.design_timing.nets_from_text.Goals as goal

pub returns-in_err-file-clause-follows : goal.returns-in_err-file-clause-follows
returns-in_err-file-clause-follows g c =
    let corners = corners_of g.C.CornerSet.COUNT g.C.CornerSet.number_of g.C.CornerSet.member_of c.args.settings.now.pick in
    no_file_on SpefText NetTimes c.from_residual.result c.in_err-file.field-0.0 (ParsesSpef c.args.bytes.now)
    (FindsNets corners c.args.design.now c.args.bytes.now c.args.settings.now) c.from_residual.ensures.1 c.in_err-file.ensures.follows
    (λ refusal says. at_sections refusal (at_grammar refusal says))

pub returns-in_err-head-clause-follows : goal.returns-in_err-head-clause-follows
returns-in_err-head-clause-follows g c =
    let corners = corners_of g.C.CornerSet.COUNT g.C.CornerSet.number_of g.C.CornerSet.member_of c.args.settings.now.pick in
    no_file_on HeadText NetTimes c.from_residual-in_err-head.result c.in_err-head.field-0.0 (HeadsSpef c.in_ok-file.file)
    (FindsNets corners c.args.design.now c.args.bytes.now c.args.settings.now) c.from_residual-in_err-head.ensures.1 c.in_err-head.ensures.follows
    (λ refusal says. at_sections refusal (at_head c.in_ok-file.file refusal c.in_ok-file.ensures.follows says))

pub returns-clause-follows : goal.returns-clause-follows
returns-clause-follows g c =
    text_follows (corners_of g.C.CornerSet.COUNT g.C.CornerSet.number_of g.C.CornerSet.member_of c.args.settings.now.pick) c.args.design.now c.args.bytes.now c.args.settings.now
    c.in_ok-file.file c.in_ok-head.head c.nets_from_sections.result c.in_ok-file.ensures.follows c.in_ok-head.ensures.follows c.nets_from_sections.ensures.follows

pub returns-clause-steps : goal.returns-clause-steps
returns-clause-steps g c =
    bytes_work (corners_of g.C.CornerSet.COUNT g.C.CornerSet.number_of g.C.CornerSet.member_of c.args.settings.now.pick) c.args.design.now c.args.bytes.now c.args.settings.now
    c.in_ok-file.file c.in_ok-head.head c.args.steps.now c.nets_from_sections.new.steps c.in_ok-file.ensures.follows c.in_ok-head.ensures.follows c.nets_from_sections.ensures.steps

pub returns-clause-ahead : goal.returns-clause-ahead
returns-clause-ahead g c =
    bytes_leave (corners_of g.C.CornerSet.COUNT g.C.CornerSet.number_of g.C.CornerSet.member_of c.args.settings.now.pick) c.args.design.now c.args.bytes.now c.args.settings.now
    c.in_ok-file.file c.in_ok-head.head (slews_work g.C.CornerSet.COUNT c.args.design.now) c.args.steps.now c.nets_from_sections.new.steps c.nets_from_sections.result
    c.in_ok-file.ensures.follows c.in_ok-head.ensures.follows c.nets_from_sections.ensures.ahead
