use Rattle.std.proofs.Common.{length, refl}
use Rattle.spef_text.specs.Entries.{section_at}
use Rattle.spef_nets.specs.DraftOf.{drafted}
use Rattle.spef_nets.specs.Drafts.{corners_of}
use Rattle.spef_nets.proofs.ResStepping.{whole_draft, is_net, is_faultless}
use Rattle.spef_nets.proofs.source.Source.read_section.Goals as goal

-- src/section_reading.rt
pub returns-clause-ok : goal.returns-clause-ok
returns-clause-ok g c =
    is_net (corners_of g.C.CornerSet.COUNT g.C.CornerSet.number_of g.C.CornerSet.member_of c.args.self.now.pick) c.args.self.now.file.now c.args.self.now.head.now c.args.s (drafted c.fill.new.draft) c.in_ok-fill.ensures.upto
    (length (section_at c.args.self.now.file.now.reading.sections c.args.s).caps) refl

pub returns-clause-whole : goal.returns-clause-whole
returns-clause-whole g c =
    whole_draft (corners_of g.C.CornerSet.COUNT g.C.CornerSet.number_of g.C.CornerSet.member_of c.args.self.now.pick) c.args.self.now.file.now c.args.self.now.head.now c.args.s (drafted c.fill.new.draft) c.in_ok-fill.ensures.upto
    (length (section_at c.args.self.now.file.now.reading.sections c.args.s).caps) refl

pub returns-clause-faultless : goal.returns-clause-faultless
returns-clause-faultless g c = is_faultless (corners_of g.C.CornerSet.COUNT g.C.CornerSet.number_of g.C.CornerSet.member_of c.args.self.now.pick) c.args.self.now.file.now c.args.self.now.head.now c.args.s (drafted c.fill.new.draft) c.in_ok-fill.ensures.upto

pub returns-clause-file : goal.returns-clause-file
returns-clause-file g c = c.in_ok-fill.ensures.upto.refs.of_file
