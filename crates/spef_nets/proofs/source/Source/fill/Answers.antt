use Rattle.spef_text.specs.Entries.{section_at}
use Rattle.spef_nets.specs.DraftOf.{drafted}
use Rattle.spef_nets.specs.Drafts.{IsStop}
use Rattle.spef_nets.specs.declared.ends.SectionEnd.TheVariants.{OutOfMemory}
use Rattle.spef_nets.proofs.Stepping.{handed_on}
use Rattle.spef_nets.proofs.Referring.{joined_grown, grows_more}
use Rattle.spef_nets.proofs.source.Source.fill.Goals as goal

-- src/section_reading.rt
pub read_ress-requires-clause-joints : goal.read_ress-requires-clause-joints
read_ress-requires-clause-joints g c =
    joined_grown c.args.self.now.file.now (drafted c.begin.new.draft).refs.words (drafted c.read_caps.new.draft).refs.words (section_at c.args.self.now.file.now.reading.sections c.args.s).ress c.begin.new.joints.items c.as_slice.result.now
    (grows_more (drafted c.begin.new.draft).refs.words (drafted c.read_conns.new.draft).refs.words (drafted c.read_caps.new.draft).refs.words c.in_ok-read_conns.ensures.grows c.in_ok-read_caps.ensures.grows)
    c.as_slice.ensures.value c.in_ok-begin.ensures.joints

pub returns-in_err-read_conns-clause-err : goal.returns-in_err-read_conns-clause-err
returns-in_err-read_conns-clause-err g c =
    handed_on c.from_residual-in_err-read_conns.result c.in_err-read_conns.field-0.0 (IsStop c.args.self.now.file.now c.args.self.now.head.now c.args.s) c.from_residual-in_err-read_conns.ensures.1 c.in_err-read_conns.ensures.err

pub returns-in_err-read_caps-clause-err : goal.returns-in_err-read_caps-clause-err
returns-in_err-read_caps-clause-err g c =
    handed_on c.from_residual-in_err-read_caps.result c.in_err-read_caps.field-0.0 (IsStop c.args.self.now.file.now c.args.self.now.head.now c.args.s) c.from_residual-in_err-read_caps.ensures.1 c.in_err-read_caps.ensures.err

pub returns-in_err-read_ress-clause-err : goal.returns-in_err-read_ress-clause-err
returns-in_err-read_ress-clause-err g c =
    handed_on c.from_residual-in_err-read_ress.result c.in_err-read_ress.field-0.0 (IsStop c.args.self.now.file.now c.args.self.now.head.now c.args.s) c.from_residual-in_err-read_ress.ensures.1 c.in_err-read_ress.ensures.err

pub returns-in_err-begin-clause-err : goal.returns-in_err-begin-clause-err
returns-in_err-begin-clause-err g c =
    handed_on c.from_residual.result OutOfMemory (IsStop c.args.self.now.file.now c.args.self.now.head.now c.args.s) c.from_residual.ensures.1 tt
