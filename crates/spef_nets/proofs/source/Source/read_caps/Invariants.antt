use Rattle.std.proofs.Common.{length}
use Rattle.spef_text.specs.Entries.{section_at}
use Rattle.spef_nets.specs.Refs.{Grows}
use Rattle.spef_nets.specs.Drafts.{corners_of, IsUpto}
use Rattle.spef_nets.specs.DraftOf.{drafted}
use Rattle.spef_nets.proofs.source.Source.read_caps.Given as goal

abbrev pub invariant-loop-i : goal.invariant-loop-i
invariant-loop-i g l = record {
  upto : IsUpto (corners_of g.C.CornerSet.COUNT g.C.CornerSet.number_of g.C.CornerSet.member_of l.self.pick) l.self.file.now l.self.head.now l.s (length (section_at l.self.file.now.reading.sections l.s).ress) (length (section_at l.self.file.now.reading.sections l.s).conns) l.i 0 (drafted l.draft);
  grows : Grows (drafted l.fn.draft).refs.words (drafted l.draft).refs.words;
}
