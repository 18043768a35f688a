use Rattle.spef_text.specs.Entries.{section_at}
use Rattle.spef_nets.specs.RefsOf.{refs_of}
use Rattle.spef_nets.proofs.Referring.{AreJoinedUpto}
use Rattle.spef_nets.proofs.source.Source.read_joints.Given as goal

abbrev pub invariant-loop-i : goal.invariant-loop-i
invariant-loop-i l = AreJoinedUpto l.self.file.now l.net (refs_of l.fn.refs) (refs_of l.refs) (section_at l.self.file.now.reading.sections l.s).ress l.joints.items l.i
