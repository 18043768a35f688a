use Rattle.std.specs.Prelude.{◌≡◌}
use Rattle.spef_nets.specs.DraftOf.{drafted}
use Rattle.spef_nets.specs.Drafts.{corners_of}
use Rattle.spef_nets.proofs.ReadingLemmas.{AreRead}
use Rattle.spef_nets.proofs.reading.push_each.Given as goal

abbrev pub invariant-loop : goal.invariant-loop
invariant-loop g l =
    AreRead (corners_of g.C.CornerSet.COUNT g.C.CornerSet.number_of g.C.CornerSet.member_of l.fn.source.pick) l.fn.source.file.now l.fn.source.head.now l.nets l.tables l.counter
    × ((drafted l.draft).refs.file ≡ l.fn.source.file.now)
