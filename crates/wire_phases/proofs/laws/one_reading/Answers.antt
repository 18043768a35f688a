-- Each number below the count is that of a corner.
use Rattle.spef_nets.specs.Drafts.{corners_of}
use Rattle.wire_phases.proofs.OneNet.{AreNumbered}
use Rattle.wire_phases.proofs.OneSpefFile.{one_reading}
use Rattle.wire_phases.proofs.laws.one_reading.Goals as goal

pub returns : goal.returns
returns g c = record {
  law = λ pick.
      let corners = corners_of g.C.CornerSet.COUNT g.C.CornerSet.number_of g.C.CornerSet.member_of pick in
      let numbered : AreNumbered corners = λ number below. (let law = g.met.C.CornerSet.number_of_corner number below in (law.0, law.2)) in
      one_reading corners numbered;
}
