-- There is a corner, and each number below the count is that of one.
use Rattle.std.proofs.Common.{◌≡◌, ℕ, ◌<◌, ◌⊎◌, inl, inr, arith}
use Rattle.spef_nets.specs.Drafts.{corners_of}
use Rattle.wire_phases.proofs.OneNet.{AreNumbered}
use Rattle.delay_core.proofs.OneAnnotation.{one_annotation}
use Rattle.delay_core.proofs.laws.one_annotation.Goals as goal

some_corner : (count : ℕ) → (count ≡ 1) ⊎ (count ≡ 3) → 0 < count
some_corner count (inl one) = omega (arith, one)
some_corner count (inr three) = omega (arith, three)

pub returns : goal.returns
returns g c = record {
  law = λ pick.
      let corners = corners_of g.C.CornerSet.COUNT g.C.CornerSet.number_of g.C.CornerSet.member_of pick in
      let numbered : AreNumbered corners = λ number below. (let law = g.met.C.CornerSet.number_of_corner number below in (law.0, law.2)) in
      one_annotation corners numbered (some_corner g.C.CornerSet.COUNT g.met.C.CornerSet.one_or_three);
}
