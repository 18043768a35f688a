use Rattle.spef_nets.specs.Drafts.{corners_of, AddsUpto, FaradsOf}
use Rattle.spef_nets.proofs.draft.push_farads.Given as goal

abbrev pub invariant-loop-number : goal.invariant-loop-number
invariant-loop-number g l = AddsUpto (corners_of g.C.CornerSet.COUNT g.C.CornerSet.number_of g.C.CornerSet.member_of l.pick) l.fn.values.items l.values.items (FaradsOf l.grains) l.number
