use Rattle.std.proofs.Common.{◌≡◌, ℕ, ap, sym, ◌∙◌, subst, arith}
use Rattle.spef_nets.specs.Values.{grains_at}
use Rattle.spef_nets.specs.Drafts.{corners_of, AddsUpto, OhmsOf}
use Rattle.spef_nets.proofs.RowLemmas.{row_begins, row_grows, row_ends}
use Rattle.spef_nets.proofs.draft.push_ohms.Goals as goal

pub loop-number-init : goal.loop-number-init
loop-number-init g c = row_begins (corners_of g.C.CornerSet.COUNT g.C.CornerSet.number_of g.C.CornerSet.member_of c.args.pick) (OhmsOf c.args.grains) c.args.values.now.items

pub loop-number-preserved : goal.loop-number-preserved
loop-number-preserved g c =
    row_grows (corners_of g.C.CornerSet.COUNT g.C.CornerSet.number_of g.C.CornerSet.member_of c.args.pick) (OhmsOf c.args.grains) c.args.values.now.items
    g.C.CornerSet.corner_of (λ corner. g.met.C.CornerSet.corner_of_number corner) c.loop-number.values.items c.push.new.items.items c.loop-number.number c.corner_at.result (record { 0 = c.of.result })
    c.loop-number.invariant (sym (ap g.C.CornerSet.corner_of c.corner_at.ensures) ∙ g.met.C.CornerSet.corner_of_number c.corner_at.result)
    (c.of.ensures.value ∙ ap (λ pick. grains_at pick c.args.grains) c.member-member.ensures) c.in_ok-push.ensures.ok

pub returns : goal.returns
returns g c = let number : c.loop-number.number ≡ c.COUNT-number-end.result = omega arith in row_ends (corners_of g.C.CornerSet.COUNT g.C.CornerSet.number_of g.C.CornerSet.member_of c.args.pick) (OhmsOf c.args.grains) c.args.values.now.items c.loop-number.values.items
    (subst (λ (n : ℕ). AddsUpto (corners_of g.C.CornerSet.COUNT g.C.CornerSet.number_of g.C.CornerSet.member_of c.args.pick) c.args.values.now.items c.loop-number.values.items (OhmsOf c.args.grains) n) (number ∙ c.COUNT-number-end.ensures) c.loop-number.invariant)
    (λ corner. g.met.C.CornerSet.number_below corner)
