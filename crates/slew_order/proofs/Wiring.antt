-- The slew behind a wire is the one that the relation of wires has.
use Rattle.std.proofs.Common.{◌≡◌, ℕ, zero, suc, ◌+◌, ◌*◌, ◌^◌, ◌<◌, ◌≤◌, nat_le, if◌then◌else◌, Some, None, ap, sym, refl, subst, ◌∙◌, ℤ, pos, ◌<ℤ◌, ◌≤ℤ◌, arith}
use Rattle.std.proofs.lemmas.Int.{ints}
use Rattle.std.proofs.lemmas.Bool.{cond_both, leb-true, leb-false, le-leb}
use Rattle.delay_units.specs.Rounding.{IsRounding}
use Rattle.delay_units.proofs.RoundingLemmas.{one_rounding_lem}
use Rattle.wire_slews.specs.Roots.{IsRoot}
use Rattle.wire_slews.specs.WireSlews.{IsWireSlew, same, rss, most_slew}
use Rattle.corner_set.specs.declared.choices.WireSlew.{WireSlew}
use Rattle.corner_set.specs.declared.choices.WireSlew.TheVariants.{Same, Rss}
use Rattle.wire_slews.proofs.OneSlew.{one_wire_slew_lem}
use Rattle.slew_order.specs.WireBehind.{root_up_to, root, own_slew, slew_behind, wire_of, WireFunction}

root_below : (n r : ℕ) → n < (r + 1) * (r + 1) → IsRoot n (root_up_to n r)
unfolding root_up_to
root_below n zero most = record { least = omega arith; most = omega (arith, most) }
root_below n (suc r) most =
    cond_both (nat_le (suc r * suc r) n) _ _ (IsRoot n)
    (λ is. record { least = leb-true (suc r * suc r) n is; most = most })
    (λ is. root_below n r (let less = leb-false (suc r * suc r) n is in let same : (r + 1) * (r + 1) ≡ suc r * suc r = grind arith in omega (arith, less, same)))

root_is : (n : ℕ) → IsRoot n (root n)
root_is n = root_below n n (grind arith)

own_is : (elmore : ℕ) → IsRounding (pos (2197 * elmore)) (pos (10 ^ 12)) (pos (own_slew elmore))
unfolding own_slew
own_is elmore = record { least = omega (arith, ints); most = omega (arith, ints) }

behind_is : (elmore slew : ℕ) → IsWireSlew Rss (pos slew) elmore (pos (slew_behind Rss elmore slew))
behind_is elmore slew = rss slew elmore (own_slew elmore) _ (own_is elmore) (root_is (slew * slew + own_slew elmore * own_slew elmore))

wire_is : (mode : WireSlew) (elmore slew : ℕ) → IsWireSlew mode (pos slew) elmore (pos (slew_behind mode elmore slew))
wire_is Same elmore slew = same (pos slew) elmore
wire_is Rss elmore slew = behind_is elmore slew

wire_only : (mode : WireSlew) (elmore slew : ℕ) (other : ℤ) → IsWireSlew mode (pos slew) elmore other → other ≡ pos (slew_behind mode elmore slew)
wire_only mode elmore slew other is =
    let law = one_wire_slew_lem one_rounding_lem mode slew elmore in
    law.2 other is ∙ sym (law.2 (pos (slew_behind mode elmore slew)) (wire_is mode elmore slew))

behind_only : (elmore slew : ℕ) (other : ℤ) → IsWireSlew Rss (pos slew) elmore other → other ≡ pos (slew_behind Rss elmore slew)
behind_only elmore slew other is = wire_only Rss elmore slew other is

-- what is made of a slew that the relation has
made_is : (mode : WireSlew) (elmore slew made : ℕ) → IsWireSlew mode (pos slew) elmore (pos made) → made ≡ slew_behind mode elmore slew
made_is mode elmore slew made is =
    let equal : pos made ≡ pos (slew_behind mode elmore slew) = wire_only mode elmore slew (pos made) is in omega (arith, ints, equal)

pub wire_function : WireFunction
wire_function mode elmore slew made =
    let behind : ℕ = slew_behind mode elmore slew in (
      cond_both (nat_le behind most_slew) (Some behind) None (λ o. o ≡ Some made → IsWireSlew mode (pos slew) elmore (pos made) × made ≤ most_slew)
          (λ is equal. let number : behind ≡ made = cc in
          let small = leb-true behind most_slew is in
          (subst (λ n. IsWireSlew mode (pos slew) elmore (pos n)) number (wire_is mode elmore slew), omega (arith, small, number)))
          (λ is equal. absurd (let clash = equal in cc)),
      λ its.
          let number : made ≡ behind = made_is mode elmore slew made its.0 in
          let small = its.1 in
          let less : behind ≤ most_slew = omega (arith, number, small) in
          ap (λ b. if b then Some behind else None) (le-leb behind most_slew less) ∙ ap Some (sym number),
    )

pub wire_some : (elmore slew made : ℕ) (behind : ℤ) → IsWireSlew Rss (pos slew) elmore behind → behind ≤ℤ pos most_slew → behind ≡ pos made
    → Some made ≡ wire_of Rss elmore slew
wire_some elmore slew made behind is small at =
    let same : pos made ≡ pos (slew_behind Rss elmore slew) = sym at ∙ behind_only elmore slew behind is in
    let number : made ≡ slew_behind Rss elmore slew = omega (arith, ints, same) in
    let less : slew_behind Rss elmore slew ≤ most_slew = omega (arith, ints, small, at, number) in
    ap Some number ∙ sym (ap (λ b. if b then Some (slew_behind Rss elmore slew) else None) (le-leb (slew_behind Rss elmore slew) most_slew less))

pub wire_none : (elmore slew : ℕ) → ((behind : ℤ) → IsWireSlew Rss (pos slew) elmore behind → pos most_slew <ℤ behind) → None ≡ wire_of Rss elmore slew
wire_none elmore slew none =
    let past = none (pos (slew_behind Rss elmore slew)) (behind_is elmore slew) in
    cond_both (nat_le (slew_behind Rss elmore slew) most_slew) (Some (slew_behind Rss elmore slew)) None (λ o. None ≡ o)
    (λ is. absurd (let small = leb-true (slew_behind Rss elmore slew) most_slew is in omega (arith, ints, small, past)))
    (λ is. refl)
