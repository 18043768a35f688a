-- The gap between two points of an axis after so many halvings.
use Rattle.std.proofs.Common.{◌≡◌, ℕ, zero, suc, sym, subst, ◌+◌, ◌-◌, ◌*◌, ◌/◌, ◌^◌, ◌<◌, ◌≤◌, ◌∙◌, ap, List, length, get_or as slice_index, arith}

pub record IsHalved (points : List ℕ) (quantity low high turns before steps : ℕ) : Type 0 where
  pub order : low < high
  pub within : high < length points
  pub lower : slice_index points low 0 ≤ quantity
  pub upper : quantity ≤ slice_index points high 0
  pub gap : high - low ≤ 2 ^ (8 - turns)
  pub forward : before ≤ steps
  pub few : steps ≤ before + turns

one_at_least : (n : ℕ) → 1 ≤ 2 ^ n
one_at_least zero = omega arith
one_at_least (suc n) =
    let rest = one_at_least n in
    let double : 2 ^ suc n ≡ 2 * 2 ^ n = grind arith in
    omega (arith, rest, double)

twice : (turns : ℕ) → turns < 8 → 2 ^ (8 - turns) ≡ 2 * 2 ^ (8 - (turns + 1))
twice turns less =
    let e : 8 - turns ≡ suc (8 - (turns + 1)) = omega (arith, less) in
    let double : 2 ^ suc (8 - (turns + 1)) ≡ 2 * 2 ^ (8 - (turns + 1)) = grind arith in
    ap (λ n. 2 ^ n) e ∙ double

-- the middle is at or below the quantity
pub halve_up : (points : List ℕ) (quantity low high turns before steps middle after : ℕ) → turns < 8 → 1 < high - low → middle ≡ low + (high - low) / 2
    → slice_index points middle 0 ≤ quantity → after ≡ steps + 1
    → IsHalved points quantity low high turns before steps → IsHalved points quantity middle high (turns + 1) before after
halve_up points quantity low high turns before steps middle after less wide at here next held =
    let double = twice turns less in
    record {
      order = omega (arith, wide, at, held.order);
      within = held.within;
      lower = here;
      upper = held.upper;
      gap = omega (arith, double, at, wide, held.order, held.gap);
      forward = omega (arith, next, held.forward);
      few = omega (arith, next, held.few);
    }

-- the middle is above the quantity
pub halve_down : (points : List ℕ) (quantity low high turns before steps middle after : ℕ) → turns < 8 → 1 < high - low → middle ≡ low + (high - low) / 2
    → quantity < slice_index points middle 0 → after ≡ steps + 1
    → IsHalved points quantity low high turns before steps → IsHalved points quantity low middle (turns + 1) before after
halve_down points quantity low high turns before steps middle after less wide at here next held =
    let double = twice turns less in
    record {
      order = omega (arith, wide, at, held.order);
      within = omega (arith, wide, at, held.order, held.within);
      lower = held.lower;
      upper = omega (arith, here);
      gap = omega (arith, double, at, wide, held.order, held.gap);
      forward = omega (arith, next, held.forward);
      few = omega (arith, next, held.few);
    }

-- there is no point between
pub halve_none : (points : List ℕ) (quantity low high turns before steps : ℕ) → turns < 8 → high - low ≤ 1
    → IsHalved points quantity low high turns before steps → IsHalved points quantity low high (turns + 1) before steps
halve_none points quantity low high turns before steps less narrow held =
    let double = twice turns less in
    record {
      order = held.order;
      within = held.within;
      lower = held.lower;
      upper = held.upper;
      gap = omega (arith, narrow, one_at_least (8 - (turns + 1)));
      forward = held.forward;
      few = omega (arith, held.few);
    }

pub moved : (points : List ℕ) (quantity low high turns before steps low' high' steps' : ℕ) → low' ≡ low → high' ≡ high → steps' ≡ steps
    → IsHalved points quantity low high turns before steps → IsHalved points quantity low' high' turns before steps'
moved points quantity low high turns before steps low' high' steps' same_low same_high same_steps held =
    record {
      order = omega (arith, same_low, same_high, held.order);
      within = omega (arith, same_high, held.within);
      lower = subst (λ place. slice_index points place 0 ≤ quantity) (sym same_low) held.lower;
      upper = subst (λ place. quantity ≤ slice_index points place 0) (sym same_high) held.upper;
      gap = omega (arith, same_low, same_high, held.gap);
      forward = omega (arith, same_steps, held.forward);
      few = omega (arith, same_steps, held.few);
    }

-- one gap is left after eight
pub one_gap : (points : List ℕ) (quantity low high turns before steps : ℕ) → 8 ≤ turns → IsHalved points quantity low high turns before steps → high ≡ low + 1
one_gap points quantity low high turns before steps all held =
    let none : 8 - turns ≡ 0 = omega (arith, all) in
    let e : 2 ^ (8 - turns) ≡ 2 ^ 0 = ap (λ n. 2 ^ n) none in
    omega (arith, e, held.gap, held.order)
