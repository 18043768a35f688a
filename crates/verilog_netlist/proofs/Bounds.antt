-- Values past the largest bound stay past it.
use Rattle.std.proofs.Common.{◌≡◌, ℕ, ◌+◌, ◌-◌, ◌*◌, ◌<◌, ◌≤◌, List, [], ◌∷◌, drop, get_or, length, refl, sym, ap, ◌∙◌, arith, min, max, nat_lt, Bool, true, false, nat_le, ◌++◌, if◌then◌else◌}
use Rattle.std.proofs.lemmas.Bool.{leb-true, leb-false, ltb-true, ltb-false}
use Rattle.std.proofs.lemmas.List.{drop_more, drop_all}
use Rattle.verilog_netlist.specs.Tokens.{past_bounds, value_after, bound_of}
use Rattle.verilog_netlist.specs.Ranges.{distance}

-- digits only make a value larger
grows : (n : ℕ) (digits : List ℕ) → n ≤ value_after n digits
grows n [] = omega arith
grows n (digit ∷ digits) = omega (arith, grows (n * 10 + (digit - 48)) digits)

-- a value past the largest bound may be cut down to one past it
cut_down : (n : ℕ) (digits : List ℕ) → past_bounds ≤ n → min (value_after n digits) past_bounds ≡ min (value_after past_bounds digits) past_bounds
cut_down n digits le =
    let one = grows n digits in
    let other = grows past_bounds digits in
    omega (arith, one, other)

pub capped : (n : ℕ) (digits : List ℕ) → min (value_after (min n past_bounds) digits) past_bounds ≡ min (value_after n digits) past_bounds
capped n digits = by (nat_le n past_bounds) refl
  where
    by : (is : Bool) → nat_le n past_bounds ≡ is → min (value_after (min n past_bounds) digits) past_bounds ≡ min (value_after n digits) past_bounds
    by true e =
        let small = leb-true n past_bounds e in
        let same : min n past_bounds ≡ n = omega arith in
        ap (λ m. min (value_after m digits) past_bounds) same
    by false e =
        let large = leb-false n past_bounds e in
        let same : min n past_bounds ≡ past_bounds = omega arith in
        ap (λ m. min (value_after m digits) past_bounds) same ∙ sym (cut_down n digits (omega arith))

-- the value of the whole is that of the digits so far and those of the rest
pub record ValueSoFar (whole : List ℕ) (value place : ℕ) : Type 0 where
  pub small : value ≤ past_bounds
  pub so_far : bound_of whole ≡ min (value_after value (drop place whole)) past_bounds

pub value_more : (whole : List ℕ) (value place : ℕ) → ValueSoFar whole value place → place < length whole → ValueSoFar whole (min (value * 10 + (get_or whole place 0 - 48)) past_bounds) (place + 1)
value_more whole value place h lt =
    let rest : List ℕ = drop (place + 1) whole in
    record {
      small = omega arith;
      so_far = h.so_far ∙ ap (λ l. min (value_after value l) past_bounds) (drop_more whole place 0 lt) ∙ sym (capped (value * 10 + (get_or whole place 0 - 48)) rest);
    }

pub value_ends : (whole : List ℕ) (value place : ℕ) → ValueSoFar whole value place → length whole ≤ place → value ≡ bound_of whole
value_ends whole value place h le =
    let small = h.small in
    let e : min value past_bounds ≡ value = omega arith in
    sym (h.so_far ∙ ap (λ l. min (value_after value l) past_bounds) (drop_all place whole le) ∙ e)

-- the value of two pieces of a number
pub value_behind : (n : ℕ) (front rest : List ℕ) → value_after n (front ++ rest) ≡ value_after (value_after n front) rest
value_behind n [] rest = refl
value_behind n (digit ∷ front) rest = value_behind (n * 10 + (digit - 48)) front rest

-- how far the digits so far of one number are above those of another, and below them, each cut down to one past the largest bound
pub record DistanceSoFar (longer shorter rest : List ℕ) (above below place : ℕ) : Type 0 where
  pub one : ℕ
  pub other : ℕ
  pub one_is : value_after one (drop place rest) ≡ value_after 0 longer
  pub other_is : value_after other (drop place shorter) ≡ value_after 0 shorter
  pub ahead : above ≡ min (one - other) past_bounds
  pub behind : below ≡ min (other - one) past_bounds

-- what is past the bounds stays past them with a digit more
digit_more : (one other m n x y : ℕ) → m ≡ min (one - other) past_bounds → n ≡ min (other - one) past_bounds → x ≤ 255 → y ≤ 255
    → min ((m * 10 + x) - (n * 10 + y)) past_bounds ≡ min ((one * 10 + x) - (other * 10 + y)) past_bounds
digit_more one other m n x y ahead behind small few = omega arith

pub distance_more : (longer shorter rest : List ℕ) (above below place x y : ℕ) → DistanceSoFar longer shorter rest above below place
    → place < length rest → place < length shorter → x ≡ get_or rest place 0 - 48 → y ≡ get_or shorter place 0 - 48 → x ≤ 255 → y ≤ 255
    → (m n : ℕ) → m ≡ min ((above * 10 + x) - (below * 10 + y)) past_bounds → n ≡ min ((below * 10 + y) - (above * 10 + x)) past_bounds
    → DistanceSoFar longer shorter rest m n (place + 1)
distance_more longer shorter rest above below place x y h in_rest in_shorter x_is y_is near close m n m_is n_is = record {
  one = h.one * 10 + x;
  other = h.other * 10 + y;
  one_is = ap (λ d. value_after (h.one * 10 + d) (drop (place + 1) rest)) x_is ∙ sym (ap (value_after h.one) (drop_more rest place 0 in_rest)) ∙ h.one_is;
  other_is = ap (λ d. value_after (h.other * 10 + d) (drop (place + 1) shorter)) y_is ∙ sym (ap (value_after h.other) (drop_more shorter place 0 in_shorter)) ∙ h.other_is;
  ahead = m_is ∙ digit_more h.one h.other above below x y h.ahead h.behind near close;
  behind = n_is ∙ digit_more h.other h.one below above y x h.behind h.ahead close near;
}

pub distance_either : (one other : ℕ) → distance one other ≡ distance other one
distance_either one other = by (nat_lt one other) (nat_lt other one) refl refl
  where
    by : (b d : Bool) → nat_lt one other ≡ b → nat_lt other one ≡ d → distance one other ≡ distance other one
    by b d e f = ap (λ t. if t then other - one else one - other) e ∙ both b d e f ∙ sym (ap (λ t. if t then one - other else other - one) f)
      where
        both : (b d : Bool) → nat_lt one other ≡ b → nat_lt other one ≡ d → (if b then other - one else one - other) ≡ (if d then one - other else other - one)
        both true true e f = let below = ltb-true one other e in let above = ltb-true other one f in omega arith
        both true false e f = refl
        both false true e f = refl
        both false false e f = let below = ltb-false one other e in let above = ltb-false other one f in omega arith

distance_is : (one other : ℕ) → max (min (one - other) past_bounds) (min (other - one) past_bounds) ≡ min past_bounds (distance one other)
distance_is one other = by (nat_lt one other) refl
  where
    by : (b : Bool) → nat_lt one other ≡ b → max (min (one - other) past_bounds) (min (other - one) past_bounds) ≡ min past_bounds (distance one other)
    by true e =
        let below = ltb-true one other e in
        let is : distance one other ≡ other - one = ap (λ t. if t then other - one else one - other) e in
        omega arith
    by false e =
        let above = ltb-false one other e in
        let is : distance one other ≡ one - other = ap (λ t. if t then other - one else one - other) e in
        omega arith

pub distance_ends : (longer shorter rest : List ℕ) (above below place : ℕ) → DistanceSoFar longer shorter rest above below place
    → length rest ≤ place → length shorter ≤ place → max above below ≡ min past_bounds (distance (value_after 0 longer) (value_after 0 shorter))
distance_ends longer shorter rest above below place h past all =
    let one : h.one ≡ value_after 0 longer = sym (ap (value_after h.one) (drop_all place rest past)) ∙ h.one_is in
    let other : h.other ≡ value_after 0 shorter = sym (ap (value_after h.other) (drop_all place shorter all)) ∙ h.other_is in
    ap (λ n. max n below) h.ahead ∙ ap (max (min (h.one - h.other) past_bounds)) h.behind ∙ distance_is h.one h.other
    ∙ ap (λ n. min past_bounds (distance n h.other)) one ∙ ap (λ n. min past_bounds (distance (value_after 0 longer) n)) other
