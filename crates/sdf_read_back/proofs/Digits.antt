-- The digits of a printed time.
use Rattle.std.proofs.Common.{◌≡◌, ℕ, zero, suc, ◌+◌, ◌*◌, ◌/◌, ◌%◌, ◌^◌, ◌<◌, ◌≤◌, List, [], ◌∷◌, ◌++◌, length, decimal, refl, sym, ap, ◌∙◌, subst, arith, append_assoc}
use Rattle.std.proofs.Math.Nat.{mod-add-div'}
use Rattle.std.proofs.lemmas.Fmt.{decimal_by_steps_wide, length-decimal-le_wide}
use Rattle.std.proofs.lemmas.List.{length-append}
use Rattle.delay_units.specs.Literal.{AreDigits, number_of}
use Rattle.delay_units.specs.Printing.{last_digits}
use Rattle.delay_units.proofs.TallyLemmas.{AreDigits-push, number_of-grown}

-- ---- digits

number_push : (ds : List ℕ) (d : ℕ) → number_of (ds ++ (48 + d) ∷ []) ≡ number_of ds * 10 + d
number_push ds d =
    let e = number_of-grown ds 0 (48 + d) in
    omega (arith, e)

-- n in decimal digits
pub record Writes (n : ℕ) (ds : List ℕ) : Type 0 where
  pub are_digits : AreDigits ds
  pub number : number_of ds ≡ n
  pub some : 0 < length ds

one_digit : (n : ℕ) → n < 10 → Writes n ((48 + n) ∷ [])
one_digit n few = record { are_digits = (omega arith, omega arith, tt); number = omega arith; some = omega arith }

more_digits : (n : ℕ) (ds : List ℕ) → Writes (n / 10) ds → Writes n (ds ++ (48 + n % 10) ∷ [])
more_digits n ds is =
    let whole : n % 10 + n / 10 * 10 ≡ n = mod-add-div' n 10 in
    let number = is.number in
    let push = number_push ds (n % 10) in
    let long = length-append ds ((48 + n % 10) ∷ []) in
    record {
      are_digits = AreDigits-push ds (48 + n % 10) is.are_digits (omega arith) (omega arith);
      number = push ∙ ap (λ x. x * 10 + n % 10) number ∙ omega (arith, whole);
      some = omega (arith, long);
    }

pub decimal_writes : (n : ℕ) → n < 10 ^ 64 → Writes n (decimal n)
decimal_writes n small = decimal_by_steps_wide Writes one_digit (λ m ds large is. more_digits m ds is) n small

-- n without its last k digits
abbrev pub front_of : ℕ → ℕ → ℕ
front_of zero n = n
front_of (suc k) n = front_of k (n / 10)

pub last_write : (k n : ℕ) (ds : List ℕ) → Writes (front_of k n) ds → Writes n (ds ++ last_digits k n)
last_write zero n ds is = subst (Writes n) (sym (nothing_more ds)) is
  where
    nothing_more : (l : List ℕ) → l ++ [] ≡ l
    nothing_more [] = refl
    nothing_more (x ∷ l) = ap (λ t. x ∷ t) (nothing_more l)
last_write (suc k) n ds is = subst (Writes n) (append_assoc ds (last_digits k (n / 10)) ((48 + n % 10) ∷ [])) (more_digits n (ds ++ last_digits k (n / 10)) (last_write k (n / 10) ds is))

pub last_are_digits : (k n : ℕ) → AreDigits (last_digits k n)
last_are_digits zero n = tt
last_are_digits (suc k) n = AreDigits-push (last_digits k (n / 10)) (48 + n % 10) (last_are_digits k (n / 10)) (omega arith) (omega arith)

pub last_length : (k n : ℕ) → length (last_digits k n) ≡ k
last_length zero n = refl
last_length (suc k) n =
    let long = length-append (last_digits k (n / 10)) ((48 + n % 10) ∷ []) in
    let front = last_length k (n / 10) in
    omega (arith, long, front)

pub decimal_length : (n k : ℕ) → 0 < k → n < 10 ^ k → n < 10 ^ 64 → length (decimal n) ≤ k
decimal_length n k some few small = length-decimal-le_wide k n some few small
