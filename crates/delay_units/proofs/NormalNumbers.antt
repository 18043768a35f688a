-- Whether a text is a number can be decided: it is a literal or none, and a literal has one decimal without trailing zeros, which fits or does not.
use Rattle.std.proofs.Common.{◌≡◌, ℕ, zero, suc, ◌+◌, ◌*◌, ◌/◌, ◌%◌, ◌^◌, ◌<◌, ◌≤◌, ◌⊎◌, inl, inr, Bool, true, false, List, length, ℤ, pos, ◌+ℤ◌, ◌-ℤ◌, ◌*ℤ◌, unsigned_abs, refl, sym, ap, ◌∙◌, arith, subst}
use Rattle.std.proofs.Math.IntN.{pos-*ℤ-pos}
use Rattle.std.proofs.Math.Nat.{mod-add-div', mul_assoc}
use Rattle.std.proofs.lemmas.Bool.{cases_lt}
use Rattle.std.proofs.lemmas.Int.{ints}
use Rattle.delay_units.specs.Literal.{Sign, unsigned, plus, minus, Literal, Spells, signed, number_of, mantissa_digits, fraction_digits, exponent_size, exponent_of, significant, SameNumber, IsDecimalOf, HasFewDigits, HasSmallExponent, IsNumber}
use Rattle.delay_units.specs.declared.numbers.Decimal.{Decimal}
use Rattle.delay_units.proofs.OneLiteral.{one_literal}
use Rattle.delay_units.proofs.PowerLemmas.{ten_suc}
use Rattle.delay_units.specs.Places.{is_literal}
use Rattle.delay_units.proofs.AnswerLemmas.{neg-product, zero_same, signed_zero, by_one}
use Rattle.delay_units.proofs.LiteralShape.{literal_has_parts, literal_ends}
use Rattle.delay_units.proofs.OneDecimal.{IsNormal, Same, same_through}

-- one that it holds of, or none
pub data Decision (A : Type 0) (Holds : A → Type 0) : Type 0 where
  found : (value : A) → Holds value → Decision A Holds
  none : ((value : A) → Holds value → ⊥) → Decision A Holds

-- ---- the number without trailing zeros

-- n is a number that does not end in 0, and zeros behind it
pub record Stripped (n : ℕ) : Type 0 where
  pub digits : ℕ
  pub zeros : ℕ
  pub splits : n ≡ digits * 10 ^ zeros
  pub last : digits % 10 ≡ 0 → ⊥
  pub fewer : digits ≤ n
  pub least : 10 ^ zeros ≤ n

by_last : (n : ℕ) → (n % 10 ≡ 0) ⊎ (n % 10 ≡ 0 → ⊥)
by_last n = by (n % 10) refl
  where
    by : (r : ℕ) → n % 10 ≡ r → (n % 10 ≡ 0) ⊎ (n % 10 ≡ 0 → ⊥)
    by zero e = inl e
    by (suc r) e = inr (λ z. let both : suc r ≡ 0 = sym e ∙ z in omega (arith, both))

one_more : (n m k : ℕ) → n % 10 ≡ 0 → n / 10 ≡ m * 10 ^ k → n ≡ m * 10 ^ suc k
one_more n m k e h =
    let whole : n % 10 + n / 10 * 10 ≡ n = mod-add-div' n 10 in
    let tens : n ≡ n / 10 * 10 = omega (arith, whole, e) in
    tens ∙ ap (λ x. x * 10) h ∙ mul_assoc m (10 ^ k) 10 ∙ ap (λ x. m * x) (sym (ten_suc k))

pub strip : (fuel n : ℕ) → n ≤ fuel → 0 < n → Stripped n
strip zero n few some = absurd (omega (arith, few, some))
strip (suc fuel) n few some = by (by_last n) (λ least positive. strip fuel (n / 10) least positive)
  where
    by : (n % 10 ≡ 0) ⊎ (n % 10 ≡ 0 → ⊥) → (n / 10 ≤ fuel → 0 < n / 10 → Stripped (n / 10)) → Stripped n
    by (inl e) tenth =
        let whole : n % 10 + n / 10 * 10 ≡ n = mod-add-div' n 10 in
        let s = tenth (omega (arith, whole, e, few, some)) (omega (arith, whole, e, some)) in
        let less = s.fewer in
        let power = s.least in
        let next = ten_suc s.zeros in
        record {
          digits = s.digits;
          zeros = suc s.zeros;
          splits = one_more n s.digits s.zeros e s.splits;
          last = s.last;
          fewer = omega (arith, less, whole);
          least = omega (arith, power, next, whole);
        }
    by (inr last) tenth = record { digits = n; zeros = 0; splits = omega arith; last = last; fewer = omega arith; least = omega arith }

-- digits and an exponent that are s * 10^t, without trailing zeros
record Normal (s t : ℤ) : Type 0 where
  digits : ℤ
  exponent : ℤ
  value : SameNumber digits exponent s t
  normal : IsNormal digits exponent

pub signed_times : (s : Sign) (n q : ℕ) → signed s n *ℤ pos q ≡ signed s (n * q)
signed_times unsigned n q = pos-*ℤ-pos n q
signed_times plus n q = pos-*ℤ-pos n q
signed_times minus n q = neg-product n q

pub signed_size : (s : Sign) (n : ℕ) → unsigned_abs (signed s n) ≡ n
signed_size unsigned n = refl
signed_size plus n = refl
signed_size minus zero = refl
signed_size minus (suc n) = refl

pub no_zero : (s : Sign) (n : ℕ) → (n % 10 ≡ 0 → ⊥) → signed s n ≡ pos 0 → ⊥
no_zero s n last e =
    let size : n ≡ 0 = sym (signed_size s n) ∙ ap unsigned_abs e in
    last (ap (λ x. x % 10) size)

normal_of : (s : Sign) (n : ℕ) (t : ℤ) → Normal (signed s n) t
normal_of s zero t = record {
  digits = pos 0;
  exponent = pos 0;
  value = zero_same t (pos 0) (signed s 0) refl (signed_zero s);
  normal = record { no_trailing_zero = λ some. absurd (some refl); zero = λ e. refl };
}
normal_of s (suc n) t =
    let p = strip (suc n) (suc n) (omega arith) (omega arith) in
    let same : signed s p.digits *ℤ pos (10 ^ p.zeros) ≡ signed s (suc n) *ℤ pos (10 ^ 0) =
    signed_times s p.digits (10 ^ p.zeros) ∙ ap (signed s) (sym p.splits) ∙ sym (by_one (signed s (suc n))) in
    record {
      digits = signed s p.digits;
      exponent = t +ℤ pos p.zeros;
      value = (p.zeros, 0, omega (arith, ints), same);
      normal = record {
        no_trailing_zero = λ some last. p.last (ap (λ x. x % 10) (sym (signed_size s p.digits)) ∙ last);
        zero = λ e. absurd (no_zero s p.digits p.last e);
      };
    }

-- ---- the decimal of a literal

-- the digits of a literal, and the power of ten that they stand for
abbrev digits_of : Literal → ℤ
digits_of l = signed l.sign (number_of (mantissa_digits l))

abbrev power_at : Literal → ℤ
power_at l = exponent_of l.exponent -ℤ pos (length (fraction_digits l.fraction))

decimal_from : (l : Literal) → Normal (digits_of l) (power_at l) → Decision Decimal (IsDecimalOf l)
decimal_from l n = by (cases_lt (unsigned_abs n.digits) (10 ^ 30)) (cases_lt (2 ^ 65) (unsigned_abs n.exponent))
  where
    same : (d : Decimal) → IsDecimalOf l d → Same d.digits d.exponent n.digits n.exponent
    same d is =
        same_through d.digits d.exponent n.digits n.exponent (digits_of l) (power_at l) is.value n.value
        (record { no_trailing_zero = is.no_trailing_zero; zero = is.zero }) n.normal

    by : (unsigned_abs n.digits < 10 ^ 30) ⊎ (10 ^ 30 ≤ unsigned_abs n.digits) → (2 ^ 65 < unsigned_abs n.exponent) ⊎ (unsigned_abs n.exponent ≤ 2 ^ 65) → Decision Decimal (IsDecimalOf l)
    by (inr many) other = none (λ d is.
        let fit : unsigned_abs n.digits < 10 ^ 30 = subst (λ (x : ℤ). unsigned_abs x < 10 ^ 30) (same d is).0 d.digits_fit in
        omega (arith, fit, many))
    by (inl few) (inl large) = none (λ d is.
        let fit : unsigned_abs n.exponent ≤ 2 ^ 65 = subst (λ (x : ℤ). unsigned_abs x ≤ 2 ^ 65) (same d is).1 d.exponent_fits in
        omega (arith, fit, large))
    by (inl few) (inr small) =
        found (record { digits = n.digits; exponent = n.exponent; digits_fit = few; exponent_fits = small })
        (record { value = n.value; no_trailing_zero = n.normal.no_trailing_zero; zero = n.normal.zero })

decide_decimal : (l : Literal) → Decision Decimal (IsDecimalOf l)
decide_decimal l = decimal_from l (normal_of l.sign (number_of (mantissa_digits l)) (power_at l))

-- ---- the number of a text

number_from : (text : List ℕ) (l : Literal) → Spells text l → Decision Decimal (IsNumber text)
number_from text l spells = by (cases_lt 30 (length (significant (mantissa_digits l)))) (cases_lt 99 (exponent_size l.exponent)) (decide_decimal l)
  where
    here : (P : Literal → Type 0) (m : Literal) → Spells text m → P m → P l
    here P m other is = subst P (one_literal text m l other spells) is

    by : (30 < length (significant (mantissa_digits l))) ⊎ (length (significant (mantissa_digits l)) ≤ 30) → (99 < exponent_size l.exponent) ⊎ (exponent_size l.exponent ≤ 99) → Decision Decimal (IsDecimalOf l) → Decision Decimal (IsNumber text)
    by (inl many) other decimal = none (λ d is.
        let few : HasFewDigits l = here HasFewDigits is.literal is.spells is.few_digits in
        omega (arith, few, many))
    by (inr few) (inl large) decimal = none (λ d is.
        let small : HasSmallExponent l = here HasSmallExponent is.literal is.spells is.small_exponent in
        omega (arith, small, large))
    by (inr few) (inr small) (none never) = none (λ d is. never d (here (λ (m : Literal). IsDecimalOf m d) is.literal is.spells is.value))
    by (inr few) (inr small) (found d is) = found d (record { literal = l; spells = spells; few_digits = few; small_exponent = small; value = is })

pub decide_number : (text : List ℕ) → Decision Decimal (IsNumber text)
decide_number text = by (is_literal text) refl
  where
    by : (b : Bool) → is_literal text ≡ b → Decision Decimal (IsNumber text)
    by true e = let is = literal_has_parts text e in number_from text is.0 is.1
    by false e = none (λ d is. let t : false ≡ true = sym e ∙ literal_ends text (is.literal, is.spells) in cc)
