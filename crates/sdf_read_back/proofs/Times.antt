-- A printed time is a word, which says the time in picoseconds.
use Rattle.std.proofs.Common.{◌≡◌, ℕ, zero, suc, ◌*◌, ◌/◌, ◌%◌, ◌^◌, ◌<◌, ◌≤◌, ◌⊎◌, inl, inr, List, ◌∷◌, ◌++◌, length, Some, None, ℤ, pos, negsuc, ◌+ℤ◌, ◌-ℤ◌, ◌*ℤ◌, unsigned_abs, decimal, refl, sym, ap, ◌∙◌, subst, arith}
use Rattle.std.proofs.Math.IntN.{zero-*ℤ}
use Rattle.std.proofs.lemmas.Bool.{cases_lt}
use Rattle.std.proofs.lemmas.Int.{ints}
use Rattle.std.proofs.lemmas.List.{length-append, append-nil}
use Rattle.delay_units.specs.Literal.{Sign, unsigned, minus, sign_text, Literal, Spells, signed, number_of, significant, IsDecimalOf, IsNumber}
use Rattle.delay_units.specs.Printing.{last_digits, fixed_text, femto_text}
use Rattle.delay_units.specs.Reading.{IsRoundedPower}
use Rattle.delay_units.specs.Rounding.{IsRounding}
use Rattle.delay_units.specs.declared.numbers.Decimal.{Decimal}
use Rattle.delay_units.specs.declared.quantities.Femto.{Femto}
use Rattle.delay_units.proofs.PowerLemmas.{ten_le}
use Rattle.sdf_reader.specs.Numbers.{IsTime}
use Rattle.delay_units.proofs.AnswerLemmas.{by_one, signed_zero}
use Rattle.delay_units.proofs.NormalNumbers.{strip, signed_times, signed_size, no_zero}
use Rattle.delay_units.proofs.ShortLemmas.{few_significant}
use Rattle.sdf_read_back.proofs.Digits.{Writes, decimal_writes, last_write, last_are_digits, last_length, decimal_length}

-- ---- signs

sign_of : ℤ → Sign
sign_of (pos n) = unsigned
sign_of (negsuc n) = minus

signed_is : (z : ℤ) → signed (sign_of z) (unsigned_abs z) ≡ z
unfolding sign_of
signed_is (pos n) = refl
signed_is (negsuc n) = refl

text_is : (time : Femto) → femto_text time ≡ sign_text (sign_of time.0) ++ fixed_text 3 (unsigned_abs time.0)
unfolding sign_of
text_is time = by time.0
  where
    by : (z : ℤ) → femto_text (record { 0 = z }) ≡ sign_text (sign_of z) ++ fixed_text 3 (unsigned_abs z)
    by (pos n) = refl
    by (negsuc n) = refl

-- ---- the literal

abbrev printed : Sign → ℕ → Literal
printed sign n = record { sign = sign; whole = decimal (n / 10 ^ 3); fraction = Some (last_digits 3 n); exponent = None }

abbrev digits_of : ℕ → List ℕ
digits_of n = decimal (n / 10 ^ 3) ++ last_digits 3 n

small_front : (n : ℕ) → n ≤ 10 ^ 27 → n / 10 ^ 3 < 10 ^ 64
small_front n within = omega (arith, within)

digits_write : (n : ℕ) → n ≤ 10 ^ 27 → Writes n (digits_of n)
digits_write n within =
    let front : n / 10 ^ 3 ≡ n / 10 / 10 / 10 = omega arith in
    last_write 3 n (decimal (n / 10 ^ 3)) (subst (λ (m : ℕ). Writes m (decimal (n / 10 ^ 3))) front (decimal_writes (n / 10 ^ 3) (small_front n within)))

spells : (sign : Sign) (n : ℕ) → n ≤ 10 ^ 27 → Spells (sign_text sign ++ fixed_text 3 n) (printed sign n)
spells sign n within = record {
  writes = ap (λ t. sign_text sign ++ (decimal (n / 10 ^ 3) ++ t)) (sym (append-nil (46 ∷ last_digits 3 n)));
  whole = (decimal_writes (n / 10 ^ 3) (small_front n within)).are_digits;
  fraction = last_are_digits 3 n;
  some_digit = (digits_write n within).some;
  exponent = tt;
}

few : (n : ℕ) → n ≤ 10 ^ 27 → length (significant (digits_of n)) ≤ 30
few n within =
    let less = few_significant (digits_of n) in
    let long = length-append (decimal (n / 10 ^ 3)) (last_digits 3 n) in
    let three = last_length 3 n in
    let front = decimal_length (n / 10 ^ 3) 25 (omega arith) (omega (arith, within)) (small_front n within) in
    omega (arith, less, long, three, front)

-- the decimal of a time, which is this number of zeros behind digits that do not end in 0
record Cut (sign : Sign) (n : ℕ) : Type 0 where
  decimal : Decimal
  zeros : ℕ
  exponent : decimal.exponent +ℤ pos 3 ≡ pos zeros
  size : decimal.digits *ℤ pos (10 ^ zeros) ≡ signed sign n
  no_trailing_zero : (decimal.digits ≡ pos 0 → ⊥) → unsigned_abs decimal.digits % 10 ≡ 0 → ⊥
  zero : decimal.digits ≡ pos 0 → decimal.exponent ≡ pos 0

few_zeros : (zeros n : ℕ) → 10 ^ zeros ≤ n → n ≤ 10 ^ 27 → zeros ≤ 27
few_zeros zeros n least most = by (cases_lt 27 zeros)
  where
    by : (27 < zeros) ⊎ (zeros ≤ 27) → zeros ≤ 27
    by (inr few) = few
    by (inl many) = let power = ten_le 28 zeros many in absurd (omega (arith, power, least, most))

cut : (sign : Sign) (n : ℕ) → n ≤ 10 ^ 27 → Cut sign n
cut sign zero within = record {
  decimal = record { digits = pos 0; exponent = pos 0; digits_fit = omega arith; exponent_fits = omega arith };
  zeros = 3;
  exponent = refl;
  size = zero-*ℤ (pos (10 ^ 3)) ∙ sym (signed_zero sign);
  no_trailing_zero = λ some. absurd (some refl);
  zero = λ e. refl;
}
cut sign (suc n) within =
    let s = strip (suc n) (suc n) (omega arith) (omega arith) in
    let less = s.fewer in
    let zeros = few_zeros s.zeros (suc n) s.least within in
    let same = signed_size sign s.digits in
    record {
      decimal = record { digits = signed sign s.digits; exponent = pos s.zeros -ℤ pos 3; digits_fit = omega (arith, less, same, within); exponent_fits = omega (arith, ints, zeros, within) };
      zeros = s.zeros;
      exponent = omega (arith, ints);
      size = signed_times sign s.digits (10 ^ s.zeros) ∙ ap (signed sign) (sym s.splits);
      no_trailing_zero = λ some last. s.last (ap (λ x. x % 10) (sym same) ∙ last);
      zero = λ e. absurd (no_zero sign s.digits s.last e);
    }

-- ---- the time

rounded : (z : ℤ) → IsRounding z (pos 1) z
rounded z = record { least = omega (arith, ints); most = omega (arith, ints) }

value_of : (sign : Sign) (n : ℕ) → n ≤ 10 ^ 27 → (c : Cut sign n) → IsDecimalOf (printed sign n) c.decimal
value_of sign n within c =
    let number = (digits_write n within).number in
    let three = last_length 3 n in
    let exponent = c.exponent in
    record {
      value = (c.zeros, 0, omega (arith, ints, three, exponent), c.size ∙ ap (signed sign) (sym number) ∙ sym (by_one (signed sign (number_of (digits_of n)))));
      no_trailing_zero = c.no_trailing_zero;
      zero = c.zero;
    }

number : (sign : Sign) (n : ℕ) → n ≤ 10 ^ 27 → (c : Cut sign n) → IsNumber (sign_text sign ++ fixed_text 3 n) c.decimal
number sign n within c = record {
  literal = printed sign n;
  spells = spells sign n within;
  few_digits = few n within;
  small_exponent = omega arith;
  value = value_of sign n within c;
}

pub printed_is_time : (time : Femto) → unsigned_abs time.0 ≤ 10 ^ 27 → IsTime 3 (femto_text time) time
printed_is_time time within =
    let c = cut (sign_of time.0) (unsigned_abs time.0) within in
    let whole : c.decimal.digits *ℤ pos (10 ^ c.zeros) ≡ time.0 = c.size ∙ signed_is time.0 in
    record {
      number = c.decimal;
      reads = subst (λ (t : List ℕ). IsNumber t c.decimal) (sym (text_is time)) (number (sign_of time.0) (unsigned_abs time.0) within c);
      rounds = subst (λ (p : ℤ). IsRoundedPower c.decimal.digits p time.0) (sym c.exponent) (subst (λ (n : ℤ). IsRounding n (pos 1) time.0) (sym whole) (rounded time.0));
      within = within;
    }
