-- A number in decimal is a digit or more.
use Rattle.std.proofs.Common.{◌≡◌, ℕ, zero, suc, ◌<◌, ◌%◌, ◌/◌, Bool, true, false, List, [], ◌∷◌, if◌then◌else◌, refl, ap, ◌∙◌, arith}
use Rattle.std.specs.Prelude.{◌==◌, ◌&&◌, decimal}
use Rattle.std.specs.Char.{is_ascii_digit}
use Rattle.std.specs.Fmt.{digits, digits_onto, digit_glyph}
use Rattle.std.specs.List.{list_all}
use Rattle.std.proofs.Math.Nat.{mod-lt}
use Rattle.std.proofs.lemmas.Bool.Decides.{nat_tests}

-- the text has a first byte, and each of its bytes is a digit
pub record IsNumber (text : List ℕ) : Type 0 where
  pub first : ℕ
  pub others : List ℕ
  pub is : text ≡ first ∷ others
  pub all : list_all is_ascii_digit (first ∷ others) ≡ true

glyph_is_digit : (n : ℕ) → is_ascii_digit (digit_glyph false (n % 10)) ≡ true
glyph_is_digit n = let below : n % 10 < 10 = mod-lt n (omega arith) in grind (arith, nat_tests)

module _ (number : ℕ) where
  abbrev glyph : ℕ
  glyph = digit_glyph false (number % 10)

  one_more : (behind : List ℕ) → list_all is_ascii_digit behind ≡ true → IsNumber (glyph ∷ behind)
  one_more behind all = record {
    first = glyph;
    others = behind;
    is = refl;
    all = ap (λ t. t && list_all is_ascii_digit behind) (glyph_is_digit number) ∙ all;
  }

  -- the first digit where none is left, and else those of the rest
  digit_before : (behind before : List ℕ) → list_all is_ascii_digit behind ≡ true → IsNumber before
      → IsNumber (if number / 10 == 0 then glyph ∷ behind else before)
  digit_before behind before all more = by (number / 10 == 0)
    where
      by : (last : Bool) → IsNumber (if last then glyph ∷ behind else before)
      by true = one_more behind all
      by false = more

-- digits before those that are written
digits_are_number : (most number : ℕ) (behind : List ℕ) → list_all is_ascii_digit behind ≡ true
    → IsNumber (digits_onto (suc most) 10 false number behind)
digits_are_number zero number behind all = digit_before number behind (glyph number ∷ behind) all (one_more number behind all)
digits_are_number (suc most) number behind all =
    digit_before number behind (digits_onto (suc most) 10 false (number / 10) (glyph number ∷ behind)) all
    (digits_are_number most (number / 10) (glyph number ∷ behind)
    (ap (λ t. t && list_all is_ascii_digit behind) (glyph_is_digit number) ∙ all))

pub decimal_is_number : (number : ℕ) → IsNumber (decimal number)
unfolding digits
decimal_is_number number = digits_are_number 63 number [] refl
