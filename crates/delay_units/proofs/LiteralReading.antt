-- The digits in front of a text, and what the test for a literal tells.
use Rattle.std.proofs.Common.{◌≡◌, ◌↔◌, ◌⊎◌, IsTrue, ℕ, suc, ◌+◌, ◌<◌, ◌≤◌, Bool, false, List, [], ◌∷◌, ◌++◌, length, get_or, drop, refl, sym, ap, ◌∙◌, subst, ⊎_elim, append_assoc, arith}
use Rattle.std.proofs.Math.Nat.{eq-or-lt_of_le}
use Rattle.std.proofs.Math.Seq.{drop-cons}
use Rattle.std.proofs.lemmas.List.{drop_all}
use Rattle.std.specs.Char.{is_ascii_digit}
use Rattle.delay_units.specs.Literal.{AreDigits, IsLiteral}
use Rattle.delay_units.specs.Parts.{NoDigitFirst, DropsDigits}
use Rattle.delay_units.specs.Places.{is_literal}
use Rattle.delay_units.proofs.LiteralShape.{literal_has_parts, literal_ends}
use Rattle.delay_units.proofs.TallyLemmas.{AreDigits-push}

-- ---- digits in front

-- the digits that a loop has dropped from the front of the text
pub record DroppedSoFar (text rest : List ℕ) : Type 0 where
  pub digits : List ℕ
  pub split : text ≡ digits ++ rest
  pub are_digits : AreDigits digits

pub nothing_dropped : (text : List ℕ) → DroppedSoFar text text
nothing_dropped text = record { digits = []; split = refl; are_digits = tt }

dropped_with : (text : List ℕ) (c : ℕ) (cs : List ℕ) → DroppedSoFar text (c ∷ cs) → 48 ≤ c → c ≤ 57 → DroppedSoFar text cs
dropped_with text c cs h low high = record {
  digits = h.digits ++ c ∷ [];
  split = h.split ∙ sym (append_assoc h.digits (c ∷ []) cs);
  are_digits = AreDigits-push h.digits c h.are_digits low high;
}

pub one_dropped : (text : List ℕ) (count : ℕ) → DroppedSoFar text (drop count text) → count < length text → 48 ≤ get_or text count 0 → get_or text count 0 ≤ 57
    → DroppedSoFar text (drop (count + 1) text)
one_dropped text count h within low high =
    subst (λ n. DroppedSoFar text (drop n text)) {x = suc count} {y = count + 1} (omega arith)
    (dropped_with text (get_or text count 0) (drop (suc count) text) (subst (DroppedSoFar text) (drop-cons text count 0 within) h) low high)

-- the digits end where the text does, or before another byte
pub all_dropped : (text rest : List ℕ) (count : ℕ) → DroppedSoFar text (drop count text) → rest ≡ drop count text → count ≤ length text
    → (count < length text → is_ascii_digit (get_or text count 0) ≡ false) → DropsDigits text rest
all_dropped text rest count h rest_is within ends = record {
  digits = h.digits;
  split = h.split ∙ ap (λ l. h.digits ++ l) (sym rest_is);
  are_digits = h.are_digits;
  stops = subst NoDigitFirst (sym rest_is) (stops (eq-or-lt_of_le within));
} where
  stops : (count ≡ length text) ⊎ (count < length text) → NoDigitFirst (drop count text)
  stops = ⊎_elim
      (λ all. subst NoDigitFirst (sym (drop_all count text (omega (arith, all)))) tt)
      (λ lt. subst NoDigitFirst (sym (drop-cons text count 0 lt)) (ends lt))

-- the test tells whether a text has the parts of a literal
pub tells_shape : (text : List ℕ) (b : Bool) → b ≡ is_literal text → (IsTrue b) ↔ IsLiteral text
tells_shape text b same = (λ is. literal_has_parts text (sym same ∙ is), λ is. same ∙ literal_ends text is)
