-- The pieces of a printed time.
use Rattle.std.proofs.Common.{◌≡◌, ℕ, ◌/◌, ◌%◌, ◌^◌, Bool, true, false, List, [], ◌∷◌, ◌++◌, ℤ, pos, negsuc, unsigned_abs, ◌≤ℤ◌, ◌<ℤ◌, decimal, ap, ◌∙◌, refl, arith, append_assoc, if◌then◌else◌}
use Rattle.std.proofs.lemmas.Int.{ints}
use Rattle.delay_units.specs.Printing.{last_digits, fixed_text, signed_fixed_text}

ones_of : (n : ℕ) → n % 1000 % 10 ≡ n % 10
ones_of n = omega arith

tens_of : (n : ℕ) → n % 1000 / 10 % 10 ≡ n / 10 % 10
tens_of n = omega arith

hundreds_of : (n : ℕ) → n % 1000 / 10 / 10 % 10 ≡ n / 10 / 10 % 10
hundreds_of n = omega arith

pub last_three : (n : ℕ) → last_digits 3 (n % 1000) ≡ last_digits 3 n
last_three n = cc (ones_of n, tens_of n, hundreds_of n)

next_ones_of : (n : ℕ) → n / 1000 % 1000 % 10 ≡ n / 10 / 10 / 10 % 10
next_ones_of n = omega arith

next_tens_of : (n : ℕ) → n / 1000 % 1000 / 10 % 10 ≡ n / 10 / 10 / 10 / 10 % 10
next_tens_of n = omega arith

next_hundreds_of : (n : ℕ) → n / 1000 % 1000 / 10 / 10 % 10 ≡ n / 10 / 10 / 10 / 10 / 10 % 10
next_hundreds_of n = omega arith

pub last_six : (n : ℕ) → last_digits 3 (n / 1000 % 1000) ++ last_digits 3 (n % 1000) ≡ last_digits 6 n
last_six n = cc (ones_of n, tens_of n, hundreds_of n, next_ones_of n, next_tens_of n, next_hundreds_of n)

-- a sign and the text of the size
pub signed_text_from : (k : ℕ) (z : ℤ) (b : Bool) → (b ≡ true → z <ℤ pos 0) → (b ≡ false → pos 0 ≤ℤ z) → (if b then 45 ∷ [] else []) ++ fixed_text k (unsigned_abs z) ≡ signed_fixed_text k z
signed_text_from k (pos n) true h l = let a = h refl in absurd (omega (arith, ints, a))
signed_text_from k (pos n) false h l = refl
signed_text_from k (negsuc n) true h l = refl
signed_text_from k (negsuc n) false h l = let a = l refl in absurd (omega (arith, ints, a))

-- the three pieces of a text
pub text_of_pieces : (k : ℕ) (z : ℤ) (b : Bool) (n whole : ℕ) (pieces start rest : List ℕ) → n ≡ unsigned_abs z → (b ≡ true → z <ℤ pos 0) → (b ≡ false → pos 0 ≤ℤ z) → whole ≡ n / 10 ^ k → start ≡ (if b then 45 ∷ [] else []) ++ (decimal whole ++ (46 ∷ [])) → rest ≡ last_digits k n → pieces ≡ start ++ rest → pieces ≡ signed_fixed_text k z
text_of_pieces k z b n whole pieces start rest en h l ew es er ep =
    ep ∙ ap (λ x. x ++ rest) es ∙ append_assoc (if b then 45 ∷ [] else []) (decimal whole ++ (46 ∷ [])) rest
    ∙ ap (λ x. (if b then 45 ∷ [] else []) ++ x) (append_assoc (decimal whole) (46 ∷ []) rest)
    ∙ ap (λ x. (if b then 45 ∷ [] else []) ++ (decimal whole ++ (46 ∷ x))) er
    ∙ ap (λ x. (if b then 45 ∷ [] else []) ++ (decimal x ++ (46 ∷ last_digits k n))) ew
    ∙ ap (λ x. (if b then 45 ∷ [] else []) ++ fixed_text k x) en
    ∙ signed_text_from k z b h l

pub joined : (pieces middle start a b : List ℕ) → pieces ≡ middle ++ b → middle ≡ start ++ a → pieces ≡ start ++ (a ++ b)
joined pieces middle start a b e f = e ∙ ap (λ x. x ++ b) f ∙ append_assoc start a b
