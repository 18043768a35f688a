-- How far the digits of a size are read.
use Rattle.std.proofs.Common.{◌≡◌, ℕ, zero, suc, ◌+◌, ◌-◌, ◌*◌, ◌<◌, ◌≤◌, List, [], ◌∷◌, ◌++◌, length, take, get_or, Option, Some, None, refl, sym, ap, ◌∙◌, subst, arith}
use Rattle.std.specs.Prelude.{fold, IsTrue, is_some, IfSome, IfNone}
use Rattle.std.proofs.lemmas.List.{take_more}
use Rattle.std.proofs.lemmas.List.Sums.{fold_push}
use Rattle.delay_units.specs.Literal.{AreDigits, number_of}
use Rattle.delay_units.proofs.TallyLemmas.{AreDigits-push}
use Rattle.gdc_words.specs.Sizes.{IsSize, most_size}

abbrev next : ℕ → ℕ → ℕ
next number digit = number * 10 + (digit - 48)

-- these digits are read, and are so many
pub record HasRead (front : List ℕ) (size : ℕ) : Type 0 where
  pub digits : AreDigits front
  pub reads : size ≡ number_of front
  pub within : size ≤ most_size

push_read : (front : List ℕ) (size digit : ℕ) → 48 ≤ digit → digit ≤ 57 → next size digit ≤ most_size → HasRead front size → HasRead (front ++ digit ∷ []) (next size digit)
push_read front size digit low high few read = record {
  digits = AreDigits-push front digit read.digits low high;
  reads = ap (λ n. next n digit) read.reads ∙ sym (fold_push next 0 front digit);
  within = few;
}

-- one digit more
pub read_more : (value : List ℕ) (i size digit : ℕ) → i < length value → digit ≡ get_or value i 0 → 48 ≤ digit → digit ≤ 57 → next size digit ≤ most_size → HasRead (take i value) size → HasRead (take (i + 1) value) (next size digit)
read_more value i size digit below is low high few read =
    subst (λ (front : List ℕ). HasRead front (next size digit)) (ap (λ d. take i value ++ d ∷ []) is ∙ sym (take_more value i 0 below))
    (push_read (take i value) size digit low high few read)

-- ---- what is no size

-- a byte that is no digit
record IsDigit (byte : ℕ) : Type 0 where
  low : 48 ≤ byte
  high : byte ≤ 57

digit_at : (value : List ℕ) (i : ℕ) → AreDigits value → i < length value → IsDigit (get_or value i 0)
digit_at [] i are below = absurd (omega (arith, below))
digit_at (c ∷ cs) zero are below = record { low = are.0; high = are.1 }
digit_at (c ∷ cs) (suc i) are below = digit_at cs i are.2 (omega (arith, below))

pub no_size_low : (value : List ℕ) (i byte size : ℕ) → i < length value → byte ≡ get_or value i 0 → byte < 48 → ¬ IsSize value size
no_size_low value i byte size below here small is =
    let low : 48 ≤ get_or value i 0 = (digit_at value i is.digits below).low in
    absurd (omega (arith, here, small, low))

pub no_size_high : (value : List ℕ) (i byte size : ℕ) → i < length value → byte ≡ get_or value i 0 → 57 < byte → ¬ IsSize value size
no_size_high value i byte size below here large is =
    let high : get_or value i 0 ≤ 57 = (digit_at value i is.digits below).high in
    absurd (omega (arith, here, large, high))

-- a number grows with its digits
grows : (start : ℕ) (digits : List ℕ) → start ≤ fold next start digits
grows start [] = omega arith
grows start (d ∷ digits) = let more : next start d ≤ fold next (next start d) digits = grows (next start d) digits in omega (arith, more)

front_less : (start : ℕ) (value : List ℕ) (i : ℕ) → fold next start (take i value) ≤ fold next start value
front_less start value zero = grows start value
front_less start [] (suc i) = omega arith
front_less start (c ∷ cs) (suc i) = front_less (next start c) cs i

-- nor is a number whose first digits are too many
pub no_size_past : (value : List ℕ) (i before digit size : ℕ) → i < length value → digit ≡ get_or value i 0 → most_size < next before digit → HasRead (take i value) before → ¬ IsSize value size
no_size_past value i before digit size below is past read number =
    let same : next before digit ≡ number_of (take (i + 1) value) =
    ap (λ n. next n digit) read.reads ∙ sym (fold_push next 0 (take i value) digit) ∙ ap (λ d. number_of (take i value ++ d ∷ [])) is ∙ ap number_of (sym (take_more value i 0 below)) in
    let less : number_of (take (i + 1) value) ≤ number_of value = front_less 0 value (i + 1) in
    let reads : size ≡ number_of value = number.reads in
    let within : size ≤ most_size = number.within in
    absurd (omega (arith, same, less, reads, within, past))

-- ---- a value is a size exactly where one is found

pub some_size : (value : List ℕ) (found : Option ℕ) → IfSome found (IsSize value) → IfNone found ((size : ℕ) → ¬ IsSize value size) → IsTrue (is_some found) → (size : ℕ) × IsSize value size
some_size value None some none e = cc
some_size value (Some size) some none e = (size, some)

pub size_found : (value : List ℕ) (found : Option ℕ) → IfSome found (IsSize value) → IfNone found ((size : ℕ) → ¬ IsSize value size) → (size : ℕ) × IsSize value size → IsTrue (is_some found)
size_found value None some none is = absurd (none is.0 is.1)
size_found value (Some size) some none is = refl
