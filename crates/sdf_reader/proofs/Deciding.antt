-- A function that finds the value of each word that says one.
use Rattle.std.proofs.Common.{◌≡◌, ℕ, suc, ◌^◌, ◌<◌, ◌≤◌, ◌⊎◌, inl, inr, Bool, true, false, ◌||◌, List, [], ◌∷◌, ◌++◌, Option, Some, None, is_some, ℤ, pos, negsuc, ◌+ℤ◌, ◌*ℤ◌, unsigned_abs, refl, sym, ap, arith, subst}
use Rattle.std.proofs.lemmas.Bool.{cases_lt}
use Rattle.std.proofs.lemmas.Int.{ints}
use Rattle.delay_units.specs.Literal.{IsNumber}
use Rattle.delay_units.specs.Reading.{IsRoundedPower}
use Rattle.delay_units.specs.declared.numbers.Decimal.{Decimal}
use Rattle.delay_units.specs.declared.quantities.Femto.{Femto}
use Rattle.delay_units.proofs.PowerLemmas.{ten_is_positive}
use Rattle.delay_units.proofs.ReadingLemmas.{one_power}
use Rattle.delay_units.proofs.RoundingLemmas.{one_rounding_lem}
use Rattle.sdf_reader.specs.Timescales.{power_of}
use Rattle.sdf_reader.specs.Numbers.{IsTime, IsMember, left_out, member, AreMembers, single_value, IsValue, single, HasNoColon}
use Rattle.sdf_reader.specs.Modes.{Decides}
use Rattle.sdf_reader.specs.declared.rows.Value.{Value}
use Rattle.sdf_reader.specs.declared.timescales.Timescale.{Timescale}
use Rattle.delay_units.proofs.NormalNumbers.{Decision, found, none, decide_number}
use Rattle.delay_units.proofs.OneDecimal.{one_decimal}
use Rattle.sdf_reader.proofs.OneValue.{one_word_value}
use Rattle.sdf_reader.proofs.ValueLemmas.{no_triple, no_member, none_single, none_behind, none_triple, triple_made}
use Rattle.sdf_reader.proofs.Clashes.{never_some, same_some}

-- ---- times

rounded : (n power : ℤ) → (v : ℤ) × IsRoundedPower n power v
rounded n (pos k) = let r = one_rounding_lem (n *ℤ pos (10 ^ k)) (pos 1) (omega (arith, ints)) in (r.0, r.1)
rounded n (negsuc k) =
    let g = ten_is_positive (suc k) in
    let r = one_rounding_lem n (pos (10 ^ suc k)) (omega (arith, ints, g)) in (r.0, r.1)

-- the rounding of a number is that of each number that the text has
same_rounding : (power : ℕ) (text : List ℕ) (number : Decimal) (v : ℤ) (time : Femto) → IsNumber text number → IsRoundedPower number.digits (number.exponent +ℤ pos power) v → IsTime power text time → time.0 ≡ v
same_rounding power text number v time reads rounds is =
    let same = one_decimal text is.number number is.reads reads in
    let again : IsRoundedPower is.number.digits (is.number.exponent +ℤ pos power) v =
    subst (λ (d : ℤ). IsRoundedPower d (is.number.exponent +ℤ pos power) v) (sym same.0)
    (subst (λ (e : ℤ). IsRoundedPower number.digits (e +ℤ pos power) v) (sym same.1) rounds) in
    one_power is.number.digits (is.number.exponent +ℤ pos power) time.0 v is.rounds again

time_from : (power : ℕ) (text : List ℕ) → Decision Decimal (IsNumber text) → Decision Femto (IsTime power text)
time_from power text (none never) = none (λ time is. never is.number is.reads)
time_from power text (found number reads) = by (rounded number.digits (number.exponent +ℤ pos power))
  where
    at : (v : ℤ) → IsRoundedPower number.digits (number.exponent +ℤ pos power) v → (10 ^ 27 < unsigned_abs v) ⊎ (unsigned_abs v ≤ 10 ^ 27) → Decision Femto (IsTime power text)
    at v rounds (inl past) = none (λ time is.
        let within : unsigned_abs v ≤ 10 ^ 27 = subst (λ (x : ℤ). unsigned_abs x ≤ 10 ^ 27) (same_rounding power text number v time reads rounds is) is.within in
        omega (arith, within, past))
    at v rounds (inr within) = found (record { 0 = v }) (record { number = number; reads = reads; rounds = rounds; within = within })

    by : (v : ℤ) × IsRoundedPower number.digits (number.exponent +ℤ pos power) v → Decision Femto (IsTime power text)
    by (v, rounds) = at v rounds (cases_lt (10 ^ 27) (unsigned_abs v))

decide_time : (power : ℕ) (text : List ℕ) → Decision Femto (IsTime power text)
decide_time power text = time_from power text (decide_number text)

-- ---- members

member_from : (power : ℕ) (b : ℕ) (text : List ℕ) → Decision Femto (IsTime power (b ∷ text)) → Decision (Option Femto) (IsMember power (b ∷ text))
member_from power b text (found time is) = found (Some time) (member is)
member_from power b text (none never) = none (λ m is. by m is)
  where
    by : (m : Option Femto) → IsMember power (b ∷ text) m → ⊥
    by None is = elim is [ ]
    by (Some time) (member is) = never time is

decide_member : (power : ℕ) (text : List ℕ) → Decision (Option Femto) (IsMember power text)
decide_member power [] = found None left_out
decide_member power (b ∷ text) = member_from power b text (decide_time power (b ∷ text))

decide_triple : (power : ℕ) (least typical largest : List ℕ) → Decision Value (AreMembers power least typical largest)
decide_triple power least typical largest = by (decide_member power least) (decide_member power typical) (decide_member power largest)
  where
    of : (a b c : Option Femto) → IsMember power least a → IsMember power typical b → IsMember power largest c → (some : Bool) → (is_some a || is_some b || is_some c) ≡ some → Decision Value (AreMembers power least typical largest)
    of a b c p q r true e = found (record { min = a; typ = b; max = c }) (record { min = p; typ = q; max = r; some = e })
    of a b c p q r false e = none (λ value are. no_triple power least typical largest a b c value p q r e are)

    by : Decision (Option Femto) (IsMember power least) → Decision (Option Femto) (IsMember power typical) → Decision (Option Femto) (IsMember power largest) → Decision Value (AreMembers power least typical largest)
    by (none never) y z = none (λ value are. no_member power least typical largest (inl never) value are)
    by (found a p) (none never) z = none (λ value are. no_member power least typical largest (inr (inl never)) value are)
    by (found a p) (found b q) (none never) = none (λ value are. no_member power least typical largest (inr (inr never)) value are)
    by (found a p) (found b q) (found c r) = of a b c p q r (is_some a || is_some b || is_some c) refl

-- ---- values

-- a text without a colon, or its parts at the first one
data Split (text : List ℕ) : Type 0 where
  whole : HasNoColon text → Split text
  parted : (front behind : List ℕ) → text ≡ front ++ 58 ∷ behind → HasNoColon front → Split text

is_colon : (b : ℕ) → (b ≡ 58) ⊎ (b ≡ 58 → ⊥)
is_colon b = by (cases_lt b 58) (cases_lt 58 b)
  where
    by : (b < 58) ⊎ (58 ≤ b) → (58 < b) ⊎ (b ≤ 58) → (b ≡ 58) ⊎ (b ≡ 58 → ⊥)
    by (inl less) other = inr (λ e. omega (arith, less, e))
    by (inr least) (inl more) = inr (λ e. omega (arith, more, e))
    by (inr least) (inr most) = inl (omega (arith, least, most))

split : (text : List ℕ) → Split text
split [] = whole tt
split (b ∷ text) = by (is_colon b) (split text)
  where
    by : (b ≡ 58) ⊎ (b ≡ 58 → ⊥) → Split text → Split (b ∷ text)
    by (inl e) rest = parted [] text (ap (λ x. x ∷ text) e) tt
    by (inr never) (whole free) = whole (never, free)
    by (inr never) (parted front behind e free) = parted (b ∷ front) behind (ap (λ l. b ∷ l) e) (never, free)

decide_value : (scale : Timescale) (word : List ℕ) → Decision Value (IsValue scale word)
decide_value scale word = by (split word)
  where
    one : HasNoColon word → Decision Femto (IsTime (power_of scale) word) → Decision Value (IsValue scale word)
    one free (found time is) = found (single_value time) (single is)
    one free (none never) = none (λ value is. none_single scale word value free never is)

    three : (least others typical largest : List ℕ) → word ≡ least ++ 58 ∷ others → HasNoColon least → others ≡ typical ++ 58 ∷ largest → HasNoColon typical
        → Decision Value (AreMembers (power_of scale) least typical largest) → Decision Value (IsValue scale word)
    three least others typical largest e free f next (found value are) = found value (triple_made scale word least others typical largest value e f are)
    three least others typical largest e free f next (none never) = none (λ value is. none_triple scale word least others typical largest value e free f next never is)

    behind : (least others : List ℕ) → word ≡ least ++ 58 ∷ others → HasNoColon least → Split others → Decision Value (IsValue scale word)
    behind least others e free (whole last) = none (λ value is. none_behind scale word least others value e free last is)
    behind least others e free (parted typical largest f next) = three least others typical largest e free f next (decide_triple (power_of scale) least typical largest)

    by : Split word → Decision Value (IsValue scale word)
    by (whole free) = one free (decide_time (power_of scale) word)
    by (parted least others e free) = behind least others e free (split others)

-- ---- the function

value_in : {Holds : Value → Type 0} → Decision Value Holds → Option Value
value_in (found value is) = Some value
value_in (none never) = None

-- the value that a word says, if it says one
pub deciding : Timescale → List ℕ → Option Value
deciding scale word = value_in (decide_value scale word)

finds_in : (scale : Timescale) (word : List ℕ) (value : Value) (d : Decision Value (IsValue scale word)) → IsValue scale word value → value_in d ≡ Some value
unfolding value_in
finds_in scale word value (found v is) other = ap (λ x. Some x) (one_word_value scale word v value is other)
finds_in scale word value (none never) other = absurd (never value other)

means_in : (scale : Timescale) (word : List ℕ) (value : Value) (d : Decision Value (IsValue scale word)) → value_in d ≡ Some value → IsValue scale word value
unfolding value_in
means_in scale word value (found v is) e = subst (IsValue scale word) (same_some e) is
means_in scale word value (none never) e = never_some e

pub decides : Decides IsValue deciding
unfolding deciding
decides = record {
  finds = λ scale word value is. finds_in scale word value (decide_value scale word) is;
  means = λ scale word value e. means_in scale word value (decide_value scale word) e;
}

pub decided : (number : Timescale → List ℕ → Option Value) × Decides IsValue number
decided = (deciding, decides)
