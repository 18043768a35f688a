-- The unit of capacitances of a library.
use Rattle.std.proofs.Common.{◌≡◌, ◌≢◌, ℕ, ◌≤◌, length, codes, slice_get, List, [], ◌∷◌, sym, ap, ◌∙◌, arith, subst, ℤ, pos, ◌+ℤ◌, ◌≤ℤ◌, unsigned_abs, Option, Some, None, IfSome, IfNone, IsSome, ◌↔◌, true≢false}
use Rattle.std.proofs.lemmas.Int.{ints}
use Rattle.delay_units.specs.Literal.{IsNumber}
use Rattle.delay_units.specs.declared.numbers.Decimal.{Decimal}
use Rattle.delay_units.specs.declared.numbers.Unit.{Unit}
use Rattle.liberty_groups.specs.Groups.{Group}
use Rattle.liberty_tables.specs.Library.{values_in}
use Rattle.liberty_tables.specs.LibraryUnits.{load_power, IsUnitOf, IsLoadUnit}
use Rattle.liberty_tables.proofs.Fronts.{some_is}
use Rattle.delay_units.proofs.OneDecimal.{one_decimal}

pub unit_from : (number word : List ℕ) (power : ℤ) (value : Decimal) (r : Option Unit) → load_power word ≡ Some power → IsNumber number value
    → IfSome r (λ u. pos u.mantissa ≡ value.digits) → IfSome r (λ u. u.exponent ≡ value.exponent +ℤ power) → IfSome r (IsUnitOf number word)
unit_from number word power value None known reads m e = search
unit_from number word power value (Some u) known reads m e = record { power = power; known = known; value = value; reads = reads; mantissa = m; exponent = e }

same_power : (x : Option ℤ) (p q : ℤ) → x ≡ Some p → x ≡ Some q → p ≡ q
same_power x p q a b = cc

-- a unit of the text is one of the value that was read, and of the power
fits : (number word : List ℕ) (power : ℤ) (value : Decimal) (u : Unit) → load_power word ≡ Some power → IsNumber number value → IsUnitOf number word u
    → (pos 1 ≤ℤ value.digits) × (value.digits ≤ℤ pos 9999999) × (unsigned_abs (value.exponent +ℤ power) ≤ 99)
fits number word power value u known reads is =
    let one : (value.digits ≡ is.value.digits) × (value.exponent ≡ is.value.exponent) = one_decimal number value is.value reads is.reads in
    let digits : value.digits ≡ pos u.mantissa = one.0 ∙ sym is.mantissa in
    let exponent : value.exponent +ℤ power ≡ u.exponent = ap (λ x. x +ℤ power) one.1 ∙ ap (λ x. is.value.exponent +ℤ x) (same_power (load_power word) power is.power known is.known) ∙ sym is.exponent in
    (low value.digits u.mantissa digits u.positive, high value.digits u.mantissa digits u.seven_digits, subst (λ (x : ℤ). unsigned_abs x ≤ 99) (sym exponent) u.exponent_fits)
  where
    low : (z : ℤ) (m : ℕ) → z ≡ pos m → 1 ≤ m → pos 1 ≤ℤ z
    low z m e h = omega (arith, ints, e, h)

    high : (z : ℤ) (m : ℕ) → z ≡ pos m → m ≤ 9999999 → z ≤ℤ pos 9999999
    high z m e h = omega (arith, ints, e, h)

pub no_unit_from : (number word : List ℕ) (power : ℤ) (value : Decimal) (r : Option Unit) → load_power word ≡ Some power → IsNumber number value
    → (IsSome r ↔ ((pos 1 ≤ℤ value.digits) × (value.digits ≤ℤ pos 9999999) × (unsigned_abs (value.exponent +ℤ power) ≤ 99))) → IfNone r (((unit : Unit) → ¬ IsUnitOf number word unit))
no_unit_from number word power value None known reads when = λ u is. absurd (true≢false (sym (when.1 (fits number word power value u known reads is))))
no_unit_from number word power value (Some u) known reads when = search

-- ---- the attribute of the library

pub none_given : (library : Group) (r : Option Unit) → values_in (codes "capacitive_load_unit") library ≡ None → IfNone r ((unit : Unit) → ¬ IsLoadUnit library unit)
none_given library (Some unit) none = search
none_given library None none = λ unit is. let values = is.values in cc

pub other_count : (library : Group) (values : List (List ℕ)) → values_in (codes "capacitive_load_unit") library ≡ Some values → length values ≢ 2 → (unit : Unit) → IsLoadUnit library unit → ⊥
other_count library values given other unit is =
    let two : values ≡ is.number ∷ is.word ∷ [] = some_is values (is.number ∷ is.word ∷ []) (sym given ∙ is.values) in
    other (ap length two)

pub two_values : (values : List (List ℕ)) (number word : List ℕ) → length values ≡ 2 → slice_get values 0 ≡ Some number → slice_get values 1 ≡ Some word → values ≡ number ∷ word ∷ []
two_values [] number word two first second = absurd (omega arith)
two_values (a ∷ []) number word two first second = absurd (omega arith)
two_values (a ∷ b ∷ []) number word two first second = ap (λ x. x ∷ b ∷ []) (some_is a number first) ∙ ap (λ x. number ∷ x ∷ []) (some_is b word second)
two_values (a ∷ b ∷ c ∷ more) number word two first second = absurd (omega arith)

pub load_some : (library : Group) (number word : List ℕ) (r : Option Unit) → values_in (codes "capacitive_load_unit") library ≡ Some (number ∷ word ∷ []) → IfSome r (IsUnitOf number word) → IfSome r (IsLoadUnit library)
load_some library number word None given is = search
load_some library number word (Some unit) given is = record { number = number; word = word; values = given; named = is }

pub load_none : (library : Group) (number word : List ℕ) (r : Option Unit) → values_in (codes "capacitive_load_unit") library ≡ Some (number ∷ word ∷ []) → IfNone r ((unit : Unit) → ¬ IsUnitOf number word unit) → IfNone r ((unit : Unit) → ¬ IsLoadUnit library unit)
load_none library number word (Some unit) given none = search
load_none library number word None given none = λ unit is.
    let same : (number ∷ word ∷ []) ≡ (is.number ∷ is.word ∷ []) = some_is (number ∷ word ∷ []) (is.number ∷ is.word ∷ []) (sym given ∙ is.values) in
    none unit (subst (λ (l : List (List ℕ)). IsUnitOf (first_of_two l) (second_of_two l) unit) (sym same) is.named)
  where
    first_of_two : List (List ℕ) → List ℕ
    first_of_two [] = []
    first_of_two (a ∷ more) = a

    second_of_two : List (List ℕ) → List ℕ
    second_of_two [] = []
    second_of_two (a ∷ more) = first_of_two more
