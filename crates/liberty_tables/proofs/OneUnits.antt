-- A library has one pair of units.
use Rattle.std.proofs.Common.{◌≡◌, ℕ, pos, ◌+ℤ◌, List, [], ◌∷◌, Option, Some, sym, ap, ◌∙◌, subst, arith}
use Rattle.std.proofs.lemmas.Int.{ints}
use Rattle.delay_units.specs.declared.numbers.Unit.{Unit}
use Rattle.liberty_groups.specs.Groups.{Group}
use Rattle.liberty_tables.specs.LibraryUnits.{IsTimeUnit, IsUnitOf, IsLoadUnit, AreUnits}
use Rattle.liberty_tables.specs.declared.library_units.LibraryUnits.{LibraryUnits}
use Rattle.liberty_tables.proofs.Fronts.{some_is}
use Rattle.delay_units.proofs.OneDecimal.{one_decimal}
use Rattle.delay_units.proofs.UnitLemmas.{unit_same}

some_same : {X : Type 0} (o : Option X) (a b : X) → o ≡ Some a → o ≡ Some b → a ≡ b
some_same o a b e f = some_is a b (sym e ∙ f)

one_time : (library : Group) (u w : Unit) → IsTimeUnit library u → IsTimeUnit library w → u ≡ w
one_time library u w is other = unit_same u w (is.mantissa ∙ sym other.mantissa) (is.exponent ∙ some_same _ is.power other.power is.known other.known ∙ sym other.exponent)

first_of_two : List (List ℕ) → List ℕ
first_of_two [] = []
first_of_two (a ∷ more) = a

second_of_two : List (List ℕ) → List ℕ
unfolding first_of_two
second_of_two [] = []
second_of_two (a ∷ more) = first_of_two more

pos_same : (a b : ℕ) → pos a ≡ pos b → a ≡ b
pos_same a b e = omega (arith, ints, e)

one_named : (number word : List ℕ) (u w : Unit) → IsUnitOf number word u → IsUnitOf number word w → u ≡ w
one_named number word u w is other =
    let value = one_decimal number is.value other.value is.reads other.reads in
    unit_same u w (pos_same u.mantissa w.mantissa (is.mantissa ∙ value.0 ∙ sym other.mantissa))
    (is.exponent ∙ ap (λ x. x +ℤ is.power) value.1 ∙ ap (λ x. other.value.exponent +ℤ x) (some_same _ is.power other.power is.known other.known) ∙ sym other.exponent)

pub one_load : (library : Group) (u w : Unit) → IsLoadUnit library u → IsLoadUnit library w → u ≡ w
unfolding first_of_two second_of_two
one_load library u w is other =
    let same : (other.number ∷ other.word ∷ []) ≡ (is.number ∷ is.word ∷ []) = some_is (other.number ∷ other.word ∷ []) (is.number ∷ is.word ∷ []) (sym other.values ∙ is.values) in
    one_named is.number is.word u w is.named (subst (λ (l : List (List ℕ)). IsUnitOf (first_of_two l) (second_of_two l) w) same other.named)

pub one_pair : (library : Group) (u w : LibraryUnits) → AreUnits library u → AreUnits library w → u ≡ w
one_pair library u w are other =
    ap (λ (t : Unit). let v : LibraryUnits = record { time = t; load = u.load } in v) (one_time library u.time w.time are.time other.time)
    ∙ ap (λ (l : Unit). let v : LibraryUnits = record { time = w.time; load = l } in v) (one_load library u.load w.load are.load other.load)
