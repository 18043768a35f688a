-- The capacitance that one text gives, and the larger of two.
use Rattle.std.proofs.Common.{◌≡◌, ◌⊎◌, inl, inr, ℕ, ◌<◌, ◌≤◌, max, List, [], ◌∷◌, IfSome, IfNone, ℤ, pos, ◌≤ℤ◌, refl, arith, subst}
use Rattle.std.proofs.lemmas.Int.{ints}
use Rattle.std.proofs.lemmas.Bool.{cases_lt}
use Rattle.delay_units.specs.Reading.{ReadsAs}
use Rattle.delay_units.specs.Amounts.{IsAmountOf, unread, below, within, past}
use Rattle.delay_units.specs.declared.amounts.Amount.{Amount}
use Rattle.delay_units.specs.declared.amounts.Amount.TheVariants.{Unread, Below, Within, Past}
use Rattle.delay_units.specs.declared.numbers.Unit.{Unit}
use Rattle.delay_units.proofs.ReadingLemmas.{one_text_reading}
use Rattle.nldm_lookup.specs.Axes.{most}
use Rattle.timing_arcs.specs.PinModel.{IsLargest, no_text, one_text, first_text, second_text, IsCapacitance}
use Rattle.timing_arcs.specs.Sizes.{larger_size, grains_within}

-- ---- one text

pub sole_some : (unit : Unit) (text : List ℕ) (size : Amount) → IsAmountOf unit most text size → IfSome (grains_within size) (IsCapacitance unit (text ∷ []))
sole_some unit text Unread is = search
sole_some unit text Below is = search
sole_some unit text (Within grains) (within reads few) = record { largest = one_text reads; within = few }
sole_some unit text Past is = search

sole_reads : (unit : Unit) (text : List ℕ) (grains : ℕ) → IsCapacitance unit (text ∷ []) grains → ReadsAs unit text (pos grains)
sole_reads unit text grains is = of_largest (pos grains) is.largest
  where
    of_largest : (v : ℤ) → IsLargest unit (text ∷ []) v → ReadsAs unit text v
    of_largest v (one_text reads) = reads

pub sole_none : (unit : Unit) (text : List ℕ) (size : Amount) → IsAmountOf unit most text size → IfNone (grains_within size) ((grains : ℕ) → ¬ IsCapacitance unit (text ∷ []) grains)
sole_none unit text Unread (unread none) = λ grains is. let r = sole_reads unit text grains is in none r.number r.reads
sole_none unit text Below (below {v} reads low) = λ grains is. let same = one_text_reading unit text v (pos grains) reads (sole_reads unit text grains is) in omega (arith, ints, same, low)
sole_none unit text (Within grains) is = search
sole_none unit text Past (past {v} reads far) = λ grains is. let same = one_text_reading unit text v (pos grains) reads (sole_reads unit text grains is) in let few = is.within in omega (arith, ints, same, far, few)

-- ---- two texts

-- what both read as where they give a capacitance
record BothRead (unit : Unit) (text other : List ℕ) (grains : ℕ) : Type 0 where
  v : ℤ
  w : ℤ
  one : ReadsAs unit text v
  two : ReadsAs unit other w
  v_within : v ≤ℤ pos grains
  w_within : w ≤ℤ pos grains
  either : (v ≡ pos grains) ⊎ (w ≡ pos grains)
  few : grains ≤ most

both_read : (unit : Unit) (text other : List ℕ) (grains : ℕ) → IsCapacitance unit (text ∷ other ∷ []) grains → BothRead unit text other grains
both_read unit text other grains is = of_largest (pos grains) refl is.largest
  where
    of_largest : (x : ℤ) → x ≡ pos grains → IsLargest unit (text ∷ other ∷ []) x → BothRead unit text other grains
    of_largest x e (first_text {v = v} {w = w} one two low) = record { v = x; w = w; one = one; two = two; v_within = omega (arith, ints, e); w_within = omega (arith, ints, e, low); either = inl e; few = is.within }
    of_largest x e (second_text {v = v} {w = w} one two low) = record { v = v; w = x; one = one; two = two; v_within = omega (arith, ints, e, low); w_within = omega (arith, ints, e); either = inr e; few = is.within }

pub two_some : (unit : Unit) (text other : List ℕ) (one two : Amount) → IsAmountOf unit most text one → IsAmountOf unit most other two → IfSome (grains_within (larger_size one two)) (IsCapacitance unit (text ∷ other ∷ []))
two_some unit text other Unread two is also = search
two_some unit text other Below Unread is also = search
two_some unit text other Below Below is also = search
two_some unit text other Below (Within grains) (below reads low) (within others few) = record { largest = second_text reads others (omega (arith, ints, low)); within = few }
two_some unit text other Below Past is also = search
two_some unit text other (Within grains) Unread is also = search
two_some unit text other (Within grains) Below (within reads few) (below others low) = record { largest = first_text reads others (omega (arith, ints, low)); within = few }
two_some unit text other (Within a) (Within b) (within reads few) (within others few') = by_order (cases_lt a b)
  where
    by_order : (a < b) ⊎ (b ≤ a) → IsCapacitance unit (text ∷ other ∷ []) (max a b)
    by_order (inl le) = subst (IsCapacitance unit (text ∷ other ∷ [])) (let e : b ≡ max a b = omega (arith, le) in e) (record { largest = second_text reads others (omega (arith, ints, le)); within = few' })
    by_order (inr le) = subst (IsCapacitance unit (text ∷ other ∷ [])) (let e : a ≡ max a b = omega (arith, le) in e) (record { largest = first_text reads others (omega (arith, ints, le)); within = few })
two_some unit text other (Within grains) Past is also = search
two_some unit text other Past Unread is also = search
two_some unit text other Past Below is also = search
two_some unit text other Past (Within grains) is also = search
two_some unit text other Past Past is also = search

-- a text that is not read, or reads past the bound, gives nothing beside another
first_unread : (unit : Unit) (text other : List ℕ) → IsAmountOf unit most text Unread → (grains : ℕ) → IsCapacitance unit (text ∷ other ∷ []) grains → ⊥
first_unread unit text other (unread none) grains is = let b = both_read unit text other grains is in let r = b.one in none r.number r.reads

second_unread : (unit : Unit) (text other : List ℕ) → IsAmountOf unit most other Unread → (grains : ℕ) → IsCapacitance unit (text ∷ other ∷ []) grains → ⊥
second_unread unit text other (unread none) grains is = let b = both_read unit text other grains is in let r = b.two in none r.number r.reads

first_past : (unit : Unit) (text other : List ℕ) → IsAmountOf unit most text Past → (grains : ℕ) → IsCapacitance unit (text ∷ other ∷ []) grains → ⊥
first_past unit text other (past {v} reads far) grains is =
    let b = both_read unit text other grains is in
    let same = one_text_reading unit text v b.v reads b.one in
    let low = b.v_within in
    let few = b.few in
    omega (arith, ints, same, far, low, few)

second_past : (unit : Unit) (text other : List ℕ) → IsAmountOf unit most other Past → (grains : ℕ) → IsCapacitance unit (text ∷ other ∷ []) grains → ⊥
second_past unit text other (past {v} reads far) grains is =
    let b = both_read unit text other grains is in
    let same = one_text_reading unit other v b.w reads b.two in
    let low = b.w_within in
    let few = b.few in
    omega (arith, ints, same, far, low, few)

both_below : (unit : Unit) (text other : List ℕ) → IsAmountOf unit most text Below → IsAmountOf unit most other Below → (grains : ℕ) → IsCapacitance unit (text ∷ other ∷ []) grains → ⊥
both_below unit text other (below {v} reads low) (below {v = w} others low') grains is = of_either b.either
  where
    b : BothRead unit text other grains
    b = both_read unit text other grains is

    of_either : (b.v ≡ pos grains) ⊎ (b.w ≡ pos grains) → ⊥
    of_either (inl e) = let same = one_text_reading unit text v b.v reads b.one in omega (arith, ints, same, e, low)
    of_either (inr e) = let same = one_text_reading unit other w b.w others b.two in omega (arith, ints, same, e, low')

pub two_none : (unit : Unit) (text other : List ℕ) (one two : Amount) → IsAmountOf unit most text one → IsAmountOf unit most other two → IfNone (grains_within (larger_size one two)) ((grains : ℕ) → ¬ IsCapacitance unit (text ∷ other ∷ []) grains)
two_none unit text other Unread two is also = first_unread unit text other is
two_none unit text other Below Unread is also = second_unread unit text other also
two_none unit text other Below Below is also = both_below unit text other is also
two_none unit text other Below (Within grains) is also = search
two_none unit text other Below Past is also = second_past unit text other also
two_none unit text other (Within grains) Unread is also = second_unread unit text other also
two_none unit text other (Within grains) Below is also = search
two_none unit text other (Within a) (Within b) is also = search
two_none unit text other (Within grains) Past is also = second_past unit text other also
two_none unit text other Past Unread is also = second_unread unit text other also
two_none unit text other Past Below is also = first_past unit text other is
two_none unit text other Past (Within grains) is also = first_past unit text other is
two_none unit text other Past Past is also = first_past unit text other is

-- no text
pub nothing_given : (unit : Unit) → IsCapacitance unit [] 0
nothing_given unit = record { largest = no_text; within = omega arith }
