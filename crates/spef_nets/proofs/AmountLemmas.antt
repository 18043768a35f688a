-- The sign of a rounded reading, and what the reading of a member says.
use Rattle.std.proofs.Common.{◌≡◌, ◌↔◌, ℕ, true, false, true≢false, List, ℤ, pos, ◌≤ℤ◌, Result, Ok, Err, IfOk, IfErr, sym, ◌∙◌, refl, arith, subst}
use Rattle.std.proofs.lemmas.Int.{ints}
use Rattle.corner_set.specs.declared.pick.Pick.{Pick}
use Rattle.corner_set.specs.declared.pick.Pick.TheVariants.{Min, Typ, Max}
use Rattle.delay_units.specs.Reading.{ReadsAs}
use Rattle.delay_units.specs.Amounts.{IsAmountOf, unread as no_number, below as below_zero, within, past}
use Rattle.delay_units.specs.declared.amounts.Amount.{Amount}
use Rattle.delay_units.specs.declared.amounts.Amount.TheVariants.{Unread, Below, Within, Past}
use Rattle.delay_units.specs.declared.numbers.Unit.{Unit}
use Rattle.delay_units.proofs.ReadingLemmas.{one_text_reading}
use Rattle.spef_nets.specs.Values.{Triple, single, picked, IsAmount, IsBad, unread, below, IsAmountFault, IsReadAs, is_bad, HasBad, IsTripleFault, IsAnswerOf, AreGrains, grains_at}
use Rattle.spef_nets.specs.declared.amounts.Grains.{Grains}
use Rattle.spef_nets.specs.declared.amounts.AmountFault.{AmountFault}
use Rattle.spef_nets.specs.declared.amounts.AmountFault.TheVariants.{BadNumber, ValueTooLarge}

-- ---- what an amount is of a member

pub good : (unit : Unit) (most : ℕ) (text : List ℕ) (grains : ℕ) → IsAmountOf unit most text (Within grains) → IsAmount unit most text grains
good unit most text grains (within reads few) = record { reads = reads; within = few }

pub bad_unread : (unit : Unit) (most : ℕ) (text : List ℕ) → IsAmountOf unit most text Unread → IsBad unit text
bad_unread unit most text (no_number none) = unread none

pub bad_below : (unit : Unit) (most : ℕ) (text : List ℕ) → IsAmountOf unit most text Below → IsBad unit text
bad_below unit most text (below_zero {v} reads low) = below v reads low

pub large : (unit : Unit) (most : ℕ) (text : List ℕ) → IsAmountOf unit most text Past → IsAmountFault unit most text ValueTooLarge
large unit most text (past {v} reads far) = record { grains = v; reads = reads; past = far }

-- what reads from 0 on is not bad
not_bad : (unit : Unit) (text : List ℕ) (v : ℤ) → pos 0 ≤ℤ v → ReadsAs unit text v → IsBad unit text → ⊥
not_bad unit text v natural reads (unread none) = none reads.number reads.reads
not_bad unit text v natural reads (below w other low) =
    let same = one_text_reading unit text v w reads other in
    omega (arith, ints, natural, low, same)

pub bad_exactly : (unit : Unit) (most : ℕ) (text : List ℕ) (r : Result ℕ AmountFault) → IfOk r (IsAmount unit most text) → IfErr r (IsAmountFault unit most text) → (is_bad r ≡ true) ↔ IsBad unit text
bad_exactly unit most text (Err BadNumber) ok err = (λ e. err, λ bad. refl)
bad_exactly unit most text (Err ValueTooLarge) ok err =
    let p = err.past in
    (λ e. absurd (true≢false (sym e)), λ bad. absurd (not_bad unit text err.grains (omega (arith, ints, p)) err.reads bad))
bad_exactly unit most text (Ok grains) ok err = (λ e. absurd (true≢false (sym e)), λ bad. absurd (not_bad unit text (pos grains) (omega (arith, ints)) ok.reads bad))

pub none_bad : (unit : Unit) (most : ℕ) (triple : Triple) (a b c : Result ℕ AmountFault)
    → IfOk a (IsAmount unit most triple.min) → IfErr a (IsAmountFault unit most triple.min)
    → IfOk b (IsAmount unit most triple.typ) → IfErr b (IsAmountFault unit most triple.typ)
    → IfOk c (IsAmount unit most triple.max) → IfErr c (IsAmountFault unit most triple.max)
    → is_bad a ≡ false → is_bad b ≡ false → is_bad c ≡ false → HasBad unit triple → ⊥
none_bad unit most triple a b c oa ea ob eb oc ec na nb nc (Min, bad) = true≢false (sym ((bad_exactly unit most triple.min a oa ea).1 bad) ∙ na)
none_bad unit most triple a b c oa ea ob eb oc ec na nb nc (Typ, bad) = true≢false (sym ((bad_exactly unit most triple.typ b ob eb).1 bad) ∙ nb)
none_bad unit most triple a b c oa ea ob eb oc ec na nb nc (Max, bad) = true≢false (sym ((bad_exactly unit most triple.max c oc ec).1 bad) ∙ nc)

-- where no member is bad, one that is refused is past the bound
pub large_among : (unit : Unit) (most : ℕ) (triple : Triple) (pick : Pick) (r : Result ℕ AmountFault) (fault : AmountFault) → (HasBad unit triple → ⊥)
    → r ≡ Err fault → IfErr r (IsAmountFault unit most (picked pick triple)) → IsTripleFault unit most triple ValueTooLarge
large_among unit most triple pick r fault none e err = by fault (subst (λ (x : Result ℕ AmountFault). IfErr x (IsAmountFault unit most (picked pick triple))) e err)
  where
    by : (fault : AmountFault) → IsAmountFault unit most (picked pick triple) fault → IsTripleFault unit most triple ValueTooLarge
    by BadNumber is = absurd (none (pick, is))
    by ValueTooLarge is = (none, (pick, is))

-- one number stands for all three members
pub single_fault : (unit : Unit) (most : ℕ) (text : List ℕ) (fault : AmountFault) → IsAmountFault unit most text fault → IsTripleFault unit most (single text) fault
single_fault unit most text BadNumber is = (Min, is)
single_fault unit most text ValueTooLarge is =
    let p = is.past in
    (λ (pick, bad). not_bad unit text is.grains (omega (arith, ints, p)) is.reads (each pick bad), (Min, is))
  where
    each : (pick : Pick) → IsBad unit (picked pick (single text)) → IsBad unit text
    each Min bad = bad
    each Typ bad = bad
    each Max bad = bad

-- three readings, none of them bad, and one of them refused
pub past_among : (unit : Unit) (most : ℕ) (triple whole : Triple) (pick : Pick) (a b c r : Result ℕ AmountFault) (fault : AmountFault) → triple ≡ whole
    → IfOk a (IsAmount unit most triple.min) × IfErr a (IsAmountFault unit most triple.min)
    → IfOk b (IsAmount unit most triple.typ) × IfErr b (IsAmountFault unit most triple.typ)
    → IfOk c (IsAmount unit most triple.max) × IfErr c (IsAmountFault unit most triple.max)
    → is_bad a ≡ false → is_bad b ≡ false → is_bad c ≡ false
    → r ≡ Err fault → IfErr r (IsAmountFault unit most (picked pick triple)) → IsTripleFault unit most whole ValueTooLarge
past_among unit most triple whole pick a b c r fault view first second third na nb nc refused err =
    subst (λ (t : Triple). IsTripleFault unit most t ValueTooLarge) view
    (large_among unit most triple pick r fault (none_bad unit most triple a b c first.0 first.1 second.0 second.1 third.0 third.1 na nb nc) refused err)

-- ---- the answer of three readings

pub bad_among : (unit : Unit) (most : ℕ) (triple : Triple) (pick : Pick) (r : Result ℕ AmountFault) → is_bad r ≡ true → IsReadAs unit most (picked pick triple) r → IsAnswerOf unit most triple (Err BadNumber)
bad_among unit most triple pick r e is = (tt, (pick, (bad_exactly unit most (picked pick triple) r is.0 is.1).0 e))

pub good_among : (unit : Unit) (most : ℕ) (triple : Triple) (a b c : Result ℕ AmountFault) (min typ max : ℕ) → a ≡ Ok min → b ≡ Ok typ → c ≡ Ok max → IsReadAs unit most triple.min a → IsReadAs unit most triple.typ b → IsReadAs unit most triple.max c
    → IsAnswerOf unit most triple (Ok (record { min = min; typ = typ; max = max }))
good_among unit most triple a b c min typ max ea eb ec first second third =
    (record { min = good_of triple.min a min ea first; typ = good_of triple.typ b typ eb second; max = good_of triple.max c max ec third }, tt)
  where
    good_of : (text : List ℕ) (r : Result ℕ AmountFault) (grains : ℕ) → r ≡ Ok grains → IsReadAs unit most text r → IsAmount unit most text grains
    good_of text r grains e is = subst (λ (x : Result ℕ AmountFault). IfOk x (IsAmount unit most text)) e is.0

-- what an amount of a member is read as

pub read_unread : (unit : Unit) (most : ℕ) (text : List ℕ) (amount : Amount) → amount ≡ Unread → IsAmountOf unit most text amount → IsReadAs unit most text (Err BadNumber)
read_unread unit most text amount e is = (tt, bad_unread unit most text (subst (λ (x : Amount). IsAmountOf unit most text x) e is))

pub read_below : (unit : Unit) (most : ℕ) (text : List ℕ) (amount : Amount) → amount ≡ Below → IsAmountOf unit most text amount → IsReadAs unit most text (Err BadNumber)
read_below unit most text amount e is = (tt, bad_below unit most text (subst (λ (x : Amount). IsAmountOf unit most text x) e is))

pub read_within : (unit : Unit) (most : ℕ) (text : List ℕ) (amount : Amount) (grains : ℕ) → amount ≡ Within grains → IsAmountOf unit most text amount → IsReadAs unit most text (Ok grains)
read_within unit most text amount grains e is = (good unit most text grains (subst (λ (x : Amount). IsAmountOf unit most text x) e is), tt)

pub read_past : (unit : Unit) (most : ℕ) (text : List ℕ) (amount : Amount) → amount ≡ Past → IsAmountOf unit most text amount → IsReadAs unit most text (Err ValueTooLarge)
read_past unit most text amount e is = (tt, large unit most text (subst (λ (x : Amount). IsAmountOf unit most text x) e is))

pub alone_good : (unit : Unit) (most : ℕ) (text : List ℕ) (r : Result ℕ AmountFault) (grains : ℕ) → r ≡ Ok grains → IsReadAs unit most text r → IsAnswerOf unit most (single text) (Ok (record { min = grains; typ = grains; max = grains }))
alone_good unit most text r grains e is = good_among unit most (single text) r r r grains grains grains e e e is is is

pub alone_bad : (unit : Unit) (most : ℕ) (text : List ℕ) (r : Result ℕ AmountFault) (fault : AmountFault) → r ≡ Err fault → IsReadAs unit most text r → IsAnswerOf unit most (single text) (Err fault)
alone_bad unit most text r fault e is = (tt, single_fault unit most text fault (subst (λ (x : Result ℕ AmountFault). IfErr x (IsAmountFault unit most text)) e is.1))

-- ---- a value that is read has no fault

pub picked_amount : (unit : Unit) (most : ℕ) (triple : Triple) (pick : Pick) (grains : Grains) → AreGrains unit most triple grains → IsAmount unit most (picked pick triple) (grains_at pick grains)
picked_amount unit most triple Min grains are = are.min
picked_amount unit most triple Typ grains are = are.typ
picked_amount unit most triple Max grains are = are.max

pub no_value_fault : (unit : Unit) (most : ℕ) (triple : Triple) (grains : Grains) (fault : AmountFault) → AreGrains unit most triple grains → IsTripleFault unit most triple fault → ⊥
no_value_fault unit most triple grains BadNumber are (pick, bad) =
    not_bad unit (picked pick triple) (pos (grains_at pick grains)) (omega (arith, ints)) (picked_amount unit most triple pick grains are).reads bad
no_value_fault unit most triple grains ValueTooLarge are (none, (pick, large)) =
    let is = picked_amount unit most triple pick grains are in
    let same = one_text_reading unit (picked pick triple) (pos (grains_at pick grains)) large.grains is.reads large.reads in
    let within = is.within in
    let past = large.past in
    omega (arith, ints, same, within, past)
