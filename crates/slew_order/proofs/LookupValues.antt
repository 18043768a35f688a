-- The function is what a lookup answers, and nothing else is.
use Rattle.std.proofs.Common.{◌≡◌, ℕ, ◌≤◌, Bool, true, false, ◌&&◌, nat_lt, nat_le, sym, refl, ap, subst, Option, None, Result, ℤ, pos, ◌+ℤ◌, ◌*ℤ◌, ◌≤ℤ◌, unsigned_abs, inl, inr, arith}
use Rattle.std.proofs.lemmas.Int.{ints}
use Rattle.std.proofs.lemmas.Bool.{cond_both, and_parts, and_cases, leb-true, leb-false, ltb-true, ltb-false, false≢true}
use Rattle.delay_units.specs.Rounding.{IsRounding}
use Rattle.delay_units.proofs.RoundingLemmas.{division, rest_in_range, rounding_from}
use Rattle.nldm_lookup.specs.Axes.{most}
use Rattle.nldm_lookup.specs.Betweens.{Between, IsPassed, width}
use Rattle.nldm_lookup.specs.Tables.{TimingTable, IsTable}
use Rattle.nldm_lookup.specs.Interpolant.{weighed, attos_in, most_in, far, slew_outside, load_outside, far_load, IsLookup}
use Rattle.corner_set.specs.declared.choices.Beyond.{Beyond}
use Rattle.corner_set.specs.declared.choices.Beyond.TheVariants.{Refuse, Edge, Extend}
use Rattle.nldm_lookup.specs.declared.faults.LookupEnd.{LookupEnd}
use Rattle.nldm_lookup.specs.declared.grain.Grain.{Grain}
use Rattle.nldm_lookup.proofs.Answering.{found, past_time, only_answer}
use Rattle.nldm_lookup.proofs.Ends.{some_width}
use Rattle.nldm_lookup.proofs.OneValue.{some_attos}
use Rattle.nldm_lookup.proofs.Scaling.{scale_sum, product_some}
use Rattle.nldm_lookup.proofs.Sizes.{weighed_small}
use Rattle.slew_order.specs.Lookups.{half_up, HalfUp, is_passed, between_on, quotient_of, value_of, axis_end, answer_of, lookup_of, LookupFunction}
use Rattle.slew_order.proofs.BetweenPoints.{passed_where_true, within_where_false, between_is}

-- answers past an axis are told apart
abbrev is_refuse : Beyond → Bool
is_refuse Refuse = true
is_refuse _ = false

abbrev is_extend : Beyond → Bool
is_extend Extend = true
is_extend _ = false

-- a half more, rounded down, is rounded half up: 2n + d is v times 2d, and a rest that is less than 2d
pub half_up_rounds : (n d : ℤ) → pos 1 ≤ℤ d → IsRounding n d (half_up n d)
half_up_rounds n d some =
    let both : pos 1 ≤ℤ (d +ℤ d) = omega (arith, ints, some) in
    let whole = division ((n +ℤ n) +ℤ d) (d +ℤ d) both in
    let rest = rest_in_range ((n +ℤ n) +ℤ d) (d +ℤ d) both in
    let twice = scale_sum (half_up n d) d d in
    rounding_from n d (half_up n d) (half_up n d *ℤ d) refl (omega (arith, ints, whole, rest.0, rest.1, twice)) (omega (arith, ints, whole, rest.0, rest.1, twice))

pub half_up_is : HalfUp
half_up_is n d some = half_up_rounds n d (omega (arith, ints, some))

module _ (table : TimingTable) (slew load : ℕ) (grain : Grain) where
  quotient_rounds : (on_slew on_load : Between) → pos 1 ≤ℤ width on_slew → pos 1 ≤ℤ width on_load
      → IsRounding (weighed table on_slew on_load) ((width on_slew *ℤ width on_load) *ℤ pos (attos_in grain)) (quotient_of table grain on_slew on_load)
  quotient_rounds on_slew on_load one other =
      half_up_rounds _ _ (product_some _ _ (product_some (width on_slew) (width on_load) one other) (some_attos grain))

  -- where no axis refuses, the value is the answer
  value_is : (beyond : Beyond) → IsTable table → (beyond ≡ Refuse → ¬ IsPassed table.slew slew) → (beyond ≡ Refuse → ¬ IsPassed table.load load)
      → (beyond ≡ Extend → IsPassed table.load load → load ≤ most) → IsLookup table slew load grain beyond (answer_of None grain (value_of table slew load grain beyond))
  value_is beyond whole slew_within load_within near =
      let on_slew = between_on table.slew slew beyond in
      let on_load = between_on table.load load beyond in
      let a = between_is table.slew slew beyond whole.slew slew_within in
      let b = between_is table.load load beyond whole.load load_within in
      let rounded = quotient_of table grain on_slew on_load in
      let rounds = quotient_rounds on_slew on_load (some_width table.slew slew beyond on_slew whole.slew a) (some_width table.load load beyond on_load whole.load b) in
      let value = value_of table slew load grain beyond in
      cond_both (nat_le (unsigned_abs value) (most_in grain)) _ _ (λ answer. IsLookup table slew load grain beyond answer)
      (λ is. found table slew load grain beyond on_slew on_load rounded value a b near rounds refl (leb-true (unsigned_abs value) (most_in grain) is))
      (λ is. past_time table slew load grain beyond on_slew on_load rounded whole a b (weighed_small table on_slew on_load whole) rounds
      (leb-false (unsigned_abs value) (most_in grain) is))

  near_where_false : (is_passed table.load load && nat_lt most load) ≡ false → IsPassed table.load load → load ≤ most
  near_where_false is passed = elim (and_cases (is_passed table.load load) (nat_lt most load) is) [
    | inl within ↦ absurd (within_where_false table.load load within passed)
    | inr small ↦ ltb-false most load small
  ]

  abbrev Answers : Beyond → Option LookupEnd → Type 0
  Answers beyond end = IsLookup table slew load grain beyond (answer_of end grain (value_of table slew load grain beyond))

  refuses : IsTable table → Answers Refuse (axis_end table slew load Refuse)
  refuses whole =
      cond_both (is_passed table.slew slew) _ _ (Answers Refuse) (λ is. slew_outside (passed_where_true table.slew slew is))
      (λ slew_is. cond_both (is_passed table.load load) _ _ (Answers Refuse)
      (λ is. load_outside (within_where_false table.slew slew slew_is) (passed_where_true table.load load is))
      (λ load_is. value_is Refuse whole (λ _. within_where_false table.slew slew slew_is) (λ _. within_where_false table.load load load_is)
      (λ other. absurd (false≢true (ap is_extend other)))))

  extends : IsTable table → Answers Extend (axis_end table slew load Extend)
  extends whole =
      cond_both (is_passed table.load load && nat_lt most load) _ _ (Answers Extend)
      (λ is.
      let both = and_parts (is_passed table.load load) (nat_lt most load) is in
      far_load (far (passed_where_true table.load load both.0) (ltb-true most load both.1)))
      (λ is. value_is Extend whole (λ other. absurd (false≢true (ap is_refuse other))) (λ other. absurd (false≢true (ap is_refuse other))) (λ _. near_where_false is))

  answers : (beyond : Beyond) → IsTable table → Answers beyond (axis_end table slew load beyond)
  answers Refuse whole = refuses whole
  answers Edge whole = value_is Edge whole (λ other. absurd (false≢true (ap is_refuse other))) (λ other. absurd (false≢true (ap is_refuse other))) (λ other. absurd (false≢true (ap is_extend other)))
  answers Extend whole = extends whole

  -- the function is an answer
  pub value_answers : (beyond : Beyond) → IsTable table → IsLookup table slew load grain beyond (lookup_of table slew load grain beyond)
  unfolding lookup_of
  value_answers beyond whole = answers beyond whole

pub lookup_function : LookupFunction
lookup_function table slew load grain beyond answer whole =
    let is = value_answers table slew load grain beyond whole in (
      λ its. only_answer table slew load grain beyond (lookup_of table slew load grain beyond) whole is answer its,
      λ same. subst (λ other. IsLookup table slew load grain beyond other) (sym same) is,
    )

-- the same for a slew of a microsecond at most
pub lookup_is : (table : TimingTable) (slew load : ℕ) (grain : Grain) (beyond : Beyond) → IsTable table → slew ≤ most
    → IsLookup table slew load grain beyond (lookup_of table slew load grain beyond)
lookup_is table slew load grain beyond whole small = value_answers table slew load grain beyond whole

pub lookup_only : (table : TimingTable) (slew load : ℕ) (grain : Grain) (beyond : Beyond) → IsTable table → slew ≤ most
    → (answer : Result ℤ LookupEnd) → IsLookup table slew load grain beyond answer → answer ≡ lookup_of table slew load grain beyond
lookup_only table slew load grain beyond whole small answer its =
    (lookup_function table slew load grain beyond answer whole).0 its
