-- What filling a corner of a grid keeps, as far as it has come.
use Rattle.std.proofs.Common.{◌≡◌, ◌≢◌, ℕ, ◌+◌, ◌*◌, ◌<◌, ◌≤◌, List, length, slice_index, slice_set, Some, length-set, get_or-set_same, get_or-set_other, refl, sym, ◌∙◌, ap, subst, arith, add-mul, one-mul, zero-mul, mul-le-mul_right, inl, inr}
use Rattle.std.proofs.lemmas.Bool.{cases_eq}
use Rattle.std.proofs.lemmas.Nat.{same_from_place}
use Rattle.corner_set.specs.Places.{place, HasRow, value_at}
use Rattle.delay_units.specs.declared.quantities.Farads.{Farads}
use Rattle.delay_units.specs.declared.quantities.Ohms.{Ohms}
use Rattle.spef_nets.specs.NetElements.{NetElements as SectionElements}
use Rattle.delay_units.specs.Bounds.{most_farads, most_ohms}
use Rattle.rc_tree.specs.Values.{farads_at, ohms_at}
use Rattle.rc_tree.specs.Sums.{sum_below, one}
use Rattle.rc_tree.specs.Filling.{KeepsOhms, KeepsFarads}
use Rattle.rc_tree.proofs.Sums.{sum_more, one-is, one-other}
use Rattle.rc_tree.proofs.ArenaNets.{ohms_read}

le_times : (a b c : ℕ) → a ≤ b → a * c ≤ b * c
le_times a b c le = mul-le-mul_right c le

in_row : (count size row number : ℕ) → row * count + count ≤ size → number < count → place count row number < size
in_row count size row number has below = omega (arith, has, below)

-- the values after one is set
ohms_same : (count : ℕ) (values : List Ohms) (row number : ℕ) (x : Ohms) → place count row number < length values → ohms_at count (slice_set values (place count row number) x) row number ≡ x.0
ohms_same count values row number x within = ap (λ v. v.0) (get_or-set_same values (place count row number) x (record { 0 = 0 }) within)

ohms_other : (count : ℕ) (values : List Ohms) (row number : ℕ) (x : Ohms) (i k : ℕ) → number < count → k < count → (i ≡ row → k ≡ number → ⊥) → ohms_at count (slice_set values (place count row number) x) i k ≡ ohms_at count values i k
ohms_other count values row number x i k within k_within apart = ap (λ v. v.0) (get_or-set_other values (place count row number) (place count i k) x (record { 0 = 0 }) (λ e. let same = same_from_place i k row number count k_within within e in apart same.0 same.1))

farads_same : (count : ℕ) (values : List Farads) (row number : ℕ) (x : Farads) → place count row number < length values → farads_at count (slice_set values (place count row number) x) row number ≡ x.0
farads_same count values row number x within = ap (λ v. v.0) (get_or-set_same values (place count row number) x (record { 0 = 0 }) within)

farads_other : (count : ℕ) (values : List Farads) (row number : ℕ) (x : Farads) (i k : ℕ) → number < count → k < count → (i ≡ row → k ≡ number → ⊥) → farads_at count (slice_set values (place count row number) x) i k ≡ farads_at count values i k
farads_other count values row number x i k within k_within apart = ap (λ v. v.0) (get_or-set_other values (place count row number) (place count i k) x (record { 0 = 0 }) (λ e. let same = same_from_place i k row number count k_within within e in apart same.0 same.1))

-- the links of the nodes after the first, up to one
pub record Ohming (count : ℕ) (section : SectionElements) (vias : List ℕ) (number : ℕ) (before values : List Ohms) (node : ℕ) : Type 0 where
  pub root : ohms_at count values 0 number ≡ ohms_at count before 0 number
  pub links : (j : ℕ) → 0 < j → j < node → ohms_at count values j number ≡ ohms_at count section.ohms (slice_index vias j) number
  pub small : (j : ℕ) → 0 < j → j < node → ohms_at count values j number ≤ most_ohms
  pub others : KeepsOhms count before values number

pub ohming_start : (count : ℕ) (section : SectionElements) (vias : List ℕ) (number : ℕ) (before : List Ohms) → Ohming count section vias number before before 1
ohming_start count section vias number before = record {
  root = refl;
  links = λ j some below. absurd (omega (arith, some, below));
  small = λ j some below. absurd (omega (arith, some, below));
  others = record { size = refl; others = λ row other below ne. refl };
}

pub ohming_step : (count : ℕ) (section : SectionElements) (vias : List ℕ) (number : ℕ) (before values after : List Ohms) (node : ℕ) (x : Ohms) → number < count → length vias * count ≤ length before → 0 < node → node < length vias
    → value_at count section.ohms (slice_index vias node) number ≡ Some x → x.0 ≤ most_ohms → after ≡ slice_set values (place count node number) x → Ohming count section vias number before values node → Ohming count section vias number before after (node + 1)
ohming_step count section vias number before values after node x within room some below at small is state =
    subst (λ l. Ohming count section vias number before l (node + 1)) (sym is) (record {
      root = ohms_other count values node number x 0 number within within (λ z same. omega (arith, z, some)) ∙ state.root;
      links = λ j j_some j_below. elim (cases_eq j node) [
        | inl e ↦ here j e ∙ sym (ap (λ k. ohms_at count section.ohms (slice_index vias k) number) e ∙ ohms_read count section.ohms (slice_index vias node) number x at)
        | inr ne ↦ let ne' : j ≢ node = ne in ohms_other count values node number x j number within within (λ e same. ne e) ∙ state.links j j_some (omega (arith, ne', j_below))
      ];
      small = λ j j_some j_below. elim (cases_eq j node) [
        | inl e ↦ (let v = here j e in omega (arith, v, small))
        | inr ne ↦ (let ne' : j ≢ node = ne in let v = ohms_other count values node number x j number within within (λ e same. ne e) in let old = state.small j j_some (omega (arith, ne', j_below)) in omega (arith, v, old))
      ];
      others = record {
        size = length-set values (place count node number) x ∙ state.others.size;
        others = λ row other other_below ne. ohms_other count values node number x row other within other_below (λ e same. ne same) ∙ state.others.others row other other_below ne;
      };
    })
  where
    in_place : place count node number < length values
    in_place =
        let more : (node + 1) * count ≤ length vias * count = le_times (node + 1) (length vias) count (omega (arith, below)) in
        let is : (node + 1) * count ≡ node * count + count = add-mul node 1 count ∙ ap (λ s. node * count + s) (one-mul count) in
        let size = state.others.size in
        omega (arith, more, is, size, room, within)

    here : (j : ℕ) → j ≡ node → ohms_at count (slice_set values (place count node number) x) j number ≡ x.0
    here j e = ap (λ k. ohms_at count (slice_set values (place count node number) x) k number) e ∙ ohms_same count values node number x in_place

-- the capacitances that are added so far, on top of what was there
pub record Adding (count number : ℕ) (spot value : ℕ → ℕ) (before values : List Farads) (many : ℕ) : Type 0 where
  pub nodes : (row : ℕ) → HasRow count before row → farads_at count values row number ≡ farads_at count before row number + sum_below many (λ q. one (spot q) row * value q)
  pub small : (row : ℕ) → HasRow count before row → farads_at count values row number ≤ farads_at count before row number + many * most_farads
  pub each : (q : ℕ) → q < many → value q ≤ most_farads
  pub others : KeepsFarads count before values number

pub adding_start : (count number : ℕ) (spot value : ℕ → ℕ) (before : List Farads) → Adding count number spot value before before 0
adding_start count number spot value before = record {
  nodes = λ row has. omega arith;
  small = λ row has. omega arith;
  each = λ q below. absurd (omega arith);
  others = record { size = refl; others = λ row other below ne. refl };
}

pub adding_step : (count number : ℕ) (spot value : ℕ → ℕ) (before values after : List Farads) (many row x : ℕ) → number < count → HasRow count before row → row ≡ spot many → x ≡ value many → x ≤ most_farads
    → after ≡ slice_set values (place count row number) (record { 0 = farads_at count values row number + x }) → Adding count number spot value before values many → Adding count number spot value before after (many + 1)
adding_step count number spot value before values after many row x within has spot_is value_is small is state =
    subst (λ l. Adding count number spot value before l (many + 1)) (sym is) (record {
      nodes = λ i i_has. elim (cases_eq i row) [
        | inl e ↦
            (let now = here i e in
            let old = state.nodes i i_has in
            let held = ap (λ k. farads_at count values k number) e in
            let more = sum_more many (λ q. one (spot q) i * value q) in
            let last : one (spot many) i * value many ≡ x = ap (λ o. o * value many) (one-is (spot many) i (sym spot_is ∙ sym e)) ∙ one-mul (value many) ∙ sym value_is in
            omega (arith, now, old, held, more, last))
        | inr ne ↦
            (let now = farads_other count values row number (record { 0 = farads_at count values row number + x }) i number within within (λ e same. ne e) in
            let old = state.nodes i i_has in
            let more = sum_more many (λ q. one (spot q) i * value q) in
            let last : one (spot many) i * value many ≡ 0 = ap (λ o. o * value many) (one-other (spot many) i (λ at. ne (sym at ∙ sym spot_is))) ∙ zero-mul (value many) in
            omega (arith, now, old, more, last))
      ];
      small = λ i i_has. elim (cases_eq i row) [
        | inl e ↦
            (let now = here i e in
            let old = state.small i i_has in
            let held = ap (λ k. farads_at count values k number) e in
            omega (arith, now, old, held, small))
        | inr ne ↦
            (let now = farads_other count values row number (record { 0 = farads_at count values row number + x }) i number within within (λ e same. ne e) in
            let old = state.small i i_has in
            omega (arith, now, old))
      ];
      each = λ q below. elim (cases_eq q many) [
        | inl e ↦ (let same = ap value e in omega (arith, same, value_is, small))
        | inr ne ↦ (let ne' : q ≢ many = ne in state.each q (omega (arith, ne', below)))
      ];
      others = record {
        size = length-set values (place count row number) (record { 0 = farads_at count values row number + x }) ∙ state.others.size;
        others = λ i other other_below ne. farads_other count values row number (record { 0 = farads_at count values row number + x }) i other within other_below (λ e same. ne same) ∙ state.others.others i other other_below ne;
      };
    })
  where
    here : (i : ℕ) → i ≡ row → farads_at count (slice_set values (place count row number) (record { 0 = farads_at count values row number + x })) i number ≡ farads_at count values row number + x
    here i e = ap (λ k. farads_at count (slice_set values (place count row number) (record { 0 = farads_at count values row number + x })) k number) e
        ∙ farads_same count values row number (record { 0 = farads_at count values row number + x }) (let size = state.others.size in omega (arith, has, size, within))
