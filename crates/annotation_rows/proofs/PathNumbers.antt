-- The numbers of paths, by one arc more.
use Rattle.std.proofs.Common.{◌≡◌, ℕ, ◌+◌, ◌<◌, ◌==◌, Bool, true, false, not, if◌then◌else◌, ◌∙◌, ap, ap₂, sym, refl, subst, List, [], ◌∷◌, ◌++◌, length, length-append, Option, Some, None, inl, inr, arith}
use Rattle.std.specs.List.{slice_index_or}
use Rattle.std.specs.Option.{unwrap_or}
use Rattle.std.proofs.lemmas.Bool.{cases_lt, and_parts, and_from, eqb-true, eq-eqb}
use Rattle.std.proofs.lemmas.List.{get_or_append_left, get_or-append-add}
use Rattle.std.proofs.lemmas.List.Sums.{prefix_len_is}
use Rattle.cell_models.specs.declared.cell.Arc.{Arc}
use Rattle.slew_order.specs.FlatArcs.{no_arc}
use Rattle.annotation_rows.specs.declared.cell_paths.PinPair.{PinPair}
use Rattle.annotation_rows.specs.CellPaths.{arc_in, leads, path_of, pair_of, is_same, number_in, Numbers, HasNumbers}

some_is : {X : Type 0} (x y : X) → (let a : Option X = Some x in let b : Option X = Some y in a ≡ b) → x ≡ y
some_is x y e = cc

same_pair : (one other : PinPair) → is_same one other ≡ true → one ≡ other
same_pair one other is =
    let both = and_parts (one.from == other.from) (one.to == other.to) is in
    ap₂ (λ f t. let pair : PinPair = record { from = f; to = t } in pair) (eqb-true one.from other.from both.0) (eqb-true one.to other.to both.1)

-- an arc between two pins with no earlier one
pub record IsFirst (arcs : List Arc) (pins : PinPair) (many arc : ℕ) : Type 0 where
  pub below : arc < many
  pub here : leads pins.from pins.to (arc_in arcs arc) ≡ true
  pub earlier : (other : ℕ) → other < arc → leads pins.from pins.to (arc_in arcs other) ≡ false

module _ (arcs : List Arc) (k : ℕ) (old new : List (PinPair × ℕ)) (n : ℕ) (held : HasNumbers arcs k old) (numbers : Numbers old new (pair_of (arc_in arcs k)) k n) where
  abbrev own : PinPair
  own = pair_of (arc_in arcs k)

  first_is : IsFirst arcs own (k + 1) n
  first_is = by (number_in old own) refl
    where
      by : (found : Option ℕ) → number_in old own ≡ found → IsFirst arcs own (k + 1) n
      by (Some m) e =
          let is : m ≡ n = sym (numbers.is ∙ ap (λ (o : Option ℕ). unwrap_or o k) e) in
          let fact = held.found own m e in
          subst (IsFirst arcs own (k + 1)) is (record { below = omega (arith, fact.0); here = fact.1; earlier = fact.2 })
      by None e =
          let is : k ≡ n = sym (numbers.is ∙ ap (λ (o : Option ℕ). unwrap_or o k) e) in
          subst (IsFirst arcs own (k + 1)) is (record {
            below = omega arith;
            here = and_from _ _ (eq-eqb own.from own.from refl) (eq-eqb own.to own.to refl);
            earlier = λ other less. held.none own e other less;
          })

  pub number_is : k < length arcs → n ≡ path_of arcs k
  number_is within =
      let first = first_is in
      sym (prefix_len_is (λ other. not (leads own.from own.to other)) arcs n no_arc (omega (arith, within, first.below))
      (λ j less. ap not (first.earlier j less)) (λ there. ap not first.here))

  pub numbers_next : HasNumbers arcs (k + 1) new
  numbers_next = record { found = λ pins m is. found_in pins m is (is_same own pins) refl; none = λ pins is. none_in pins is (is_same own pins) refl }
    where
      found_in : (pins : PinPair) (m : ℕ) → number_in new pins ≡ Some m → (b : Bool) → is_same own pins ≡ b
          → (m < k + 1) × (leads pins.from pins.to (arc_in arcs m) ≡ true) × ((earlier : ℕ) → earlier < m → leads pins.from pins.to (arc_in arcs earlier) ≡ false)
      found_in pins m is true same =
          let its : n ≡ m = some_is n m (sym (numbers.all pins ∙ ap (λ b. if b then Some n else number_in old pins) same) ∙ is) in
          let first = subst (IsFirst arcs pins (k + 1)) its (subst (λ p. IsFirst arcs p (k + 1) n) (same_pair own pins same) first_is) in
          (first.below, first.here, first.earlier)
      found_in pins m is false other =
          let fact = held.found pins m (sym (numbers.all pins ∙ ap (λ b. if b then Some n else number_in old pins) other) ∙ is) in
          (omega (arith, fact.0), fact.1, fact.2)

      none_in : (pins : PinPair) → number_in new pins ≡ None → (b : Bool) → is_same own pins ≡ b
          → (arc : ℕ) → arc < k + 1 → leads pins.from pins.to (arc_in arcs arc) ≡ false
      none_in pins is true same =
          absurd (let its = sym (numbers.all pins ∙ ap (λ b. if b then Some n else number_in old pins) same) ∙ is in cc)
      none_in pins is false other = λ arc below. elim (cases_lt arc k) [
        | inl less ↦ held.none pins (sym (numbers.all pins ∙ ap (λ b. if b then Some n else number_in old pins) other) ∙ is) arc less
        | inr more ↦ (let at : k ≡ arc = omega (arith, below, more) in subst (λ a. leads pins.from pins.to (arc_in arcs a) ≡ false) at other)
      ]

pub no_numbers : (arcs : List Arc) → HasNumbers arcs 0 []
no_numbers arcs = record { found = λ pins number is. cc; none = λ pins is arc below. absurd (omega (arith, below)) }

-- a number more for each arc
pub record ArePathsTo (arcs : List Arc) (many : ℕ) (numbers : List ℕ) : Type 0 where
  pub len : length numbers ≡ many
  pub each : (arc : ℕ) → arc < many → slice_index_or numbers arc 0 ≡ path_of arcs arc

pub no_paths : (arcs : List Arc) → ArePathsTo arcs 0 []
no_paths arcs = record { len = refl; each = λ arc below. absurd (omega (arith, below)) }

pub paths_next : (arcs : List Arc) (many n : ℕ) (numbers after : List ℕ) → ArePathsTo arcs many numbers → after ≡ numbers ++ n ∷ [] → n ≡ path_of arcs many
    → ArePathsTo arcs (many + 1) after
paths_next arcs many n numbers after held is number = record {
  len = ap length is ∙ length-append numbers (n ∷ []) ∙ ap (λ k. k + 1) held.len;
  each = λ arc below. elim (cases_lt arc many) [
    | inl less ↦ ap (λ xs. slice_index_or xs arc 0) is ∙ get_or_append_left numbers (n ∷ []) 0 arc (omega (arith, less, held.len)) ∙ held.each arc less
    | inr more ↦ (
        let at : many ≡ arc = omega (arith, below, more) in
        let last : length numbers + 0 ≡ arc = omega (arith, held.len, at) in
        ap (λ xs. slice_index_or xs arc 0) is ∙ ap (λ k. slice_index_or (numbers ++ n ∷ []) k 0) (sym last) ∙ get_or-append-add numbers (n ∷ []) 0 0
        ∙ number ∙ ap (path_of arcs) at)
  ];
}
