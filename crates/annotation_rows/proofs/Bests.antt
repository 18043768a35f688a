-- The largest of several delays, by one more.
use Rattle.std.proofs.Common.{◌≡◌, ℕ, ◌+◌, ◌<◌, if◌then◌else◌, ◌∙◌, ap, sym, refl, subst, List, [], ◌∷◌, ◌++◌, length, Option, Some, None, ℤ, inl, inr, arith}
use Rattle.std.proofs.lemmas.Bool.{cases_lt, cases_eq, eq-eqb, ne_eqb}
use Rattle.cell_models.specs.declared.edge.Edge.{Edge}
use Rattle.hierarchy.specs.Walks.{joined_from}
use Rattle.hierarchy.proofs.Joining.{joined-more}
use Rattle.slew_order.specs.LivePaths.{larger, largest}
use Rattle.annotation_rows.specs.CellPaths.{path_of}
use Rattle.annotation_rows.specs.PathRows.{TimedDesign, cell_arcs, arc_delay}
use Rattle.annotation_rows.specs.PathTables.{kept_at, delay_on, best_of, AreBests, AreBestsTo}

larger_none : (value : Option ℤ) → larger value None ≡ value
larger_none None = refl
larger_none (Some value) = refl

larger_chain : (one two three : Option ℤ) → larger one (larger two three) ≡ larger (larger one two) three
larger_chain None two three = refl
larger_chain (Some a) None three = refl
larger_chain (Some a) (Some b) None = sym (larger_none (larger (Some a) (Some b)))
larger_chain (Some a) (Some b) (Some c) = grind arith

largest_more : (values : List (Option ℤ)) (value : Option ℤ) → largest (values ++ value ∷ []) ≡ larger (largest values) value
largest_more [] value = larger_none value
largest_more (first ∷ values) value = ap (larger first) (largest_more values value) ∙ larger_chain first (largest values) value

module _ (design : TimedDesign) (instance : ℕ) (edge : Edge) where
  best_more : (many path corner : ℕ) → best_of design instance edge (many + 1) path corner
      ≡ larger (best_of design instance edge many path corner) (delay_on design instance edge path corner many)
  best_more many path corner =
      let at : 0 + many ≡ many = omega arith in
      ap largest (joined-more (λ arc. delay_on design instance edge path corner arc ∷ []) 0 many
      ∙ ap (λ k. joined_from (λ arc. delay_on design instance edge path corner arc ∷ []) 0 many ++ delay_on design instance edge path corner k ∷ []) at)
      ∙ largest_more (joined_from (λ arc. delay_on design instance edge path corner arc ∷ []) 0 many) (delay_on design instance edge path corner many)

  best_other : (many path corner : ℕ) → (path_of (cell_arcs design instance) many ≡ path → ⊥)
      → best_of design instance edge (many + 1) path corner ≡ best_of design instance edge many path corner
  best_other many path corner other =
      best_more many path corner
      ∙ ap (λ b. larger (best_of design instance edge many path corner) (if b then arc_delay design instance many edge corner else None)) (ne_eqb _ _ other)
      ∙ larger_none (best_of design instance edge many path corner)

  best_own : (many path corner : ℕ) → path_of (cell_arcs design instance) many ≡ path
      → best_of design instance edge (many + 1) path corner ≡ larger (best_of design instance edge many path corner) (arc_delay design instance many edge corner)
  best_own many path corner own =
      best_more many path corner
      ∙ ap (λ b. larger (best_of design instance edge many path corner) (if b then arc_delay design instance many edge corner else None)) (eq-eqb _ _ own)

  pub bests_start : (many : ℕ) (values : List (Option ℤ)) → AreBests design instance edge many values → AreBestsTo design instance edge many 0 values
  bests_start many values bests = record {
    len = bests.len;
    done = λ path corner within below. absurd (omega (arith, below));
    left = λ path corner within low below. bests.each path corner within below;
  }

  pub bests_end : (many corners : ℕ) (values : List (Option ℤ)) → corners ≡ design.source.count → AreBestsTo design instance edge many corners values
      → AreBests design instance edge (many + 1) values
  bests_end many corners values all bests = record {
    len = bests.len;
    each = λ path corner within below. bests.done path corner within (omega (arith, below, all));
  }

  module _ (many own corners : ℕ) (values after : List (Option ℤ)) (best : Option ℤ) (held : AreBestsTo design instance edge many corners values)
      (is_own : own ≡ path_of (cell_arcs design instance) many) (within_own : own < length (cell_arcs design instance)) (below_own : corners < design.source.count)
      (len : length after ≡ length values) (here : kept_at design.source.count after own corners ≡ best)
      (is : best ≡ larger (kept_at design.source.count values own corners) (arc_delay design instance many edge corners))
      (others : (path corner : ℕ) → corner < design.source.count → ((path ≡ own) × (corner ≡ corners) → ⊥)
      → kept_at design.source.count after path corner ≡ kept_at design.source.count values path corner) where
    at_corner : (path : ℕ) → path < length (cell_arcs design instance) → kept_at design.source.count after path corners ≡ best_of design instance edge (many + 1) path corners
    at_corner path within = elim (cases_eq path own) [
      | inl same ↦ (
          let left = held.left own corners within_own (omega arith) below_own in
          ap (λ p. kept_at design.source.count after p corners) same ∙ here ∙ is
          ∙ ap (λ v. larger v (arc_delay design instance many edge corners)) left
          ∙ sym (best_own many own corners (sym is_own)) ∙ ap (λ p. best_of design instance edge (many + 1) p corners) (sym same))
      | inr other ↦ others path corners below_own (λ both. other both.0) ∙ held.left path corners within (omega arith) below_own
          ∙ sym (best_other many path corners (λ same. other (sym same ∙ sym is_own)))
    ]

    pub bests_next : AreBestsTo design instance edge many (corners + 1) after
    bests_next = record {
      len = len ∙ held.len;
      done = λ path corner within below. elim (cases_lt corner corners) [
        | inl less ↦ others path corner (omega (arith, less, below_own)) (λ both. (let same = both.1 in omega (arith, less, same))) ∙ held.done path corner within less
        | inr more ↦ (let at : corners ≡ corner = omega (arith, below, more) in
            subst (λ k. kept_at design.source.count after path k ≡ best_of design instance edge (many + 1) path k) at (at_corner path within))
      ];
      left = λ path corner within low below.
          others path corner below (λ both. (let same = both.1 in omega (arith, low, same))) ∙ held.left path corner within (omega (arith, low)) below;
    }
