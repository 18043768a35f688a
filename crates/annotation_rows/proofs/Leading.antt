-- The largest delay of the arcs whose path has a number is that of the path between the pins of the arc of this number.
use Rattle.std.proofs.Common.{◌≡◌, ℕ, zero, suc, ◌+◌, ◌<◌, ◌≤◌, ◌==◌, Bool, true, false, not, if◌then◌else◌, ◌∙◌, ap, ap₂, sym, refl, List, [], ◌∷◌, ◌++◌, length, None, true≢false, arith}
use Rattle.std.specs.List.{prefix_len}
use Rattle.std.proofs.lemmas.Bool.{and_parts, and_from, eqb-true, eq-eqb, ne_eqb}
use Rattle.std.proofs.lemmas.List.Sums.{prefix_len_stops}
use Rattle.cell_models.specs.declared.cell.Arc.{Arc}
use Rattle.cell_models.specs.declared.edge.Edge.{Edge}
use Rattle.hierarchy.specs.Walks.{joined_from}
use Rattle.slew_order.specs.FlatArcs.{no_arc}
use Rattle.slew_order.specs.LivePaths.{largest}
use Rattle.annotation_rows.specs.CellPaths.{arc_in, leads, path_of}
use Rattle.annotation_rows.specs.PathRows.{TimedDesign, cell_arcs, arc_delay, delay_of_path}
use Rattle.annotation_rows.specs.PathTables.{best_of, delay_on}

joined_same : {X : Type 0} (one other : ℕ → List X) (from n : ℕ) → ((k : ℕ) → from ≤ k → k < from + n → one k ≡ other k) → joined_from one from n ≡ joined_from other from n
joined_same one other from zero each = refl
joined_same one other from (suc n) each =
    ap₂ (λ xs ys. xs ++ ys) (each from (omega arith) (omega arith)) (joined_same one other (suc from) n (λ k low high. each k (omega (arith, low)) (omega (arith, high))))

module _ (arcs : List Arc) (path arc : ℕ) (first : path_of arcs path ≡ path) (within : path < length arcs) where
  abbrev of_path : Arc → Bool
  of_path other = leads (arc_in arcs path).from (arc_in arcs path).to other

  between : of_path (arc_in arcs arc) ≡ true → path_of arcs arc ≡ path
  between is =
      let both = and_parts ((arc_in arcs arc).from == (arc_in arcs path).from) ((arc_in arcs arc).to == (arc_in arcs path).to) is in
      ap₂ (λ f t. prefix_len (λ other. not (leads f t other)) arcs) (eqb-true (arc_in arcs arc).from (arc_in arcs path).from both.0) (eqb-true (arc_in arcs arc).to (arc_in arcs path).to both.1) ∙ first

  not_true : (b : Bool) → not b ≡ false → b ≡ true
  not_true true is = refl
  not_true false is = absurd (true≢false is)

  apart : of_path (arc_in arcs arc) ≡ false → path_of arcs arc ≡ path → ⊥
  apart other is =
      let below : path_of arcs arc < length arcs = omega (arith, within, is) in
      let stops = prefix_len_stops (λ o. not (leads (arc_in arcs arc).from (arc_in arcs arc).to o)) arcs no_arc below in
      let here : leads (arc_in arcs arc).from (arc_in arcs arc).to (arc_in arcs path) ≡ true =
      ap (λ k. leads (arc_in arcs arc).from (arc_in arcs arc).to (arc_in arcs k)) (sym is) ∙ not_true _ stops in
      let both = and_parts ((arc_in arcs path).from == (arc_in arcs arc).from) ((arc_in arcs path).to == (arc_in arcs arc).to) here in
      let back : of_path (arc_in arcs arc) ≡ true = and_from _ _ (eq-eqb (arc_in arcs arc).from (arc_in arcs path).from (sym (eqb-true (arc_in arcs path).from (arc_in arcs arc).from both.0)))
      (eq-eqb (arc_in arcs arc).to (arc_in arcs path).to (sym (eqb-true (arc_in arcs path).to (arc_in arcs arc).to both.1))) in
      true≢false (sym back ∙ other)

  same_test : (b : Bool) → of_path (arc_in arcs arc) ≡ b → (path_of arcs arc == path) ≡ of_path (arc_in arcs arc)
  same_test true is = eq-eqb (path_of arcs arc) path (between is) ∙ sym is
  same_test false is = ne_eqb (path_of arcs arc) path (apart is) ∙ sym is

  pub leads_same : (path_of arcs arc == path) ≡ of_path (arc_in arcs arc)
  leads_same = same_test (of_path (arc_in arcs arc)) refl

pub best_is_path : (design : TimedDesign) (instance : ℕ) (edge : Edge) (path corner : ℕ) → path_of (cell_arcs design instance) path ≡ path → path < length (cell_arcs design instance)
    → best_of design instance edge (length (cell_arcs design instance)) path corner ≡ delay_of_path design instance path edge corner
best_is_path design instance edge path corner first within =
    let arcs = cell_arcs design instance in
    ap largest (joined_same (λ arc. delay_on design instance edge path corner arc ∷ [])
    (λ arc. (if leads (arc_in arcs path).from (arc_in arcs path).to (arc_in arcs arc) then arc_delay design instance arc edge corner else None) ∷ []) 0 (length arcs)
    (λ arc low high. ap (λ b. (if b then arc_delay design instance arc edge corner else None) ∷ []) (leads_same arcs path arc first within)))
