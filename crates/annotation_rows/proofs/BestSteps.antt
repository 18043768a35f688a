-- The largest delays of paths, arc by arc.
use Rattle.std.proofs.Common.{◌≡◌, ℕ, zero, suc, ◌+◌, ◌*◌, ◌<◌, ◌≤◌, true, not, if◌then◌else◌, ◌∙◌, ap, ap₂, sym, refl, subst, List, [], ◌∷◌, length, take, Option, None, ℤ, inl, inr, replicate, true≢false, arith}
use Rattle.std.specs.Prelude.{slice_get}
use Rattle.std.specs.List.{slice_index_or}
use Rattle.std.specs.Option.{unwrap_or}
use Rattle.std.proofs.lemmas.Bool.{cases_lt, and_from, eq-eqb}
use Rattle.std.proofs.lemmas.List.{take_all, length-replicate}
use Rattle.std.proofs.lemmas.List.Sums.{prefix_len_passes}
use Rattle.cell_models.specs.declared.cell.Arc.{Arc}
use Rattle.cell_models.specs.declared.edge.Edge.{Edge}
use Rattle.corner_set.specs.Places.{place}
use Rattle.slew_order.specs.FlatArcs.{no_arc}
use Rattle.annotation_rows.specs.CellPaths.{arc_in, leads, path_of, ArePaths}
use Rattle.annotation_rows.specs.PathRows.{TimedDesign, arc_has, cell_arcs}
use Rattle.annotation_rows.specs.PathTables.{AreBests, arcs_with}

kept_none : (many at : ℕ) → unwrap_or (slice_get (replicate many (let none : Option ℤ = None in none)) at) None ≡ None
kept_none zero at = refl
kept_none (suc many) zero = refl
kept_none (suc many) (suc at) = kept_none many at

pub bests_none : (design : TimedDesign) (instance : ℕ) (edge : Edge) (rows count : ℕ) (values : List (Option ℤ)) → rows ≡ length (cell_arcs design instance) → count ≡ design.source.count
    → values ≡ replicate (rows * count) None → AreBests design instance edge 0 values
bests_none design instance edge rows count values rows_are same is = record {
  len = ap length is ∙ length-replicate (rows * count) None ∙ ap₂ (λ r n. r * n) rows_are same;
  each = λ path corner within below.
      ap (λ xs. unwrap_or (slice_get xs (place design.source.count path corner)) None) is ∙ kept_none (rows * count) (place design.source.count path corner);
}

-- the path of an arc begins with it or before it
path_low : (arcs : List Arc) (arc : ℕ) → path_of arcs arc ≤ arc
path_low arcs arc = elim (cases_lt arc (path_of arcs arc)) [
  | inl later ↦ absurd (
      let own = arc_in arcs arc in
      let passes : not (leads own.from own.to own) ≡ true = prefix_len_passes (λ other. not (leads own.from own.to other)) arcs arc no_arc later in
      let itself : leads own.from own.to own ≡ true = and_from _ _ (eq-eqb own.from own.from refl) (eq-eqb own.to own.to refl) in
      true≢false (sym passes ∙ ap not itself))
  | inr low ↦ low
]

pub path_is : (arcs : List Arc) (numbers : List ℕ) (arc : ℕ) → ArePaths arcs numbers → arc < length arcs → slice_index_or numbers arc 0 ≡ path_of arcs arc
path_is arcs numbers arc are within = are.each arc within

pub path_below : (arcs : List Arc) (numbers : List ℕ) (arc : ℕ) → ArePaths arcs numbers → arc < length arcs → slice_index_or numbers arc 0 < length arcs
path_below arcs numbers arc are within = let low = path_low arcs arc in let is = are.each arc within in omega (arith, within, low, is)

with_suc : (edge : Edge) (arcs : List Arc) (k : ℕ) → k < length arcs
    → arcs_with edge (take (suc k) arcs) ≡ arcs_with edge (take k arcs) + (if arc_has (arc_in arcs k) edge then 1 else 0)
with_suc edge [] k below = absurd (omega (arith, below))
with_suc edge (arc ∷ arcs) zero below = let one : ℕ = if arc_has arc edge then 1 else 0 in let same : one + 0 ≡ 0 + one = omega arith in same
with_suc edge (arc ∷ arcs) (suc k) below =
    let ih = with_suc edge arcs k (omega (arith, below)) in
    let one : ℕ = if arc_has arc edge then 1 else 0 in
    let first : one + arcs_with edge (take (suc k) arcs) ≡ one + (arcs_with edge (take k arcs) + (if arc_has (arc_in arcs k) edge then 1 else 0)) = ap (λ n. one + n) ih in
    let chain : one + (arcs_with edge (take k arcs) + (if arc_has (arc_in arcs k) edge then 1 else 0)) ≡ (one + arcs_with edge (take k arcs)) + (if arc_has (arc_in arcs k) edge then 1 else 0) = omega arith in
    first ∙ chain

with_more : (edge : Edge) (arcs : List Arc) (k : ℕ) → k < length arcs
    → arcs_with edge (take (k + 1) arcs) ≡ arcs_with edge (take k arcs) + (if arc_has (arc_in arcs k) edge then 1 else 0)
with_more edge arcs k below = let next : k + 1 ≡ suc k = omega arith in ap (λ n. arcs_with edge (take n arcs)) next ∙ with_suc edge arcs k below

pub steps_sum : (count have more with_both before now after : ℕ) → with_both ≡ have + more → now ≤ before + 32 * (count * have) → after ≤ now + 32 * (count * more)
    → after ≤ before + 32 * (count * with_both)
steps_sum count have more with_both before now after is first next =
    let split : count * with_both ≡ count * have + count * more = ap (λ n. count * n) is ∙ (let spread : count * (have + more) ≡ count * have + count * more = grind arith in spread) in
    omega (arith, first, next, split)

pub steps_next : (count : ℕ) (edge : Edge) (arcs : List Arc) (k before now after : ℕ) → k < length arcs
    → now ≤ before + 32 * (count * arcs_with edge (take k arcs)) → after ≤ now + 32 * (count * (if arc_has (arc_in arcs k) edge then 1 else 0))
    → after ≤ before + 32 * (count * arcs_with edge (take (k + 1) arcs))
steps_next count edge arcs k before now after below first next = steps_sum count _ _ _ before now after (with_more edge arcs k below) first next

pub steps_all : (count : ℕ) (edge : Edge) (arcs : List Arc) (k before now : ℕ) → length arcs ≤ k → now ≤ before + 32 * (count * arcs_with edge (take k arcs))
    → now ≤ before + 32 * (count * arcs_with edge arcs)
steps_all count edge arcs k before now all held = subst (λ xs. now ≤ before + 32 * (count * arcs_with edge xs)) (take_all k arcs all) held
