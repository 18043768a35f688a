-- The steps of look-ups, instance by instance.
use Rattle.std.proofs.Common.{◌≡◌, ℕ, zero, suc, ◌+◌, ◌-◌, ◌*◌, ◌<◌, ◌≤◌, if◌then◌else◌, ◌∙◌, ap, ap₂, refl, List, [], ◌∷◌, ◌++◌, length, map, arith}
use Rattle.std.proofs.lemmas.List.{map-append}
use Rattle.cell_models.specs.declared.cell.Arc.{Arc}
use Rattle.cell_models.specs.declared.edge.Edge.TheVariants.{Rise, Fall}
use Rattle.hierarchy.specs.Walks.{joined_from}
use Rattle.hierarchy.proofs.Joining.{joined-more}
use Rattle.slew_states.specs.Settled.{arc_edges}
use Rattle.slew_states.specs.declared.arcs.FlatArc.{FlatArc}
use Rattle.slew_order.specs.declared.arcs.ArcAt.{ArcAt}
use Rattle.slew_order.specs.FlatArcs.{arc_count, flat_at, instance_arcs}
use Rattle.slew_order.specs.NetStates.{edges_in}
use Rattle.slew_order.specs.Timings.{SlewSource}
use Rattle.annotation_rows.specs.CellPaths.{arc_in}
use Rattle.annotation_rows.specs.PathRows.{TimedDesign, arc_has, cell_arcs}
use Rattle.annotation_rows.specs.PathTables.{arcs_with, instance_edges}
use Rattle.annotation_rows.proofs.BestSteps.{steps_sum}

edges_append : (xs ys : List FlatArc) → arc_edges (xs ++ ys) ≡ arc_edges xs + arc_edges ys
edges_append [] ys = omega arith
edges_append (x ∷ xs) ys = let rest = edges_append xs ys in omega (arith, rest)

-- the pairs of an arc and an edge of the first so many instances
abbrev pub edges_to : SlewSource → ℕ → ℕ
edges_to source many = arc_edges (map (flat_at source.netlist source.cells)
    (joined_from (λ instance. instance_arcs instance (arc_count source.netlist source.cells instance)) 0 many))

module _ (design : TimedDesign) where
  abbrev flat : ArcAt → FlatArc
  flat = flat_at design.source.netlist design.source.cells

  abbrev edges_on : Arc → ℕ
  edges_on arc = (if arc_has arc Rise then 1 else 0) + (if arc_has arc Fall then 1 else 0)

  -- the arcs of an instance from one on
  edges_from : (instance from : ℕ) (arcs : List Arc) → ((k : ℕ) → k < length arcs → arc_in (cell_arcs design instance) (from + k) ≡ arc_in arcs k)
      → arc_edges (map flat (joined_from (λ arc. let at : ArcAt = record { instance = instance; arc = arc } in at ∷ []) from (length arcs))) ≡ arcs_with Rise arcs + arcs_with Fall arcs
  edges_from instance from [] same = refl
  edges_from instance from (arc ∷ arcs) same =
      let start : from ≡ from + 0 = omega arith in
      let here : edges_on (arc_in (cell_arcs design instance) from) ≡ edges_on arc =
      ap (λ k. edges_on (arc_in (cell_arcs design instance) k)) start ∙ ap edges_on (same 0 (omega arith)) in
      let rest = edges_from instance (suc from) arcs
      (λ k below. ap (arc_in (cell_arcs design instance)) (let shifted : suc from + k ≡ from + suc k = omega arith in shifted) ∙ same (suc k) (omega (arith, below))) in
      let rises : ℕ = if arc_has arc Rise then 1 else 0 in
      let falls : ℕ = if arc_has arc Fall then 1 else 0 in
      let sums : (rises + falls) + (arcs_with Rise arcs + arcs_with Fall arcs) ≡ (rises + arcs_with Rise arcs) + (falls + arcs_with Fall arcs) = omega arith in
      ap₂ (λ m n. m + n) here rest ∙ sums

  own_edges : (instance : ℕ) → arc_edges (map flat (instance_arcs instance (arc_count design.source.netlist design.source.cells instance))) ≡ instance_edges design instance
  own_edges instance =
      edges_from instance 0 (cell_arcs design instance) (λ k below. ap (arc_in (cell_arcs design instance)) (let same : 0 + k ≡ k = omega arith in same))

  pub edges_next : (many : ℕ) → edges_to design.source (many + 1) ≡ edges_to design.source many + instance_edges design many
  edges_next many =
      let lists : ℕ → List ArcAt = λ instance. instance_arcs instance (arc_count design.source.netlist design.source.cells instance) in
      let at : 0 + many ≡ many = omega arith in
      ap (λ arcs. arc_edges (map flat arcs)) (joined-more lists 0 many ∙ ap (λ k. joined_from lists 0 many ++ lists k) at)
      ∙ ap arc_edges (map-append flat (joined_from lists 0 many) (lists many))
      ∙ edges_append (map flat (joined_from lists 0 many)) (map flat (lists many))
      ∙ ap (λ n. edges_to design.source many + n) (own_edges many)

  edges_part : (many more : ℕ) → edges_to design.source many ≤ edges_to design.source (many + more)
  edges_part many zero = let same = ap (edges_to design.source) (let at : many + 0 ≡ many = omega arith in at) in omega (arith, same)
  edges_part many (suc more) =
      let part = edges_part many more in
      let next = edges_next (many + more) in
      let same = ap (edges_to design.source) (let at : many + suc more ≡ (many + more) + 1 = omega arith in at) in
      omega (arith, part, next, same)

  edges_all : (many : ℕ) → many ≤ length design.source.netlist.instances → edges_to design.source many ≤ edges_in design.source
  edges_all many few =
      let all : ℕ = length design.source.netlist.instances in
      let part = edges_part many (all - many) in
      let same = ap (edges_to design.source) (let at : many + (all - many) ≡ all = omega (arith, few) in at) in
      omega (arith, part, same)

  -- the steps at one edge of an instance, and at both
  pub first_edge : (count instance before now : ℕ) → now ≤ before + 32 * (count * arcs_with Rise (cell_arcs design instance)) → now ≤ before + 32 * (count * instance_edges design instance)
  first_edge count instance before now first =
      steps_sum count (arcs_with Rise (cell_arcs design instance)) (arcs_with Fall (cell_arcs design instance)) (instance_edges design instance) before now now refl first (omega arith)

  pub both_edges : (count instance before now after : ℕ) → now ≤ before + 32 * (count * arcs_with Rise (cell_arcs design instance))
      → after ≤ now + 32 * (count * arcs_with Fall (cell_arcs design instance)) → after ≤ before + 32 * (count * instance_edges design instance)
  both_edges count instance before now after first second =
      steps_sum count (arcs_with Rise (cell_arcs design instance)) (arcs_with Fall (cell_arcs design instance)) (instance_edges design instance) before now after refl first second

  -- the steps of one instance more
  pub instance_next : (count many before now after : ℕ) → now ≤ before + 32 * (count * edges_to design.source many) → after ≤ now + 32 * (count * instance_edges design many)
      → after ≤ before + 32 * (count * edges_to design.source (many + 1))
  instance_next count many before now after held next =
      steps_sum count (edges_to design.source many) (instance_edges design many) (edges_to design.source (many + 1)) before now after (edges_next many) held next

  pub instances_part : (count many before now : ℕ) → many ≤ length design.source.netlist.instances → now ≤ before + 32 * (count * edges_to design.source many)
      → now ≤ before + 32 * (count * edges_in design.source)
  instances_part count many before now few held =
      let part = edges_all many few in
      let split : edges_in design.source ≡ edges_to design.source many + (edges_in design.source - edges_to design.source many) = omega (arith, part) in
      steps_sum count (edges_to design.source many) (edges_in design.source - edges_to design.source many) (edges_in design.source) before now now split held (omega arith)
