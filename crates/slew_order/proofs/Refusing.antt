-- The worst input slews of arcs, and their refused look-ups.
use Rattle.std.proofs.Common.{◌≡◌, ℕ, ◌+◌, ◌*◌, ◌<◌, ◌≤◌, ◌∙◌, true, if◌then◌else◌, ap, sym, refl, subst, List, length, take, Some, None, inl, inr, arith}
use Rattle.std.proofs.Math.Nat.{mul-le-mul_right}
use Rattle.std.proofs.lemmas.Bool.{cases_eq}
use Rattle.std.proofs.lemmas.List.{length-map}
use Rattle.cell_models.specs.declared.edge.Edge.{Edge}
use Rattle.cell_models.specs.declared.edge.Edge.TheVariants.{Rise, Fall}
use Rattle.slew_states.specs.Arcs.{arc_at, has_edge, HaveNets}
use Rattle.slew_states.specs.PinState.{Wire, behind, worst}
use Rattle.slew_states.specs.Settled.{arc_edges, states_in}
use Rattle.slew_states.specs.declared.arcs.FlatArc.{FlatArc}
use Rattle.slew_states.specs.declared.states.PinState.{PinState}
use Rattle.slew_states.specs.declared.states.PinState.TheVariants.{Absent, Known, Stuck}
use Rattle.slew_states.specs.declared.states.EdgeStates.{EdgeStates}
use Rattle.slew_states.proofs.Depths.{arc_same}
use Rattle.slew_states.proofs.Edges.{edges_more, edges_part}
use Rattle.slew_order.specs.FlatArcs.{flat_at}
use Rattle.slew_order.specs.NetStates.{AreStatesAt, edges_in, net_state}
use Rattle.slew_order.specs.SlewEnds.{NoRefusalTo, NoRefusals}
use Rattle.slew_order.specs.Timings.{SlewSource, arcs_in, flat_in, wire_at}
use Rattle.slew_order.proofs.Settling.{many_drivers}

behind_some : (state : PinState) → behind Some state ≡ state
behind_some Absent = refl
behind_some (Known slew) = refl
behind_some Stuck = refl

-- the worst input slew is the same by states that are the same at the related net
worst_same : (wire : Wire) (f g : ℕ → Edge → PinState) (arc : ℕ) (this : FlatArc) → ((net : ℕ) → this.source ≡ Some net → (edge : Edge) → f net edge ≡ g net edge) → (edge : Edge)
    → worst wire f arc this edge ≡ worst wire g arc this edge
worst_same wire f g arc this same edge = by edge
  where
    both : FlatArc
    both = record { source = this.source; target = None; kind = this.kind; rise = true; fall = true }

    by : (edge : Edge) → worst wire f arc this edge ≡ worst wire g arc this edge
    by Rise = sym (behind_some (worst wire f arc this Rise)) ∙ arc_same (λ _ _ slew. Some slew) wire f g arc both same Rise ∙ behind_some (worst wire g arc this Rise)
    by Fall = sym (behind_some (worst wire f arc this Fall)) ∙ arc_same (λ _ _ slew. Some slew) wire f g arc both same Fall ∙ behind_some (worst wire g arc this Fall)

module _ (source : SlewSource) (corner : ℕ) (flat : List FlatArc) (states : List EdgeStates) (arc : ℕ) (is : flat ≡ flat_in source)
    (have : HaveNets (length source.netlist.nets) flat) (are : AreStatesAt source corner states) (within : arc < length (arcs_in source)) where
  arc_within : arc < length flat
  arc_within = let many : length flat ≡ length (arcs_in source) = ap length is ∙ length-map (arcs_in source) (flat_at source.netlist source.cells) in omega (arith, within, many)

  -- the related net of an arc has a state
  pub worst_net : (net : ℕ) → (arc_at flat arc).source ≡ Some net → net < length states
  worst_net net on = let below = (have arc net arc_within).0 on in let len = are.settled.len in let many = many_drivers source.netlist in omega (arith, below, len, many)

  -- by the states that are kept it is what it is by the states of the nets
  pub worst_is : (number : ℕ) (edge : Edge) (result : PinState) → number ≡ corner → result ≡ worst (wire_at source number) (states_in states) arc (arc_at flat arc) edge
      → result ≡ worst (wire_at source corner) (net_state source corner) arc (arc_at (flat_in source) arc) edge
  worst_is number edge result at value =
      value
      ∙ ap (λ k. worst (wire_at source k) (states_in states) arc (arc_at flat arc) edge) at
      ∙ worst_same (wire_at source corner) (states_in states) (net_state source corner) arc (arc_at flat arc)
      (λ net on e. are.settled.values net e (let below = worst_net net on in let len = are.settled.len in omega (arith, below, len))) edge
      ∙ ap (λ list. worst (wire_at source corner) (net_state source corner) arc (arc_at list arc) edge) is

-- a fact of so many numbers, and of one more
pub to_more : (P : ℕ → Type 0) (many : ℕ) → ((k : ℕ) → k < many → P k) → P many → (k : ℕ) → k < many + 1 → P k
to_more P many held next k below = elim (cases_eq k many) [
  | inl same ↦ subst P (sym same) next
  | inr other ↦ held k (omega (arith, below, other))
]

-- of one arc more no look-up is refused
pub refusals_more : (source : SlewSource) (many : ℕ) → NoRefusals source many → NoRefusalTo source many Rise source.count → NoRefusalTo source many Fall source.count → NoRefusals source (many + 1)
refusals_more source many held rise fall arc edge below =
    to_more (λ k. (edge : Edge) → NoRefusalTo source k edge source.count) many (λ k less edge. held k edge less) here arc below edge
  where
    here : (edge : Edge) → NoRefusalTo source many edge source.count
    here Rise = rise
    here Fall = fall

-- steps of one part after those of another
pub steps_sum : (count one other all before mid now : ℕ) → mid ≤ before + 64 * (count * one) → now ≤ mid + 64 * (count * other) → one + other ≤ all → now ≤ before + 64 * (count * all)
steps_sum count one other all before mid now first second fits =
    let more : (one + other) * count ≤ all * count = mul-le-mul_right count fits in
    let sum : (one + other) * count ≡ count * one + count * other = grind arith in
    let turned : all * count ≡ count * all = grind arith in
    omega (arith, first, second, more, sum, turned)

module _ (source : SlewSource) (arc : ℕ) (within : arc < length (arcs_in source)) where
  abbrev pub rises : ℕ
  rises = if has_edge (arc_at (flat_in source) arc) Rise then 1 else 0

  abbrev pub falls : ℕ
  falls = if has_edge (arc_at (flat_in source) arc) Fall then 1 else 0

  pub edges_next : arc_edges (take (arc + 1) (flat_in source)) ≡ arc_edges (take arc (flat_in source)) + (rises + falls)
  edges_next = edges_more (flat_in source) arc (let many = length-map (arcs_in source) (flat_at source.netlist source.cells) in omega (arith, within, many))

  pub steps_rise : (count before mid now : ℕ) → mid ≤ before + 64 * (count * arc_edges (take arc (flat_in source))) → now ≤ mid + 64 * (count * rises)
      → now ≤ before + 64 * (count * (arc_edges (take arc (flat_in source)) + rises))
  steps_rise count before mid now first second = steps_sum count (arc_edges (take arc (flat_in source))) rises (arc_edges (take arc (flat_in source)) + rises) before mid now first second (omega arith)

  pub steps_first : (count before mid now : ℕ) → mid ≤ before + 64 * (count * arc_edges (take arc (flat_in source))) → now ≤ mid + 64 * (count * rises)
      → now ≤ before + 64 * (count * edges_in source)
  steps_first count before mid now first second = steps_sum count (arc_edges (take arc (flat_in source))) rises (edges_in source) before mid now first second
      (let next = edges_next in let part = edges_part (flat_in source) (arc + 1) in omega (arith, next, part))

  pub steps_both : (count before mid after now : ℕ) → mid ≤ before + 64 * (count * arc_edges (take arc (flat_in source))) → after ≤ mid + 64 * (count * rises) → now ≤ after + 64 * (count * falls)
      → now ≤ before + 64 * (count * arc_edges (take (arc + 1) (flat_in source)))
  steps_both count before mid after now first second third = steps_sum count (arc_edges (take arc (flat_in source)) + rises) falls (arc_edges (take (arc + 1) (flat_in source))) before after now
      (steps_rise count before mid after first second) third (let next = edges_next in omega (arith, next))

-- the steps of a part of the arcs are within those of all
pub steps_part : (source : SlewSource) (many count before now : ℕ) → now ≤ before + 64 * (count * arc_edges (take many (flat_in source))) → now ≤ before + 64 * (count * edges_in source)
steps_part source many count before now held = steps_sum count (arc_edges (take many (flat_in source))) 0 (edges_in source) before now now held (omega arith)
    (let part = edges_part (flat_in source) many in omega (arith, part))
