-- States at one corner after another, and the steps that they take.
use Rattle.std.proofs.Common.{◌≡◌, ℕ, ◌+◌, ◌*◌, ◌≤◌, ◌∙◌, ap, sym, subst, List, [], ◌∷◌, ◌++◌, length, length-append, inl, inr, arith}
use Rattle.std.proofs.Math.Nat.{mul-le-mul_right}
use Rattle.std.proofs.Math.Seq.{get_or-append_seam}
use Rattle.std.proofs.lemmas.Bool.{cases_eq}
use Rattle.std.proofs.lemmas.List.{get_or_append_left, length-map}
use Rattle.netlist_link.specs.FlatNetlist.{FlatNetlist}
use Rattle.slew_states.specs.Arcs.{HaveNets}
use Rattle.slew_states.specs.declared.states.EdgeStates.{EdgeStates}
use Rattle.slew_states.specs.declared.arcs.FlatArc.{FlatArc}
use Rattle.slew_order.specs.FlatArcs.{driver_of, drivers_of}
use Rattle.slew_order.specs.NetStates.{AreStatesAt, AreStatesTo, states_at}
use Rattle.slew_order.specs.Timings.{SlewSource}

-- each net has a driver or none
pub many_drivers : (netlist : FlatNetlist) → length (drivers_of netlist) ≡ length netlist.nets
many_drivers netlist = length-map netlist.nets (λ net. driver_of net.driver)

-- the nets of arcs are nets with drivers
pub nets_driven : (netlist : FlatNetlist) (flat : List FlatArc) (many : ℕ) → many ≡ length (drivers_of netlist) → HaveNets (length netlist.nets) flat → HaveNets many flat
nets_driven netlist flat many is have = subst (λ n. HaveNets n flat) (sym (is ∙ many_drivers netlist)) have

pub one_more : {X : Type 0} (items after : List X) (item : X) (many : ℕ) → length items ≡ many → after ≡ items ++ item ∷ [] → length after ≡ many + 1
one_more items after item many len is = ap length is ∙ length-append items (item ∷ []) ∙ ap (λ n. n + 1) len

-- states at one corner more
pub states_more : (source : SlewSource) (many : ℕ) (corners after : List (List EdgeStates)) (states : List EdgeStates) → length corners ≡ many → after ≡ corners ++ states ∷ []
    → AreStatesTo source many corners → AreStatesAt source many states → AreStatesTo source (many + 1) after
states_more source many corners after states len is held next corner below = elim (cases_eq corner many) [
  | inl same ↦
      let here : states_at after corner ≡ states = ap (λ list. states_at list corner) is ∙ ap (states_at (corners ++ states ∷ [])) (same ∙ sym len) ∙ get_or-append_seam corners states [] [] in
      subst (AreStatesAt source corner) (sym here) (subst (λ k. AreStatesAt source k states) (sym same) next)
  | inr other ↦
      let left : states_at after corner ≡ states_at corners corner = ap (λ list. states_at list corner) is ∙ get_or_append_left corners (states ∷ []) [] corner (omega (arith, below, other, len)) in
      subst (AreStatesAt source corner) (sym left) (held corner (omega (arith, below, other)))
]

-- so many steps for one more
pub steps_more : (each many edges before now after : ℕ) → now ≤ before + each * (many * edges) → after ≤ now + each * edges → after ≤ before + each * ((many + 1) * edges)
steps_more each many edges before now after first next =
    let whole : each * ((many + 1) * edges) ≡ each * (many * edges) + each * edges = grind arith in
    omega (arith, first, next, whole)

pub steps_within : (each many all edges before now : ℕ) → many ≤ all → now ≤ before + each * (many * edges) → now ≤ before + each * (all * edges)
steps_within each many all edges before now few held =
    let more : many * edges ≤ all * edges = mul-le-mul_right edges few in
    let fits : (many * edges) * each ≤ (all * edges) * each = mul-le-mul_right each more in
    let one : each * (many * edges) ≡ (many * edges) * each = grind arith in
    let other : each * (all * edges) ≡ (all * edges) * each = grind arith in
    omega (arith, held, fits, one, other)
