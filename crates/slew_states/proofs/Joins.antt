-- States joined over arcs.
use Rattle.std.proofs.Common.{◌≡◌, ◌≢◌, ℕ, ◌+◌, ◌-◌, ◌*◌, ◌<◌, ◌≤◌, zero, suc, true, false, if◌then◌else◌, List, [], length, drop, slice_index, Option, None, Some, unwrap_or, sym, refl, ap, ◌∙◌, subst, arith}
use Rattle.std.proofs.lemmas.Bool.{eq-eqb, ne_eqb}
use Rattle.std.proofs.lemmas.List.{drop_more, drop_all}
use Rattle.cell_models.specs.declared.edge.Edge.{Edge}
use Rattle.cell_models.specs.declared.edge.Edge.TheVariants.{Rise, Fall}
use Rattle.graph_order.specs.Fans.{IsLatest, links_to}
use Rattle.slew_states.specs.declared.arcs.FlatArc.{FlatArc}
use Rattle.slew_states.specs.declared.states.PinState.{PinState}
use Rattle.slew_states.specs.declared.states.PinState.TheVariants.{Absent, Known, Stuck}
use Rattle.slew_states.specs.declared.states.EdgeStates.{EdgeStates}
use Rattle.slew_states.specs.Arcs.{no_arc, arc_at, is_net, targets_of}
use Rattle.slew_states.specs.PinState.{Look, Wire, IsSmall, join, arc_state, over_arcs, state_at}
use Rattle.slew_states.specs.Settled.{both_absent, states_in, edges_of}
use Rattle.slew_states.specs.NetEdges.{edges_into}
use Rattle.slew_states.proofs.Graphs.{target_is, length-targets}
use Rattle.slew_states.proofs.Depths.{is_net_some}

pub small_join : (a b : PinState) → IsSmall a → IsSmall b → IsSmall (join a b)
small_join Absent b first second = second
small_join (Known s) Absent first second = first
small_join (Known s) (Known t) first second = omega (arith, first, second)
small_join (Known s) Stuck first second = tt
small_join Stuck b first second = tt

-- the arcs from a cursor up are joined; those that end at the net below it are still to come
pub record IsJoining (look : Look) (wire : Wire) (states : List EdgeStates) (arcs : List FlatArc) (net : ℕ) (cursor : Option ℕ) (made : EdgeStates) (before now : ℕ) : Type 0 where
  pub within : links_to cursor ≤ length arcs
  pub here : (arc : ℕ) → links_to cursor ≡ suc arc → is_net (arc_at arcs arc).target net ≡ true
  pub value : (edge : Edge) → state_at made edge ≡ over_arcs look wire (states_in states) (links_to cursor) (drop (links_to cursor) arcs) net edge
  pub small : (edge : Edge) → IsSmall (state_at made edge)
  pub steps : now ≤ before + 64 * edges_into (drop (links_to cursor) arcs) net

is_net_here : (target : Option ℕ) (nets net : ℕ) → net < nets → unwrap_or target (nets + 1) ≡ net → is_net target net ≡ true
is_net_here None nets net below at = absurd (omega (arith, below, at))
is_net_here (Some m) nets net below at = eq-eqb m net at

is_net_off : (target : Option ℕ) (nets net : ℕ) → unwrap_or target (nets + 1) ≢ net → is_net target net ≡ false
is_net_off None nets net off = refl
is_net_off (Some m) nets net off = ne_eqb m net off

-- arcs that do not end at the net are passed over
over_skip : (look : Look) (wire : Wire) (f : ℕ → Edge → PinState) (arcs : List FlatArc) (net : ℕ) (edge : Edge) (gap k : ℕ) → k + gap ≤ length arcs → ((arc : ℕ) → k ≤ arc → arc < k + gap → is_net (arc_at arcs arc).target net ≡ false)
    → over_arcs look wire f k (drop k arcs) net edge ≡ over_arcs look wire f (k + gap) (drop (k + gap) arcs) net edge
over_skip look wire f arcs net edge zero k low off = ap (λ i. over_arcs look wire f i (drop i arcs) net edge) (let sum : k ≡ k + 0 = omega arith in sum)
over_skip look wire f arcs net edge (suc gap) k low off =
    ap (λ list. over_arcs look wire f k list net edge) (drop_more arcs k no_arc (omega (arith, low)))
    ∙ ap (λ b. join (if b then arc_state look wire f k (arc_at arcs k) edge else Absent) (over_arcs look wire f (suc k) (drop (k + 1) arcs) net edge)) (off k (omega arith) (omega arith))
    ∙ ap (λ i. over_arcs look wire f (suc k) (drop i arcs) net edge) (let next : k + 1 ≡ suc k = omega arith in next)
    ∙ over_skip look wire f arcs net edge gap (suc k) (omega (arith, low)) (λ arc from below. off arc (omega (arith, from)) (omega (arith, below)))
    ∙ ap (λ i. over_arcs look wire f i (drop i arcs) net edge) (let sum : suc k + gap ≡ k + suc gap = omega arith in sum)

into_skip : (arcs : List FlatArc) (net gap k : ℕ) → k + gap ≤ length arcs → ((arc : ℕ) → k ≤ arc → arc < k + gap → is_net (arc_at arcs arc).target net ≡ false)
    → edges_into (drop k arcs) net ≡ edges_into (drop (k + gap) arcs) net
into_skip arcs net zero k low off = ap (λ i. edges_into (drop i arcs) net) (let sum : k ≡ k + 0 = omega arith in sum)
into_skip arcs net (suc gap) k low off =
    ap (λ list. edges_into list net) (drop_more arcs k no_arc (omega (arith, low)))
    ∙ ap (λ b. (if b then edges_of (arc_at arcs k) else 0) + edges_into (drop (k + 1) arcs) net) (off k (omega arith) (omega arith))
    ∙ (let none : 0 + edges_into (drop (k + 1) arcs) net ≡ edges_into (drop (k + 1) arcs) net = omega arith in none)
    ∙ ap (λ i. edges_into (drop i arcs) net) (let next : k + 1 ≡ suc k = omega arith in next)
    ∙ into_skip arcs net gap (suc k) (omega (arith, low)) (λ arc from below. off arc (omega (arith, from)) (omega (arith, below)))
    ∙ ap (λ i. edges_into (drop i arcs) net) (let sum : suc k + gap ≡ k + suc gap = omega arith in sum)

-- no arc between the latest one and a bound ends at the net
latest_off : (nets : ℕ) (arcs : List FlatArc) (many net : ℕ) (latest : Option ℕ) → many ≤ length arcs → IsLatest (targets_of nets arcs) many net latest → (arc : ℕ) → links_to latest ≤ arc → arc < many → is_net (arc_at arcs arc).target net ≡ false
latest_off nets arcs many net latest low is arc from below = is_net_off (arc_at arcs arc).target nets net (λ at. is.rest arc from below (target_is nets arcs arc (omega (arith, below, low)) ∙ at))

latest_here : (nets : ℕ) (arcs : List FlatArc) (many net : ℕ) (latest : Option ℕ) → net < nets → many ≤ length arcs → IsLatest (targets_of nets arcs) many net latest → (arc : ℕ) → links_to latest ≡ suc arc → is_net (arc_at arcs arc).target net ≡ true
latest_here nets arcs many net latest net_in low is arc at = let w = is.within in
    is_net_here (arc_at arcs arc).target nets net net_in (sym (target_is nets arcs arc (omega (arith, w, low, at))) ∙ is.here arc at)

-- from a bound down to the latest arc below it
pub joining_down : (look : Look) (wire : Wire) (states : List EdgeStates) (nets : ℕ) (arcs : List FlatArc) (net many : ℕ) (latest : Option ℕ) (made : EdgeStates) (before now : ℕ) → net < nets → many ≤ length arcs → IsLatest (targets_of nets arcs) many net latest
    → ((edge : Edge) → state_at made edge ≡ over_arcs look wire (states_in states) many (drop many arcs) net edge) → ((edge : Edge) → IsSmall (state_at made edge)) → now ≤ before + 64 * edges_into (drop many arcs) net
    → IsJoining look wire states arcs net latest made before now
joining_down look wire states nets arcs net many latest made before now net_in low is value small steps =
    let within = is.within in
    let sum : links_to latest + (many - links_to latest) ≡ many = omega (arith, within) in
    let off : (arc : ℕ) → links_to latest ≤ arc → arc < links_to latest + (many - links_to latest) → is_net (arc_at arcs arc).target net ≡ false = λ arc from below. latest_off nets arcs many net latest low is arc from (omega (arith, sum, below)) in
    record {
      within = omega (arith, within, low);
      here = latest_here nets arcs many net latest net_in low is;
      value = λ edge. value edge ∙ ap (λ i. over_arcs look wire (states_in states) i (drop i arcs) net edge) (sym sum) ∙ sym (over_skip look wire (states_in states) arcs net edge (many - links_to latest) (links_to latest) (omega (arith, sum, low)) off);
      small = small;
      steps = let skip = into_skip arcs net (many - links_to latest) (links_to latest) (omega (arith, sum, low)) off ∙ ap (λ i. edges_into (drop i arcs) net) sum in omega (arith, steps, skip);
    }

-- one arc more is joined
pub joining_more : (look : Look) (wire : Wire) (states : List EdgeStates) (nets : ℕ) (arcs : List FlatArc) (net arc : ℕ) (cursor next : Option ℕ) (made made' : EdgeStates) (before now now' : ℕ) → net < nets → links_to cursor ≡ suc arc → IsJoining look wire states arcs net cursor made before now
    → ((edge : Edge) → state_at made' edge ≡ join (arc_state look wire (states_in states) arc (arc_at arcs arc) edge) (state_at made edge)) → ((edge : Edge) → IsSmall (state_at made' edge)) → now' ≤ now + 64 * edges_of (arc_at arcs arc)
    → IsLatest (targets_of nets arcs) arc net next → IsJoining look wire states arcs net next made' before now'
joining_more look wire states nets arcs net arc cursor next made made' before now now' net_in at held value small steps is =
    let within = held.within in
    let arc_in : arc < length arcs = omega (arith, within, at) in
    let here = held.here arc at in
    let next_is : arc + 1 ≡ links_to cursor = omega (arith, at) in
    joining_down look wire states nets arcs net arc next made' before now' net_in (omega (arith, arc_in)) is
    (λ edge. value edge ∙ ap (join (arc_state look wire (states_in states) arc (arc_at arcs arc) edge)) (held.value edge ∙ ap (λ i. over_arcs look wire (states_in states) i (drop i arcs) net edge) at)
    ∙ ap (λ b. join (if b then arc_state look wire (states_in states) arc (arc_at arcs arc) edge else Absent) (over_arcs look wire (states_in states) (suc arc) (drop (suc arc) arcs) net edge)) (sym here)
    ∙ ap (λ i. join (if is_net (arc_at arcs arc).target net then arc_state look wire (states_in states) arc (arc_at arcs arc) edge else Absent) (over_arcs look wire (states_in states) (suc arc) (drop i arcs) net edge)) (let n : suc arc ≡ arc + 1 = omega arith in n)
    ∙ ap (λ list. over_arcs look wire (states_in states) arc list net edge) (sym (drop_more arcs arc no_arc arc_in)))
    small
    (let old = held.steps in
    let split : edges_into (drop arc arcs) net ≡ edges_of (arc_at arcs arc) + edges_into (drop (links_to cursor) arcs) net = ap (λ list. edges_into list net) (drop_more arcs arc no_arc arc_in)
    ∙ ap (λ b. (if b then edges_of (arc_at arcs arc) else 0) + edges_into (drop (arc + 1) arcs) net) here ∙ ap (λ i. edges_of (arc_at arcs arc) + edges_into (drop i arcs) net) next_is in
    omega (arith, steps, old, split))

-- at the start no arc is joined
pub joining_start : (look : Look) (wire : Wire) (states : List EdgeStates) (nets : ℕ) (arcs : List FlatArc) (net : ℕ) (latest : Option ℕ) (now : ℕ) → net < nets → IsLatest (targets_of nets arcs) (length (targets_of nets arcs)) net latest
    → IsJoining look wire states arcs net latest both_absent now now
joining_start look wire states nets arcs net latest now net_in is =
    let all : drop (length arcs) arcs ≡ [] = drop_all (length arcs) arcs (omega arith) in
    joining_down look wire states nets arcs net (length arcs) latest both_absent now now net_in (omega arith) (subst (λ many. IsLatest (targets_of nets arcs) many net latest) (length-targets nets arcs) is)
    (λ edge. absent_at edge ∙ ap (λ list. over_arcs look wire (states_in states) (length arcs) list net edge) (sym all))
    (λ edge. subst IsSmall (sym (absent_at edge)) tt)
    (omega arith)
  where
    absent_at : (edge : Edge) → state_at both_absent edge ≡ Absent
    absent_at Rise = refl
    absent_at Fall = refl

-- the related pin of an arc, and its target
pub joining_target : (nets : ℕ) (arcs : List FlatArc) (arc net : ℕ) → arc < length arcs → is_net (arc_at arcs arc).target net ≡ true → slice_index (targets_of nets arcs) arc ≡ net
joining_target nets arcs arc net arc_in here = target_is nets arcs arc arc_in ∙ ap (λ o. unwrap_or o (nets + 1)) (is_net_some (arc_at arcs arc).target net here)
