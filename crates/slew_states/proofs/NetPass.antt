-- Nets settled one by one.
use Rattle.std.proofs.Common.{◌≡◌, ◌≢◌, ℕ, ◌+◌, ◌*◌, ◌<◌, ◌≤◌, zero, suc, true, false, if◌then◌else◌, List, [], ◌∷◌, ◌++◌, length, take, slice_index, get_or, set, replicate, Option, None, Some, unwrap_or, sym, refl, ap, ◌∙◌, subst, inl, inr, arith, length-set, get_or-set_same, get_or-set_other}
use Rattle.std.proofs.lemmas.Bool.{cases_eq, cases_lt, cases_Bool, ne_eqb, eqb-true}
use Rattle.std.proofs.lemmas.List.{get_or-replicate, get_or_past, length-replicate, take_more, take_all}
use Rattle.cell_models.specs.declared.edge.Edge.{Edge}
use Rattle.cell_models.specs.declared.edge.Edge.TheVariants.{Rise, Fall}
use Rattle.slew_states.specs.declared.arcs.FlatArc.{FlatArc}
use Rattle.slew_states.specs.declared.arcs.Driver.{Driver}
use Rattle.slew_states.specs.declared.states.PinState.TheVariants.{Absent}
use Rattle.slew_states.specs.declared.states.EdgeStates.{EdgeStates}
use Rattle.slew_states.specs.Arcs.{arc_at, driver_at, is_net, HaveNets}
use Rattle.slew_states.specs.Loops.{IsNetOrder}
use Rattle.slew_states.specs.PinState.{Look, Wire, IsSmall, by_driver, over_arcs, state, state_at}
use Rattle.slew_states.specs.Settled.{both_absent, states_in, AreSettled, edges_of, arc_edges}
use Rattle.slew_states.specs.NetEdges.{edges_into, edges_into_all}
use Rattle.slew_states.proofs.Graphs.{source_is, target_is, length-sources, ordered_nets}
use Rattle.slew_states.proofs.Depths.{is_net_some, over_same, settled_depth}

-- the nets of the first so many places of the order are settled
pub record IsSettling (look : Look) (wire : Wire) (arcs : List FlatArc) (drivers : List Driver) (slew : ℕ) (order : List ℕ) (states : List EdgeStates) (done before now : ℕ) : Type 0 where
  pub len : length states ≡ length drivers
  pub small : (net : ℕ) (edge : Edge) → IsSmall (states_in states net edge)
  pub values : (j depth : ℕ) (edge : Edge) → j < done → j < length order → j < depth → slice_index order j < length drivers → states_in states (slice_index order j) edge ≡ state look wire arcs drivers slew depth (slice_index order j) edge
  pub steps : now ≤ before + 64 * edges_into_all arcs (take done order)

absent_at : (edge : Edge) → state_at both_absent edge ≡ Absent
absent_at Rise = refl
absent_at Fall = refl

absent_in : (nets net : ℕ) → get_or (replicate nets both_absent) net both_absent ≡ both_absent
absent_in nets net = elim (cases_lt net nets) [
  | inl low ↦ get_or-replicate nets net both_absent both_absent low
  | inr high ↦ get_or_past (replicate nets both_absent) net both_absent (let size = length-replicate nets both_absent in omega (arith, size, high))
]

pub settling_start : (look : Look) (wire : Wire) (arcs : List FlatArc) (drivers : List Driver) (slew : ℕ) (order : List ℕ) (states : List EdgeStates) (now : ℕ) → states ≡ replicate (length drivers) both_absent → IsSettling look wire arcs drivers slew order states 0 now now
settling_start look wire arcs drivers slew order states now is = record {
  len = ap length is ∙ length-replicate (length drivers) both_absent;
  small = λ net edge. subst IsSmall (sym (ap (λ list. states_in list net edge) is ∙ ap (λ s. state_at s edge) (absent_in (length drivers) net) ∙ absent_at edge)) tt;
  values = λ j depth edge below. absurd (omega (arith, below));
  steps = omega arith;
}

-- what the arcs make of settled states is what they make of the states at a depth
over_settled : (look : Look) (wire : Wire) (arcs : List FlatArc) (drivers : List Driver) (slew : ℕ) (order : List ℕ) (states : List EdgeStates) (done before now depth : ℕ) (edge : Edge) → HaveNets (length drivers) arcs → IsNetOrder (length drivers) arcs order → done < length order → done ≤ depth
    → IsSettling look wire arcs drivers slew order states done before now
    → over_arcs look wire (states_in states) 0 arcs (slice_index order done) edge ≡ over_arcs look wire (state look wire arcs drivers slew depth) 0 arcs (slice_index order done) edge
over_settled look wire arcs drivers slew order states done before now depth edge have ordered done_in deep held =
    over_same look wire (states_in states) (state look wire arcs drivers slew depth) 0 arcs (slice_index order done) (λ k m k_in to from e.
    let links = length-sources (length drivers) arcs in
    let stands = ordered.after k done (omega (arith, links, k_in)) done_in (target_is (length drivers) arcs k k_in ∙ ap (λ o. unwrap_or o (length drivers + 1)) (is_net_some (arc_at arcs k).target (slice_index order done) to)) in
    let at : slice_index order stands.0 ≡ m = stands.2 ∙ source_is (length drivers) arcs k k_in ∙ ap (λ o. unwrap_or o (length drivers)) from in
    let low = stands.1 in let net_in = (have k m k_in).0 from in
    subst (λ x. states_in states x e ≡ state look wire arcs drivers slew depth x e) at
    (held.values stands.0 depth e low (omega (arith, low, done_in)) (omega (arith, low, deep)) (omega (arith, at, net_in)))) edge

take_into : (arcs : List FlatArc) (nets : List ℕ) (net : ℕ) → edges_into_all arcs (nets ++ net ∷ []) ≡ edges_into_all arcs nets + edges_into arcs net
take_into arcs [] net = omega arith
take_into arcs (first ∷ nets) net = let rest = take_into arcs nets net in omega (arith, rest)

-- what the arcs make of settled states is the state at each depth past the place
at_depth : (look : Look) (wire : Wire) (arcs : List FlatArc) (drivers : List Driver) (slew : ℕ) (order : List ℕ) (states : List EdgeStates) (made : EdgeStates) (done before now depth : ℕ) (edge : Edge) → HaveNets (length drivers) arcs → IsNetOrder (length drivers) arcs order → done < length order
    → ((edge : Edge) → state_at made edge ≡ by_driver (driver_at drivers (slice_index order done)) slew (over_arcs look wire (states_in states) 0 arcs (slice_index order done) edge)) → IsSettling look wire arcs drivers slew order states done before now
    → done < depth → state_at made edge ≡ state look wire arcs drivers slew depth (slice_index order done) edge
unfolding state
at_depth look wire arcs drivers slew order states made done before now zero edge have ordered done_in value held deep = absurd (omega (arith, deep))
at_depth look wire arcs drivers slew order states made done before now (suc depth) edge have ordered done_in value held deep =
    value edge ∙ ap (by_driver (driver_at drivers (slice_index order done)) slew) (over_settled look wire arcs drivers slew order states done before now depth edge have ordered done_in (omega (arith, deep)) held)

-- the net at one place more is settled
pub settling_more : (look : Look) (wire : Wire) (arcs : List FlatArc) (drivers : List Driver) (slew : ℕ) (order : List ℕ) (states : List EdgeStates) (made : EdgeStates) (done before now now' : ℕ) → HaveNets (length drivers) arcs → IsNetOrder (length drivers) arcs order → done < length order → slice_index order done < length drivers
    → ((edge : Edge) → state_at made edge ≡ by_driver (driver_at drivers (slice_index order done)) slew (over_arcs look wire (states_in states) 0 arcs (slice_index order done) edge)) → ((edge : Edge) → IsSmall (state_at made edge)) → now' ≤ now + 64 * edges_into arcs (slice_index order done)
    → IsSettling look wire arcs drivers slew order states done before now → IsSettling look wire arcs drivers slew order (set states (slice_index order done) made) (done + 1) before now'
settling_more look wire arcs drivers slew order states made done before now now' have ordered done_in net_in value small steps held = record {
  len = length-set states (slice_index order done) made ∙ held.len;
  small = λ x edge. elim (cases_eq x (slice_index order done)) [
    | inl is ↦ subst IsSmall (sym (now_at x edge is)) (small edge)
    | inr ne ↦ subst IsSmall (sym (other x edge ne)) (held.small x edge)
  ];
  values = λ j depth edge below j_in deep j_net. elim (cases_eq j done) [
    | inl is ↦ now_at (slice_index order j) edge (ap (slice_index order) is) ∙ at_depth look wire arcs drivers slew order states made done before now depth edge have ordered done_in value held (omega (arith, is, deep))
        ∙ ap (λ k. state look wire arcs drivers slew depth (slice_index order k) edge) (sym is)
    | inr ne ↦ let ne' : j ≢ done = ne in let low : j < done = omega (arith, ne', below) in
        other (slice_index order j) edge (ordered.once j done low done_in) ∙ held.values j depth edge low j_in deep j_net
  ];
  steps = let old = held.steps in let split = ap (edges_into_all arcs) (take_more order done 0 done_in) ∙ take_into arcs (take done order) (slice_index order done) in omega (arith, steps, old, split);
}
  where
    now_at : (x : ℕ) (edge : Edge) → x ≡ slice_index order done → states_in (set states (slice_index order done) made) x edge ≡ state_at made edge
    now_at x edge is = ap (λ k. states_in (set states (slice_index order done) made) k edge) is ∙ ap (λ s. state_at s edge) (get_or-set_same states (slice_index order done) made both_absent (let size = held.len in omega (arith, size, net_in)))

    other : (x : ℕ) (edge : Edge) → x ≢ slice_index order done → states_in (set states (slice_index order done) made) x edge ≡ states_in states x edge
    other x edge ne = ap (λ s. state_at s edge) (get_or-set_other states (slice_index order done) x made both_absent ne)

-- a place of another node is passed over
pub settling_skip : (look : Look) (wire : Wire) (arcs : List FlatArc) (drivers : List Driver) (slew : ℕ) (order : List ℕ) (states : List EdgeStates) (done before now : ℕ) → done < length order → length drivers ≤ slice_index order done
    → IsSettling look wire arcs drivers slew order states done before now → IsSettling look wire arcs drivers slew order states (done + 1) before now
settling_skip look wire arcs drivers slew order states done before now done_in out held = record {
  len = held.len;
  small = held.small;
  values = λ j depth edge below j_in deep j_net. elim (cases_eq j done) [
    | inl is ↦ absurd (let at = ap (slice_index order) is in omega (arith, at, j_net, out))
    | inr ne ↦ let ne' : j ≢ done = ne in held.values j depth edge (omega (arith, ne', below)) j_in deep j_net
  ];
  steps = let old = held.steps in let split = ap (edges_into_all arcs) (take_more order done 0 done_in) ∙ take_into arcs (take done order) (slice_index order done) in omega (arith, old, split);
}

-- at the end all nets are settled
pub settling_end : (look : Look) (wire : Wire) (arcs : List FlatArc) (drivers : List Driver) (slew : ℕ) (order : List ℕ) (states : List EdgeStates) (done before now : ℕ) → HaveNets (length drivers) arcs → IsNetOrder (length drivers) arcs order → length order ≤ done
    → IsSettling look wire arcs drivers slew order states done before now → AreSettled look wire arcs drivers slew states
settling_end look wire arcs drivers slew order states done before now have ordered all held = record {
  len = held.len;
  values = λ net edge net_in.
      let stands = ordered.all net (omega (arith, net_in)) in
      let low = stands.1 in
      let depth : ℕ = stands.0 + (length drivers + 1) in
      subst (λ x. states_in states x edge ≡ state look wire arcs drivers slew (stands.0 + (length drivers + 1)) x edge) stands.2
      (held.values stands.0 (stands.0 + (length drivers + 1)) edge (omega (arith, low, all)) low (omega arith) (let at = stands.2 in omega (arith, at, net_in)))
      ∙ settled_depth look wire arcs drivers slew have (ordered_nets (length drivers) arcs order have ordered) (stands.0 + (length drivers + 1)) net edge (omega arith);
}

-- the edges that an arc has, for each net of a list that it ends on
ends_on : ℕ → Option ℕ → List ℕ → ℕ
ends_on edges target [] = 0
ends_on edges target (net ∷ nets) = (if is_net target net then edges else 0) + ends_on edges target nets

ends_split : (arc : FlatArc) (arcs : List FlatArc) (nets : List ℕ) → edges_into_all (arc ∷ arcs) nets ≡ ends_on (edges_of arc) arc.target nets + edges_into_all arcs nets
unfolding ends_on
ends_split arc arcs [] = refl
ends_split arc arcs (net ∷ nets) = let rest = ends_split arc arcs nets in omega (arith, rest)

ends_none : (edges : ℕ) (target : Option ℕ) (nets : List ℕ) → ((k : ℕ) → k < length nets → is_net target (slice_index nets k) ≡ false) → ends_on edges target nets ≡ 0
unfolding ends_on
ends_none edges target [] off = refl
ends_none edges target (net ∷ nets) off =
    let first = ap (λ b. if b then edges else 0) (off 0 (omega arith)) in
    let rest = ends_none edges target nets (λ k below. off (suc k) (omega (arith, below))) in omega (arith, first, rest)

not_other : (target : Option ℕ) (net other : ℕ) → is_net target net ≡ true → net ≢ other → is_net target other ≡ false
not_other None net other here ne = refl
not_other (Some m) net other here ne = ne_eqb m other (λ at. ne (sym (eqb-true m net here) ∙ at))

ends_once : (edges : ℕ) (target : Option ℕ) (nets : List ℕ) → ((j k : ℕ) → j < k → k < length nets → slice_index nets j ≢ slice_index nets k) → ends_on edges target nets ≤ edges
unfolding ends_on
ends_once edges target [] once = omega arith
ends_once edges target (net ∷ nets) once = elim (cases_Bool (is_net target net)) [
  | inl here ↦ (let first = ap (λ b. if b then edges else 0) here in
      let rest = ends_none edges target nets (λ k below. not_other target net (slice_index nets k) here (once 0 (suc k) (omega arith) (omega (arith, below)))) in omega (arith, first, rest))
  | inr off ↦ (let first = ap (λ b. if b then edges else 0) off in
      let rest = ends_once edges target nets (λ j k lower below. once (suc j) (suc k) (omega (arith, lower)) (omega (arith, below))) in omega (arith, first, rest))
]

no_edges : (nets : List ℕ) → edges_into_all [] nets ≡ 0
no_edges [] = refl
no_edges (net ∷ nets) = let rest = no_edges nets in omega (arith, rest)

pub edges_le : (arcs : List FlatArc) (nets : List ℕ) → ((j k : ℕ) → j < k → k < length nets → slice_index nets j ≢ slice_index nets k) → edges_into_all arcs nets ≤ arc_edges arcs
edges_le [] nets once = let none = no_edges nets in omega (arith, none)
edges_le (arc ∷ arcs) nets once =
    let split = ends_split arc arcs nets in let first = ends_once (edges_of arc) arc.target nets once in let rest = edges_le arcs nets once in omega (arith, split, first, rest)

pub settling_steps : (look : Look) (wire : Wire) (arcs : List FlatArc) (drivers : List Driver) (slew : ℕ) (order : List ℕ) (states : List EdgeStates) (done before now : ℕ) → IsNetOrder (length drivers) arcs order → length order ≤ done
    → IsSettling look wire arcs drivers slew order states done before now → now ≤ before + 64 * arc_edges arcs
settling_steps look wire arcs drivers slew order states done before now ordered all held =
    let steps = held.steps in let whole = ap (edges_into_all arcs) (take_all done order all) in let most = edges_le arcs order ordered.once in omega (arith, steps, whole, most)
