-- The states at two depths are the same, or a long walk leads to the net.
use Rattle.std.proofs.Common.{◌≡◌, ◌⊎◌, ℕ, ◌+◌, ◌-◌, ◌<◌, ◌≤◌, zero, suc, Bool, true, false, if◌then◌else◌, List, [], ◌∷◌, ◌++◌, length, map, take, drop, slice_index, Option, None, Some, is_some, unwrap_or, sym, refl, ap, ◌∙◌, subst, inl, inr, arith}
use Rattle.std.proofs.lemmas.Bool.{cases_Bool, cases_lt, eqb-true, false≢true}
use Rattle.std.proofs.lemmas.List.{get_or-map, length-map, get_or-drop, length-drop, length-take-le, length-append, get_or_append_left, get_or_push}
use Rattle.cell_models.specs.declared.edge.Edge.{Edge}
use Rattle.graph_order.specs.Orders.{IsWalk, IsCycle}
use Rattle.graph_order.proofs.Waiting.{few}
use Rattle.graph_order.proofs.Trails.{walk-append}
use Rattle.slew_states.specs.declared.arcs.FlatArc.{FlatArc}
use Rattle.slew_states.specs.declared.arcs.Driver.{Driver}
use Rattle.slew_states.specs.declared.states.PinState.{PinState}
use Rattle.slew_states.specs.declared.states.PinState.TheVariants.{Absent}
use Rattle.slew_states.specs.Arcs.{arc_at, driver_at, has_edge, is_net, HaveNets, sources_of, targets_of}
use Rattle.slew_states.specs.InputEdges.{input_edges}
use Rattle.slew_states.specs.PinState.{Look, Wire, join, joined, behind, pin_state, arc_state, over_arcs, by_driver, state}
use Rattle.slew_states.specs.Laws.{SettledDepth}
use Rattle.slew_states.proofs.Graphs.{source_is, target_is, length-sources, cycle_loop}

pub is_net_some : (net : Option ℕ) (v : ℕ) → is_net net v ≡ true → net ≡ Some v
is_net_some None v is = absurd (false≢true is)
is_net_some (Some m) v is = ap Some (eqb-true m v is)

pin_same : (wire : Wire) (f g : ℕ → Edge → PinState) (arc : ℕ) (source : Option ℕ) → ((m : ℕ) → source ≡ Some m → (edge : Edge) → f m edge ≡ g m edge) → (edge : Edge) → pin_state wire f arc source edge ≡ pin_state wire g arc source edge
pin_same wire f g arc None same edge = refl
pin_same wire f g arc (Some m) same edge = ap (behind (wire arc)) (same m refl edge)

joined_same : (p q : Edge → PinState) → ((edge : Edge) → p edge ≡ q edge) → (edges : List Edge) → joined (map p edges) ≡ joined (map q edges)
joined_same p q same [] = refl
joined_same p q same (edge ∷ edges) = ap (λ s. join s (joined (map p edges))) (same edge) ∙ ap (join (q edge)) (joined_same p q same edges)

-- an arc gives the same by states that are the same at its related net
pub arc_same : (look : Look) (wire : Wire) (f g : ℕ → Edge → PinState) (arc : ℕ) (this : FlatArc) → ((m : ℕ) → this.source ≡ Some m → (edge : Edge) → f m edge ≡ g m edge) → (edge : Edge)
    → arc_state look wire f arc this edge ≡ arc_state look wire g arc this edge
arc_same look wire f g arc this same edge = ap (λ s. if has_edge this edge then behind (look arc edge) s else Absent)
    (joined_same (pin_state wire f arc this.source) (pin_state wire g arc this.source) (pin_same wire f g arc this.source same) (input_edges this.kind edge))

-- so do the arcs of a list
pub over_same : (look : Look) (wire : Wire) (f g : ℕ → Edge → PinState) (arc : ℕ) (arcs : List FlatArc) (v : ℕ)
    → ((k m : ℕ) → k < length arcs → is_net (arc_at arcs k).target v ≡ true → (arc_at arcs k).source ≡ Some m → (edge : Edge) → f m edge ≡ g m edge) → (edge : Edge)
    → over_arcs look wire f arc arcs v edge ≡ over_arcs look wire g arc arcs v edge
over_same look wire f g arc [] v same edge = refl
over_same look wire f g arc (this ∷ arcs) v same edge =
    ap (λ s. join s (over_arcs look wire f (suc arc) arcs v edge)) (here (is_net this.target v) refl)
    ∙ ap (join (if is_net this.target v then arc_state look wire g arc this edge else Absent)) (over_same look wire f g (suc arc) arcs v (λ k m below. same (suc k) m (omega (arith, below))) edge)
  where
    here : (b : Bool) → is_net this.target v ≡ b → (if b then arc_state look wire f arc this edge else Absent) ≡ (if b then arc_state look wire g arc this edge else Absent)
    here true is = arc_same look wire f g arc this (λ m at. same 0 m (omega arith) is at) edge
    here false is = refl

some_same : (m n : ℕ) → ◌≡◌ {A = Option ℕ} (Some m) (Some n) → m ≡ n
some_same m n at = ap (λ (o : Option ℕ). unwrap_or o 0) at

none_some : (m : ℕ) → ◌≡◌ {A = Option ℕ} None (Some m) → ⊥
none_some m at = false≢true (ap is_some at)

-- where the arc ends at the net and begins at one, the states there are the same, or this holds of it
by_source : (f g : ℕ → Edge → PinState) (W : ℕ → Type 0) → ((m : ℕ) → ((edge : Edge) → f m edge ≡ g m edge) ⊎ W m) → (source : Option ℕ)
    → ((m : ℕ) → source ≡ Some m → (edge : Edge) → f m edge ≡ g m edge) ⊎ ((m : ℕ) × (source ≡ Some m) × W m)
by_source f g W decide None = inl (λ m at. absurd (none_some m at))
by_source f g W decide (Some n) = elim (decide n) [
  | inl same ↦ inl (λ m at edge. subst (λ k. f k edge ≡ g k edge) (some_same n m at) (same edge))
  | inr holds ↦ inr (n, refl, holds)
]

-- an arc of a list that ends at a net and begins at one for which this holds
abbrev Through : (ℕ → Type 0) → List FlatArc → ℕ → Type 0
Through W arcs v = (k m : ℕ) × (k < length arcs) × (is_net (arc_at arcs k).target v ≡ true) × ((arc_at arcs k).source ≡ Some m) × W m

abbrev SameAt : (ℕ → Edge → PinState) → (ℕ → Edge → PinState) → List FlatArc → ℕ → Type 0
SameAt f g arcs v = (k m : ℕ) → k < length arcs → is_net (arc_at arcs k).target v ≡ true → (arc_at arcs k).source ≡ Some m → (edge : Edge) → f m edge ≡ g m edge

same_more : (f g : ℕ → Edge → PinState) (this : FlatArc) (arcs : List FlatArc) (v : ℕ) → (is_net this.target v ≡ true → (m : ℕ) → this.source ≡ Some m → (edge : Edge) → f m edge ≡ g m edge) → SameAt f g arcs v → SameAt f g (this ∷ arcs) v
same_more f g this arcs v first rest zero m below here at edge = first here m at edge
same_more f g this arcs v first rest (suc k) m below here at edge = rest k m (omega (arith, below)) here at edge

-- the states are the same where the arcs that end at a net begin, or one begins at a net for which this holds
same_or_through : (f g : ℕ → Edge → PinState) (W : ℕ → Type 0) → ((m : ℕ) → ((edge : Edge) → f m edge ≡ g m edge) ⊎ W m) → (arcs : List FlatArc) (v : ℕ) → SameAt f g arcs v ⊎ Through W arcs v
same_or_through f g W decide [] v = inl (λ k m below. absurd (omega (arith, below)))
same_or_through f g W decide (this ∷ arcs) v = elim (same_or_through f g W decide arcs v) [
  | inr found ↦ inr (suc found.0, found.1, omega (arith, found.2), found.3, found.4, found.5)
  | inl rest ↦ elim (cases_Bool (is_net this.target v)) [
    | inr off ↦ inl (same_more f g this arcs v (λ here. absurd (false≢true (sym off ∙ here))) rest)
    | inl here ↦ elim (by_source f g W decide this.source) [
      | inl same ↦ inl (same_more f g this arcs v (λ yes. same) rest)
      | inr found ↦ inr (0, found.0, omega arith, here, found.1, found.2)
    ]
  ]
]

-- parts of a walk
walk_from : (sources targets : List ℕ) (a : ℕ) (walk : List ℕ) (b j : ℕ) → IsWalk sources targets a walk b → j < length walk → IsWalk sources targets (slice_index sources (slice_index walk j)) (drop j walk) b
walk_from sources targets a [] b j walks below = absurd (omega (arith, below))
walk_from sources targets a (link ∷ walk) b zero walks below = (walks.0, refl, walks.2)
walk_from sources targets a (link ∷ walk) b (suc j) walks below = walk_from sources targets (slice_index targets link) walk b j walks.2 (omega (arith, below))

walk_to : (sources targets : List ℕ) (a : ℕ) (walk : List ℕ) (b k : ℕ) → IsWalk sources targets a walk b → k < length walk → IsWalk sources targets a (take k walk) (slice_index sources (slice_index walk k))
walk_to sources targets a [] b k walks below = absurd (omega (arith, below))
walk_to sources targets a (link ∷ walk) b zero walks below = sym walks.1
walk_to sources targets a (link ∷ walk) b (suc k) walks below = (walks.0, walks.1, walk_to sources targets (slice_index targets link) walk b k walks.2 (omega (arith, below)))

-- a walk of so many links over nets alone leads to the net
pub record IsLong (nets : ℕ) (sources targets : List ℕ) (depth v a : ℕ) (walk : List ℕ) : Type 0 where
  pub len : length walk ≡ depth
  pub walks : IsWalk sources targets a walk v
  pub within : (j : ℕ) → j < length walk → slice_index sources (slice_index walk j) < nets

-- where there is no cycle no walk has more links than there are nets
not_long : (nets : ℕ) (sources targets : List ℕ) → ((node : ℕ) (cycle : List ℕ) → IsCycle sources targets node cycle → ⊥) → (depth v a : ℕ) (walk : List ℕ) → IsLong nets sources targets depth v a walk → depth ≤ nets
not_long nets sources targets none depth v a walk long =
    let at : (j : ℕ) → j < length walk → slice_index (map (slice_index sources) walk) j ≡ slice_index sources (slice_index walk j) = λ j below. get_or-map (slice_index sources) walk j 0 0 below in
    let size : length (map (slice_index sources) walk) ≡ length walk = length-map walk (slice_index sources) in
    let most = few (map (slice_index sources) walk) nets
    (λ j below. let in_walk : j < length walk = omega (arith, size, below) in subst (λ x. x < nets) (sym (at j in_walk)) (long.within j in_walk))
    (λ j k lower below same.
    let k_in : k < length walk = omega (arith, size, below) in let j_in : j < length walk = omega (arith, k_in, lower) in
    let rest = walk_from sources targets a walk v j long.walks j_in in
    let dropped = length-drop j walk in
    let part_in : k - j < length (drop j walk) = omega (arith, dropped, k_in, lower) in
    let end : slice_index (drop j walk) (k - j) ≡ slice_index walk k = get_or-drop j walk (k - j) 0 ∙ ap (slice_index walk) (let sum : j + (k - j) ≡ k = omega (arith, lower) in sum) in
    let part = walk_to sources targets (slice_index sources (slice_index walk j)) (drop j walk) v (k - j) rest part_in in
    let cut = length-take-le (k - j) (drop j walk) (omega (arith, part_in)) in
    none (slice_index sources (slice_index walk j)) (take (k - j) (drop j walk))
    (omega (arith, cut, lower), subst (IsWalk sources targets (slice_index sources (slice_index walk j)) (take (k - j) (drop j walk))) (ap (slice_index sources) end ∙ sym (at k k_in) ∙ sym same ∙ at j j_in) part)) in
    let len = long.len in omega (arith, most, size, len)

longer : (nets : ℕ) (arcs : List FlatArc) → HaveNets nets arcs → (depth v a : ℕ) (walk : List ℕ) (arc m : ℕ) → arc < length arcs → (arc_at arcs arc).target ≡ Some v → (arc_at arcs arc).source ≡ Some m
    → IsLong nets (sources_of nets arcs) (targets_of nets arcs) depth m a walk → IsLong nets (sources_of nets arcs) (targets_of nets arcs) (suc depth) v a (walk ++ arc ∷ [])
longer nets arcs have depth v a walk arc m arc_in to from long =
    let size : length (walk ++ arc ∷ []) ≡ length walk + 1 = length-append walk (arc ∷ []) in
    let links = length-sources nets arcs in
    let begins : slice_index (sources_of nets arcs) arc ≡ m = source_is nets arcs arc arc_in ∙ ap (λ o. unwrap_or o nets) from in
    record {
      len = let l = long.len in omega (arith, size, l);
      walks = walk-append (sources_of nets arcs) (targets_of nets arcs) a walk m (arc ∷ []) v long.walks (omega (arith, links, arc_in), begins, target_is nets arcs arc arc_in ∙ ap (λ o. unwrap_or o (nets + 1)) to);
      within = λ j below. elim (cases_lt j (length walk)) [
        | inl low ↦ subst (λ k. slice_index (sources_of nets arcs) k < nets) (sym (get_or_append_left walk (arc ∷ []) 0 j low)) (long.within j low)
        | inr high ↦ subst (λ k. slice_index (sources_of nets arcs) k < nets) (sym (get_or_push walk arc 0 j (let at : length walk ≡ j = omega (arith, high, below, size) in at))) (subst (λ x. x < nets) (sym begins) ((have arc m arc_in).0 from))
      ];
    }

-- the state at a depth is the one at the next, or a walk of so many links leads to the net
same_or_walk : (look : Look) (wire : Wire) (arcs : List FlatArc) (drivers : List Driver) (slew : ℕ) → HaveNets (length drivers) arcs → (depth v : ℕ)
    → ((edge : Edge) → state look wire arcs drivers slew (suc depth) v edge ≡ state look wire arcs drivers slew depth v edge)
    ⊎ ((a : ℕ) × (walk : List ℕ) × IsLong (length drivers) (sources_of (length drivers) arcs) (targets_of (length drivers) arcs) depth v a walk)
unfolding state
same_or_walk look wire arcs drivers slew have zero v = inr (v, [], record { len = refl; walks = refl; within = λ j below. absurd (omega (arith, below)) })
same_or_walk look wire arcs drivers slew have (suc depth) v =
    elim (same_or_through (state look wire arcs drivers slew (suc depth)) (state look wire arcs drivers slew depth)
    (λ m. (a : ℕ) × (walk : List ℕ) × IsLong (length drivers) (sources_of (length drivers) arcs) (targets_of (length drivers) arcs) depth m a walk)
    (same_or_walk look wire arcs drivers slew have depth) arcs v) [
      | inl same ↦ inl (λ edge. ap (by_driver (driver_at drivers v) slew) (over_same look wire (state look wire arcs drivers slew (suc depth)) (state look wire arcs drivers slew depth) 0 arcs v same edge))
      | inr found ↦ inr (found.5.0, found.5.1 ++ found.0 ∷ [], longer (length drivers) arcs have depth v found.5.0 found.5.1 found.0 found.1 found.2 (is_net_some (arc_at arcs found.0).target v found.3) found.4 found.5.2)
    ]

pub settled_depth : (look : Look) (wire : Wire) (arcs : List FlatArc) (drivers : List Driver) (slew : ℕ) → SettledDepth look wire arcs drivers slew
settled_depth look wire arcs drivers slew have none depth v edge deep =
    subst (λ d. state look wire arcs drivers slew d v edge ≡ state look wire arcs drivers slew (length drivers + 1) v edge) (let sum : (depth - (length drivers + 1)) + (length drivers + 1) ≡ depth = omega (arith, deep) in sum)
    (later (depth - (length drivers + 1)))
  where
    later : (gap : ℕ) → state look wire arcs drivers slew (gap + (length drivers + 1)) v edge ≡ state look wire arcs drivers slew (length drivers + 1) v edge
    later zero = ap (λ d. state look wire arcs drivers slew d v edge) (let sum : 0 + (length drivers + 1) ≡ length drivers + 1 = omega arith in sum)
    later (suc gap) = ap (λ d. state look wire arcs drivers slew d v edge) (let sum : suc gap + (length drivers + 1) ≡ suc (gap + (length drivers + 1)) = omega arith in sum)
        ∙ elim (same_or_walk look wire arcs drivers slew have (gap + (length drivers + 1)) v) [
          | inl same ↦ same edge
          | inr found ↦ (let low = not_long (length drivers) (sources_of (length drivers) arcs) (targets_of (length drivers) arcs) (λ node cycle is. none node cycle (cycle_loop (length drivers) arcs have node cycle is))
              (gap + (length drivers + 1)) v found.0 found.1 found.2 in absurd (omega (arith, low)))
        ] ∙ later gap
