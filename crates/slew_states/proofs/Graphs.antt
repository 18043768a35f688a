-- Loops of arcs are cycles of the graph of the nets.
use Rattle.std.proofs.Common.{◌≡◌, ◌≢◌, ℕ, ◌+◌, ◌<◌, ◌≤◌, List, [], ◌∷◌, length, slice_index, get_or, Option, None, Some, unwrap_or, sym, refl, ap, ◌∙◌, subst, arith, All}
use Rattle.std.proofs.lemmas.List.{get_or-map, length-map}
use Rattle.graph_order.specs.Orders.{IsWalk, IsCycle, IsCycleFromLeast}
use Rattle.graph_order.proofs.Orders.{order_law}
use Rattle.graph_order.proofs.Trails.{walk_links}
use Rattle.graph_order.specs.Ends.{CarriesCycle}
use Rattle.graph_order.specs.declared.ends.OrderEnd.{OrderEnd}
use Rattle.graph_order.specs.declared.ends.OrderEnd.TheVariants.{Cycle, OutOfMemory}
use Rattle.slew_states.specs.Ends.{CarriesLoop}
use Rattle.slew_states.specs.declared.arcs.FlatArc.{FlatArc}
use Rattle.slew_states.specs.Arcs.{no_arc, arc_at, HaveNets, sources_of, targets_of}
use Rattle.slew_states.specs.Loops.{ArcsLead, IsLoop, IsLoopFromLeast, HasNoLoop, IsNetOrder}

pub source_is : (nets : ℕ) (arcs : List FlatArc) (link : ℕ) → link < length arcs → slice_index (sources_of nets arcs) link ≡ unwrap_or (arc_at arcs link).source nets
source_is nets arcs link below = get_or-map (λ (arc : FlatArc). unwrap_or arc.source nets) arcs link no_arc 0 below

pub target_is : (nets : ℕ) (arcs : List FlatArc) (link : ℕ) → link < length arcs → slice_index (targets_of nets arcs) link ≡ unwrap_or (arc_at arcs link).target (nets + 1)
target_is nets arcs link below = get_or-map (λ (arc : FlatArc). unwrap_or arc.target (nets + 1)) arcs link no_arc 0 below

pub length-sources : (nets : ℕ) (arcs : List FlatArc) → length (sources_of nets arcs) ≡ length arcs
length-sources nets arcs = length-map arcs (λ (arc : FlatArc). unwrap_or arc.source nets)

pub length-targets : (nets : ℕ) (arcs : List FlatArc) → length (targets_of nets arcs) ≡ length arcs
length-targets nets arcs = length-map arcs (λ (arc : FlatArc). unwrap_or arc.target (nets + 1))

some_net : (net : Option ℕ) (none a : ℕ) → unwrap_or net none ≡ a → a ≢ none → net ≡ Some a
some_net None none a at ne = absurd (ne (sym at))
some_net (Some m) none a at ne = ap Some at

not_source : (net : Option ℕ) (nets : ℕ) → ((m : ℕ) → net ≡ Some m → m < nets) → unwrap_or net (nets + 1) ≡ nets → ⊥
not_source None nets within at = omega (arith, at)
not_source (Some m) nets within at = let low = within m refl in omega (arith, at, low)

not_target : (net : Option ℕ) (nets : ℕ) → ((m : ℕ) → net ≡ Some m → m < nets) → unwrap_or net nets ≡ nets + 1 → ⊥
not_target None nets within at = omega (arith, at)
not_target (Some m) nets within at = let low = within m refl in omega (arith, at, low)

few_nodes : (net : Option ℕ) (nets none : ℕ) → none ≤ nets + 1 → ((m : ℕ) → net ≡ Some m → m < nets) → unwrap_or net none < nets + 2
few_nodes None nets none low within = omega (arith, low)
few_nodes (Some m) nets none low within = let below = within m refl in omega (arith, below)

pub sources_in : (nets : ℕ) (arcs : List FlatArc) → HaveNets nets arcs → All (λ node. node < nets + 2) (sources_of nets arcs)
sources_in nets arcs have link d below =
    let size = length-sources nets arcs in let link_in : link < length arcs = omega (arith, size, below) in
    subst (λ x. x < nets + 2) (sym (get_or-map (λ (arc : FlatArc). unwrap_or arc.source nets) arcs link no_arc d link_in)) (few_nodes (arc_at arcs link).source nets nets (omega arith) (λ m at. (have link m link_in).0 at))

pub targets_in : (nets : ℕ) (arcs : List FlatArc) → HaveNets nets arcs → All (λ node. node < nets + 2) (targets_of nets arcs)
targets_in nets arcs have link d below =
    let size = length-targets nets arcs in let link_in : link < length arcs = omega (arith, size, below) in
    subst (λ x. x < nets + 2) (sym (get_or-map (λ (arc : FlatArc). unwrap_or arc.target (nets + 1)) arcs link no_arc d link_in)) (few_nodes (arc_at arcs link).target nets (nets + 1) (omega arith) (λ m at. (have link m link_in).1 at))

link_arc : (nets : ℕ) (arcs : List FlatArc) (link : ℕ) → link < length (sources_of nets arcs) → link < length arcs
link_arc nets arcs link below = let size = length-sources nets arcs in omega (arith, size, below)

-- no walk begins at the node of arcs without an output net, unless it ends there
start_not : (nets : ℕ) (arcs : List FlatArc) → HaveNets nets arcs → (a : ℕ) (walk : List ℕ) (b : ℕ) → IsWalk (sources_of nets arcs) (targets_of nets arcs) a walk b → b ≢ nets + 1 → a ≢ nets + 1
start_not nets arcs have a [] b walks ne = λ at. ne (sym walks ∙ at)
start_not nets arcs have a (link ∷ walk) b walks ne = λ at.
    let link_in = link_arc nets arcs link walks.0 in
    not_target (arc_at arcs link).source nets (λ m is. (have link m link_in).0 is) (sym (source_is nets arcs link link_in) ∙ walks.1 ∙ at)

target_not : (nets : ℕ) (arcs : List FlatArc) → HaveNets nets arcs → (link : ℕ) → link < length arcs → slice_index (targets_of nets arcs) link ≢ nets
target_not nets arcs have link link_in at = not_source (arc_at arcs link).target nets (λ m is. (have link m link_in).1 is) (sym (target_is nets arcs link link_in) ∙ at)

-- no walk with a link ends at the node of arcs without a related net
end_not : (nets : ℕ) (arcs : List FlatArc) → HaveNets nets arcs → (a link : ℕ) (walk : List ℕ) (b : ℕ) → IsWalk (sources_of nets arcs) (targets_of nets arcs) a (link ∷ walk) b → b ≢ nets
end_not nets arcs have a link [] b walks = λ at. target_not nets arcs have link (link_arc nets arcs link walks.0) (walks.2 ∙ at)
end_not nets arcs have a link (next ∷ walk) b walks = end_not nets arcs have (slice_index (targets_of nets arcs) link) next walk b walks.2

walk_arcs : (nets : ℕ) (arcs : List FlatArc) → HaveNets nets arcs → (a : ℕ) (walk : List ℕ) (b : ℕ) → IsWalk (sources_of nets arcs) (targets_of nets arcs) a walk b → a ≢ nets → b ≢ nets + 1 → ArcsLead arcs a walk b
walk_arcs nets arcs have a [] b walks from to = walks
walk_arcs nets arcs have a (link ∷ walk) b walks from to =
    let link_in = link_arc nets arcs link walks.0 in
    let next = slice_index (targets_of nets arcs) link in (
      link_in,
      some_net (arc_at arcs link).source nets a (sym (source_is nets arcs link link_in) ∙ walks.1) from,
      (
        slice_index (targets_of nets arcs) link,
        some_net (arc_at arcs link).target (nets + 1) (slice_index (targets_of nets arcs) link) (sym (target_is nets arcs link link_in)) (start_not nets arcs have (slice_index (targets_of nets arcs) link) walk b walks.2 to),
        walk_arcs nets arcs have (slice_index (targets_of nets arcs) link) walk b walks.2 (target_not nets arcs have link link_in) to,
      ),
    )

pub cycle_loop : (nets : ℕ) (arcs : List FlatArc) → HaveNets nets arcs → (node : ℕ) (cycle : List ℕ) → IsCycle (sources_of nets arcs) (targets_of nets arcs) node cycle → IsLoop arcs node cycle
cycle_loop nets arcs have node [] goes = absurd (let some = goes.0 in omega (arith, some))
cycle_loop nets arcs have node (link ∷ walk) goes =
    let link_in = link_arc nets arcs link goes.1.0 in (
      goes.0,
      walk_arcs nets arcs have node (link ∷ walk) node goes.1 (end_not nets arcs have node link walk node goes.1)
          (λ at. not_target (arc_at arcs link).source nets (λ m is. (have link m link_in).0 is) (sym (source_is nets arcs link link_in) ∙ goes.1.1 ∙ at)),
    )

arcs_walk : (nets : ℕ) (arcs : List FlatArc) (a : ℕ) (walk : List ℕ) (b : ℕ) → ArcsLead arcs a walk b → IsWalk (sources_of nets arcs) (targets_of nets arcs) a walk b
arcs_walk nets arcs a [] b leads = leads
arcs_walk nets arcs a (link ∷ walk) b leads =
    let size = length-sources nets arcs in let low = leads.0 in (
      omega (arith, size, low),
      source_is nets arcs link leads.0 ∙ ap (λ o. unwrap_or o nets) leads.1,
      subst (λ x. IsWalk (sources_of nets arcs) (targets_of nets arcs) x walk b) (sym (target_is nets arcs link leads.0 ∙ ap (λ o. unwrap_or o (nets + 1)) leads.2.1)) (arcs_walk nets arcs leads.2.0 walk b leads.2.2),
    )

pub ordered_nets : (nets : ℕ) (arcs : List FlatArc) (order : List ℕ) → HaveNets nets arcs → IsNetOrder nets arcs order → HasNoLoop arcs
ordered_nets nets arcs order have ordered net loop is = order_law (nets + 2) (sources_of nets arcs) (targets_of nets arcs) order ordered (sources_in nets arcs have) net loop (is.0, arcs_walk nets arcs net loop net is.1)

pub least_loop : (nets : ℕ) (arcs : List FlatArc) → HaveNets nets arcs → (cycle : List ℕ) → IsCycleFromLeast (sources_of nets arcs) (targets_of nets arcs) cycle → IsLoopFromLeast arcs cycle
least_loop nets arcs have cycle least = (
  least.0,
  cycle_loop nets arcs have least.0 cycle least.1,
  λ k d below source at.
      let link_in = link_arc nets arcs (get_or cycle k d) (walk_links (sources_of nets arcs) (targets_of nets arcs) least.0 cycle least.0 k d least.1.1 below) in
      let is = source_is nets arcs (get_or cycle k d) link_in ∙ ap (λ o. unwrap_or o nets) at in let low = least.2 k d below in omega (arith, is, low),
)

pub carried_loop : (nets : ℕ) (arcs : List FlatArc) (sources targets : List ℕ) → HaveNets nets arcs → sources ≡ sources_of nets arcs → targets ≡ targets_of nets arcs → (end : OrderEnd) → CarriesCycle sources targets end → CarriesLoop arcs end
carried_loop nets arcs sources targets have sources_are targets_are (Cycle cycle) carries =
    least_loop nets arcs have cycle.items (subst (λ s. IsCycleFromLeast s (targets_of nets arcs) cycle.items) sources_are (subst (λ t. IsCycleFromLeast sources t cycle.items) targets_are carries))
carried_loop nets arcs sources targets have sources_are targets_are OutOfMemory carries = tt
