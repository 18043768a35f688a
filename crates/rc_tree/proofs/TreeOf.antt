-- The tree that is planted is that of the net.
use Rattle.std.proofs.Common.{◌≡◌, ℕ, ◌+◌, ◌-◌, ◌*◌, ◌<◌, if◌then◌else◌, List, [], ◌∷◌, ◌++◌, map, length, slice_get, slice_index, slice_index_or, Some, sum_by, sym, ◌∙◌, ap, ap₂, subst, arith, inl, inr, one-mul, mul-add}
use Rattle.std.specs.List.{range_with_len}
use Rattle.std.proofs.lemmas.List.FromFn.{get_or-map-range_with_len, length-map-range_with_len}
use Rattle.std.proofs.lemmas.List.Sums.{sum_by-cons}
use Rattle.std.proofs.lemmas.Option.{get_or_from_slice_get, slice_get_read, slice_get_within, same_Some}
use Rattle.delay_units.specs.declared.quantities.Farads.{Farads}
use Rattle.delay_units.specs.declared.quantities.Ohms.{Ohms}
use Rattle.spef_nets.specs.NetElements.{NetElements as SectionElements}
use Rattle.rc_tree.specs.NetElements.{NetCapacitance}
use Rattle.rc_tree.specs.Elmore.{IsElmore}
use Rattle.rc_tree.specs.Nodes.{Node, node_of}
use Rattle.rc_tree.specs.Pins.{Pins}
use Rattle.rc_tree.specs.Sums.{sum_below}
use Rattle.rc_tree.specs.TreeSums.{pair_sum}
use Rattle.rc_tree.specs.Values.{farads_at, ohms_at}
use Rattle.rc_tree.specs.Arenas.{Arena, IsArena, arena_elements}
use Rattle.rc_tree.specs.SectionNets.{section_node, sink_node, on_net, net_elements}
use Rattle.rc_tree.specs.Numbering.{section_farads, sink_farads}
use Rattle.rc_tree.specs.Filling.{IsFilled}
use Rattle.rc_tree.specs.Searches.{Search, Finds}
use Rattle.rc_tree.specs.Searched.{Searched, AreSinks}
use Rattle.rc_tree.specs.Builds.{IsFit, IsOrder, AreLinked, SameDelays, IsTreeOf}
use Rattle.rc_tree.specs.declared.node_ids.NodeId.{NodeId}
use Rattle.rc_tree.proofs.Sums.{sum_cong, sum_add, sum_range}
use Rattle.rc_tree.proofs.ElmoreSums.{one_elmore, sum_same}
use Rattle.rc_tree.proofs.Elements.{Weighs, elmore_is}
use Rattle.rc_tree.proofs.ArenaNets.{arena_load}
use Rattle.rc_tree.proofs.ArenaElmore.{arena_pairs}
use Rattle.rc_tree.proofs.Filled.{spread_sum}
use Rattle.rc_tree.proofs.Answering.{joined_so, node_at, spot_below, resistor, resistor_at, from_at, to_at, first_node}
use Rattle.rc_tree.proofs.Spanning.{spans, drawn_order, number_of, numbered_order, tree}

-- sums over two lists one after the other
pub sum_both : {X : Type 0} (f : X → ℕ) (xs ys : List X) → sum_by f (xs ++ ys) ≡ sum_by f xs + sum_by f ys
sum_both f [] ys = omega arith
sum_both f (x ∷ xs) ys = let one = sum_by-cons f x (xs ++ ys) in let two = sum_by-cons f x xs in let rest = sum_both f xs ys in omega (arith, one, two, rest)

module _ (count : ℕ) (section : SectionElements) (pins : Pins) (nodes : List Node) (spots froms tos : List ℕ) (s : Search) (searched : Searched section pins nodes spots froms tos s)
    (every : (i : ℕ) → i < length nodes → 0 < slice_index s.numbers i) (linked : (e : ℕ) → e < length froms → 0 < slice_index s.links e)
    (places : List ℕ) (sinks : List NodeId) (ohms : List Ohms) (farads : List Farads)
    (places_are : (i : ℕ) → i < length spots → slice_index places i ≡ slice_index s.numbers (slice_index spots i) - 1)
    (sinks_len : length sinks ≡ length pins.sinks)
    (sinks_are : AreSinks section pins s.numbers sinks)
    (filled : (k : ℕ) → k < count → IsFilled count section pins (record { parents = s.parents; vias = s.vias; spots = places; sinks = sinks }) ohms farads k)
    (whole : IsArena count (record { parents = s.parents; ohms = ohms; farads = farads; sinks = sinks })) where
  abbrev A : Arena
  A = record { parents = s.parents; ohms = ohms; farads = farads; sinks = sinks }

  abbrev F : ℕ → Node
  F i = slice_index_or nodes i (node_of pins.driver)

  abbrev G : ℕ → Node
  G j = slice_index_or nodes (slice_index s.order j) (node_of pins.driver)

  fs : Finds (length s.order) (length nodes) (length froms) (slice_index froms) (slice_index tos) (slice_index s.order) (slice_index s.parents) (slice_index s.vias) (slice_index s.numbers) (slice_index s.links)
  fs = searched.search.finds

  len : length s.parents ≡ length s.order
  len = searched.search.parents_len

  -- where a node stands
  stands : (i : ℕ) → i < length nodes → F i ≡ G (slice_index s.numbers i - 1)
  stands i below = sym (ap F (let o = fs.ord_num i (every i below) in o.1))

  net_node : (node : Node) → on_net section pins node ≡ node
  net_node node = ap (λ b. if b then node_of pins.driver else node) (joined_so count section pins nodes spots froms tos s searched 0)

  -- the number of a sink's node, and where it stands
  sink_at : (k : ℕ) → k < length pins.sinks → (number : ℕ) × (number < length nodes) × (F number ≡ sink_node pins k) × ((slice_index_or sinks k (record { 0 = 0 })).0 ≡ slice_index s.numbers number - 1)
  sink_at k below =
      let at = sinks_are k below in
      let there : slice_get nodes at.0 ≡ Some (sink_node pins k) = ap (λ l. slice_get l at.0) searched.numbered ∙ at.1 in
      (at.0, slice_get_within nodes at.0 (sink_node pins k) there, get_or_from_slice_get nodes at.0 (sink_node pins k) (node_of pins.driver) there, at.2)

  sink_stands : (k : ℕ) → k < length pins.sinks → sink_node pins k ≡ G (slice_index_or sinks k (record { 0 = 0 })).0
  sink_stands k below =
      let at = sink_at k below in
      sym at.2 ∙ stands at.0 at.1 ∙ ap G (sym at.3)

  -- the place of a sink's node is that of a node of the tree
  sink_place : (k : ℕ) → k < length pins.sinks → (slice_index_or sinks k (record { 0 = 0 })).0 < length s.order
  sink_place k k_in =
      let at = sink_at k k_in in
      let num = fs.ord_num at.0 (every at.0 at.1) in
      let held = every at.0 at.1 in
      let is = at.3 in
      omega (arith, is, num.0, held)

  module _ (number : ℕ) (below : number < count) where
    ff : IsFilled count section pins (record { parents = s.parents; vias = s.vias; spots = places; sinks = sinks }) ohms farads number
    ff = filled number below

    -- where the node of a capacitance stands
    cap_stands : (q : ℕ) → q < length section.caps → on_net section pins (section_node section pins (slice_index section.caps q)) ≡ G (slice_index places (slice_index section.caps q))
    cap_stands q q_below =
        let inside = ff.within q q_below in
        let size = searched.are_spots.size in
        net_node (section_node section pins (slice_index section.caps q)) ∙ node_at count section pins nodes spots froms tos s searched number (slice_index section.caps q) inside
        ∙ stands (slice_index spots (slice_index section.caps q)) (spot_below count section pins nodes spots froms tos s searched number (slice_index section.caps q) inside)
        ∙ ap G (sym (places_are (slice_index section.caps q) (omega (arith, size, inside))))

    place_below : (q : ℕ) → q < length section.caps → slice_index places (slice_index section.caps q) < length s.order
    place_below q q_below =
        let inside = ff.within q q_below in
        let size = searched.are_spots.size in
        let spot = spot_below count section pins nodes spots froms tos s searched number (slice_index section.caps q) inside in
        let num = fs.ord_num (slice_index spots (slice_index section.caps q)) (every (slice_index spots (slice_index section.caps q)) spot) in
        let held = every (slice_index spots (slice_index section.caps q)) spot in
        let is = places_are (slice_index section.caps q) (omega (arith, size, inside)) in
        omega (arith, is, num.0, held)

    sink_below : (k : ℕ) → k < length sinks → (slice_index_or sinks k (record { 0 = 0 })).0 < length s.order
    sink_below k k_below = sink_place k (omega (arith, k_below, sinks_len))

    plain : (k : ℕ) → 0 + k ≡ k
    plain k = omega arith

    caps : (h : Node → ℕ) → sum_by (λ at. h at.node * at.farads) (net_elements count section pins number).capacitances ≡ sum_below (length s.order) (λ j. h (G j) * farads_at count farads j number)
    caps h =
        sum_both (λ at. h at.node * at.farads) (map cap_of (range_with_len 0 (length section.caps))) (map load_of (range_with_len 0 (length pins.sinks)))
        ∙ ap₂ ◌+◌
        (sum_range (λ at. h at.node * at.farads) cap_of 0 (length section.caps)
        ∙ sum_cong (length section.caps) (λ q. h (cap_of (0 + q)).node * (cap_of (0 + q)).farads) (λ q. h (G (slice_index places (slice_index section.caps q))) * farads_at count section.farads q number)
        (λ q h'. ap (λ k. h (cap_of k).node * (cap_of k).farads) (plain q) ∙ ap (λ v. h v * farads_at count section.farads q number) (cap_stands q h'))
        ∙ sym (spread_sum (length s.order) (length section.caps) (λ q. slice_index places (slice_index section.caps q)) (λ q. farads_at count section.farads q number) (λ j. h (G j)) place_below))
        (sum_range (λ at. h at.node * at.farads) load_of 0 (length pins.sinks)
        ∙ sum_cong (length pins.sinks) (λ k. h (load_of (0 + k)).node * (load_of (0 + k)).farads) (λ k. h (G (slice_index_or sinks k (record { 0 = 0 })).0) * farads_at count pins.loads k number)
        (λ k h'. ap (λ i. h (load_of i).node * (load_of i).farads) (plain k) ∙ ap (λ v. h v * farads_at count pins.loads k number) (net_node (sink_node pins k) ∙ sink_stands k h'))
        ∙ ap (λ many. sum_below many (λ k. h (G (slice_index_or sinks k (record { 0 = 0 })).0) * farads_at count pins.loads k number)) (sym sinks_len)
        ∙ sym (spread_sum (length s.order) (length sinks) (λ k. (slice_index_or sinks k (record { 0 = 0 })).0) (λ k. farads_at count pins.loads k number) (λ j. h (G j)) sink_below))
        ∙ sym (sum_add (length s.order) (λ j. h (G j) * section_farads count section places number j) (λ j. h (G j) * sink_farads count pins sinks number j))
        ∙ sum_cong (length s.order) (λ j. h (G j) * section_farads count section places number j + h (G j) * sink_farads count pins sinks number j) (λ j. h (G j) * farads_at count farads j number)
        (λ j j_below. sym (mul-add (h (G j)) (section_farads count section places number j) (sink_farads count pins sinks number j)) ∙ ap (λ x. h (G j) * x) (sym (ff.nodes j (omega (arith, j_below, len)))))
      where
        cap_of : ℕ → NetCapacitance Node
        cap_of place = record { node = on_net section pins (section_node section pins (slice_index section.caps place)); farads = farads_at count section.farads place number }

        load_of : ℕ → NetCapacitance Node
        load_of sink = record { node = on_net section pins (sink_node pins sink); farads = farads_at count pins.loads sink number }

    weighs : Weighs (net_elements count section pins number) G (length s.order) (slice_index s.vias) (λ j. ohms_at count ohms j number) (λ j. farads_at count farads j number)
    weighs = record {
      none = ff.root;
      ohms = λ j some j_below x at.
          let joined = fs.joins j some j_below in
          ap (λ r. r.ohms) (same_Some x (resistor count section pins nodes spots froms tos s searched number (slice_index s.vias j)) (sym at ∙ resistor_at count section pins nodes spots froms tos s searched number (slice_index s.vias j) joined.0))
          ∙ sym (ff.links j some (omega (arith, j_below, len)));
      caps = caps;
      load = sum_same (λ at. at.farads) (λ at. 1 * at.farads) (net_elements count section pins number).capacitances (λ at. sym (one-mul at.farads)) ∙ caps (λ v. 1)
          ∙ sum_cong (length s.order) (λ j. 1 * farads_at count farads j number) (λ j. farads_at count farads j number) (λ j h. one-mul (farads_at count farads j number));
    }

    abbrev pairs : ℕ → ℕ
    pairs j = pair_sum (slice_index s.parents) (length s.order) (λ i. ohms_at count ohms i number) (λ i. farads_at count farads i number) j

    net_delay : (j : ℕ) → j < length s.order → IsElmore (net_elements count section pins number) (G j) (pairs j)
    net_delay j j_below =
        elmore_is (net_elements count section pins number) G (length s.order) (length froms) (λ e. slice_index s.numbers (slice_index froms e) - 1) (λ e. slice_index s.numbers (slice_index tos e) - 1) (slice_index s.parents) (slice_index s.vias) (slice_index s.links)
        (λ i. ohms_at count ohms i number) (λ i. farads_at count farads i number) (number_of count section pins nodes spots froms tos s searched number every linked)
        (drawn_order count section pins nodes spots froms tos s searched number every linked) (spans count section pins nodes spots froms tos s searched number every linked) (numbered_order count section pins nodes spots froms tos s searched number every linked) weighs j j_below

    tree_delay : (j : ℕ) → j < length s.order → IsElmore (arena_elements count A number) j (pairs j)
    tree_delay j j_below =
        subst (λ c. IsElmore (arena_elements count A number) j (pair_sum (slice_index s.parents) c (λ i. ohms_at count ohms i number) (λ i. farads_at count farads i number) j)) len
        (arena_pairs count A whole number below (let some = fs.some in omega (arith, some, len)) j (omega (arith, j_below, len)))

    -- a node has the delays of its place
    same_delays : (j : ℕ) → j < length s.order → (node : Node) → node ≡ G j → SameDelays (arena_elements count A number) j (net_elements count section pins number) node
    same_delays j j_below node is delay = (
      (λ of_tree. subst (λ v. IsElmore (net_elements count section pins number) v delay) (sym is) (subst (λ w. IsElmore (net_elements count section pins number) (G j) w) (one_elmore (arena_elements count A number) j (pairs j) delay (tree_delay j j_below) of_tree) (net_delay j j_below))),
      (λ of_net. subst (λ w. IsElmore (arena_elements count A number) j w) (one_elmore (net_elements count section pins number) (G j) (pairs j) delay (net_delay j j_below) (subst (λ v. IsElmore (net_elements count section pins number) v delay) is of_net)) (tree_delay j j_below)),
    )

  abbrev order_of : List Node
  order_of = map (λ j. slice_index_or nodes (slice_index s.order j) (node_of pins.driver)) (range_with_len 0 (length s.order))

  order_at : (j : ℕ) → j < length s.order → slice_index_or order_of j (node_of pins.driver) ≡ G j
  order_at j below = get_or-map-range_with_len (λ i. slice_index_or nodes (slice_index s.order i) (node_of pins.driver)) 0 (length s.order) j j (node_of pins.driver) below (let z : 0 + j ≡ j = omega arith in z)

  order_len : length order_of ≡ length s.order
  order_len = length-map-range_with_len (λ j. slice_index_or nodes (slice_index s.order j) (node_of pins.driver)) 0 (length s.order)

  order_get : (j : ℕ) (d : Node) → j < length s.order → slice_index_or order_of j d ≡ G j
  order_get j d below = get_or-map-range_with_len (λ i. slice_index_or nodes (slice_index s.order i) (node_of pins.driver)) 0 (length s.order) j j d below (let z : 0 + j ≡ j = omega arith in z)

  order_stands : (j : ℕ) → j < length s.order → slice_get order_of j ≡ Some (G j)
  order_stands j below = slice_get_read order_of (length s.order) j (G j) (sym order_len) below (sym (order_get j (G j) below))

  -- different places of the order have different nodes
  node_apart : (a b : ℕ) → a < length nodes → b < length nodes → F a ≡ F b → a ≡ b
  node_apart a b a_below b_below same =
      let less : ¬ (a < b) = λ before. searched.apart a b (node_of pins.driver) before b_below same in
      let more : ¬ (b < a) = λ before. searched.apart b a (node_of pins.driver) before a_below (sym same) in
      omega (arith, less, more)

  place_apart : (i j : ℕ) → i < length s.order → j < length s.order → G i ≡ G j → i ≡ j
  place_apart i j i_below j_below same =
      let node : slice_index s.order i ≡ slice_index s.order j = node_apart (slice_index s.order i) (slice_index s.order j) (fs.nodes i i_below) (fs.nodes j j_below) same in
      let number : slice_index s.numbers (slice_index s.order i) ≡ slice_index s.numbers (slice_index s.order j) = ap (slice_index s.numbers) node in
      let one = fs.num_ord i i_below in
      let other = fs.num_ord j j_below in
      omega (arith, number, one, other)

  is_order : IsOrder section pins A order_of
  is_order = record {
    every = order_len ∙ sym len;
    first = order_stands 0 fs.some ∙ ap Some (ap F fs.root ∙ first_node count section pins nodes spots froms tos s searched 0);
    apart = λ i j d before below same.
        let j_below : j < length s.order = subst (λ n. j < n) order_len below in
        let i_below : i < length s.order = omega (arith, before, j_below) in
        let equal : i ≡ j = place_apart i j i_below j_below (sym (order_get i d i_below) ∙ same ∙ order_get j d j_below) in
        omega (arith, before, equal);
    sinks = λ sink sink_in.
        order_stands (slice_index_or sinks sink (record { 0 = 0 })).0 (sink_place sink sink_in) ∙ ap Some (sym (net_node (sink_node pins sink) ∙ sink_stands sink sink_in));
  }

  are_linked : AreLinked count section pins A
  are_linked = record {
    order = order_of;
    ordered = is_order;
    vias = s.vias;
    links = λ node number some node_below below.
        let inside : node < length s.order = omega (arith, node_below, len) in
        let joined = fs.joins node some inside in
        let less = fs.down node some in
        let up = order_at (slice_index s.parents node) (omega (arith, less, inside)) in
        let here = order_at node inside in
        let f = filled number below in
        record {
          resistor = resistor count section pins nodes spots froms tos s searched number (slice_index s.vias node);
          stands = resistor_at count section pins nodes spots froms tos s searched number (slice_index s.vias node) joined.0;
          ends = elim (joined.1) [
            | inl h ↦ inl (from_at count section pins nodes spots froms tos s searched number (slice_index s.vias node) joined.0 ∙ ap F h.0 ∙ sym up, to_at count section pins nodes spots froms tos s searched number (slice_index s.vias node) joined.0 ∙ ap F h.1 ∙ sym here)
            | inr h ↦ inr (to_at count section pins nodes spots froms tos s searched number (slice_index s.vias node) joined.0 ∙ ap F h.0 ∙ sym up, from_at count section pins nodes spots froms tos s searched number (slice_index s.vias node) joined.0 ∙ ap F h.1 ∙ sym here)
          ];
          ohms = f.links node some node_below;
        };
    each = λ place place_below.
        let ends_len = searched.are_ends.froms_len in
        let held = linked place (omega (arith, place_below, ends_len)) in
        let l = fs.via_link place held in (
          slice_index s.links place,
          held,
          omega (arith, l.0, len),
          l.1,
          (λ other some other_below is. sym (fs.link_via other some (omega (arith, other_below, len))) ∙ ap (slice_index s.links) is),
        );
  }

  pub is_tree_of : IsFit section pins → IsTreeOf count section pins A
  is_tree_of fit = record {
    fit = fit;
    some = let some = fs.some in omega (arith, some, len);
    tree = λ number below. tree count section pins nodes spots froms tos s searched number every linked;
    links = are_linked;
    sinks = sinks_len;
    load = λ number below. arena_load count A number ∙ ap (λ c. sum_below c (λ j. farads_at count farads j number)) len ∙ sym (let w = weighs number below in w.load);
    driver = λ number below. same_delays number below 0 fs.some (node_of pins.driver) (sym (first_node count section pins nodes spots froms tos s searched number) ∙ ap F (sym fs.root));
    delays = λ number sink below sink_in. same_delays number below (slice_index_or sinks sink (record { 0 = 0 })).0 (sink_below number below sink (omega (arith, sink_in, sinks_len))) (on_net section pins (sink_node pins sink)) (net_node (sink_node pins sink) ∙ sink_stands sink sink_in);
  }
