-- The tree of a net without resistors.
use Rattle.std.proofs.Common.{◌≡◌, ℕ, zero, suc, ◌+◌, ◌*◌, ◌<◌, ◌≤◌, ◌==◌, Bool, true, false, not, if◌then◌else◌, List, [], ◌∷◌, ◌++◌, map, filter, length, get_or, slice_get, slice_index, slice_index_or, replicate, Some, All, sum_by, refl, sym, ◌∙◌, ap, ap₂, subst, arith, one-mul, mul-add, eq-eqb, inl, inr}
use Rattle.std.proofs.lemmas.Bool.{cases_lt}
use Rattle.std.proofs.lemmas.List.{get_or-replicate, get_or_past, length-replicate}
use Rattle.std.specs.List.{range_with_len}
use Rattle.std.proofs.lemmas.List.FromFn.{length-map-range_with_len}
use Rattle.spef_nets.specs.NetElements.{NetElements as SectionElements}
use Rattle.rc_tree.specs.NetElements.{NetCapacitance, nodes_of}
use Rattle.rc_tree.specs.Walk.{Reached}
use Rattle.rc_tree.specs.RcTree.{IsTree}
use Rattle.rc_tree.specs.Elmore.{IsElmore}
use Rattle.name_table.specs.NodeKeys.{same_key}
use Rattle.rc_tree.specs.Nodes.{Node, node_of, first_places}
use Rattle.rc_tree.specs.Pins.{Pins}
use Rattle.rc_tree.specs.Sums.{sum_below}
use Rattle.rc_tree.specs.TreeSums.{pair_sum}
use Rattle.rc_tree.specs.Values.{farads_at, ohms_at}
use Rattle.rc_tree.specs.Arenas.{Arena, IsArena, parent_of, arena_elements}
use Rattle.rc_tree.specs.SectionNets.{section_node, sink_node, on_net, net_elements}
use Rattle.rc_tree.specs.Numbering.{section_farads, sink_farads}
use Rattle.rc_tree.specs.Filling.{Layout, IsLayout, IsFilled}
use Rattle.rc_tree.specs.Builds.{IsFit, IsOrder, SameDelays, IsTreeOf}
use Rattle.rc_tree.specs.declared.node_ids.NodeId.{NodeId}
use Rattle.rc_tree.proofs.Sums.{sum_cong, sum_add, sum_range}
use Rattle.rc_tree.proofs.ElmoreSums.{one_elmore, sum_same}
use Rattle.rc_tree.proofs.Walks.{Spans}
use Rattle.rc_tree.proofs.Drawn.{Drawn}
use Rattle.rc_tree.proofs.Elements.{Numbered, Weighs, elmore_is}
use Rattle.rc_tree.proofs.ArenaNets.{arena_load, arena_down}
use Rattle.rc_tree.proofs.ArenaElmore.{arena_pairs}
use Rattle.rc_tree.proofs.Filled.{spread_sum}
use Rattle.name_table.specs.SameKeys.{same_key-Decides}
use Rattle.rc_tree.proofs.Growing.{few_caps}
use Rattle.rc_tree.proofs.TreeOf.{sum_both}

-- each sink is at the first node
pub at_root : (many : ℕ) (sinks : List NodeId) → sinks ≡ replicate many (record { 0 = 0 }) → (k : ℕ) → (slice_index_or sinks k (record { 0 = 0 })).0 ≡ 0
at_root many sinks is k = ap (λ l. (get_or {A = NodeId} l k (record { 0 = 0 })).0) is ∙ elim (cases_lt k many) [
  | inl below ↦ ap (λ (v : NodeId). v.0) (get_or-replicate many k (record { 0 = 0 }) (record { 0 = 0 }) below)
  | inr past ↦ ap (λ (v : NodeId). v.0) (get_or_past (replicate many (record { 0 = 0 })) k (record { 0 = 0 }) (let l = length-replicate {A = NodeId} many (record { 0 = 0 }) in omega (arith, l, past)))
]

-- everything stands at the driver's node
pub lone_layout : (section : SectionElements) (pins : Pins) (layout : Layout) → IsFit section pins → length section.caps ≤ 2 * section.written → length layout.parents ≡ 1 → length layout.vias ≡ 1 → ((i : ℕ) → slice_index layout.spots i ≡ 0) → length layout.spots ≡ length section.nodes
    → length layout.sinks ≡ length pins.sinks → ((k : ℕ) → k < length layout.sinks → (slice_index_or layout.sinks k (record { 0 = 0 })).0 ≡ 0) → IsLayout section pins layout
lone_layout section pins layout fit few one vias spots spots_len sinks_len sinks = record {
  some = omega (arith, one);
  few = omega (arith, one);
  down = λ node some below. absurd (omega (arith, one, some, below));
  vias_len = vias ∙ sym one;
  vias = λ node some below. absurd (omega (arith, one, some, below));
  spots_len = spots_len;
  spots = λ node below. let z = spots node in omega (arith, one, z);
  sinks_len = sinks_len;
  sinks = λ k below. let z = sinks k below in omega (arith, one, z);
  caps = few_caps section pins fit few (length layout.sinks) sinks_len;
}

module _ (count : ℕ) (section : SectionElements) (pins : Pins) (layout : Layout) (tree : Arena) (fit : IsFit section pins) (bare : length section.joints ≡ 0) (one : length tree.parents ≡ 1)
    (layout_one : length layout.parents ≡ 1) (spots : (i : ℕ) → slice_index layout.spots i ≡ 0) (sinks_len : length tree.sinks ≡ length pins.sinks) (same_sinks : tree.sinks ≡ layout.sinks)
    (sinks : (k : ℕ) → k < length layout.sinks → (slice_index_or layout.sinks k (record { 0 = 0 })).0 ≡ 0)
    (filled : (k : ℕ) → k < count → IsFilled count section pins layout tree.ohms tree.farads k) (whole : IsArena count tree) where
  abbrev d : Node
  d = node_of pins.driver

  none : (length section.joints == 0) ≡ true
  none = eq-eqb (length section.joints) 0 bare

  at_driver : (node : Node) → on_net section pins node ≡ node_of pins.driver
  at_driver node = ap (λ b. if b then node_of pins.driver else node) none

  nodes_are : (number : ℕ) → nodes_of (net_elements count section pins number) ≡ node_of pins.driver ∷ []
  nodes_are number = ap (λ b. node_of pins.driver ∷ (if b then [] else filter (λ other. not (same_key (node_of pins.driver) other)) (first_places (map node_of pins.sinks ++ map node_of section.nodes)))) none

  no_resistor : (number : ℕ) → length (net_elements count section pins number).resistors ≡ 0
  no_resistor number = length-map-range_with_len _ 0 (length section.joints) ∙ bare

  is_tree : (number : ℕ) → IsTree (net_elements count section pins number)
  is_tree number = (
    subst (All (Reached (net_elements count section pins number))) (sym (nodes_are number)) (λ k e below. reach number k e below),
    (λ e below. absurd (let z = no_resistor number in omega (arith, z, below))),
  )
    where
      reach : (number k : ℕ) (e : Node) → k < length (node_of pins.driver ∷ []) → Reached (net_elements count section pins number) (get_or (node_of pins.driver ∷ []) k e)
      reach number zero e below = ([], refl)
      reach number (suc k) e below = absurd (omega arith)

  drawn : (number : ℕ) → Drawn (net_elements count section pins number) (λ j. node_of pins.driver) 1 0 (λ e. 0) (λ e. 0)
  drawn number = record {
    some = omega arith;
    driver = refl;
    count = no_resistor number;
    joints = λ e below. absurd (omega (arith, below));
    within = λ e below. absurd (omega (arith, below));
    one = λ i j i_below j_below e. omega (arith, i_below, j_below);
  }

  spans : Spans 1 0 (λ e. 0) (λ e. 0) (parent_of tree) (λ j. 0) (λ e. 0)
  spans = record {
    some = omega arith;
    down = arena_down count tree whole;
    joins = λ j some below. absurd (omega (arith, some, below));
    links = λ e below. absurd (omega (arith, below));
    vias = λ j some below. absurd (omega (arith, some, below));
  }

  abbrev number_of : Node → ℕ
  number_of v = if same_key v (node_of pins.driver) then 0 else 1

  numbered : Numbered (λ (j : ℕ). node_of pins.driver) 1 number_of
  numbered = record {
    there = λ i below. ap (λ b. if b then 0 else 1) ((same_key-Decides (node_of pins.driver) (node_of pins.driver)).1 refl) ∙ (let z : 0 ≡ i = omega (arith, below) in z);
    back = λ v below. by v (same_key v (node_of pins.driver)) refl below;
  }
    where
      by : (v : Node) (b : Bool) → same_key v (node_of pins.driver) ≡ b → (if b then 0 else 1) < 1 → node_of pins.driver ≡ v
      by v true is below = sym ((same_key-Decides v (node_of pins.driver)).0 is)
      by v false is below = absurd (omega (arith, below))

  module _ (number : ℕ) (below : number < count) where
    ff : IsFilled count section pins layout tree.ohms tree.farads number
    ff = filled number below

    plain : (k : ℕ) → 0 + k ≡ k
    plain k = omega arith

    caps : (h : Node → ℕ) → sum_by (λ at. h at.node * at.farads) (net_elements count section pins number).capacitances ≡ sum_below 1 (λ j. h (node_of pins.driver) * farads_at count tree.farads j number)
    caps h =
        sum_both (λ at. h at.node * at.farads) (map cap_of (range_with_len 0 (length section.caps))) (map load_of (range_with_len 0 (length pins.sinks)))
        ∙ ap₂ ◌+◌
        (sum_range (λ at. h at.node * at.farads) cap_of 0 (length section.caps)
        ∙ sum_cong (length section.caps) (λ q. h (cap_of (0 + q)).node * (cap_of (0 + q)).farads) (λ q. h (node_of pins.driver) * farads_at count section.farads q number)
        (λ q h'. ap (λ k. h (cap_of k).node * (cap_of k).farads) (plain q) ∙ ap (λ v. h v * farads_at count section.farads q number) (at_driver (section_node section pins (slice_index section.caps q))))
        ∙ sym (spread_sum 1 (length section.caps) (λ q. slice_index layout.spots (slice_index section.caps q)) (λ q. farads_at count section.farads q number) (λ j. h (node_of pins.driver)) (λ q h'. let z = spots (slice_index section.caps q) in omega (arith, z))))
        (sum_range (λ at. h at.node * at.farads) load_of 0 (length pins.sinks)
        ∙ sum_cong (length pins.sinks) (λ k. h (load_of (0 + k)).node * (load_of (0 + k)).farads) (λ k. h (node_of pins.driver) * farads_at count pins.loads k number)
        (λ k h'. ap (λ i. h (load_of i).node * (load_of i).farads) (plain k) ∙ ap (λ v. h v * farads_at count pins.loads k number) (at_driver (sink_node pins k)))
        ∙ ap (λ many. sum_below many (λ k. h (node_of pins.driver) * farads_at count pins.loads k number)) (sym sinks_len ∙ ap length same_sinks)
        ∙ sym (spread_sum 1 (length layout.sinks) (λ k. (slice_index_or layout.sinks k (record { 0 = 0 })).0) (λ k. farads_at count pins.loads k number) (λ j. h (node_of pins.driver)) (λ k h'. let z = sinks k h' in omega (arith, z))))
        ∙ sym (sum_add 1 (λ j. h (node_of pins.driver) * section_farads count section layout.spots number j) (λ j. h (node_of pins.driver) * sink_farads count pins layout.sinks number j))
        ∙ sum_cong 1 (λ j. h (node_of pins.driver) * section_farads count section layout.spots number j + h (node_of pins.driver) * sink_farads count pins layout.sinks number j) (λ j. h (node_of pins.driver) * farads_at count tree.farads j number)
        (λ j j_below. sym (mul-add (h (node_of pins.driver)) (section_farads count section layout.spots number j) (sink_farads count pins layout.sinks number j)) ∙ ap (λ x. h (node_of pins.driver) * x) (sym (ff.nodes j (omega (arith, j_below, layout_one)))))
      where
        cap_of : ℕ → NetCapacitance Node
        cap_of place = record { node = on_net section pins (section_node section pins (slice_index section.caps place)); farads = farads_at count section.farads place number }

        load_of : ℕ → NetCapacitance Node
        load_of sink = record { node = on_net section pins (sink_node pins sink); farads = farads_at count pins.loads sink number }

    weighs : Weighs (net_elements count section pins number) (λ j. node_of pins.driver) 1 (λ j. 0) (λ j. ohms_at count tree.ohms j number) (λ j. farads_at count tree.farads j number)
    weighs = record {
      none = ff.root;
      ohms = λ j some j_below x at. absurd (omega (arith, some, j_below));
      caps = caps;
      load = sum_same (λ at. at.farads) (λ at. 1 * at.farads) (net_elements count section pins number).capacitances (λ at. sym (one-mul at.farads)) ∙ caps (λ v. 1)
          ∙ sum_cong 1 (λ j. 1 * farads_at count tree.farads j number) (λ j. farads_at count tree.farads j number) (λ j h. one-mul (farads_at count tree.farads j number));
    }

    abbrev pairs : ℕ
    pairs = pair_sum (parent_of tree) 1 (λ i. ohms_at count tree.ohms i number) (λ i. farads_at count tree.farads i number) 0

    net_delay : IsElmore (net_elements count section pins number) (node_of pins.driver) pairs
    net_delay =
        elmore_is (net_elements count section pins number) (λ j. node_of pins.driver) 1 0 (λ e. 0) (λ e. 0) (parent_of tree) (λ j. 0) (λ e. 0)
        (λ i. ohms_at count tree.ohms i number) (λ i. farads_at count tree.farads i number) number_of (drawn number) spans numbered weighs 0 (omega arith)

    tree_delay : IsElmore (arena_elements count tree number) 0 pairs
    tree_delay =
        subst (λ c. IsElmore (arena_elements count tree number) 0 (pair_sum (parent_of tree) c (λ i. ohms_at count tree.ohms i number) (λ i. farads_at count tree.farads i number) 0)) one
        (arena_pairs count tree whole number below (omega (arith, one)) 0 (omega (arith, one)))

    same_delays : (node : Node) → node ≡ node_of pins.driver → SameDelays (arena_elements count tree number) 0 (net_elements count section pins number) node
    same_delays node is delay = (
      (λ of_tree. subst (λ v. IsElmore (net_elements count section pins number) v delay) (sym is) (subst (λ w. IsElmore (net_elements count section pins number) (node_of pins.driver) w) (one_elmore (arena_elements count tree number) 0 pairs delay tree_delay of_tree) net_delay)),
      (λ of_net. subst (λ w. IsElmore (arena_elements count tree number) 0 w) (one_elmore (net_elements count section pins number) (node_of pins.driver) pairs delay net_delay (subst (λ v. IsElmore (net_elements count section pins number) v delay) is of_net)) tree_delay),
    )

  lone_sink : (sink : ℕ) → sink < length pins.sinks → (slice_index_or tree.sinks sink (record { 0 = 0 })).0 ≡ 0
  lone_sink sink sink_in =
      ap (λ (l : List NodeId). (slice_index_or l sink (record { 0 = 0 })).0) same_sinks ∙ sinks sink (let l = ap length same_sinks in omega (arith, sink_in, sinks_len, l))

  -- the driver's node alone
  lone_order : IsOrder section pins tree (node_of pins.driver ∷ [])
  lone_order = record {
    every = sym one;
    first = refl;
    apart = λ i j d before below same. absurd (omega (arith, before, below));
    sinks = λ sink sink_in. ap (slice_get (node_of pins.driver ∷ [])) (lone_sink sink sink_in) ∙ ap Some (sym (at_driver (sink_node pins sink)));
  }

  pub lone_tree : IsTreeOf count section pins tree
  lone_tree = record {
    fit = fit;
    some = omega (arith, one);
    tree = λ number below. is_tree number;
    links = record {
      order = node_of pins.driver ∷ [];
      ordered = lone_order;
      vias = [];
      links = λ node number some node_below below. absurd (omega (arith, one, some, node_below));
      each = λ place below. absurd (omega (arith, bare, below));
    };
    sinks = sinks_len;
    load = λ number below. arena_load count tree number ∙ ap (λ c. sum_below c (λ j. farads_at count tree.farads j number)) one ∙ sym (let w = weighs number below in w.load);
    driver = λ number below. same_delays number below (node_of pins.driver) refl;
    delays = λ number sink below sink_in.
        subst (λ k. SameDelays (arena_elements count tree number) k (net_elements count section pins number) (on_net section pins (sink_node pins sink))) (sym (lone_sink sink sink_in)) (same_delays number below (on_net section pins (sink_node pins sink)) (at_driver (sink_node pins sink)));
  }
