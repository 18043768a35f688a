-- From a search to what is answered.
use Rattle.std.proofs.Common.{◌≡◌, ℕ, ◌+◌, ◌-◌, ◌<◌, ◌==◌, false, not, if◌then◌else◌, List, [], ◌∷◌, ◌++◌, map, filter, take, drop, length, get_or, slice_get, slice_index, slice_index_or, Some, All, length-take-le, take-append-drop, sym, ◌∙◌, ap, subst, arith, inl, inr}
use Rattle.std.proofs.lemmas.Bool.Decides.{eqb_tells}
use Rattle.std.proofs.lemmas.List.{get_or_default, get_or-take, drop_more}
use Rattle.std.proofs.lemmas.List.FromFn.{length-map-range_with_len}
use Rattle.std.proofs.lemmas.Option.{get_or_from_slice_get, slice_get_within}
use Rattle.spef_nets.specs.NetElements.{NetElements as SectionElements}
use Rattle.rc_tree.specs.NetElements.{NetElements, NetResistor, nodes_of}
use Rattle.rc_tree.specs.Walk.{Reached, ReachedWithout}
use Rattle.rc_tree.specs.RcTree.{IsUnreached, IsMesh}
use Rattle.rc_tree.specs.Joins.{Joined}
use Rattle.name_table.specs.NodeKeys.{same_key}
use Rattle.rc_tree.specs.Nodes.{Node, node_of, first_places}
use Rattle.rc_tree.specs.Pins.{Pins}
use Rattle.rc_tree.specs.Values.{ohms_at}
use Rattle.rc_tree.specs.SectionNets.{section_node, joint_at, net_elements}
use Rattle.rc_tree.specs.Searches.{Search, Finds}
use Rattle.rc_tree.specs.Searched.{Searched}
use Rattle.rc_tree.proofs.Walks.{Found, FoundWithout, Grows, way, way_without, leads_kept}
use Rattle.rc_tree.proofs.Drawn.{Drawn, write_found, write_found_without, read_at}
use Rattle.rc_tree.proofs.ArenaElmore.{range_at}
use Rattle.rc_tree.proofs.Nets.{one_place}

module _ (count : ℕ) (section : SectionElements) (pins : Pins) (nodes : List Node) (spots froms tos : List ℕ) (s : Search) (searched : Searched section pins nodes spots froms tos s) (number : ℕ) where
  abbrev net : NetElements Node
  net = net_elements count section pins number

  abbrev d : Node
  d = node_of pins.driver

  abbrev F : ℕ → Node
  F i = slice_index_or nodes i (node_of pins.driver)

  -- the node of a place of the order
  abbrev G : ℕ → Node
  G j = slice_index_or nodes (slice_index s.order j) (node_of pins.driver)

  pub joined_so : (length section.joints == 0) ≡ false
  joined_so = elim (eqb_tells (length section.joints) 0) [ inl h ↦ absurd (let some = searched.some in let z = h.1 in omega (arith, some, z)) | inr h ↦ h.0 ]

  pub nodes_are : nodes_of (net_elements count section pins number) ≡ nodes
  nodes_are =
      ap (λ b. node_of pins.driver ∷ (if b then [] else filter (λ other. not (same_key (node_of pins.driver) other)) (first_places (map node_of pins.sinks ++ map node_of section.nodes)))) joined_so
      ∙ sym searched.numbered

  pub node_at : (i : ℕ) → i < length section.nodes → section_node section pins i ≡ F (slice_index spots i)
  node_at i below = sym (get_or_from_slice_get nodes (slice_index spots i) (node_of (slice_index_or section.nodes i pins.driver)) (node_of pins.driver) (searched.are_spots.each i pins.driver below))

  pub spot_below : (i : ℕ) → i < length section.nodes → slice_index spots i < length nodes
  spot_below i below = slice_get_within nodes (slice_index spots i) (node_of (slice_index_or section.nodes i pins.driver)) (searched.are_spots.each i pins.driver below)

  pub same_len : length tos ≡ length froms
  same_len = searched.are_ends.tos_len ∙ sym searched.are_ends.froms_len

  abbrev pub resistor : ℕ → NetResistor Node
  resistor e = record { from = section_node section pins (joint_at section e).a; to = section_node section pins (joint_at section e).b; ohms = ohms_at count section.ohms e number }

  pub resistor_at : (e : ℕ) → e < length froms → slice_get (net_elements count section pins number).resistors e ≡ Some (resistor e)
  resistor_at e below =
      range_at resistor 0 (length section.joints) e (let l = searched.are_ends.froms_len in omega (arith, l, below)) ∙ ap (λ k. Some (resistor k)) (let z : 0 + e ≡ e = omega arith in z)

  pub from_at : (e : ℕ) → e < length froms → (resistor e).from ≡ F (slice_index froms e)
  from_at e below = let at = searched.are_ends.from e below in node_at (joint_at section e).a at.0 ∙ ap F (sym at.1)

  pub to_at : (e : ℕ) → e < length froms → (resistor e).to ≡ F (slice_index tos e)
  to_at e below = let at = searched.are_ends.to e (omega (arith, below, same_len)) in node_at (joint_at section e).b at.0 ∙ ap F (sym at.1)

  pub from_below : (e : ℕ) → e < length froms → slice_index froms e < length nodes
  from_below e below = let at = searched.are_ends.from e below in let b = spot_below (joint_at section e).a at.0 in let is = at.1 in omega (arith, is, b)

  pub to_below : (e : ℕ) → e < length froms → slice_index tos e < length nodes
  to_below e below = let at = searched.are_ends.to e (omega (arith, below, same_len)) in let b = spot_below (joint_at section e).b at.0 in let is = at.1 in omega (arith, is, b)

  pub finds : Finds (length s.order) (length nodes) (length froms) (slice_index froms) (slice_index tos) (slice_index s.order) (slice_index s.parents) (slice_index s.vias) (slice_index s.numbers) (slice_index s.links)
  finds = searched.search.finds

  some_nodes : 0 < length nodes
  some_nodes = let first = finds.nodes 0 finds.some in omega (arith, first)

  pub first_node : F 0 ≡ node_of pins.driver
  first_node = ap (λ l. get_or l 0 (node_of pins.driver)) (sym nodes_are)

  pub drawn : Drawn (net_elements count section pins number) F (length nodes) (length froms) (slice_index froms) (slice_index tos)
  drawn = record {
    some = some_nodes;
    driver = sym first_node;
    count = length-map-range_with_len resistor 0 (length section.joints) ∙ sym searched.are_ends.froms_len;
    joints = λ e below. (resistor e, resistor_at e below, from_at e below, to_at e below);
    within = λ e below. (from_below e below, to_below e below);
    one = λ i j i_below j_below same. one_place nodes searched.apart (node_of pins.driver) i j i_below j_below same;
  }

  grows : Grows (length s.order) (length froms) (slice_index froms) (slice_index tos) (slice_index s.parents) (slice_index s.order) (slice_index s.vias)
  grows = record { down = finds.down; joins = finds.joins }

  -- a node that is found is reached
  found_reached : (i : ℕ) → 0 < slice_index s.numbers i → Found (length froms) (slice_index froms) (slice_index tos) 0 i
  found_reached i held =
      let at = finds.ord_num i held in
      subst (λ r. Found (length froms) (slice_index froms) (slice_index tos) r i) finds.root
      (subst (λ k. Found (length froms) (slice_index froms) (slice_index tos) (slice_index s.order 0) k) at.1
      (way (length s.order) (length froms) (slice_index froms) (slice_index tos) (slice_index s.parents) (slice_index s.order) (slice_index s.vias) grows (slice_index s.numbers i - 1) (omega (arith, at.0, held))))

  -- and one that is reached is found
  reached_found : (i : ℕ) → Found (length froms) (slice_index froms) (slice_index tos) 0 i → 0 < slice_index s.numbers i
  reached_found i found =
      leads_kept (λ k. 0 < slice_index s.numbers k) (length froms) (slice_index froms) (slice_index tos) keeps 0 found.0 i found.1
      (let at = finds.num_ord 0 finds.some in let root = ap (slice_index s.numbers) finds.root in omega (arith, at, root))
    where
      keeps : (e x y : ℕ) → Joined (length froms) (slice_index froms) (slice_index tos) e x y → 0 < slice_index s.numbers x → 0 < slice_index s.numbers y
      keeps e x y joined held =
          let closed = searched.closed e joined.0 in
          elim (joined.1) [
            | inl h ↦ subst (λ k. 0 < slice_index s.numbers k) h.1 (closed.0 (subst (λ k. 0 < slice_index s.numbers k) (sym h.0) held))
            | inr h ↦ subst (λ k. 0 < slice_index s.numbers k) h.1 (closed.1 (subst (λ k. 0 < slice_index s.numbers k) (sym h.0) held))
          ]

  -- the first node that is not found is the first that is not reached
  pub unreached : (i : ℕ) → i < length nodes → slice_index s.numbers i ≡ 0 → ((k : ℕ) → k < i → 0 < slice_index s.numbers k) → IsUnreached (net_elements count section pins number) (F i)
  unreached i below none before = (
    take i nodes,
    drop (i + 1) nodes,
    nodes_are ∙ sym (take-append-drop i nodes) ∙ ap (λ l. take i nodes ++ l) (drop_more nodes i (node_of pins.driver) below),
    (λ k e k_below.
        let size = length-take-le i nodes (omega (arith, below)) in
        let less : k < i = omega (arith, k_below, size) in
        subst (Reached (net_elements count section pins number)) (get_or_default nodes k (node_of pins.driver) e (omega (arith, less, below)) ∙ sym (get_or-take i nodes k e less))
        (write_found (net_elements count section pins number) F (length nodes) (length froms) (slice_index froms) (slice_index tos) drawn k (found_reached k (before k less)))),
    (λ reached. let held = reached_found i (read_at (net_elements count section pins number) F (length nodes) (length froms) (slice_index froms) (slice_index tos) drawn i below reached) in omega (arith, held, none)),
  )

  -- every node is reached where each is found
  pub all_reached : ((i : ℕ) → i < length nodes → 0 < slice_index s.numbers i) → All (Reached (net_elements count section pins number)) (nodes_of (net_elements count section pins number))
  all_reached every = subst (All (Reached (net_elements count section pins number))) (sym nodes_are) (λ k e below.
      subst (Reached (net_elements count section pins number)) (get_or_default nodes k (node_of pins.driver) e below)
      (write_found (net_elements count section pins number) F (length nodes) (length froms) (slice_index froms) (slice_index tos) drawn k (found_reached k (every k below))))

  -- without a resistor over which no node was found every node is reached
  pub all_without : ((i : ℕ) → i < length nodes → 0 < slice_index s.numbers i) → (p : ℕ) → slice_index s.links p ≡ 0 → All (ReachedWithout (net_elements count section pins number) p) (nodes_of (net_elements count section pins number))
  all_without every p spare = subst (All (ReachedWithout (net_elements count section pins number) p)) (sym nodes_are) (λ k e below.
      let at = finds.ord_num k (every k below) in
      subst (ReachedWithout (net_elements count section pins number) p) (get_or_default nodes k (node_of pins.driver) e below)
      (write_found_without (net_elements count section pins number) F (length nodes) (length froms) (slice_index froms) (slice_index tos) drawn p k
      (subst (λ r. FoundWithout (length froms) (slice_index froms) (slice_index tos) r p k) finds.root
      (subst (λ j. FoundWithout (length froms) (slice_index froms) (slice_index tos) (slice_index s.order 0) p j) at.1
      (way_without (length s.order) (length froms) (slice_index froms) (slice_index tos) (slice_index s.parents) (slice_index s.order) (slice_index s.vias) grows p
      (λ j j_some j_below is. let l = finds.link_via j j_some j_below in let same = ap (slice_index s.links) is in omega (arith, l, same, spare, j_some))
      (slice_index s.numbers k - 1) (omega (arith, at.0, every k below)))))))

  pub mesh : ((i : ℕ) → i < length nodes → 0 < slice_index s.numbers i) → (p : ℕ) → p < length froms → slice_index s.links p ≡ 0 → IsMesh (net_elements count section pins number)
  mesh every p below spare = (all_reached every, (p, (let size = drawn.count in omega (arith, size, below)), all_without every p spare))
