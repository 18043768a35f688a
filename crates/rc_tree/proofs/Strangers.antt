-- A connection is one of the pins where its node has the number of one.
use Rattle.std.proofs.Common.{◌≡◌, ◌≢◌, ℕ, ◌+◌, ◌<◌, ◌≤◌, List, length, get_or, slice_get, slice_index, slice_index_or, Some, Contains, sym, ◌∙◌, ap, arith, inl, inr, subst}
use Rattle.std.proofs.lemmas.Bool.{cases_eq}
use Rattle.std.proofs.lemmas.List.{length-map}
use Rattle.std.proofs.lemmas.Option.{slice_get-get_or, get_or_from_slice_get, slice_get_within}
use Rattle.name_table.specs.declared.spef_names.NodeName.{NodeName}
use Rattle.spef_nets.specs.NetElements.{NetElements as SectionElements}
use Rattle.spef_nets.specs.declared.parts.Listed.{Listed}
use Rattle.rc_tree.specs.Nodes.{node_of}
use Rattle.rc_tree.specs.Pins.{Pins, pin_nodes}
use Rattle.rc_tree.specs.ListedPins.{no_name}
use Rattle.rc_tree.specs.SectionNets.{IsListed, IsFirstStrange}
use Rattle.rc_tree.specs.Searched.{IsNumbered, all_nodes}
use Rattle.rc_tree.proofs.Nets.{Apart, one_place}
use Rattle.rc_tree.proofs.Judging.{pin_there}

module _ (section : SectionElements) (pins : Pins) (spots : List ℕ) (count : ℕ) (numbered : IsNumbered section pins spots count) (apart : Apart (pin_nodes pins)) where
  pins_len : length (pin_nodes pins) ≡ length pins.sinks + 1
  pins_len = let l = length-map pins.sinks node_of in omega (arith, l)

  numbered_at : (node : ℕ) (name : NodeName) → slice_get section.nodes node ≡ Some name → slice_get (all_nodes section pins) (slice_index spots node) ≡ Some (node_of name)
  numbered_at node name at = numbered.are_spots.each node name (slice_get_within section.nodes node name at) ∙ ap (λ n. Some (node_of n)) (get_or_from_slice_get section.nodes node name name at)

  -- the numbers up to that of the last sink are the pins'
  low_is_pin : (node : ℕ) (name : NodeName) → slice_get section.nodes node ≡ Some name → slice_index spots node ≤ length pins.sinks → Contains (pin_nodes pins) (node_of name)
  low_is_pin node name at low =
      let below : slice_index spots node < length (pin_nodes pins) = (let l = pins_len in omega (arith, low, l)) in
      let here = slice_get-get_or (pin_nodes pins) (slice_index spots node) (node_of name) below in
      let there = pin_there section pins apart (slice_index spots node) (get_or (pin_nodes pins) (slice_index spots node) (node_of name)) here in
      let is = here ∙ sym there ∙ numbered_at node name at in
      (slice_index spots node, below, get_or_from_slice_get (pin_nodes pins) (slice_index spots node) (node_of name) (node_of name) is)

  -- and no others
  high_is_none : (node : ℕ) (name : NodeName) → slice_get section.nodes node ≡ Some name → length pins.sinks < slice_index spots node → Contains (pin_nodes pins) (node_of name) → ⊥
  high_is_none node name at high held =
      let here = slice_get-get_or (pin_nodes pins) held.0 (node_of name) held.1 ∙ ap Some held.2 in
      let there = pin_there section pins apart held.0 (node_of name) here in
      let this = numbered_at node name at in
      let same = one_place (all_nodes section pins) numbered.apart (node_of name) held.0 (slice_index spots node) (slice_get_within (all_nodes section pins) held.0 (node_of name) there) (slice_get_within (all_nodes section pins) (slice_index spots node) (node_of name) this)
      (get_or_from_slice_get (all_nodes section pins) held.0 (node_of name) (node_of name) there ∙ sym (get_or_from_slice_get (all_nodes section pins) (slice_index spots node) (node_of name) (node_of name) this)) in
      let l = pins_len in
      let b = held.1 in
      omega (arith, same, high, l, b)

  -- the connections so far are listed, one more
  pub listed_more : (place : ℕ) (conn : Listed) → slice_get section.conns place ≡ Some conn → conn.node < length section.nodes → slice_index spots conn.node ≤ length pins.sinks
      → ((k : ℕ) (d : Listed) → k < place → IsListed section (pin_nodes pins) (slice_index_or section.conns k d)) → (k : ℕ) (d : Listed) → k < place + 1 → IsListed section (pin_nodes pins) (slice_index_or section.conns k d)
  listed_more place conn at inside low before k d below = elim (cases_eq k place) [
    | inl is ↦
        let named = slice_get-get_or section.nodes conn.node no_name inside in
        subst (IsListed section (pin_nodes pins)) (sym (ap (λ j. get_or section.conns j d) is ∙ get_or_from_slice_get section.conns place conn d at))
        (get_or section.nodes conn.node no_name, named, low_is_pin conn.node (get_or section.nodes conn.node no_name) named low)
    | inr ne ↦ let ne' : k ≢ place = ne in before k d (omega (arith, ne', below))
  ]

  pub first_stranger : (place : ℕ) (conn : Listed) (name : NodeName) → slice_get section.conns place ≡ Some conn → slice_get section.nodes conn.node ≡ Some name → length pins.sinks < slice_index spots conn.node
      → ((k : ℕ) (d : Listed) → k < place → IsListed section (pin_nodes pins) (slice_index_or section.conns k d)) → IsFirstStrange section (pin_nodes pins) name
  first_stranger place conn name at named high before = record {
    place = place;
    conn = conn;
    here = at;
    named = named;
    strange = high_is_none conn.node name named high;
    before = λ k d below. before k d below;
  }
