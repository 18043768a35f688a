-- What is known of a net once it is numbered and searched.
use Rattle.std.proofs.Common.{◌≡◌, ◌≢◌, ℕ, zero, suc, ◌+◌, ◌-◌, ◌<◌, ◌⊎◌, List, [], ◌∷◌, ◌++◌, map, length, get_or, slice_get, slice_index, slice_index_or, Some, All, option_map, refl, sym, ◌∙◌, ap, subst, arith, inl, inr}
use Rattle.std.proofs.lemmas.Bool.{cases_eq}
use Rattle.std.proofs.lemmas.List.{get_or_default, get_or_push, get_or_append_left}
use Rattle.std.proofs.lemmas.Option.{slice_get-map, slice_get-get_or, get_or_from_slice_get, slice_get_within, same_Some}
use Rattle.name_table.specs.declared.spef_names.NodeName.{NodeName}
use Rattle.spef_nets.specs.NetElements.{NetElements as SectionElements}
use Rattle.spef_nets.specs.Nodes.{AreDistinctNodes}
use Rattle.rc_tree.specs.RcTree.{IsUnreached}
use Rattle.rc_tree.specs.Nodes.{Node, node_of, with_node, with_nodes}
use Rattle.rc_tree.specs.Pins.{Pins, pin_nodes}
use Rattle.rc_tree.specs.SectionNets.{joint_at, net_elements, sink_node}
use Rattle.rc_tree.specs.Numbering.{AreSpots, AreEnds}
use Rattle.rc_tree.specs.Searches.{Search, IsSearch, IsClosed}
use Rattle.rc_tree.specs.Searched.{Searched, IsNumbered, IsExplored, IsNameAt, all_nodes}
use Rattle.rc_tree.specs.Builds.{IsFit, IsTreeEnd, names}
use Rattle.rc_tree.specs.declared.node_ids.NodeId.{NodeId}
use Rattle.rc_tree.specs.declared.ends.TreeEnd.TheVariants.{Unreached, Mesh}
use Rattle.rc_tree.proofs.Numbers.{all_keep, with_held, with_new, among_cases}
use Rattle.rc_tree.proofs.Nets.{Apart, first_all, first_apart, one_place}
use Rattle.rc_tree.proofs.Answering.{unreached, mesh, all_without}
use Rattle.rc_tree.proofs.Spellings.{first_spelling, behind, before, in_front, parted, same_in_section}

-- the pins stand first, where they are apart
pub pins_first : (section : SectionElements) (pins : Pins) → Apart (pin_nodes pins) → all_nodes section pins ≡ with_nodes (pin_nodes pins) (map node_of section.nodes)
pins_first section pins apart = sym (first_all (pin_nodes pins) (map node_of section.nodes)) ∙ ap (λ l. with_nodes l (map node_of section.nodes)) (first_apart (pin_nodes pins) apart)

pub pin_there : (section : SectionElements) (pins : Pins) → Apart (pin_nodes pins) → (k : ℕ) (v : Node) → slice_get (pin_nodes pins) k ≡ Some v → slice_get (all_nodes section pins) k ≡ Some v
pin_there section pins apart k v at = ap (λ l. slice_get l k) (pins_first section pins apart) ∙ all_keep (pin_nodes pins) (map node_of section.nodes) k v at

pub some_node : (section : SectionElements) (pins : Pins) (spots : List ℕ) (count : ℕ) → IsNumbered section pins spots count → 0 < count
some_node section pins spots count numbered =
    let some = slice_get_within (all_nodes section pins) 0 (node_of pins.driver) refl in
    let is = numbered.counted in
    omega (arith, some, is)

-- each number is that of a node
pub spots_below : (section : SectionElements) (pins : Pins) (spots : List ℕ) (count : ℕ) → IsNumbered section pins spots count → (node : ℕ) → node < length spots → slice_index spots node < count
spots_below section pins spots count numbered node below =
    let size = numbered.are_spots.size in
    let at = numbered.are_spots.each node pins.driver (omega (arith, below, size)) in
    let inside = slice_get_within (all_nodes section pins) (slice_index spots node) (node_of (slice_index_or section.nodes node pins.driver)) at in
    let is = numbered.counted in
    omega (arith, inside, is)

-- pins are apart where all nodes are
pins_apart : (pins later : List Node) → Apart (with_nodes pins later) → Apart pins
pins_apart pins later apart i j d less j_below same =
    let here : (k : ℕ) → k < length pins → (k < length (with_nodes pins later)) × (get_or (with_nodes pins later) k d ≡ get_or pins k d) = λ k k_below.
    (let there = all_keep pins later k (get_or pins k d) (slice_get-get_or pins k d k_below) in
    (slice_get_within (with_nodes pins later) k (get_or pins k d) there, get_or_from_slice_get (with_nodes pins later) k (get_or pins k d) d there)) in
    let at_i = here i (omega (arith, less, j_below)) in
    let at_j = here j j_below in
    apart i j d less at_j.0 (at_i.1 ∙ same ∙ sym at_j.1)

-- the nodes of a table of the pins, and those of the section behind them
pub numbered_all : (section : SectionElements) (pins : Pins) (table : List Node) (spots : List ℕ) (count : ℕ) → table ≡ pin_nodes pins → Apart (with_nodes table (map node_of section.nodes)) → count ≡ length (with_nodes table (map node_of section.nodes))
    → AreSpots section.nodes (with_nodes table (map node_of section.nodes)) spots → IsNumbered section pins spots count
numbered_all section pins table spots count table_is apart counted are = record {
  are_spots = subst (λ l. AreSpots section.nodes l spots) is are;
  counted = counted ∙ ap length is;
  apart = subst Apart is apart;
}
  where
    added : with_nodes table (map node_of section.nodes) ≡ with_nodes (pin_nodes pins) (map node_of section.nodes)
    added = ap (λ l. with_nodes l (map node_of section.nodes)) table_is

    is : with_nodes table (map node_of section.nodes) ≡ all_nodes section pins
    is = added ∙ sym (pins_first section pins (pins_apart (pin_nodes pins) (map node_of section.nodes) (subst Apart added apart)))

-- the ends of the resistors are nodes
pub froms_within : (section : SectionElements) (spots spots' froms froms' tos : List ℕ) (n : ℕ) → spots' ≡ spots → froms' ≡ froms → length spots ≡ length section.nodes → ((node : ℕ) → node < length spots → slice_index spots node < n) → AreEnds section spots' froms tos → All (λ node. node < n) froms'
froms_within section spots spots' froms froms' tos n spots_are froms_are size each ends k d below =
    let inside : k < length froms = subst (λ l. k < length l) froms_are below in
    let at = ends.from k inside in
    let a_below = at.0 in
    let there = each (joint_at section k).a (omega (arith, a_below, size)) in
    let is = at.1 in
    let same = ap (λ l. slice_index l (joint_at section k).a) spots_are in
    let value : get_or froms' k d ≡ slice_index froms k = get_or_default froms' k d 0 below ∙ ap (λ l. get_or l k 0) froms_are in
    omega (arith, there, is, same, value)

pub tos_within : (section : SectionElements) (spots spots' froms tos tos' : List ℕ) (n : ℕ) → spots' ≡ spots → tos' ≡ tos → length spots ≡ length section.nodes → ((node : ℕ) → node < length spots → slice_index spots node < n) → AreEnds section spots' froms tos → All (λ node. node < n) tos'
tos_within section spots spots' froms tos tos' n spots_are tos_are size each ends k d below =
    let inside : k < length tos = subst (λ l. k < length l) tos_are below in
    let at = ends.to k inside in
    let b_below = at.0 in
    let there = each (joint_at section k).b (omega (arith, b_below, size)) in
    let is = at.1 in
    let same = ap (λ l. slice_index l (joint_at section k).b) spots_are in
    let value : get_or tos' k d ≡ slice_index tos k = get_or_default tos' k d 0 below ∙ ap (λ l. get_or l k 0) tos_are in
    omega (arith, there, is, same, value)

-- the search of the resistors' ends
pub explored_so : (section : SectionElements) (spots spots' froms froms' tos tos' : List ℕ) (s : Search) (n : ℕ) → spots' ≡ spots → froms' ≡ froms → tos' ≡ tos → AreEnds section spots' froms tos → IsSearch n froms' tos' s → IsClosed froms' tos' s → IsExplored section spots n s
explored_so section spots spots' froms froms' tos tos' s n spots_are froms_are tos_are ends search closed = record {
  froms = froms;
  tos = tos;
  are_ends = subst (λ l. AreEnds section l froms tos) spots_are ends;
  search = subst (λ l. IsSearch n froms l s) tos_are (subst (λ l. IsSearch n l tos' s) froms_are search);
  closed = subst (λ l. IsClosed froms l s) tos_are (subst (λ l. IsClosed l tos' s) froms_are closed);
}

-- a net that is numbered and searched
pub searched_so : (section : SectionElements) (pins : Pins) (spots : List ℕ) (count : ℕ) (s : Search) → 0 < length section.joints → IsNumbered section pins spots count → (e : IsExplored section spots count s) → Searched section pins (all_nodes section pins) spots e.froms e.tos s
searched_so section pins spots count s some numbered e = record {
  some = some;
  numbered = refl;
  apart = numbered.apart;
  are_spots = numbered.are_spots;
  are_ends = e.are_ends;
  search = subst (λ k. IsSearch k e.froms e.tos s) numbered.counted e.search;
  closed = e.closed;
}

-- the node that the section names at a place has the number of the place
pub spot_named : (section : SectionElements) (pins : Pins) (spots : List ℕ) (number : ℕ) (name : NodeName) → AreSpots section.nodes (all_nodes section pins) spots
    → (place : ℕ) × (slice_index spots place ≡ number) × (slice_get section.nodes place ≡ Some name) → slice_get (all_nodes section pins) number ≡ Some (node_of name)
spot_named section pins spots number name are h =
    ap (slice_get (all_nodes section pins)) (sym h.1) ∙ are.each h.0 name (slice_get_within section.nodes h.0 name h.2) ∙ ap (λ n. Some (node_of n)) (get_or_from_slice_get section.nodes h.0 name name h.2)

-- a name that the section has for a number, where no pin has another name of the node
pub section_named : (section : SectionElements) (pins : Pins) (spots : List ℕ) (number : ℕ) (name : NodeName) → AreSpots section.nodes (all_nodes section pins) spots → AreDistinctNodes section.nodes
    → ((k : ℕ) (other : NodeName) → slice_get (pins.driver ∷ pins.sinks) k ≡ Some other → node_of other ≡ node_of name → other ≡ name)
    → (place : ℕ) × (slice_index spots place ≡ number) × (slice_get section.nodes place ≡ Some name) → IsNameAt section pins number name
section_named section pins spots number name are distinct pins_so h =
    let there = behind (pins.driver ∷ pins.sinks) section.nodes h.0 name h.2 in
    (first_spelling (names section pins) name there.0 there.1 one, spot_named section pins spots number name are h)
  where
    one : (k : ℕ) (other : NodeName) → slice_get (names section pins) k ≡ Some other → node_of other ≡ node_of name → other ≡ name
    one k other at same = elim (parted (pins.driver ∷ pins.sinks) section.nodes k other at) [
      | inl pin ↦ pins_so k other pin same
      | inr listed ↦ same_in_section section.nodes distinct listed.0 h.0 other name listed.1 h.2 same
    ]

-- a node with a number behind the pins is none of theirs
pub no_pin : (section : SectionElements) (pins : Pins) (spots : List ℕ) (count number : ℕ) (name : NodeName) → IsNumbered section pins spots count → Apart (pin_nodes pins) → length pins.sinks < number
    → slice_get (all_nodes section pins) number ≡ Some (node_of name) → (k : ℕ) (other : NodeName) → slice_get (pins.driver ∷ pins.sinks) k ≡ Some other → node_of other ≡ node_of name → other ≡ name
no_pin section pins spots count number name numbered apart more at k other pin same =
    let nodes = all_nodes section pins in
    let there : slice_get nodes k ≡ Some (node_of other) = pin_there section pins apart k (node_of other) (slice_get-map node_of (pins.driver ∷ pins.sinks) k ∙ ap (option_map node_of) pin) in
    let place : k ≡ number = one_place nodes numbered.apart (node_of name) k number (slice_get_within nodes k (node_of other) there) (slice_get_within nodes number (node_of name) at)
    (get_or_from_slice_get nodes k (node_of other) (node_of name) there ∙ same ∙ sym (get_or_from_slice_get nodes number (node_of name) (node_of name) at)) in
    let inside = slice_get_within (pins.driver ∷ pins.sinks) k other pin in
    absurd (omega (arith, more, place, inside))

-- where a node stands that is one of the first places of two lists
stands : (nodes later : List Node) (v : Node) (k : ℕ) → slice_get (with_nodes nodes later) k ≡ Some v → (slice_get nodes k ≡ Some v) ⊎ ((j : ℕ) × (slice_get later j ≡ Some v))
stands nodes [] v k at = inl at
stands nodes (node ∷ later) v k at = elim (stands (with_node nodes node) later v k at) [
  | inr more ↦ inr (suc more.0, more.1)
  | inl here ↦ elim (among_cases node nodes) [
    | inl held ↦ inl (ap (λ l. slice_get l k) (sym (with_held nodes node held)) ∙ here)
    | inr new ↦ elim (parted nodes (node ∷ []) k v (ap (λ l. slice_get l k) (sym (with_new nodes node new)) ∙ here)) [
      | inl front ↦ inl front
      | inr last ↦ inr (0, the_one last.0 last.1)
    ]
  ]
]
  where
    the_one : (j : ℕ) → slice_get (node ∷ []) j ≡ Some v → Some node ≡ Some v
    the_one zero at = at
    the_one (suc j) at = absurd (let no = at in cc)

name_of_node : (names : List NodeName) (j : ℕ) (v : Node) → slice_get (map node_of names) j ≡ Some v → (name : NodeName) × (slice_get names j ≡ Some name) × (node_of name ≡ v)
name_of_node [] j v at = absurd (let no = at in cc)
name_of_node (name ∷ names) zero v at = (name, refl, same_Some (node_of name) v at)
name_of_node (name ∷ names) (suc j) v at = name_of_node names j v at

-- a place of the section whose node has this number
abbrev pub HasSpot : SectionElements → List ℕ → ℕ → Type 0
HasSpot section spots number = (place : ℕ) × (place < length section.nodes) × (slice_index spots place ≡ number)

-- the node of a name of the section has the number that it has among all nodes
pub spot_is : (section : SectionElements) (pins : Pins) (spots : List ℕ) (count number place : ℕ) (name : NodeName) → IsNumbered section pins spots count → slice_get section.nodes place ≡ Some name
    → slice_get (all_nodes section pins) number ≡ Some (node_of name) → HasSpot section spots number
spot_is section pins spots count number place name numbered here at =
    let nodes = all_nodes section pins in
    let below = slice_get_within section.nodes place name here in
    let spot : slice_get nodes (slice_index spots place) ≡ Some (node_of name) = numbered.are_spots.each place name below ∙ ap (λ n. Some (node_of n)) (get_or_from_slice_get section.nodes place name name here) in (
      place,
      below,
      one_place nodes numbered.apart (node_of name) (slice_index spots place) number (slice_get_within nodes (slice_index spots place) (node_of name) spot) (slice_get_within nodes number (node_of name) at)
          (get_or_from_slice_get nodes (slice_index spots place) (node_of name) (node_of name) spot ∙ sym (get_or_from_slice_get nodes number (node_of name) (node_of name) at)),
    )

-- each number is that of a pin or of a node of the section
pub has_spot : (section : SectionElements) (pins : Pins) (spots : List ℕ) (count number : ℕ) → IsNumbered section pins spots count → number < count
    → ((k : ℕ) (name : NodeName) → slice_get (pins.driver ∷ pins.sinks) k ≡ Some name → slice_get (all_nodes section pins) number ≡ Some (node_of name) → HasSpot section spots number) → HasSpot section spots number
has_spot section pins spots count number numbered below of_pin =
    let nodes = all_nodes section pins in
    let counted = numbered.counted in
    let v = get_or nodes number (node_of pins.driver) in
    let at : slice_get nodes number ≡ Some v = slice_get-get_or nodes number (node_of pins.driver) (omega (arith, below, counted)) in
    elim (stands [] (pin_nodes pins ++ map node_of section.nodes) v number (ap (λ l. slice_get l number) (first_all [] (pin_nodes pins ++ map node_of section.nodes)) ∙ at)) [
      | inl none ↦ absurd (let no = none in cc)
      | inr there ↦ elim (parted (pin_nodes pins) (map node_of section.nodes) there.0 v there.1) [
        | inl pin ↦ (let named = name_of_node (pins.driver ∷ pins.sinks) there.0 v pin in of_pin there.0 named.0 named.1 (at ∙ ap Some (sym named.2)))
        | inr listed ↦ (let named = name_of_node section.nodes listed.0 v listed.1 in spot_is section pins spots count number listed.0 named.0 numbered named.1 (at ∙ ap Some (sym named.2)))
      ]
    ]

-- no number behind the pins is that of a pin
pub behind_pins : (section : SectionElements) (pins : Pins) (spots : List ℕ) (count number : ℕ) → IsNumbered section pins spots count → Apart (pin_nodes pins) → length pins.sinks < number → number < count → HasSpot section spots number
behind_pins section pins spots count number numbered apart more below = has_spot section pins spots count number numbered below of_pin
  where
    of_pin : (k : ℕ) (name : NodeName) → slice_get (pins.driver ∷ pins.sinks) k ≡ Some name → slice_get (all_nodes section pins) number ≡ Some (node_of name) → HasSpot section spots number
    of_pin k name pin at =
        let nodes = all_nodes section pins in
        let there : slice_get nodes k ≡ Some (node_of name) = pin_there section pins apart k (node_of name) (slice_get-map node_of (pins.driver ∷ pins.sinks) k ∙ ap (option_map node_of) pin) in
        let place : k ≡ number = one_place nodes numbered.apart (node_of name) k number (slice_get_within nodes k (node_of name) there) (slice_get_within nodes number (node_of name) at)
        (get_or_from_slice_get nodes k (node_of name) (node_of name) there ∙ sym (get_or_from_slice_get nodes number (node_of name) (node_of name) at)) in
        let inside = slice_get_within (pins.driver ∷ pins.sinks) k name pin in
        absurd (omega (arith, more, place, inside))

-- the driver's name, and a sink's
pub driver_named : (section : SectionElements) (pins : Pins) → IsNameAt section pins 0 pins.driver
driver_named section pins = (record { place = 0; here = refl; earlier = λ k other less. absurd (omega (arith, less)) }, refl)

pub sink_there : (section : SectionElements) (pins : Pins) → Apart (pin_nodes pins) → (k : ℕ) (name : NodeName) → slice_get pins.sinks k ≡ Some name → slice_get (all_nodes section pins) (suc k) ≡ Some (node_of name)
sink_there section pins apart k name at = pin_there section pins apart (suc k) (node_of name) (slice_get-map node_of pins.sinks k ∙ ap (option_map node_of) at)

pub sink_named : (section : SectionElements) (pins : Pins) → Apart (pin_nodes pins) → (number : ℕ) (name : NodeName) → 0 < number → slice_get pins.sinks (number - 1) ≡ Some name → IsNameAt section pins number name
sink_named section pins apart number name some at =
    let is_suc : number ≡ suc (number - 1) = omega (arith, some) in (
      (record { place = suc (number - 1); here = before (pins.driver ∷ pins.sinks) section.nodes (suc (number - 1)) name at; earlier = none }),
      ap (slice_get (all_nodes section pins)) is_suc ∙ sink_there section pins apart (number - 1) name at,
    )
  where
    none : (k : ℕ) (other : NodeName) → k < suc (number - 1) → slice_get (names section pins) k ≡ Some other → node_of other ≡ node_of name → ⊥
    none k other less there same =
        let inside = slice_get_within pins.sinks (number - 1) name at in
        let pin : slice_get (pins.driver ∷ pins.sinks) k ≡ Some other = in_front (pins.driver ∷ pins.sinks) section.nodes k other (omega (arith, less, inside)) there in
        let one : slice_get (pin_nodes pins) k ≡ Some (node_of other) = slice_get-map node_of (pins.driver ∷ pins.sinks) k ∙ ap (option_map node_of) pin in
        let two : slice_get (pin_nodes pins) (suc (number - 1)) ≡ Some (node_of name) = slice_get-map node_of (pins.driver ∷ pins.sinks) (suc (number - 1)) ∙ ap (option_map node_of) at in
        let place : k ≡ suc (number - 1) = one_place (pin_nodes pins) apart (node_of name) k (suc (number - 1)) (slice_get_within (pin_nodes pins) k (node_of other) one) (slice_get_within (pin_nodes pins) (suc (number - 1)) (node_of name) two)
        (get_or_from_slice_get (pin_nodes pins) k (node_of other) (node_of name) one ∙ same ∙ sym (get_or_from_slice_get (pin_nodes pins) (suc (number - 1)) (node_of name) (node_of name) two)) in
        omega (arith, less, place)

-- the sinks so far stand where the search has their nodes
abbrev pub HasSink : SectionElements → Pins → List ℕ → List NodeId → ℕ → Type 0
HasSink section pins numbers sinks k = (number : ℕ) × (slice_get (all_nodes section pins) number ≡ Some (sink_node pins k)) × ((slice_index_or sinks k (record { 0 = 0 })).0 ≡ slice_index numbers number - 1)

pub sinks_more : (section : SectionElements) (pins : Pins) (numbers : List ℕ) (sinks sinks' : List NodeId) (sink number : ℕ) (id : NodeId) → length sinks ≡ sink → slice_get (all_nodes section pins) number ≡ Some (sink_node pins sink) → id.0 ≡ slice_index numbers number - 1 → sinks' ≡ sinks ++ id ∷ []
    → ((k : ℕ) → k < sink → HasSink section pins numbers sinks k) → (k : ℕ) → k < sink + 1 → HasSink section pins numbers sinks' k
sinks_more section pins numbers sinks sinks' sink number id size at is added before k below = elim (cases_eq k sink) [
  | inl e ↦ (number, at ∙ ap (λ j. Some (sink_node pins j)) (sym e), ap (λ (i : NodeId). i.0) (ap (λ l. get_or l k (record { 0 = 0 })) added ∙ get_or_push sinks id (record { 0 = 0 }) k (size ∙ sym e)) ∙ is)
  | inr ne ↦
      let ne' : k ≢ sink = ne in
      let less : k < sink = omega (arith, ne', below) in
      let old = before k less in
      (old.0, old.1, ap (λ (i : NodeId). i.0) (ap (λ l. get_or l k (record { 0 = 0 })) added ∙ get_or_append_left sinks (id ∷ []) (record { 0 = 0 }) k (omega (arith, size, less))) ∙ old.2)
]

-- each number of a node is that of one
pub number_below : (section : SectionElements) (pins : Pins) (spots : List ℕ) (count number : ℕ) (node : Node) → IsNumbered section pins spots count → slice_get (all_nodes section pins) number ≡ Some node → number < count
number_below section pins spots count number node numbered at = let inside = slice_get_within (all_nodes section pins) number node at in let is = numbered.counted in omega (arith, inside, is)

pub unreached_end : (count : ℕ) (section : SectionElements) (pins : Pins) (spots numbers : List ℕ) (n : ℕ) (s : Search) → IsFit section pins → 0 < length section.joints → IsNumbered section pins spots n → IsExplored section spots n s → numbers ≡ s.numbers → (node : ℕ) (name : NodeName)
    → (node < length numbers) × (slice_index numbers node ≡ 0) × ((k : ℕ) → k < node → 0 < slice_index numbers k) → IsNameAt section pins node name → IsTreeEnd count section pins (Unreached name)
unreached_end count section pins spots numbers n s fit some numbered explored numbers_are node name first named =
    let searched = searched_so section pins spots n s some numbered explored in
    let size = searched.search.numbers_len in
    let below : node < length (all_nodes section pins) = (let b = first.0 in let same = ap length numbers_are in omega (arith, b, same, size)) in
    let told : slice_index_or (all_nodes section pins) node (node_of pins.driver) ≡ node_of name = get_or_from_slice_get (all_nodes section pins) node (node_of name) (node_of pins.driver) named.1 in (
      fit,
      named.0,
      (λ number within. subst (IsUnreached (net_elements count section pins number)) told
          (unreached count section pins (all_nodes section pins) spots explored.froms explored.tos s searched number node below (ap (λ l. slice_index l node) (sym numbers_are) ∙ first.1) (λ k less. subst (λ l. 0 < slice_index l k) numbers_are (first.2 k less)))),
    )

pub mesh_end : (count : ℕ) (section : SectionElements) (pins : Pins) (spots numbers links : List ℕ) (n : ℕ) (s : Search) → IsFit section pins → 0 < length section.joints → IsNumbered section pins spots n → IsExplored section spots n s → numbers ≡ s.numbers → links ≡ s.links → ((k : ℕ) → k < length numbers → 0 < slice_index numbers k)
    → (place : ℕ) → (place < length links) × (slice_index links place ≡ 0) × ((k : ℕ) → k < place → 0 < slice_index links k) → IsTreeEnd count section pins (Mesh place)
mesh_end count section pins spots numbers links n s fit some numbered explored numbers_are links_are every place first =
    let searched = searched_so section pins spots n s some numbered explored in
    let every' : (i : ℕ) → i < length (all_nodes section pins) → 0 < slice_index s.numbers i = λ i below. subst (λ l. 0 < slice_index l i) numbers_are (every i (let size = searched.search.numbers_len in let same = ap length numbers_are in omega (arith, below, size, same))) in
    let links_len = searched.search.links_len in
    let below : place < length explored.froms = (let b = first.0 in let same = ap length links_are in omega (arith, b, same, links_len)) in
    let spare : slice_index s.links place ≡ 0 = ap (λ l. slice_index l place) (sym links_are) ∙ first.1 in (
      fit,
      (let ends = searched.are_ends.froms_len in omega (arith, below, ends)),
      (λ number within. (mesh count section pins (all_nodes section pins) spots explored.froms explored.tos s searched number every' place below spare, all_without count section pins (all_nodes section pins) spots explored.froms explored.tos s searched number every' place spare)),
    )
