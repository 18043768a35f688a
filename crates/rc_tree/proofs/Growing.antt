-- From a whole search to where everything stands in the tree.
use Rattle.std.proofs.Common.{◌≡◌, ◌≢◌, ℕ, ◌+◌, ◌-◌, ◌*◌, ◌<◌, ◌≤◌, List, length, slice_index, slice_index_or, refl, sym, ◌∙◌, ap, ap₂, subst, arith, inl, inr}
use Rattle.std.proofs.lemmas.Bool.{cases_eq, cases_lt}
use Rattle.std.proofs.lemmas.List.{length-map}
use Rattle.spef_nets.specs.NetElements.{NetElements as SectionElements}
use Rattle.rc_tree.specs.Nodes.{node_of}
use Rattle.rc_tree.specs.Pins.{Pins, pin_nodes}
use Rattle.rc_tree.specs.Arenas.{Arena, IsArena, most_elements}
use Rattle.rc_tree.specs.Filling.{Layout, IsLayout, IsFilled}
use Rattle.rc_tree.specs.Searches.{Search}
use Rattle.rc_tree.specs.Searched.{Searched, IsNumbered, IsExplored, IsComplete, AreSinks, all_nodes}
use Rattle.rc_tree.specs.declared.node_ids.NodeId.{NodeId}
use Rattle.rc_tree.specs.Laying.{IsLaid}
use Rattle.rc_tree.specs.Builds.{IsFit, IsTreeOf}
use Rattle.rc_tree.proofs.Judging.{searched_so, spots_below}
use Rattle.rc_tree.proofs.Spanning.{size}
use Rattle.rc_tree.proofs.TreeOf.{is_tree_of}

pub few_resistors : (section : SectionElements) (pins : Pins) → IsFit section pins → length section.joints ≤ most_elements
few_resistors section pins fit = elim (cases_lt most_elements (length section.joints)) [ inl more ↦ absurd (fit.1 (inl more)) | inr few ↦ few ]

pub few_elements : (section : SectionElements) (pins : Pins) → IsFit section pins → section.written + (length pins.sinks + 1) ≤ most_elements
few_elements section pins fit = elim (cases_lt most_elements (section.written + length (pin_nodes pins))) [
  | inl more ↦ absurd (fit.1 (inr more))
  | inr few ↦ (let l = length-map pins.sinks node_of in omega (arith, few, l))
]

pub few_caps : (section : SectionElements) (pins : Pins) → IsFit section pins → length section.caps ≤ 2 * section.written → (sinks : ℕ) → sinks ≡ length pins.sinks → length section.caps + sinks ≤ 2 * most_elements
few_caps section pins fit few sinks is = let all = few_elements section pins fit in omega (arith, few, all, is)

-- the same of lists that are the same
pub places_so : (spots spots' numbers numbers' places : List ℕ) → spots' ≡ spots → numbers' ≡ numbers → ((k : ℕ) → k < length spots' → slice_index places k ≡ slice_index numbers' (slice_index spots' k) - 1) → (k : ℕ) → k < length spots → slice_index places k ≡ slice_index numbers (slice_index spots k) - 1
places_so spots spots' numbers numbers' places spots_are numbers_are each k below =
    each k (let l = ap length spots_are in omega (arith, below, l)) ∙ ap (λ l. slice_index l (slice_index spots' k) - 1) numbers_are ∙ ap (λ l. slice_index numbers (slice_index l k) - 1) spots_are

pub layout_same : (parents parents' vias vias' spots spots' : List ℕ) (sinks sinks' : List NodeId) → parents' ≡ parents → vias' ≡ vias → spots' ≡ spots → sinks' ≡ sinks
    → ◌≡◌ {A = Layout} (record { parents = parents'; vias = vias'; spots = spots'; sinks = sinks' }) (record { parents = parents; vias = vias; spots = spots; sinks = sinks })
layout_same parents parents' vias vias' spots spots' sinks sinks' parents_are vias_are spots_are sinks_are =
    ap₂ (λ p v. record { parents = p; vias = v; spots = spots'; sinks = sinks' }) parents_are vias_are ∙ ap₂ (λ p k. record { parents = parents; vias = vias; spots = p; sinks = k }) spots_are sinks_are

-- where everything stands, once the nodes of the section and the sinks have their places
pub laid_so : (section : SectionElements) (pins : Pins) (spots nodes nodes' : List ℕ) (sinks : List NodeId) (s : Search) (layout : Layout) → layout ≡ record { parents = s.parents; vias = s.vias; spots = nodes; sinks = sinks } → nodes' ≡ spots → length nodes ≡ length nodes'
    → ((k : ℕ) → k < length spots → slice_index nodes k ≡ slice_index s.numbers (slice_index spots k) - 1) → length sinks ≡ length pins.sinks → AreSinks section pins s.numbers sinks → IsLaid section pins spots s layout
laid_so section pins spots nodes nodes' sinks s layout is spots_are size each many stand =
    subst (IsLaid section pins spots s) (sym is) (record { parents = refl; vias = refl; spots_len = size ∙ ap length spots_are; spots_are = each; sinks_len = many; sinks_are = stand })

pub steps_so : (count parents joints caps before after : ℕ) → parents ≡ joints + 1 → after + count ≤ before + count * (parents + caps) → after ≤ before + count * (joints + caps)
steps_so count parents joints caps before after is most =
    let product : count * (parents + caps) ≡ count * (joints + caps) + count = ap (λ k. count * (k + caps)) is ∙ turn in
    omega (arith, product, most)
  where
    turn : count * (joints + 1 + caps) ≡ count * (joints + caps) + count
    turn = omega arith

module _ (section : SectionElements) (pins : Pins) (spots : List ℕ) (count : ℕ) (s : Search) (some : 0 < length section.joints) (is_numbered : IsNumbered section pins spots count) (explored : IsExplored section spots count s) where
  searched : Searched section pins (all_nodes section pins) spots explored.froms explored.tos s
  searched = searched_so section pins spots count s some is_numbered explored

  pub spots_within : (spots' numbers : List ℕ) → spots' ≡ spots → numbers ≡ s.numbers → (k : ℕ) → k < length spots' → slice_index spots' k < length numbers
  spots_within spots' numbers spots_are numbers_are k below =
      let same = ap length spots_are in
      let inside = spots_below section pins spots count is_numbered k (omega (arith, below, same)) in
      let value = ap (λ l. slice_index l k) spots_are in
      let long = ap length numbers_are in
      let all = explored.search.numbers_len in
      omega (arith, inside, value, long, all)

  number_most : (k : ℕ) → slice_index s.numbers k ≤ length s.order
  number_most k = elim (cases_eq (slice_index s.numbers k) 0) [
    | inl z ↦ omega (arith, z)
    | inr nz ↦ (let nz' : slice_index s.numbers k ≢ 0 = nz in let o = explored.search.finds.ord_num k (omega (arith, nz')) in o.0)
  ]

  module _ (complete : IsComplete s) (fit : IsFit section pins) where
    every : (i : ℕ) → i < length (all_nodes section pins) → 0 < slice_index s.numbers i
    every i below = complete.nodes i (let l = searched.search.numbers_len in omega (arith, below, l))

    linked : (e : ℕ) → e < length explored.froms → 0 < slice_index s.links e
    linked e below = complete.links e (let l = explored.search.links_len in omega (arith, below, l))

    order_size : length s.order ≡ length section.joints + 1
    order_size = size 1 section pins (all_nodes section pins) spots explored.froms explored.tos s searched 0 every linked ∙ ap (λ k. k + 1) explored.are_ends.froms_len

    pub parents_size : length s.parents ≡ length section.joints + 1
    parents_size = explored.search.parents_len ∙ order_size

    module _ (layout : Layout) (laid : IsLaid section pins spots s layout) where
      pub layout_size : length layout.parents ≡ length section.joints + 1
      layout_size = ap length laid.parents ∙ parents_size

      pub laid_out : length section.caps ≤ 2 * section.written → IsLayout section pins layout
      laid_out few = record {
        some = omega (arith, layout_size);
        few = let r = few_resistors section pins fit in omega (arith, layout_size, r);
        down = λ node some below.
            let less = explored.search.finds.down node some in
            let is = ap (λ l. slice_index l node) laid.parents in
            omega (arith, less, is);
        vias_len = ap length laid.vias ∙ explored.search.vias_len ∙ sym explored.search.parents_len ∙ sym (ap length laid.parents);
        vias = λ node some below.
            let joined = explored.search.finds.joins node some (let l = explored.search.parents_len in let p = ap length laid.parents in omega (arith, below, l, p)) in
            let b = joined.0 in let l = explored.are_ends.froms_len in let is = ap (λ l. slice_index l node) laid.vias in omega (arith, b, l, is);
        spots_len = laid.spots_len ∙ is_numbered.are_spots.size;
        spots = λ node below. place_less node below;
        sinks_len = laid.sinks_len;
        sinks = λ k below. (let l = laid.sinks_len in sink_less k (omega (arith, below, l)));
        caps = few_caps section pins fit few (length layout.sinks) laid.sinks_len;
      }
        where
          some_order : 0 < length s.order
          some_order = explored.search.finds.some

          len : length layout.parents ≡ length s.order
          len = ap length laid.parents ∙ explored.search.parents_len

          place_less : (node : ℕ) → node < length section.nodes → slice_index layout.spots node < length layout.parents
          place_less node below =
              let is = laid.spots_are node (let l = is_numbered.are_spots.size in omega (arith, below, l)) in
              let most = number_most (slice_index spots node) in
              omega (arith, is, most, len, some_order)

          sink_less : (k : ℕ) → k < length pins.sinks → (slice_index_or layout.sinks k (record { 0 = 0 })).0 < length layout.parents
          sink_less k below =
              let at = laid.sinks_are k below in
              let is = at.2 in
              let most = number_most at.0 in
              omega (arith, is, most, len, some_order)

      pub grown_tree : (corners : ℕ) (tree : Arena) → tree.parents ≡ layout.parents → tree.sinks ≡ layout.sinks → ((k : ℕ) → k < corners → IsFilled corners section pins layout tree.ohms tree.farads k) → IsArena corners tree → IsTreeOf corners section pins tree
      grown_tree corners tree parents_are sinks_is filled whole =
          let same : tree ≡ record { parents = s.parents; ohms = tree.ohms; farads = tree.farads; sinks = layout.sinks } = ap₂ (λ p k. record { parents = p; ohms = tree.ohms; farads = tree.farads; sinks = k }) (parents_are ∙ laid.parents) sinks_is in
          let laid_so : layout ≡ record { parents = s.parents; vias = s.vias; spots = layout.spots; sinks = layout.sinks } = ap₂ (λ p v. record { parents = p; vias = v; spots = layout.spots; sinks = layout.sinks }) laid.parents laid.vias in
          subst (λ t. IsTreeOf corners section pins t) (sym same)
          (is_tree_of corners section pins (all_nodes section pins) spots explored.froms explored.tos s searched every linked layout.spots layout.sinks tree.ohms tree.farads laid.spots_are laid.sinks_len laid.sinks_are
          (λ k below. subst (λ (l : Layout). IsFilled corners section pins l tree.ohms tree.farads k) laid_so (filled k below)) (subst (λ t. IsArena corners t) same whole) fit)
