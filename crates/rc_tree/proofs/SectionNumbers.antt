-- The nodes of a section get their numbers one after another, behind the pins.
use Rattle.std.proofs.Common.{◌≡◌, ◌≢◌, ℕ, zero, suc, ◌+◌, ◌<◌, ◌≤◌, false, List, [], ◌∷◌, ◌++◌, map, take, length, get_or, slice_get, slice_index, slice_index_or, Some, length-append, refl, sym, ◌∙◌, ap, subst, arith, inl, inr}
use Rattle.std.proofs.lemmas.Bool.{cases_eq}
use Rattle.std.proofs.lemmas.List.{get_or_push, get_or_append_left, get_or-take, get_or-map, length-map, length-take}
use Rattle.std.proofs.lemmas.Option.{slice_get-get_or, get_or_from_slice_get, slice_get_within, same_Some}
use Rattle.name_table.specs.declared.spef_names.NodeName.{NodeName}
use Rattle.name_table.specs.NodeKeys.{among}
use Rattle.spef_nets.specs.Nodes.{AreDistinctNodes}
use Rattle.rc_tree.specs.Nodes.{Node, node_of, with_node, with_nodes}
use Rattle.rc_tree.specs.Numbering.{Gets, pin, other}
use Rattle.indexmap.proofs.IndexTableLemmas.Probe.{pigeonhole}
use Rattle.rc_tree.proofs.NodeLemmas.{among_from, node_held, node_last, nodes_apart}
use Rattle.rc_tree.proofs.Numbers.{with_held, with_new, among_cases, with_keeps, all_keep, names_more}
use Rattle.rc_tree.proofs.Nets.{Apart}
use Rattle.rc_tree.proofs.MarkingLemmas.{still_new}

-- nodes that are apart stay so
node_apart : (nodes : List Node) (node : Node) → Apart nodes → Apart (with_node nodes node)
node_apart nodes node apart = elim (among_cases node nodes) [
  | inl held ↦ subst Apart (sym (with_held nodes node held)) apart
  | inr new ↦ subst Apart (sym (with_new nodes node new)) (nodes_apart node nodes apart new)
]

pub all_apart : (nodes later : List Node) → Apart nodes → Apart (with_nodes nodes later)
all_apart nodes [] apart = apart
all_apart nodes (node ∷ later) apart = all_apart (with_node nodes node) later (node_apart nodes node apart)

-- a node that is none of those put in stays new
new_with : (nodes : List Node) (last node : Node) → among node nodes ≡ false → (node ≡ last → ⊥) → among node (with_node nodes last) ≡ false
new_with nodes last node new differ = elim (among_cases last nodes) [
  | inl held ↦ ap (among node) (with_held nodes last held) ∙ new
  | inr fresh ↦ ap (among node) (with_new nodes last fresh) ∙ still_new nodes last node new differ
]

stays_new : (nodes later : List Node) (node : Node) → among node nodes ≡ false → ((k : ℕ) → k < length later → get_or later k node ≡ node → ⊥) → among node (with_nodes nodes later) ≡ false
stays_new nodes [] node new differ = new
stays_new nodes (first ∷ later) node new differ =
    stays_new (with_node nodes first) later node (new_with nodes first node new (λ same. differ 0 (omega arith) (sym same))) (λ k below same. differ (suc k) (omega (arith, below)) same)

-- the nodes of the pins and of the first names of a section
abbrev pub nodes_to : List NodeName → List Node → ℕ → List Node
nodes_to names pins many = with_nodes pins (map node_of (take many names))

-- a node of a section is none of the earlier ones
none_earlier : (names : List NodeName) (many : ℕ) (name : NodeName) → AreDistinctNodes names → slice_get names many ≡ Some name
    → (k : ℕ) → k < length (map node_of (take many names)) → get_or (map node_of (take many names)) k (node_of name) ≡ node_of name → ⊥
none_earlier names many name distinct at k below same =
    let within = slice_get_within names many name at in
    let taken : length (take many names) ≡ many = (let l = length-take many names in omega (arith, l, within)) in
    let size = length-map (take many names) node_of in
    let less : k < many = omega (arith, size, taken, below) in
    let is : get_or (map node_of (take many names)) k (node_of name) ≡ node_of (get_or names k name) =
    get_or-map node_of (take many names) k name (node_of name) (omega (arith, taken, less)) ∙ ap node_of (get_or-take many names k name less) in
    let one = distinct k many (get_or names k name) name (slice_get-get_or names k name (omega (arith, less, within))) at (sym is ∙ same) in
    omega (arith, one, less)

pub new_so_far : (names : List NodeName) (pins : List Node) (many : ℕ) (name : NodeName) → AreDistinctNodes names → slice_get names many ≡ Some name → among (node_of name) pins ≡ false → among (node_of name) (nodes_to names pins many) ≡ false
new_so_far names pins many name distinct at new = stays_new pins (map node_of (take many names)) (node_of name) new (none_earlier names many name distinct at)

one_more : (names : List NodeName) (pins : List Node) (many : ℕ) (name : NodeName) → slice_get names many ≡ Some name → with_node (nodes_to names pins many) (node_of name) ≡ nodes_to names pins (many + 1)
one_more names pins many name at =
    names_more names pins (nodes_to names pins many) (with_node (nodes_to names pins many) (node_of name)) many name (slice_get_within names many name at) (get_or_from_slice_get names many name name at) refl refl

-- the numbers so far
pub record Numbering (names : List NodeName) (pins : List Node) (spots : List ℕ) (count many : ℕ) : Type 0 where
  pub counted : count ≡ length (nodes_to names pins many)
  pub size : length spots ≡ many
  pub each : (number : ℕ) (d : NodeName) → number < many → slice_get (nodes_to names pins many) (slice_index spots number) ≡ Some (node_of (slice_index_or names number d))

-- one number more
placed : (names : List NodeName) (pins : List Node) (spots spots' : List ℕ) (count count' many number : ℕ) (name : NodeName) → slice_get names many ≡ Some name → slice_get (with_node (nodes_to names pins many) (node_of name)) number ≡ Some (node_of name) → spots' ≡ spots ++ number ∷ []
    → count' ≡ length (with_node (nodes_to names pins many) (node_of name)) → Numbering names pins spots count many → Numbering names pins spots' count' (many + 1)
placed names pins spots spots' count count' many number name at number_is spots_are count_is state = record {
  counted = count_is ∙ ap length more;
  size = ap length spots_are ∙ length-append spots (number ∷ []) ∙ ap (λ k. k + 1) state.size;
  each = λ k d k_below. ap (λ l. slice_get l (slice_index spots' k)) (sym more) ∙ elim (cases_eq k many) [
    | inl is ↦ ap (slice_get after) (ap (λ l. get_or l k 0) spots_are ∙ get_or_push spots number 0 k (state.size ∙ sym is)) ∙ number_is ∙ ap (λ x. Some (node_of x)) (sym (ap (λ j. get_or names j d) is ∙ get_or_from_slice_get names many name d at))
    | inr ne ↦
        let ne' : k ≢ many = ne in
        let k_less : k < many = omega (arith, ne', k_below) in
        ap (slice_get after) (ap (λ l. get_or l k 0) spots_are ∙ get_or_append_left spots (number ∷ []) 0 k (let l = state.size in omega (arith, l, k_less)))
        ∙ with_keeps (nodes_to names pins many) (node_of name) (slice_index spots k) (node_of (slice_index_or names k d)) (state.each k d k_less)
  ];
}
  where
    after : List Node
    after = with_node (nodes_to names pins many) (node_of name)

    more : after ≡ nodes_to names pins (many + 1)
    more = one_more names pins many name at

pub numbering_step : (names : List NodeName) (pins : List Node) (spots spots' : List ℕ) (count count' many : ℕ) (name : NodeName) → AreDistinctNodes names → slice_get names many ≡ Some name → Gets pins (node_of name) count spots spots' count'
    → Numbering names pins spots count many → Numbering names pins spots' count' (many + 1)
numbering_step names pins spots spots' count count' many name distinct at (pin number number_is spots_are count_is) state =
    let there = all_keep pins (map node_of (take many names)) number (node_of name) number_is in
    let same = node_held (node_of name) (nodes_to names pins many) number there in
    placed names pins spots spots' count count' many number name at (ap (λ l. slice_get l number) (sym same) ∙ there) spots_are (count_is ∙ state.counted ∙ ap length same) state
numbering_step names pins spots spots' count count' many name distinct at (other new spots_are count_is) state =
    let more = sym (with_new (nodes_to names pins many) (node_of name) (new_so_far names pins many name distinct at new)) in
    let last = node_last (node_of name) (nodes_to names pins many) in
    placed names pins spots spots' count count' many count name at (ap (slice_get (with_node (nodes_to names pins many) (node_of name))) state.counted ∙ ap (λ l. slice_get l (length (nodes_to names pins many))) (sym more) ∙ last) spots_are
    (count_is ∙ ap (λ k. k + 1) state.counted ∙ sym (length-append (nodes_to names pins many) (node_of name ∷ [])) ∙ ap length more) state

-- ---- the pins that are left

pub name_there : (names : List NodeName) (place : ℕ) → place < length names → (name : NodeName) × (slice_get names place ≡ Some name)
name_there [] place below = absurd (omega (arith, below))
name_there (name ∷ names) zero below = (name, refl)
name_there (name ∷ names) (suc place) below = name_there names place (omega (arith, below))

-- two nodes of a section that have one number are at one place
one_number : (names : List NodeName) (pins : List Node) (spots : List ℕ) (count many : ℕ) → AreDistinctNodes names → Numbering names pins spots count many → many ≤ length names → (i j : ℕ) → i < many → j < many → slice_index spots i ≡ slice_index spots j → i ≡ j
one_number names pins spots count many distinct state within i j i_below j_below same =
    let one = name_there names i (omega (arith, i_below, within)) in
    let other = name_there names j (omega (arith, j_below, within)) in
    distinct i j one.0 other.0 one.1 other.1
    (same_Some (node_of one.0) (node_of other.0) (ap (λ x. Some (node_of x)) (sym (get_or_from_slice_get names i one.0 one.0 one.1)) ∙ sym (state.each i one.0 i_below) ∙ ap (slice_get (nodes_to names pins many)) same ∙ state.each j other.0 j_below
    ∙ ap (λ x. Some (node_of x)) (get_or_from_slice_get names j other.0 other.0 other.1)))

-- where a section has as many nodes so far as there are with the pins, each pin is among them, and the next node is none
pub none_left : (names : List NodeName) (pins : List Node) (spots : List ℕ) (count many : ℕ) (name : NodeName) → AreDistinctNodes names → slice_get names many ≡ Some name → count ≤ many → Numbering names pins spots count many → among (node_of name) pins ≡ false
none_left names pins spots count many name distinct at full state = elim (among_cases (node_of name) pins) [
  | inr new ↦ new
  | inl held ↦
      let there = among_from (node_of name) pins held in
      let number_is : slice_get pins there.0 ≡ Some (node_of name) = slice_get-get_or pins there.0 (node_of name) there.1 ∙ ap Some there.2 in
      let more = numbering_step names pins spots (spots ++ there.0 ∷ []) count count many name distinct at (pin there.0 number_is refl refl) state in
      let within = slice_get_within names many name at in
      let size = more.counted in
      let fits = pigeonhole (many + 1) count (slice_index (spots ++ there.0 ∷ []))
      (λ i below. let inside = slice_get_within (nodes_to names pins (many + 1)) (slice_index (spots ++ there.0 ∷ []) i) (node_of (slice_index_or names i name)) (more.each i name below) in omega (arith, inside, size))
      (one_number names pins (spots ++ there.0 ∷ []) count (many + 1) distinct more (omega (arith, within))) in
      absurd (omega (arith, fits, full))
]
