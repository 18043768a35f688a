-- Nodes get their numbers one after another.
use Rattle.std.proofs.Common.{◌≡◌, ◌≢◌, ℕ, zero, suc, ◌+◌, ◌<◌, ◌≤◌, true, false, ◌||◌, List, [], ◌∷◌, ◌++◌, map, take, length, get_or, slice_get, slice_index, slice_index_or, slice_set, replicate, Some, option_map, length-append, length-set, get_or-set_same, get_or-set_other, refl, sym, ◌∙◌, ap, subst, arith, inl, inr, true≢false}
use Rattle.std.proofs.lemmas.Bool.{cases_eq}
use Rattle.std.proofs.lemmas.List.{get_or_at, get_or-replicate, length-replicate, take_all}
use Rattle.std.proofs.lemmas.List.Quantifiers.{all_pairs_push}
use Rattle.std.proofs.lemmas.Option.{slice_get-map, slice_get-get_or, get_or_from_slice_get, slice_get_within}
use Rattle.name_table.specs.declared.spef_names.NodeName.{NodeName}
use Rattle.spef_nets.specs.NetElements.{NetElements as SectionElements}
use Rattle.spef_nets.specs.Nodes.{AreDistinctNodes}
use Rattle.name_table.specs.NodeKeys.{among}
use Rattle.rc_tree.specs.Nodes.{Node, node_of, with_node, with_nodes}
use Rattle.rc_tree.specs.Pins.{Pins, pin_nodes}
use Rattle.rc_tree.specs.Marking.{Marks, fresh, held, Marked}
use Rattle.rc_tree.specs.Searched.{IsNumbered, all_nodes}
use Rattle.rc_tree.proofs.NodeLemmas.{among_is, among_from}
use Rattle.rc_tree.proofs.Numbers.{with_held, with_new, among_cases, get_front, all_keep, names_more}
use Rattle.rc_tree.proofs.Nets.{Apart, same_cases, first_all}

-- a node that is at a place is among the others
at_among : (nodes : List Node) (k : ℕ) (x : Node) → slice_get nodes k ≡ Some x → among x nodes ≡ true
at_among nodes k x at = among_is x nodes (k, slice_get_within nodes k x at, get_or_from_slice_get nodes k x x at)

not_among : (nodes : List Node) (k : ℕ) (x : Node) → among x nodes ≡ false → slice_get nodes k ≡ Some x → ⊥
not_among nodes k x new at = true≢false (sym (at_among nodes k x at) ∙ new)

-- a node that is neither among some nodes nor the last is not among them
pub still_new : (nodes : List Node) (last x : Node) → among x nodes ≡ false → (x ≡ last → ⊥) → among x (nodes ++ last ∷ []) ≡ false
still_new [] last x new differ = elim (same_cases x last) [ inl h ↦ absurd (differ h.0) | inr h ↦ ap (λ b. b || false) h.1 ]
still_new (first ∷ nodes) last x new differ = elim (same_cases x first) [
  | inl h ↦ absurd (true≢false (sym (ap (λ b. b || among x nodes) h.1) ∙ new))
  | inr h ↦ ap (λ b. b || among x (nodes ++ last ∷ [])) h.1 ∙ still_new nodes last x (sym (ap (λ b. b || among x nodes) h.1) ∙ new) differ
]

last_of : (nodes : List Node) (x : Node) → slice_get (nodes ++ x ∷ []) (length nodes) ≡ Some x
last_of nodes x =
    slice_get-get_or (nodes ++ x ∷ []) (length nodes) x (let l = length-append nodes (x ∷ []) in omega (arith, l)) ∙ ap Some (get_or_at nodes x [] x (length nodes) refl)

-- a node once more is none more
with_at : (nodes : List Node) (k : ℕ) (x : Node) → slice_get nodes k ≡ Some x → with_node nodes x ≡ nodes
with_at nodes k x at = with_held nodes x (at_among nodes k x at)

pub mark_step : (none : ℕ) (names : List NodeName) (nodes : List Node) (node : ℕ) (name : NodeName) (spots spots' : List ℕ) (count count' : ℕ) → AreDistinctNodes names → slice_get names node ≡ Some name → Marks none node spots count spots' count' → Marked none names nodes spots count
    → Marked none names (with_node nodes (node_of name)) spots' count'
mark_step none names nodes node name spots spots' count count' distinct named (held marked) state =
    let below = slice_get_within names node name named in
    let there : slice_get nodes (slice_index spots node) ≡ Some (node_of name) = state.held node name below marked ∙ ap (λ n. Some (node_of n)) (get_or_from_slice_get names node name name named) in
    subst (λ l. Marked none names l spots count) (sym (with_at nodes (slice_index spots node) (node_of name) there)) state
mark_step none names nodes node name spots spots' count count' distinct named (fresh free room) state =
    subst (λ l. Marked none names l (slice_set spots node count) (count + 1)) (sym (with_new nodes (node_of name) new)) (record {
      size = length-set spots node count ∙ state.size;
      counted = ap (λ k. k + 1) state.counted ∙ sym (length-append nodes (node_of name ∷ []));
      apart = all_pairs_push (λ one other. one ≢ other) nodes (node_of name) state.apart (λ k d k_below same. not_among nodes k (node_of name) new (slice_get-get_or nodes k d k_below ∙ ap Some same));
      held = λ i d i_below marked. elim (cases_eq i node) [
        | inl e ↦
            (let is : slice_index (slice_set spots node count) i ≡ length nodes = ap (slice_index (slice_set spots node count)) e ∙ set_here ∙ state.counted in
            ap (slice_get (nodes ++ node_of name ∷ [])) is ∙ last_of nodes (node_of name) ∙ ap (λ n. Some (node_of n)) (sym (ap (λ j. get_or names j d) e ∙ get_or_from_slice_get names node name d named)))
        | inr ne ↦
            (let is = set_other i ne in
            ap (slice_get (nodes ++ node_of name ∷ [])) is ∙ get_front nodes (node_of name ∷ []) (slice_index spots i) (node_of (slice_index_or names i d)) (state.held i d i_below (λ e. marked (is ∙ e))))
      ];
      free = λ i d i_below unmarked. elim (cases_eq i node) [
        | inl e ↦ absurd (let is : slice_index (slice_set spots node count) i ≡ count = ap (slice_index (slice_set spots node count)) e ∙ set_here in omega (arith, is, unmarked, room))
        | inr ne ↦
            (let is = set_other i ne in
            still_new nodes (node_of name) (node_of (slice_index_or names i d)) (state.free i d i_below (sym is ∙ unmarked))
            (λ same. ne (distinct i node (slice_index_or names i d) name (slice_get-get_or names i d i_below) named (ap (λ n. record { head = n.head; tail = n.tail }) same))))
      ];
    })
  where
    below : node < length names
    below = slice_get_within names node name named

    set_here : slice_index (slice_set spots node count) node ≡ count
    set_here = get_or-set_same spots node count 0 (let s = state.size in omega (arith, s, below))

    set_other : (i : ℕ) → (i ≡ node → ⊥) → slice_index (slice_set spots node count) i ≡ slice_index spots i
    set_other i ne = get_or-set_other spots node i count 0 ne

    new : among (node_of name) nodes ≡ false
    new = ap (λ n. among (node_of n) nodes) (sym (get_or_from_slice_get names node name name named)) ∙ state.free node name below free

-- no node yet
pub none_marked : (none : ℕ) (names : List NodeName) (spots : List ℕ) → spots ≡ replicate (length names) none → Marked none names [] spots 0
none_marked none names spots is = record {
  size = ap length is ∙ length-replicate (length names) none;
  counted = refl;
  apart = λ i j d less below same. omega (arith, below);
  held = λ i d below marked. absurd (marked (ap (λ l. slice_index l i) is ∙ get_or-replicate (length names) i none 0 below));
  free = λ i d below unmarked. refl;
}

-- each of the nodes that are put in is among them
among_all : (before later : List Node) (k : ℕ) (x : Node) → slice_get later k ≡ Some x → among x (with_nodes before later) ≡ true
among_all before [] k x at = absurd (let b = slice_get_within {A = Node} [] k x at in omega (arith, b))
among_all before (y ∷ later) zero x at = elim (among_cases y before) [
  | inl old ↦ (let c = among_from y before old in keep c.0 (ap (λ l. slice_get l c.0) (with_held before y old) ∙ slice_get-get_or before c.0 y c.1 ∙ ap Some c.2))
  | inr new ↦ keep (length before) (ap (λ l. slice_get l (length before)) (with_new before y new) ∙ last_of before y)
]
  where
    same : y ≡ x
    same = get_or_from_slice_get (y ∷ later) 0 x y at

    keep : (place : ℕ) → slice_get (with_node before y) place ≡ Some y → among x (with_nodes (with_node before y) later) ≡ true
    keep place there = at_among (with_nodes (with_node before y) later) place x (all_keep (with_node before y) later place x (there ∙ ap Some same))
among_all before (y ∷ later) (suc k) x at = among_all (with_node before y) later k x at

-- once all are put in, each has its number
pub marked_all : (none : ℕ) (section : SectionElements) (pins : Pins) (spots : List ℕ) (count : ℕ)
    → Marked none section.nodes (with_nodes (with_nodes (with_node [] (node_of pins.driver)) (map node_of pins.sinks)) (map node_of section.nodes)) spots count → IsNumbered section pins spots count
marked_all none section pins spots count state = record {
  are_spots = record {
    size = state.size;
    each = λ i d below. ap (λ l. slice_get l (slice_index spots i)) (sym is) ∙ state.held i d below (has_number i d below);
  };
  counted = state.counted ∙ ap length is;
  apart = subst Apart is state.apart;
}
  where
    nodes : List Node
    nodes = with_nodes (with_nodes (with_node [] (node_of pins.driver)) (map node_of pins.sinks)) (map node_of section.nodes)

    is : nodes ≡ all_nodes section pins
    is = ap (λ l. with_nodes l (map node_of section.nodes)) (first_all [] (pin_nodes pins)) ∙ first_all (pin_nodes pins) (map node_of section.nodes)

    has_number : (i : ℕ) (d : NodeName) → i < length section.nodes → slice_index spots i ≡ none → ⊥
    has_number i d below unmarked =
        let there : slice_get (map node_of section.nodes) i ≡ Some (node_of (slice_index_or section.nodes i d)) = slice_get-map node_of section.nodes i ∙ ap (option_map node_of) (slice_get-get_or section.nodes i d below) in
        true≢false (sym (among_all (with_nodes (with_node [] (node_of pins.driver)) (map node_of pins.sinks)) (map node_of section.nodes) i (node_of (slice_index_or section.nodes i d)) there) ∙ state.free i d below unmarked)

-- no number is taken away
pub marks_size : (none node : ℕ) (spots spots' : List ℕ) (count count' : ℕ) → Marks none node spots count spots' count' → length spots' ≡ length spots
marks_size none node spots spots' count count' (held marked) = refl
marks_size none node spots spots' count count' (fresh free room) = length-set spots node count

-- the nodes of a list of names, one more
pub marked_more : (none : ℕ) (names : List NodeName) (nodes : List Node) (list : List NodeName) (k node : ℕ) (name : NodeName) (spots spots' : List ℕ) (count count' : ℕ) → AreDistinctNodes names → slice_get list k ≡ Some name → slice_get names node ≡ Some name → Marks none node spots count spots' count'
    → Marked none names (with_nodes nodes (map node_of (take k list))) spots count → Marked none names (with_nodes nodes (map node_of (take (k + 1) list))) spots' count'
marked_more none names nodes list k node name spots spots' count count' distinct listed named marks state =
    subst (λ l. Marked none names l spots' count')
    (names_more list nodes (with_nodes nodes (map node_of (take k list))) (with_node (with_nodes nodes (map node_of (take k list))) (node_of name)) k name (slice_get_within list k name listed) (get_or_from_slice_get list k name name listed) refl refl)
    (mark_step none names (with_nodes nodes (map node_of (take k list))) node name spots spots' count count' distinct named marks state)

-- all of them
pub marked_end : (none : ℕ) (names : List NodeName) (nodes : List Node) (list : List NodeName) (k : ℕ) (spots : List ℕ) (count : ℕ) → length list ≤ k → Marked none names (with_nodes nodes (map node_of (take k list))) spots count → Marked none names (with_nodes nodes (map node_of list)) spots count
marked_end none names nodes list k spots count all state = subst (λ l. Marked none names (with_nodes nodes (map node_of l)) spots count) (take_all k list all) state
