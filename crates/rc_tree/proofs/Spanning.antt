-- A net whose nodes are all found, each resistor as the link of one: it is a tree.
use Rattle.std.proofs.Common.{◌≡◌, ℕ, zero, suc, ◌+◌, ◌-◌, ◌<◌, ◌≤◌, if◌then◌else◌, nat_lt, List, length, slice_index, slice_index_or, Any, refl, sym, ◌∙◌, ap, subst, arith, inl, inr, lt-ltb, le-ltb, mul-one}
use Rattle.std.proofs.lemmas.Bool.{cases_lt}
use Rattle.std.proofs.lemmas.List.{get_or_default}
use Rattle.spef_nets.specs.NetElements.{NetElements as SectionElements}
use Rattle.rc_tree.specs.RcTree.{CutsOff, IsTree}
use Rattle.rc_tree.specs.Nodes.{Node, node_of}
use Rattle.rc_tree.specs.Pins.{Pins}
use Rattle.rc_tree.specs.Sums.{sum_below}
use Rattle.rc_tree.specs.SectionNets.{net_elements}
use Rattle.rc_tree.specs.Searches.{Search, Finds}
use Rattle.rc_tree.proofs.Sums.{sum_cong, sum_const}
use Rattle.rc_tree.proofs.Above.{above_here}
use Rattle.rc_tree.proofs.Walks.{Spans, aside}
use Rattle.rc_tree.proofs.Drawn.{Drawn, read_without_at}
use Rattle.rc_tree.proofs.Elements.{Numbered, sum_links}
use Rattle.rc_tree.proofs.Nets.{where_is, where_in, where_of, one_place}
use Rattle.rc_tree.specs.Searched.{Searched}
use Rattle.rc_tree.proofs.Answering.{nodes_are, resistor, resistor_at, from_at, to_at, from_below, to_below, finds, drawn, all_reached}

abbrev past_first : ℕ → ℕ
past_first zero = 0
past_first (suc j) = 1

past_count : (k : ℕ) → sum_below (suc k) past_first ≡ k
past_count zero = refl
past_count (suc k) = let ih = past_count k in let e : suc k ≡ k + 1 = omega arith in ap (λ x. x + 1) ih ∙ sym e

module _ (count : ℕ) (section : SectionElements) (pins : Pins) (nodes : List Node) (spots froms tos : List ℕ) (s : Search) (searched : Searched section pins nodes spots froms tos s) (number : ℕ)
    (every : (i : ℕ) → i < length nodes → 0 < slice_index s.numbers i) (linked : (e : ℕ) → e < length froms → 0 < slice_index s.links e) where
  abbrev F : ℕ → Node
  F i = slice_index_or nodes i (node_of pins.driver)

  abbrev G : ℕ → Node
  G j = slice_index_or nodes (slice_index s.order j) (node_of pins.driver)

  -- the place of a node in the order
  abbrev at : ℕ → ℕ
  at i = slice_index s.numbers i - 1

  fs : Finds (length s.order) (length nodes) (length froms) (slice_index froms) (slice_index tos) (slice_index s.order) (slice_index s.parents) (slice_index s.vias) (slice_index s.numbers) (slice_index s.links)
  fs = finds count section pins nodes spots froms tos s searched number

  pub back : (i : ℕ) → i < length nodes → slice_index s.order (at i) ≡ i
  back i below = let o = fs.ord_num i (every i below) in o.1

  pub at_below : (i : ℕ) → i < length nodes → at i < length s.order
  at_below i below = let o = fs.ord_num i (every i below) in let e = every i below in omega (arith, o.0, e)

  at_order : (j : ℕ) → j < length s.order → at (slice_index s.order j) ≡ j
  at_order j below = let n = fs.num_ord j below in omega (arith, n)

  pub spans : Spans (length s.order) (length froms) (λ e. at (slice_index froms e)) (λ e. at (slice_index tos e)) (slice_index s.parents) (slice_index s.vias) (slice_index s.links)
  spans = record {
    some = fs.some;
    down = fs.down;
    joins = λ j some below.
        let joined = fs.joins j some below in
        let less = fs.down j some in
        let p_below : slice_index s.parents j < length s.order = omega (arith, less, below) in (
          joined.0,
          elim (joined.1) [
            | inl h ↦ inl (ap at h.0 ∙ at_order (slice_index s.parents j) p_below, ap at h.1 ∙ at_order j below)
            | inr h ↦ inr (ap at h.0 ∙ at_order (slice_index s.parents j) p_below, ap at h.1 ∙ at_order j below)
          ],
        );
    links = λ e below. let l = fs.via_link e (linked e below) in (linked e below, l.0, l.1);
    vias = fs.link_via;
  }

  pub drawn_order : Drawn (net_elements count section pins number) G (length s.order) (length froms) (λ e. at (slice_index froms e)) (λ e. at (slice_index tos e))
  drawn_order =
      let d = drawn count section pins nodes spots froms tos s searched number in
      record {
        some = fs.some;
        driver = d.driver ∙ ap F (sym fs.root);
        count = d.count;
        joints = λ e below. (resistor count section pins nodes spots froms tos s searched number e, resistor_at count section pins nodes spots froms tos s searched number e below, from_at count section pins nodes spots froms tos s searched number e below ∙ ap F (sym (back (slice_index froms e) (from_below count section pins nodes spots froms tos s searched number e below))), to_at count section pins nodes spots froms tos s searched number e below ∙ ap F (sym (back (slice_index tos e) (to_below count section pins nodes spots froms tos s searched number e below))));
        within = λ e below. (at_below (slice_index froms e) (from_below count section pins nodes spots froms tos s searched number e below), at_below (slice_index tos e) (to_below count section pins nodes spots froms tos s searched number e below));
        one = λ j k j_below k_below same.
            let e : slice_index s.order j ≡ slice_index s.order k = one_place nodes searched.apart (node_of pins.driver) (slice_index s.order j) (slice_index s.order k) (fs.nodes j j_below) (fs.nodes k k_below) same in
            sym (at_order j j_below) ∙ ap at e ∙ at_order k k_below;
      }

  -- the number of a node by its place in the order
  abbrev pub number_of : Node → ℕ
  number_of v = if nat_lt (where_is v nodes) (length nodes) then slice_index s.numbers (where_is v nodes) - 1 else length s.order

  number_in : (v : Node) → where_is v nodes < length nodes → number_of v ≡ at (where_is v nodes)
  number_in v below = ap (λ b. if b then at (where_is v nodes) else length s.order) (lt-ltb (where_is v nodes) (length nodes) below)

  number_out : (v : Node) → length nodes ≤ where_is v nodes → number_of v ≡ length s.order
  number_out v past = ap (λ b. if b then at (where_is v nodes) else length s.order) (le-ltb (where_is v nodes) (length nodes) past)

  pub numbered_order : Numbered G (length s.order) number_of
  numbered_order = record {
    there = λ j below.
        let w : where_is (G j) nodes ≡ slice_index s.order j = where_of nodes searched.apart (node_of pins.driver) (slice_index s.order j) (fs.nodes j below) in
        number_in (G j) (let n = fs.nodes j below in omega (arith, w, n)) ∙ ap at w ∙ at_order j below;
    back = λ v below. elim (cases_lt (where_is v nodes) (length nodes)) [
      | inl inside ↦ ap G (number_in v inside) ∙ ap F (back (where_is v nodes) inside) ∙ where_in v nodes (node_of pins.driver) inside
      | inr past ↦ absurd (let out = number_out v past in omega (arith, out, below))
    ];
  }

  -- one node more than there are resistors
  pub size : length s.order ≡ length froms + 1
  size = by (length s.order) refl
    where
      ones : sum_below (length froms) (λ e. past_first (slice_index s.links e)) ≡ length froms
      ones = sum_cong (length froms) (λ e. past_first (slice_index s.links e)) (λ e. 1) (λ e below. up (slice_index s.links e) (linked e below)) ∙ sum_const (length froms) 1 ∙ mul-one (length froms)
        where
          up : (k : ℕ) → 0 < k → past_first k ≡ 1
          up zero some = absurd (omega arith)
          up (suc k) some = refl

      by : (c : ℕ) → c ≡ length s.order → length s.order ≡ length froms + 1
      by zero is = absurd (let some = fs.some in omega (arith, some, is))
      by (suc k) is =
          let all : sum_below (length froms) (λ e. past_first (slice_index s.links e)) ≡ sum_below (length s.order) past_first =
          sum_links (length s.order) (length froms) (slice_index s.vias) (slice_index s.links) spans.links (λ j some below. let joins = spans.joins j some below in (joins.0, spans.vias j some below)) past_first refl in
          let total : sum_below (length s.order) past_first ≡ k = ap (λ c. sum_below c past_first) (sym is) ∙ past_count k in
          omega (arith, all, total, ones, is)

  -- each resistor cuts off the node that it links
  pub tree : IsTree (net_elements count section pins number)
  tree = (
    all_reached count section pins nodes spots froms tos s searched number every,
    λ e e_below.
        let d = drawn count section pins nodes spots froms tos s searched number in
        let count_is = d.count in
        let below : e < length froms = omega (arith, count_is, e_below) in
        let l = spans.links e below in
        let j = slice_index s.links e in
        let inside = fs.nodes j l.1 in
        subst (Any (CutsOff (net_elements count section pins number) e)) (sym (nodes_are count section pins nodes spots froms tos s searched number)) (
          slice_index s.order j,
          G j,
          inside,
          get_or_default nodes (slice_index s.order j) (G j) (node_of pins.driver) inside,
          (λ reached.
              let found = read_without_at (net_elements count section pins number) G (length s.order) (length froms) (λ x. at (slice_index froms x)) (λ x. at (slice_index tos x)) drawn_order e j l.1 reached in
              let z = aside (length s.order) (length froms) (λ x. at (slice_index froms x)) (λ x. at (slice_index tos x)) (slice_index s.parents) (slice_index s.vias) (slice_index s.links) spans e below j found in
              let w = above_here (slice_index s.parents) 1 j j refl in
              omega (arith, z, w)),
        ),
  )
