-- Orderings on their way.
use Rattle.std.proofs.Common.{◌≡◌, ◌≢◌, ℕ, ◌+◌, ◌<◌, ◌≤◌, suc, true, false, List, [], ◌∷◌, ◌++◌, length, get_or, set, eqb, slice_index, Option, None, Some, is_some, if◌then◌else◌, length-append, length-set, get_or-set_same, get_or-set_other, sym, refl, ap, ◌∙◌, subst, inl, inr, arith, All}
use Rattle.std.specs.List.{slice_index_or}
use Rattle.std.proofs.lemmas.Bool.{cases_eq, cases_lt, eqb-true, ne_eqb, false≢true}
use Rattle.std.proofs.lemmas.List.{get_or_push, get_or_append_left, get_or_default, get_or_read}
use Rattle.std.proofs.lemmas.List.Folds.{Any-from_list_any}
use Rattle.std.proofs.lemmas.Map.Keys.{IsDistinct-from_apart}
use Rattle.std.proofs.lemmas.Map.Steps.{length-le_from_distinct_below}
use Rattle.graph_order.specs.Orders.{StandsBefore}
use Rattle.graph_order.specs.Fans.{IsLatest, links_to}
use Rattle.graph_order.specs.Progress.{wait_of, AreFree, IsWaiting, IsPassed, ArePassed, Goes, IsEarlier, AreStuck}

-- the links from a node are passed down to a cursor
pub record PassingAll (nodes : ℕ) (sources targets order : List ℕ) (waits : List (Option ℕ)) (order' : List ℕ) (waits' : List (Option ℕ)) (node : ℕ) (cursor : Option ℕ) : Type 0 where
  pub waiting : IsWaiting nodes sources targets order' waits'
  pub goes : Goes sources targets order waits order' waits'
  pub free : wait_of waits' node ≡ 0
  pub within : links_to cursor ≤ length sources
  pub here : (link : ℕ) → links_to cursor ≡ suc link → slice_index sources link ≡ node
  pub passed : (link : ℕ) → links_to cursor ≤ link → link < length sources → slice_index sources link ≡ node → IsPassed targets waits' link

-- distinct numbers below a bound are at most so many
pub few : (xs : List ℕ) (n : ℕ) → ((place : ℕ) → place < length xs → slice_index xs place < n) → ((j k : ℕ) → j < k → k < length xs → slice_index xs j ≢ slice_index xs k) → length xs ≤ n
few xs n within once = length-le_from_distinct_below xs n
    (IsDistinct-from_apart eqb xs (λ i j d i_below j_below. ne_eqb (get_or xs i d) (get_or xs j d)
    (λ same. once i j i_below j_below (get_or_default xs i 0 d (omega (arith, i_below, j_below)) ∙ same ∙ get_or_default xs j d 0 j_below))))
    (λ q any. let found = Any-from_list_any (eqb q) xs any in
    let at : slice_index xs found.0 ≡ q = get_or_default xs found.0 0 found.1 found.2 ∙ found.3 ∙ sym (eqb-true q found.1 found.4) in let low = within found.0 found.2 in omega (arith, at, low))

pub few_placed : (started : ℕ) (order : List ℕ) (waits : List (Option ℕ)) → AreFree started order waits → length order ≤ started
few_placed started order waits free = few order started free.within free.once

-- the front stays where it is
pub stands_longer : (order order' : List ℕ) (bound bound' node : ℕ) → bound ≤ bound' → ((place : ℕ) → place < bound → slice_index order' place ≡ slice_index order place) → StandsBefore order bound node → StandsBefore order' bound' node
stands_longer order order' bound bound' node more same stands = let low = stands.1 in (stands.0, omega (arith, low, more), same stands.0 stands.1 ∙ stands.2)

-- at the start the links of a fan are waited for
pub waiting_start : (nodes : ℕ) (sources targets order : List ℕ) (last : List (Option ℕ)) → length last ≡ nodes → ((node : ℕ) → node < nodes → IsLatest targets (length targets) node (slice_index_or last node None))
    → length targets ≡ length sources → AreFree nodes order last → IsWaiting nodes sources targets order last
waiting_start nodes sources targets order last size latest same placed = record {
  waits_len = size;
  placed = placed;
  after = λ link k link_in k_in at. absurd ((latest (slice_index order k) (placed.within k k_in)).rest link (let free = placed.free k k_in in omega (arith, free)) (omega (arith, link_in, same)) at);
  here = λ node link node_in waits. let l = latest node node_in in let w = l.within in (omega (arith, w, waits), l.here link waits);
  above = λ node link node_in some from below at. absurd ((latest node node_in).rest link from below at);
}

-- a node that waited for a link waits for an earlier one or stands in the order
pub record GoesOn (nodes : ℕ) (sources targets order : List ℕ) (waits : List (Option ℕ)) (link v : ℕ) (next : Option ℕ) (order' : List ℕ) (waits' : List (Option ℕ)) : Type 0 where
  pub same : length targets ≡ length sources
  pub target_in : v < nodes
  pub target : slice_index targets link ≡ v
  pub link_in : link < length sources
  pub source_in : (l : ℕ) → l < length sources → slice_index sources l < nodes
  pub free : wait_of waits (slice_index sources link) ≡ 0
  pub at : wait_of waits v ≡ suc link
  pub waiting : IsWaiting nodes sources targets order waits
  pub earlier : IsEarlier sources targets waits link next
  pub stop : (found : ℕ) → links_to next ≡ suc found → 0 < wait_of waits (slice_index sources found)
  pub waits_is : waits' ≡ set waits v next
  pub order_is : order' ≡ (if is_some next then order else order ++ v ∷ [])

-- what then holds of each node and link
record Turned (nodes : ℕ) (sources targets order : List ℕ) (waits : List (Option ℕ)) (link v : ℕ) (next : Option ℕ) (waits' : List (Option ℕ)) : Type 0 where
  pub now : wait_of waits' v ≡ links_to next
  pub other : (node : ℕ) → node ≢ v → wait_of waits' node ≡ wait_of waits node
  pub still : (node : ℕ) → wait_of waits node ≡ 0 → wait_of waits' node ≡ 0
  pub freed : (l : ℕ) → links_to next ≤ l → l < length targets → slice_index targets l ≡ v → wait_of waits (slice_index sources l) ≡ 0

turned : (nodes : ℕ) (sources targets order : List ℕ) (waits : List (Option ℕ)) (link v : ℕ) (next : Option ℕ) (order' : List ℕ) (waits' : List (Option ℕ)) → GoesOn nodes sources targets order waits link v next order' waits' → Turned nodes sources targets order waits link v next waits'
turned nodes sources targets order waits link v next order' waits' on = record {
  now = ap (λ w. wait_of w v) on.waits_is ∙ ap links_to (get_or-set_same waits v next None (let l = on.waiting.waits_len in let t = on.target_in in omega (arith, l, t)));
  other = other;
  still = λ node none. other node (λ is. let at = on.at in let none' = ap (wait_of waits) (sym is) ∙ none in omega (arith, at, none')) ∙ none;
  freed = λ l from below at. elim (cases_lt l link) [
    | inl lower ↦ on.earlier.rest l from lower (at ∙ sym on.target)
    | inr higher ↦ elim (cases_eq l link) [
      | inl is ↦ ap (λ k. wait_of waits (slice_index sources k)) is ∙ on.free
      | inr ne ↦ let ne' : l ≢ link = ne in let waited = on.at in on.waiting.above v l on.target_in (omega (arith, waited)) (omega (arith, waited, higher, ne')) below at
    ]
  ];
}
  where
    other : (node : ℕ) → node ≢ v → wait_of waits' node ≡ wait_of waits node
    other node ne = ap (λ w. wait_of w node) on.waits_is ∙ ap links_to (get_or-set_other waits v node next None ne)

-- nothing new stands in the order
placed_some : (nodes : ℕ) (sources targets order : List ℕ) (waits : List (Option ℕ)) (link v f : ℕ) (waits' : List (Option ℕ)) → Turned nodes sources targets order waits link v (Some f) waits' → AreFree nodes order waits → AreFree nodes order waits'
placed_some nodes sources targets order waits link v f waits' turn placed = record {
  within = placed.within;
  once = placed.once;
  free = λ place below. turn.still (slice_index order place) (placed.free place below);
  placed = λ node node_in none. placed.placed node node_in (sym (turn.other node (λ is. let now = turn.now in let none' = ap (wait_of waits') (sym is) ∙ none in omega (arith, now, none'))) ∙ none);
}

-- the node stands at the end of the order
placed_none : (nodes : ℕ) (sources targets order : List ℕ) (waits : List (Option ℕ)) (link v : ℕ) (waits' : List (Option ℕ)) → v < nodes → wait_of waits v ≡ suc link → Turned nodes sources targets order waits link v None waits' → AreFree nodes order waits
    → AreFree nodes (order ++ v ∷ []) waits'
placed_none nodes sources targets order waits link v waits' v_in waited turn placed = record {
  within = λ place below. elim (cases_lt place (length order)) [
    | inl low ↦ (let at = front place low in let old = placed.within place low in omega (arith, at, old))
    | inr high ↦ (let at = back place high below in omega (arith, at, v_in))
  ];
  once = λ j k j_below k_below same. elim (cases_lt k (length order)) [
    | inl low ↦ placed.once j k j_below low (sym (front j (omega (arith, j_below, low))) ∙ same ∙ front k low)
    | inr high ↦ (let j_low : j < length order = omega (arith, j_below, k_below, size) in
        let none = ap (wait_of waits) (sym (back k high k_below) ∙ sym same ∙ front j j_low) ∙ placed.free j j_low in omega (arith, none, waited))
  ];
  free = λ place below. elim (cases_lt place (length order)) [
    | inl low ↦ ap (wait_of waits') (front place low) ∙ turn.still (slice_index order place) (placed.free place low)
    | inr high ↦ ap (wait_of waits') (back place high below) ∙ turn.now
  ];
  placed = λ node node_in none. elim (cases_eq node v) [
    | inl is ↦ (length order, omega (arith, size), get_or_push order v 0 (length order) refl ∙ sym is)
    | inr ne ↦ stands_longer order (order ++ v ∷ []) (length order) (length (order ++ v ∷ [])) node (omega (arith, size)) front (placed.placed node node_in (sym (turn.other node ne) ∙ none))
  ];
}
  where
    size : length (order ++ v ∷ []) ≡ length order + 1
    size = length-append order (v ∷ [])

    front : (place : ℕ) → place < length order → slice_index (order ++ v ∷ []) place ≡ slice_index order place
    front place low = get_or_append_left order (v ∷ []) 0 place low

    back : (place : ℕ) → length order ≤ place → place < length (order ++ v ∷ []) → slice_index (order ++ v ∷ []) place ≡ v
    back place high below = let at : length order ≡ place = omega (arith, size, high, below) in get_or_push order v 0 place at

-- what the order keeps and gains
record Placed (nodes : ℕ) (sources targets order : List ℕ) (waits : List (Option ℕ)) (order' : List ℕ) (waits' : List (Option ℕ)) : Type 0 where
  pub placed : AreFree nodes order' waits'
  pub after : (l k : ℕ) → l < length sources → k < length order' → slice_index targets l ≡ slice_index order' k → StandsBefore order' k (slice_index sources l)
  pub longer : length order ≤ length order'
  pub same : (place : ℕ) → place < length order → slice_index order' place ≡ slice_index order place

placed_both : (nodes : ℕ) (sources targets order : List ℕ) (waits : List (Option ℕ)) (link v : ℕ) (next : Option ℕ) (order' : List ℕ) (waits' : List (Option ℕ)) → GoesOn nodes sources targets order waits link v next order' waits' → Placed nodes sources targets order waits order' waits'
placed_both nodes sources targets order waits link v (Some f) order' waits' on = subst (λ o. Placed nodes sources targets order waits o waits') (sym on.order_is) (record {
  placed = placed_some nodes sources targets order waits link v f waits' (turned nodes sources targets order waits link v (Some f) order' waits' on) on.waiting.placed;
  after = on.waiting.after;
  longer = omega arith;
  same = λ place below. refl;
})
placed_both nodes sources targets order waits link v None order' waits' on = subst (λ o. Placed nodes sources targets order waits o waits') (sym on.order_is) (record {
  placed = placed_none nodes sources targets order waits link v waits' on.target_in on.at turn on.waiting.placed;
  after = λ l k l_in k_in at. elim (cases_lt k (length order)) [
    | inl low ↦ stands_longer order (order ++ v ∷ []) k k (slice_index sources l) (omega arith) (λ place below. front place (omega (arith, below, low))) (on.waiting.after l k l_in low (at ∙ front k low))
    | inr high ↦ (let k_is : length order ≡ k = omega (arith, size, high, k_in) in
        let s = on.same in let none = turn.freed l (omega arith) (omega (arith, s, l_in)) (at ∙ get_or_push order v 0 k k_is) in
        stands_longer order (order ++ v ∷ []) (length order) k (slice_index sources l) (omega (arith, k_is)) front (on.waiting.placed.placed (slice_index sources l) (on.source_in l l_in) none))
  ];
  longer = omega (arith, size);
  same = front;
})
  where
    turn : Turned nodes sources targets order waits link v None waits'
    turn = turned nodes sources targets order waits link v None order' waits' on

    size : length (order ++ v ∷ []) ≡ length order + 1
    size = length-append order (v ∷ [])

    front : (place : ℕ) → place < length order → slice_index (order ++ v ∷ []) place ≡ slice_index order place
    front place low = get_or_append_left order (v ∷ []) 0 place low

-- what then holds
pub record Gone (nodes : ℕ) (sources targets order : List ℕ) (waits : List (Option ℕ)) (link : ℕ) (order' : List ℕ) (waits' : List (Option ℕ)) : Type 0 where
  pub waiting : IsWaiting nodes sources targets order' waits'
  pub goes : Goes sources targets order waits order' waits'
  pub passed : IsPassed targets waits' link

pub goes_on : (nodes : ℕ) (sources targets order : List ℕ) (waits : List (Option ℕ)) (link v : ℕ) (next : Option ℕ) (order' : List ℕ) (waits' : List (Option ℕ)) → GoesOn nodes sources targets order waits link v next order' waits' → Gone nodes sources targets order waits link order' waits'
goes_on nodes sources targets order waits link v next order' waits' on = record {
  waiting = record {
    waits_len = ap length on.waits_is ∙ length-set waits v next ∙ on.waiting.waits_len;
    placed = both.placed;
    after = both.after;
    here = λ node l node_in waited. elim (cases_eq node v) [
      | inl is ↦ (let at : links_to next ≡ suc l = sym turn.now ∙ ap (wait_of waits') (sym is) ∙ waited in
          let e = on.earlier.within in let s = on.same in let i = on.link_in in (omega (arith, at, e, s, i), on.earlier.here l at ∙ on.target ∙ sym is))
      | inr ne ↦ on.waiting.here node l node_in (sym (turn.other node ne) ∙ waited)
    ];
    above = λ node l node_in some from below at. elim (cases_eq node v) [
      | inl is ↦ (let now : wait_of waits' node ≡ links_to next = ap (wait_of waits') is ∙ turn.now in
          turn.still (slice_index sources l) (turn.freed l (omega (arith, now, from)) below (at ∙ is)))
      | inr ne ↦ (let o = turn.other node ne in turn.still (slice_index sources l) (on.waiting.above node l node_in (omega (arith, o, some)) (omega (arith, o, from)) below at))
    ];
  };
  goes = record {
    longer = both.longer;
    same = both.same;
    kept = λ l l_in none passed waited. elim (cases_eq (slice_index targets l) v) [
      | inl is ↦ (let at : links_to next ≡ suc l = sym turn.now ∙ ap (wait_of waits') (sym is) ∙ waited in let s = on.stop l at in omega (arith, s, none))
      | inr ne ↦ passed (sym (turn.other (slice_index targets l) ne) ∙ waited)
    ];
    free = turn.still;
  };
  passed = λ waited. let at : links_to next ≡ suc link = sym turn.now ∙ ap (wait_of waits') (sym on.target) ∙ waited in let e = on.earlier.within in omega (arith, at, e);
}
  where
    turn : Turned nodes sources targets order waits link v next waits'
    turn = turned nodes sources targets order waits link v next order' waits' on

    both : Placed nodes sources targets order waits order' waits'
    both = placed_both nodes sources targets order waits link v next order' waits' on

pub goes_both : (sources targets order : List ℕ) (waits : List (Option ℕ)) (order' : List ℕ) (waits' : List (Option ℕ)) (order'' : List ℕ) (waits'' : List (Option ℕ)) → Goes sources targets order waits order' waits' → Goes sources targets order' waits' order'' waits'' → Goes sources targets order waits order'' waits''
goes_both sources targets order waits order' waits' order'' waits'' first second = record {
  longer = let a = first.longer in let b = second.longer in omega (arith, a, b);
  same = λ place below. let a = first.longer in second.same place (omega (arith, a, below)) ∙ first.same place below;
  kept = λ link link_in none passed. second.kept link link_in (first.free (slice_index sources link) none) (first.kept link link_in none passed);
  free = λ node none. second.free node (first.free node none);
}

pub goes_none : (sources targets order : List ℕ) (waits : List (Option ℕ)) → Goes sources targets order waits order waits
goes_none sources targets order waits = record { longer = omega arith; same = λ place below. refl; kept = λ link link_in none passed. passed; free = λ node none. none }

-- one link more is passed
pub passing_more : (nodes : ℕ) (sources targets order : List ℕ) (waits : List (Option ℕ)) (order' : List ℕ) (waits' : List (Option ℕ)) (order'' : List ℕ) (waits'' : List (Option ℕ)) (node link : ℕ) (cursor next : Option ℕ)
    → links_to cursor ≡ suc link → PassingAll nodes sources targets order waits order' waits' node cursor → IsWaiting nodes sources targets order'' waits'' → Goes sources targets order' waits' order'' waits'' → IsPassed targets waits'' link
    → IsLatest sources link node next → PassingAll nodes sources targets order waits order'' waits'' node next
passing_more nodes sources targets order waits order' waits' order'' waits'' node link cursor next at held waiting goes passed latest = record {
  waiting = waiting;
  goes = goes_both sources targets order waits order' waits' order'' waits'' held.goes goes;
  free = goes.free node held.free;
  within = let a = latest.within in let b = held.within in omega (arith, a, b, at);
  here = latest.here;
  passed = λ l from below source. elim (cases_lt l link) [
    | inl lower ↦ absurd (latest.rest l from lower source)
    | inr higher ↦ elim (cases_eq l link) [
      | inl is ↦ subst (IsPassed targets waits'') (sym is) passed
      | inr ne ↦ let ne' : l ≢ link = ne in goes.kept l below (ap (wait_of waits') source ∙ held.free) (held.passed l (omega (arith, at, higher, ne')) below source)
    ]
  ];
}

-- all links from one place more are passed
pub passed_more : (sources targets order : List ℕ) (waits : List (Option ℕ)) (order' : List ℕ) (waits' : List (Option ℕ)) (nodes head : ℕ) (cursor : Option ℕ) → links_to cursor ≡ 0 → head < length order → AreFree nodes order waits → ArePassed sources targets order waits head
    → PassingAll nodes sources targets order waits order' waits' (slice_index order head) cursor → ArePassed sources targets order' waits' (head + 1)
passed_more sources targets order waits order' waits' nodes head cursor none head_in placed before held j link j_below j_in link_in source = elim (cases_eq j head) [
  | inl is ↦ held.passed link (omega (arith, none)) link_in (source ∙ ap (slice_index order') is ∙ held.goes.same head head_in)
  | inr ne ↦ (let ne' : j ≢ head = ne in let low : j < head = omega (arith, ne', j_below) in
      let old : slice_index sources link ≡ slice_index order j = source ∙ held.goes.same j (omega (arith, low, head_in)) in
      held.goes.kept link link_in (ap (wait_of waits) old ∙ placed.free j (omega (arith, low, head_in))) (before j link low (omega (arith, low, head_in)) link_in old))
]

-- at the end each node that waits waits for a link from one that waits
pub stuck_end : (nodes head : ℕ) (sources targets order : List ℕ) (waits : List (Option ℕ)) → nodes ≤ head → length targets ≡ length sources → ((l : ℕ) → l < length sources → slice_index sources l < nodes) → IsWaiting nodes sources targets order waits
    → ArePassed sources targets order waits head → AreStuck nodes sources targets waits
stuck_end nodes head sources targets order waits all same source_in waiting passed node link node_in waited =
    let here = waiting.here node link node_in waited in
    let link_in : link < length sources = (let low = here.0 in omega (arith, low, same)) in (
      here.0,
      here.1,
      elim (cases_lt 0 (wait_of waits (slice_index sources link))) [
        | inl some ↦ some
        | inr most ↦ (let stands = waiting.placed.placed (slice_index sources link) (source_in link link_in) (omega (arith, most)) in
            let size = few_placed nodes order waits waiting.placed in let low = stands.1 in
            absurd (passed stands.0 link (omega (arith, size, low, all)) stands.1 link_in (sym stands.2) (ap (wait_of waits) here.1 ∙ waited)))
      ],
    )

pub some_links : (o : Option ℕ) → is_some o ≡ true → 0 < links_to o
some_links None is = absurd (false≢true is)
some_links (Some link) is = omega arith

pub none_links : (o : Option ℕ) → is_some o ≡ false → links_to o ≡ 0
none_links None is = refl
none_links (Some link) is = absurd (false≢true (sym is))

-- the node waits for an earlier link
pub gone_back : (sources targets order : List ℕ) (waits : List (Option ℕ)) (order' : List ℕ) (waits' : List (Option ℕ)) (link found : ℕ) (next read : Option ℕ) → length targets ≡ length sources → All (λ node. node < length waits) sources → All (λ node. node < length waits) targets
    → IsWaiting (length waits) sources targets order waits → link < length sources → wait_of waits (slice_index sources link) ≡ 0 → wait_of waits (slice_index targets link) ≡ suc link → waits' ≡ waits → order' ≡ order → IsEarlier sources targets waits link next → next ≡ Some found
    → read ≡ get_or waits' (slice_index sources found) read → is_some read ≡ true → Gone (length waits) sources targets order waits link order' (set waits' (slice_index targets link) (Some found))
gone_back sources targets order waits order' waits' link found next read same sources_in targets_in waiting link_in free at waits_same order_same earlier next_is read_is some =
    let within = earlier.within in let above = ap links_to next_is in
    let source_in : slice_index sources found < length waits = sources_in found 0 (omega (arith, within, above, link_in)) in
    let read_here : read ≡ get_or waits (slice_index sources found) None = get_or_read waits (slice_index sources found) read source_in (read_is ∙ ap (λ w. get_or w (slice_index sources found) read) waits_same) None in
    goes_on (length waits) sources targets order waits link (slice_index targets link) (Some found) order' (set waits' (slice_index targets link) (Some found)) (record {
      same = same;
      target_in = targets_in link 0 (omega (arith, link_in, same));
      target = refl;
      link_in = link_in;
      source_in = λ l l_in. sources_in l 0 l_in;
      free = free;
      at = at;
      waiting = waiting;
      earlier = subst (IsEarlier sources targets waits link) next_is earlier;
      stop = λ other is. let same_link : found ≡ other = omega (arith, is) in
          subst (λ k. 0 < wait_of waits (slice_index sources k)) same_link (some_links (get_or waits (slice_index sources found) None) (sym (ap is_some read_here) ∙ some));
      waits_is = ap (λ w. set w (slice_index targets link) (Some found)) waits_same;
      order_is = order_same;
    })

-- the node comes into the order
pub gone_in : (sources targets order : List ℕ) (waits : List (Option ℕ)) (order' : List ℕ) (waits' : List (Option ℕ)) (order'' : List ℕ) (link : ℕ) (next : Option ℕ) → length targets ≡ length sources → All (λ node. node < length waits) sources → All (λ node. node < length waits) targets
    → IsWaiting (length waits) sources targets order waits → link < length sources → wait_of waits (slice_index sources link) ≡ 0 → wait_of waits (slice_index targets link) ≡ suc link → waits' ≡ waits → order' ≡ order → IsEarlier sources targets waits link next → next ≡ None
    → order'' ≡ order' ++ slice_index targets link ∷ [] → Gone (length waits) sources targets order waits link order'' (set waits' (slice_index targets link) None)
gone_in sources targets order waits order' waits' order'' link next same sources_in targets_in waiting link_in free at waits_same order_same earlier next_is order_more =
    goes_on (length waits) sources targets order waits link (slice_index targets link) None order'' (set waits' (slice_index targets link) None) (record {
      same = same;
      target_in = targets_in link 0 (omega (arith, link_in, same));
      target = refl;
      link_in = link_in;
      source_in = λ l l_in. sources_in l 0 l_in;
      free = free;
      at = at;
      waiting = waiting;
      earlier = subst (IsEarlier sources targets waits link) next_is earlier;
      stop = λ other is. absurd (omega (arith, is));
      waits_is = ap (λ w. set w (slice_index targets link) None) waits_same;
      order_is = order_more ∙ ap (λ o. o ++ slice_index targets link ∷ []) order_same;
    })
