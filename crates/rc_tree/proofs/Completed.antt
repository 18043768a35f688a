-- What a whole search has found.
use Rattle.std.proofs.Common.{◌≡◌, ◌≢◌, ℕ, zero, suc, ◌+◌, ◌-◌, ◌<◌, ◌≤◌, ◌⊎◌, if◌then◌else◌, nat_lt, List, [], ◌∷◌, length, get_or, replicate, slice_index, slice_set, count_by, sum_by, length-set, get_or-set_same, get_or-set_other, refl, sym, ◌∙◌, ap, subst, arith, inl, inr}
use Rattle.std.proofs.lemmas.Bool.{cases_eq, cases_lt}
use Rattle.std.proofs.lemmas.List.{get_or_past, get_or-replicate, length-replicate}
use Rattle.std.proofs.lemmas.List.Sums.{sum_by-cons}
use Rattle.rc_tree.specs.Searches.{Search, IsSearch, Grown, IsVisited, IsClosed}
use Rattle.rc_tree.proofs.Finding.{count_more, few_found}

none_above : (n : ℕ) → count_by (λ number. nat_lt 0 number) (replicate n 0) ≡ 0
none_above zero = refl
none_above (suc n) = let f : ℕ → ℕ = λ number. if nat_lt 0 number then 1 else 0 in let step = sum_by-cons f 0 (replicate n 0) in let rest : sum_by f (replicate n 0) ≡ 0 = none_above n in step ∙ rest_of (sum_by f (replicate n 0)) rest
  where
    rest_of : (k : ℕ) → k ≡ 0 → 0 + k ≡ 0
    rest_of k e = omega arith

pub zeros_len : (n : ℕ) → length {A = ℕ} (replicate n 0) ≡ n
zeros_len n = length-replicate {A = ℕ} n 0

pub zero_at : (n i : ℕ) → ◌≡◌ {A = ℕ} (get_or (replicate n 0) i 0) 0
zero_at n i = elim (cases_lt i n) [
  | inl below ↦ get_or-replicate n i 0 0 below
  | inr past ↦ get_or_past (replicate n 0) i 0 (let l = zeros_len n in omega (arith, l, past))
]

past_first : (j : ℕ) → 0 < j → ◌≡◌ {A = ℕ} (get_or (0 ∷ []) j 0) 0
past_first j some = get_or_past (0 ∷ []) j 0 (omega arith)

-- the search that has found node 0
pub search_start : (n : ℕ) (froms tos : List ℕ) (s : Search) → 0 < n → s.order ≡ 0 ∷ [] → s.parents ≡ 0 ∷ [] → s.vias ≡ 0 ∷ [] → s.numbers ≡ slice_set (replicate n 0) 0 1 → s.links ≡ replicate (length froms) 0 → IsSearch n froms tos s
search_start n froms tos s some order parents vias numbers links =
    let size : length s.order ≡ 1 = ap length order in
    let num : ℕ → ℕ = slice_index s.numbers in
    let num_root : get_or s.numbers 0 0 ≡ 1 = ap (λ l. get_or l 0 0) numbers ∙ get_or-set_same (replicate n 0) 0 1 0 (let l = zeros_len n in omega (arith, l, some)) in
    let ord_root : get_or s.order 0 0 ≡ 0 = ap (λ l. get_or l 0 0) order in
    let num_other : (i : ℕ) → i ≢ 0 → get_or s.numbers i 0 ≡ 0 = λ i ne. ap (λ l. get_or l i 0) numbers ∙ get_or-set_other (replicate n 0) 0 i 1 0 ne ∙ zero_at n i in
    let link_none : (e : ℕ) → get_or s.links e 0 ≡ 0 = λ e. ap (λ l. get_or l e 0) links ∙ zero_at (length froms) e in
    record {
      parents_len = ap length parents ∙ sym size;
      vias_len = ap length vias ∙ sym size;
      numbers_len = ap length numbers ∙ length-set (replicate n 0) 0 1 ∙ zeros_len n;
      links_len = ap length links ∙ zeros_len (length froms);
      counted = size ∙ sym (ap (count_by (λ number. nat_lt 0 number)) numbers ∙ count_more (replicate n 0) 0 1 (let l = zeros_len n in omega (arith, l, some)) (zero_at n 0) (omega arith) ∙ ap (λ k. k + 1) (none_above n));
      finds = record {
        some = omega (arith, size);
        root = ord_root;
        nodes = λ j below. let z : j ≡ 0 = omega (arith, size, below) in let o : get_or s.order j 0 ≡ 0 = ap (λ k. get_or s.order k 0) z ∙ ord_root in omega (arith, o, some);
        num_ord = λ j below. let z : j ≡ 0 = omega (arith, size, below) in
            ap (λ k. get_or s.numbers (get_or s.order k 0) 0) z ∙ ap (λ k. get_or s.numbers k 0) ord_root ∙ num_root ∙ ap (λ k. k + 1) (sym z);
        ord_num = λ i held. elim (cases_eq i 0) [
          | inl z ↦ (let at : get_or s.numbers i 0 ≡ 1 = ap (λ k. get_or s.numbers k 0) z ∙ num_root in (omega (arith, at, size), ap (λ k. get_or s.order (k - 1) 0) at ∙ ord_root ∙ sym z))
          | inr ne ↦ absurd (let none = num_other i ne in omega (arith, none, held))
        ];
        down = λ j j_some. let at : get_or s.parents j 0 ≡ 0 = ap (λ l. get_or l j 0) parents ∙ past_first j j_some in omega (arith, at, j_some);
        joins = λ j j_some below. absurd (omega (arith, size, j_some, below));
        link_via = λ j j_some below. absurd (omega (arith, size, j_some, below));
        via_link = λ e held. absurd (let none = link_none e in omega (arith, none, held));
      };
    }

-- a search in which the first nodes are visited
pub record Searching (n : ℕ) (froms tos : List ℕ) (s : Search) (place : ℕ) : Type 0 where
  pub search : IsSearch n froms tos s
  pub at_froms : (j : ℕ) → j < place → j < length s.order → IsVisited froms tos s (slice_index s.order j)
  pub at_tos : (j : ℕ) → j < place → j < length s.order → IsVisited tos froms s (slice_index s.order j)

pub searching_start : (n : ℕ) (froms tos : List ℕ) (s : Search) → IsSearch n froms tos s → Searching n froms tos s 0
searching_start n froms tos s search = record { search = search; at_froms = λ j none. absurd (omega (arith, none)); at_tos = λ j none. absurd (omega (arith, none)) }

visited_on : (near far : List ℕ) (s t : Search) (place : ℕ) → Grown s t → ((j : ℕ) → j < place → j < length s.order → IsVisited near far s (slice_index s.order j)) → (place < length s.order → IsVisited near far t (slice_index s.order place))
    → ((length t.order ≡ length s.order) ⊎ (place < length s.order)) → (j : ℕ) → j < place + 1 → j < length t.order → IsVisited near far t (slice_index t.order j)
visited_on near far s t place grown before here either j below j_below = elim (cases_lt j (length s.order)) [
  | inl held ↦ subst (IsVisited near far t) (sym (grown.order j held)) (elim (cases_eq j place) [
    | inl is ↦ subst (λ k. IsVisited near far t (slice_index s.order k)) (sym is) (here (omega (arith, is, held)))
    | inr ne ↦ (let ne' : j ≢ place = ne in λ e e_below at. grown.numbers (slice_index far e) (before j (omega (arith, ne', below)) held e e_below at))
  ])
  | inr past ↦ elim either [
    | inl same ↦ absurd (omega (arith, same, j_below, past))
    | inr some ↦ absurd (omega (arith, some, past, below))
  ]
]

pub searching_step : (n : ℕ) (froms tos : List ℕ) (s t : Search) (place : ℕ) → IsSearch n froms tos t → Grown s t → (length s.order ≤ place → length t.order ≡ length s.order) → (place < length s.order → IsVisited froms tos t (slice_index s.order place)) → (place < length s.order → IsVisited tos froms t (slice_index s.order place))
    → Searching n froms tos s place → Searching n froms tos t (place + 1)
searching_step n froms tos s t place search grown stays here_froms here_tos before = record {
  search = search;
  at_froms = visited_on froms tos s t place grown before.at_froms here_froms either;
  at_tos = visited_on tos froms s t place grown before.at_tos here_tos either;
}
  where
    either : (length t.order ≡ length s.order) ⊎ (place < length s.order)
    either = elim (cases_lt place (length s.order)) [ inl some ↦ inr some | inr past ↦ inl (stays past) ]

-- a search in which all nodes are visited has found all that there is to find
pub searching_end : (n : ℕ) (froms tos : List ℕ) (s : Search) (place : ℕ) → length tos ≡ length froms → n ≤ place → Searching n froms tos s place → IsClosed froms tos s
searching_end n froms tos s place same all done e below = (
  (λ held. let at = done.search.finds.ord_num (slice_index froms e) held in
      done.at_froms (slice_index s.numbers (slice_index froms e) - 1) (omega (arith, few_found n froms tos s done.search, at.0, all, held)) (omega (arith, at.0, held)) e below (sym at.1)),
  (λ held. let at = done.search.finds.ord_num (slice_index tos e) held in
      done.at_tos (slice_index s.numbers (slice_index tos e) - 1) (omega (arith, few_found n froms tos s done.search, at.0, all, held)) (omega (arith, at.0, held)) e (omega (arith, same, below)) (sym at.1)),
)

-- the ends may be told the other way round
pub turned : (n : ℕ) (froms tos : List ℕ) (s : Search) → length tos ≡ length froms → IsSearch n froms tos s → IsSearch n tos froms s
turned n froms tos s same search = record {
  parents_len = search.parents_len;
  vias_len = search.vias_len;
  numbers_len = search.numbers_len;
  links_len = search.links_len ∙ sym same;
  counted = search.counted;
  finds = record {
    some = search.finds.some;
    root = search.finds.root;
    nodes = search.finds.nodes;
    num_ord = search.finds.num_ord;
    ord_num = search.finds.ord_num;
    down = search.finds.down;
    joins = λ j some below. let joins = search.finds.joins j some below in (let b = joins.0 in omega (arith, b, same), elim (joins.1) [ inl h ↦ inr h | inr h ↦ inl h ]);
    link_via = search.finds.link_via;
    via_link = search.finds.via_link;
  };
}
