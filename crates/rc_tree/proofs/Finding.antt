-- What a search keeps when it finds a node.
use Rattle.std.proofs.Common.{◌≡◌, ◌≢◌, ℕ, ◌+◌, ◌-◌, ◌<◌, ◌≤◌, ◌⊎◌, Bool, if◌then◌else◌, nat_lt, List, [], ◌∷◌, ◌++◌, length, get_or, set, slice_index, All, count_by, length-append, length-set, get_or-set_same, get_or-set_other, refl, sym, ◌∙◌, ap, subst, arith, inl, inr, lt-ltb}
use Rattle.std.proofs.lemmas.Bool.{cases_eq, cases_lt}
use Rattle.std.proofs.lemmas.Bool.Decides.{eqb_tells}
use Rattle.std.proofs.lemmas.List.Sums.{sum_by-set, count_by-le-length}
use Rattle.std.proofs.lemmas.List.{get_or_push, get_or_past, get_or_append_left}
use Rattle.rc_tree.specs.Joins.{Joined}
use Rattle.rc_tree.specs.Threads.{IsLatest, IsThreaded}
use Rattle.rc_tree.specs.Searches.{Search, Finds, IsSearch, IsClosed, Grown, found_more, reached}

-- the functions after a node more: ord, par and via have one value more, num and link another at one place
pub record Steps (c e v p : ℕ) (ord par via num link ord' par' via' num' link' : ℕ → ℕ) : Type 0 where
  pub ord_old : (j : ℕ) → j < c → ord' j ≡ ord j
  pub ord_new : ord' c ≡ v
  pub par_old : (j : ℕ) → j < c → par' j ≡ par j
  pub par_new : par' c ≡ p
  pub par_past : (j : ℕ) → c < j → par' j ≡ 0
  pub via_old : (j : ℕ) → j < c → via' j ≡ via j
  pub via_new : via' c ≡ e
  pub num_new : num' v ≡ c + 1
  pub num_old : (i : ℕ) → i ≢ v → num' i ≡ num i
  pub link_new : link' e ≡ c
  pub link_old : (d : ℕ) → d ≢ e → link' d ≡ link d

-- a resistor with an end that is not found is no link
spare : (c n m : ℕ) (a b ord par via num link : ℕ → ℕ) → Finds c n m a b ord par via num link → (e v x : ℕ) → num v ≡ 0 → Joined m a b e x v → link e ≡ 0
spare c n m a b ord par via num link finds e v x new joined = elim (cases_eq (link e) 0) [
  | inl z ↦ z
  | inr nz ↦
      let nz' : link e ≢ 0 = nz in
      let via_link = finds.via_link e (omega arith) in
      let j = link e in
      let j_some : 0 < link e = omega arith in
      let joins = finds.joins (link e) j_some via_link.0 in
      let parent_below = finds.down (link e) j_some in
      let held_j : num (ord (link e)) ≡ link e + 1 = finds.num_ord (link e) via_link.0 in
      let held_p : num (ord (par (link e))) ≡ par (link e) + 1 = finds.num_ord (par (link e)) (omega (arith, parent_below, via_link.0)) in
      absurd (ends (via (link e)) via_link.1 (ord (par (link e))) (ord (link e)) (par (link e)) (link e) held_p held_j joins.1 joined.1)
]
  where
    ends : (d : ℕ) → d ≡ e → (y z p j : ℕ) → num y ≡ p + 1 → num z ≡ j + 1 → ((a d ≡ y) × (b d ≡ z)) ⊎ ((b d ≡ y) × (a d ≡ z)) → ((a e ≡ x) × (b e ≡ v)) ⊎ ((b e ≡ x) × (a e ≡ v)) → ⊥
    ends d is y z p j held_y held_z one other = elim one [
      | inl f ↦ elim other [
        | inl g ↦ (let w : z ≡ v = sym f.1 ∙ ap b is ∙ g.1 in let u = ap num w in omega (arith, u, new, held_z))
        | inr g ↦ (let w : y ≡ v = sym f.0 ∙ ap a is ∙ g.1 in let u = ap num w in omega (arith, u, new, held_y))
      ]
      | inr f ↦ elim other [
        | inl g ↦ (let w : y ≡ v = sym f.0 ∙ ap b is ∙ g.1 in let u = ap num w in omega (arith, u, new, held_y))
        | inr g ↦ (let w : z ≡ v = sym f.1 ∙ ap a is ∙ g.1 in let u = ap num w in omega (arith, u, new, held_z))
      ]
    ]

pub finds_more : (c n m : ℕ) (a b ord par via num link ord' par' via' num' link' : ℕ → ℕ) (e v p : ℕ) → Finds c n m a b ord par via num link → v < n → num v ≡ 0 → p < c → Joined m a b e (ord p) v
    → Steps c e v p ord par via num link ord' par' via' num' link' → Finds (c + 1) n m a b ord' par' via' num' link'
finds_more c n m a b ord par via num link ord' par' via' num' link' e v p finds v_below new p_below joined steps = record {
  some = omega arith;
  root = steps.ord_old 0 finds.some ∙ finds.root;
  nodes = λ j below. elim (cases_eq j c) [
    | inl is ↦ let o : ord' j ≡ v = ap ord' is ∙ steps.ord_new in omega (arith, o, v_below)
    | inr ne ↦ let ne' : j ≢ c = ne in let o = steps.ord_old j (omega (arith, ne', below)) in let old = finds.nodes j (omega (arith, ne', below)) in omega (arith, o, old)
  ];
  num_ord = λ j below. elim (cases_eq j c) [
    | inl is ↦ ap num' (ap ord' is ∙ steps.ord_new) ∙ steps.num_new ∙ ap (λ k. k + 1) (sym is)
    | inr ne ↦ let ne' : j ≢ c = ne in let j_below : j < c = omega (arith, ne', below) in let held = finds.num_ord j j_below in
        ap num' (steps.ord_old j j_below) ∙ steps.num_old (ord j) (λ at. let u = ap num at in omega (arith, u, new, held)) ∙ held
  ];
  ord_num = λ i some. elim (cases_eq i v) [
    | inl is ↦ let at : num' i ≡ c + 1 = ap num' is ∙ steps.num_new in (omega (arith, at), ap ord' (let k : num' i - 1 ≡ c = omega (arith, at) in k) ∙ steps.ord_new ∙ sym is)
    | inr ne ↦ let at : num' i ≡ num i = steps.num_old i ne in let old = finds.ord_num i (omega (arith, at, some)) in
        (omega (arith, at, old.0), ap (λ k. ord' (k - 1)) at ∙ steps.ord_old (num i - 1) (omega (arith, old.0, at, some)) ∙ old.1)
  ];
  down = λ j some. elim (cases_lt j c) [
    | inl below ↦ let at = steps.par_old j below in let old = finds.down j some in omega (arith, at, old)
    | inr past ↦ elim (cases_eq j c) [
      | inl is ↦ let at : par' j ≡ p = ap par' is ∙ steps.par_new in omega (arith, at, p_below, is)
      | inr ne ↦ let ne' : j ≢ c = ne in let at = steps.par_past j (omega (arith, ne', past)) in omega (arith, at, some)
    ]
  ];
  joins = λ j some below. elim (cases_eq j c) [
    | inl is ↦ subst (λ k. Joined m a b (via' k) (ord' (par' k)) (ord' k)) (sym is)
        (subst (λ d. Joined m a b d (ord' (par' c)) (ord' c)) (sym steps.via_new) (subst (λ x. Joined m a b e x (ord' c)) (sym (ap ord' steps.par_new ∙ steps.ord_old p p_below)) (subst (λ y. Joined m a b e (ord p) y) (sym steps.ord_new) joined)))
    | inr ne ↦ let ne' : j ≢ c = ne in let j_below : j < c = omega (arith, ne', below) in let less = finds.down j some in
        subst (λ d. Joined m a b d (ord' (par' j)) (ord' j)) (sym (steps.via_old j j_below))
        (subst (λ x. Joined m a b (via j) x (ord' j)) (sym (ap ord' (steps.par_old j j_below) ∙ steps.ord_old (par j) (omega (arith, less, j_below))))
        (subst (λ y. Joined m a b (via j) (ord (par j)) y) (sym (steps.ord_old j j_below)) (finds.joins j some j_below)))
  ];
  link_via = λ j some below. elim (cases_eq j c) [
    | inl is ↦ ap link' (ap via' is ∙ steps.via_new) ∙ steps.link_new ∙ sym is
    | inr ne ↦ let ne' : j ≢ c = ne in let j_below : j < c = omega (arith, ne', below) in let held = finds.link_via j some j_below in
        ap link' (steps.via_old j j_below) ∙ steps.link_old (via j) (λ at. let u = ap link at in omega (arith, u, none, held, some)) ∙ held
  ];
  via_link = λ d some. elim (cases_eq d e) [
    | inl is ↦ let at : link' d ≡ c = ap link' is ∙ steps.link_new in (omega (arith, at), ap via' at ∙ steps.via_new ∙ sym is)
    | inr ne ↦ let at : link' d ≡ link d = steps.link_old d ne in let old = finds.via_link d (omega (arith, at, some)) in
        (omega (arith, at, old.0), ap via' at ∙ steps.via_old (link d) old.0 ∙ old.1)
  ];
}
  where
    none : link e ≡ 0
    none = spare c n m a b ord par via num link finds e v (ord p) new joined

-- one more number above 0
pub count_more : (numbers : List ℕ) (v x : ℕ) → v < length numbers → get_or numbers v 0 ≡ 0 → 0 < x → count_by (λ number. nat_lt 0 number) (set numbers v x) ≡ count_by (λ number. nat_lt 0 number) numbers + 1
count_more numbers v x below none some =
    let changed = sum_by-set (λ number. if nat_lt 0 number then 1 else 0) numbers v x 0 below in
    let one_of : ℕ → ℕ = λ k. if nat_lt 0 k then 1 else 0 in
    let was : one_of (get_or numbers v 0) ≡ 0 = ap one_of none in
    let two_of : Bool → ℕ = λ b. if b then 1 else 0 in
    let is : one_of x ≡ 1 = ap two_of (lt-ltb 0 x some) in
    omega (arith, changed, was, is)

steps_of : (s : Search) (e v p : ℕ) → length s.parents ≡ length s.order → length s.vias ≡ length s.order → v < length s.numbers → e < length s.links
    → Steps (length s.order) e v p (slice_index s.order) (slice_index s.parents) (slice_index s.vias) (slice_index s.numbers) (slice_index s.links)
    (slice_index (found_more s e v p).order) (slice_index (found_more s e v p).parents) (slice_index (found_more s e v p).vias) (slice_index (found_more s e v p).numbers) (slice_index (found_more s e v p).links)
steps_of s e v p parents_len vias_len v_below e_below = record {
  ord_old = λ j below. get_or_append_left s.order (v ∷ []) 0 j below;
  ord_new = get_or_push s.order v 0 (length s.order) refl;
  par_old = λ j below. get_or_append_left s.parents (p ∷ []) 0 j (omega (arith, parents_len, below));
  par_new = get_or_push s.parents p 0 (length s.order) parents_len;
  par_past = λ j past. get_or_past (s.parents ++ p ∷ []) j 0 (let l = length-append s.parents (p ∷ []) in omega (arith, l, parents_len, past));
  via_old = λ j below. get_or_append_left s.vias (e ∷ []) 0 j (omega (arith, vias_len, below));
  via_new = get_or_push s.vias e 0 (length s.order) vias_len;
  num_new = get_or-set_same s.numbers v (length s.order + 1) 0 v_below;
  num_old = λ i ne. get_or-set_other s.numbers v i (length s.order + 1) 0 ne;
  link_new = get_or-set_same s.links e (length s.order) 0 e_below;
  link_old = λ d ne. get_or-set_other s.links e d (length s.order) 0 ne;
}

search_more : (n : ℕ) (froms tos : List ℕ) (s : Search) (e v p : ℕ) → IsSearch n froms tos s → v < n → slice_index s.numbers v ≡ 0 → p < length s.order → Joined (length froms) (slice_index froms) (slice_index tos) e (slice_index s.order p) v → IsSearch n froms tos (found_more s e v p)
search_more n froms tos s e v p search v_below new p_below joined =
    let size : length (s.order ++ v ∷ []) ≡ length s.order + 1 = length-append s.order (v ∷ []) in
    let v_in : v < length s.numbers = (let l = search.numbers_len in omega (arith, l, v_below)) in
    record {
      parents_len = length-append s.parents (p ∷ []) ∙ ap (λ k. k + 1) search.parents_len ∙ sym size;
      vias_len = length-append s.vias (e ∷ []) ∙ ap (λ k. k + 1) search.vias_len ∙ sym size;
      numbers_len = length-set s.numbers v (length s.order + 1) ∙ search.numbers_len;
      links_len = length-set s.links e (length s.order) ∙ search.links_len;
      counted = size ∙ ap (λ k. k + 1) search.counted ∙ sym (count_more s.numbers v (length s.order + 1) v_in new (omega arith));
      finds = subst (λ k. Finds k n (length froms) (slice_index froms) (slice_index tos) (slice_index (found_more s e v p).order) (slice_index (found_more s e v p).parents) (slice_index (found_more s e v p).vias) (slice_index (found_more s e v p).numbers) (slice_index (found_more s e v p).links)) (sym size)
          (finds_more (length s.order) n (length froms) (slice_index froms) (slice_index tos) (slice_index s.order) (slice_index s.parents) (slice_index s.vias) (slice_index s.numbers) (slice_index s.links)
          (slice_index (found_more s e v p).order) (slice_index (found_more s e v p).parents) (slice_index (found_more s e v p).vias) (slice_index (found_more s e v p).numbers) (slice_index (found_more s e v p).links)
          e v p search.finds v_below new p_below joined (steps_of s e v p search.parents_len search.vias_len v_in (let l = search.links_len in let j = joined.0 in omega (arith, l, j))));
    }

grown_more : (n : ℕ) (froms tos : List ℕ) (s : Search) (e v p : ℕ) → IsSearch n froms tos s → v < n → Grown s (found_more s e v p)
grown_more n froms tos s e v p search v_below = record {
  longer = let size = length-append s.order (v ∷ []) in omega (arith, size);
  order = λ j below. get_or_append_left s.order (v ∷ []) 0 j below;
  numbers = λ i some. elim (cases_eq i v) [
    | inl at ↦ (let now = ap (λ k. get_or (set s.numbers v (length s.order + 1)) k 0) at ∙ get_or-set_same s.numbers v (length s.order + 1) 0 (let l = search.numbers_len in omega (arith, l, v_below)) in omega (arith, now))
    | inr ne ↦ (let same = get_or-set_other s.numbers v i (length s.order + 1) 0 ne in omega (arith, same, some))
  ];
}

pub grown_none : (s : Search) → Grown s s
grown_none s = record { longer = omega arith; order = λ j below. refl; numbers = λ i some. some }

pub grown_both : (s t u : Search) → Grown s t → Grown t u → Grown s u
grown_both s t u first second = record {
  longer = let f = first.longer in let g = second.longer in omega (arith, f, g);
  order = λ j below. let f = first.longer in second.order j (omega (arith, f, below)) ∙ first.order j below;
  numbers = λ i some. second.numbers i (first.numbers i some);
}

-- what holds after a node is reached
pub record Reaches (n : ℕ) (froms tos : List ℕ) (s t : Search) (v : ℕ) : Type 0 where
  pub search : IsSearch n froms tos t
  pub grown : Grown s t
  pub found : 0 < slice_index t.numbers v

pub reaches : (n : ℕ) (froms tos : List ℕ) (s : Search) (e v p : ℕ) → IsSearch n froms tos s → v < n → p < length s.order → Joined (length froms) (slice_index froms) (slice_index tos) e (slice_index s.order p) v → Reaches n froms tos s (reached s e v p) v
reaches n froms tos s e v p search v_below p_below joined = elim (eqb_tells (slice_index s.numbers v) 0) [
  | inl new ↦ subst (λ b. Reaches n froms tos s (if b then found_more s e v p else s) v) (sym new.0) (record {
    search = search_more n froms tos s e v p search v_below new.1 p_below joined;
    grown = grown_more n froms tos s e v p search v_below;
    found = let now = get_or-set_same s.numbers v (length s.order + 1) 0 (let l = search.numbers_len in omega (arith, l, v_below)) in omega (arith, now);
  })
  | inr held ↦ subst (λ b. Reaches n froms tos s (if b then found_more s e v p else s) v) (sym held.0) (record {
    search = search;
    grown = grown_none s;
    found = let ne : slice_index s.numbers v ≢ 0 = held.1 in omega (arith, ne);
  })
]

-- no more nodes are found than there are
pub few_found : (n : ℕ) (froms tos : List ℕ) (s : Search) → IsSearch n froms tos s → length s.order ≤ n
few_found n froms tos s search = let counted = search.counted in let most = count_by-le-length (λ number. nat_lt 0 number) s.numbers in let size = search.numbers_len in omega (arith, counted, most, size)

-- where as many are found as there are, each is found
pub all_found : (n : ℕ) (froms tos : List ℕ) (s : Search) → IsSearch n froms tos s → n ≤ length s.order → (node : ℕ) → node < n → 0 < slice_index s.numbers node
all_found n froms tos s search many node below = elim (cases_eq (slice_index s.numbers node) 0) [
  | inl none ↦
      let size = search.numbers_len in
      let counted = search.counted in
      let more = count_more s.numbers node 1 (omega (arith, size, below)) none (omega arith) in
      let most = count_by-le-length (λ number. nat_lt 0 number) (set s.numbers node 1) in
      let same = length-set s.numbers node 1 in
      absurd (omega (arith, more, most, same, size, counted, many))
  | inr some ↦ (let ne : slice_index s.numbers node ≢ 0 = some in omega (arith, ne))
]

pub closed_whole : (n : ℕ) (froms tos : List ℕ) (s : Search) → IsSearch n froms tos s → n ≤ length s.order → length tos ≡ length froms → All (λ node. node < n) froms → All (λ node. node < n) tos → IsClosed froms tos s
closed_whole n froms tos s search many same froms_in tos_in e below = (
  (λ held. all_found n froms tos s search many (slice_index tos e) (tos_in e 0 (omega (arith, same, below)))),
  (λ held. all_found n froms tos s search many (slice_index froms e) (froms_in e 0 below)),
)

-- an end of a resistor is found from the other one
pub crossed : (n : ℕ) (froms tos : List ℕ) (s t : Search) (e v x p : ℕ) → IsSearch n froms tos s → e < length froms → v < n → 0 < slice_index s.numbers x → p ≡ slice_index s.numbers x - 1 → ((slice_index froms e ≡ x) × (slice_index tos e ≡ v)) ⊎ ((slice_index tos e ≡ x) × (slice_index froms e ≡ v))
    → t ≡ reached s e v p → IsSearch n froms tos t
crossed n froms tos s t e v x p search within v_below held p_is ends t_is =
    let at = search.finds.ord_num x held in
    let there : slice_index s.order p ≡ x = ap (slice_index s.order) p_is ∙ at.1 in
    subst (IsSearch n froms tos) (sym t_is)
    (reaches n froms tos s e v p search v_below (let few = at.0 in omega (arith, few, p_is, held))
    (subst (λ y. Joined (length froms) (slice_index froms) (slice_index tos) e y v) (sym there) (within, ends))).search

-- a walk along the threads of a node
pub record Walking (n : ℕ) (near far : List ℕ) (before s : Search) (node left : ℕ) : Type 0 where
  pub search : IsSearch n near far s
  pub grown : Grown before s
  pub within : left ≤ length near
  pub here : 0 < left → slice_index near (left - 1) ≡ node
  pub done : (e : ℕ) → left ≤ e → e < length near → slice_index near e ≡ node → 0 < slice_index s.numbers (slice_index far e)

pub walking_start : (n : ℕ) (near far heads nexts : List ℕ) (s : Search) (place node left : ℕ) → IsSearch n near far s → IsThreaded near n heads nexts → place < length s.order → node ≡ slice_index s.order place → left ≡ slice_index heads node → Walking n near far s s node left
walking_start n near far heads nexts s place node left search threads place_below node_is left_is =
    let node_below : node < n = (let b = search.finds.nodes place place_below in omega (arith, b, node_is)) in
    let latest = subst (IsLatest near (length near) node) (sym left_is) (threads.heads_at node node_below) in
    record {
      search = search;
      grown = grown_none s;
      within = latest.within;
      here = latest.here;
      done = λ e from below same. absurd (latest.rest e from below same);
    }

pub walking_step : (n : ℕ) (near far heads nexts : List ℕ) (before s t : Search) (place node left next : ℕ) → IsThreaded near n heads nexts → place < length before.order → node ≡ slice_index before.order place → 0 < left
    → All (λ v. v < n) far → length far ≡ length near → t ≡ reached s (left - 1) (slice_index far (left - 1)) place → next ≡ slice_index nexts (left - 1) → Walking n near far before s node left → Walking n near far before t node next
walking_step n near far heads nexts before s t place node left next threads place_below node_is some fars same t_is next_is walking =
    let e = left - 1 in
    let e_below : left - 1 < length near = (let w = walking.within in omega (arith, w, some)) in
    let longer = walking.grown.longer in
    let joined : Joined (length near) (slice_index near) (slice_index far) (left - 1) (slice_index s.order place) (slice_index far (left - 1)) =
    (e_below, inl (walking.here some ∙ node_is ∙ sym (walking.grown.order place place_below), refl)) in
    let reach = subst (λ u. Reaches n near far s u (slice_index far (left - 1))) (sym t_is) (reaches n near far s (left - 1) (slice_index far (left - 1)) place walking.search (fars (left - 1) 0 (omega (arith, same, e_below))) (omega (arith, longer, place_below)) joined) in
    let latest : IsLatest near (left - 1) node next = subst (IsLatest near (left - 1) node) (sym next_is) (subst (λ v. IsLatest near (left - 1) v (slice_index nexts (left - 1))) (walking.here some) (threads.nexts_at (left - 1) e_below)) in
    record {
      search = reach.search;
      grown = grown_both before s t walking.grown reach.grown;
      within = let w = latest.within in omega (arith, w, e_below);
      here = latest.here;
      done = λ d from below at. elim (cases_lt d (left - 1)) [
        | inl lower ↦ absurd (latest.rest d from lower at)
        | inr higher ↦ elim (cases_eq d (left - 1)) [
          | inl is ↦ subst (λ k. 0 < slice_index t.numbers (slice_index far k)) (sym is) reach.found
          | inr ne ↦ let ne' : d ≢ left - 1 = ne in reach.grown.numbers (slice_index far d) (walking.done d (omega (arith, ne', higher, some)) below at)
        ]
      ];
    }

pub next_less : (near : List ℕ) (n : ℕ) (heads nexts : List ℕ) (left next : ℕ) → IsThreaded near n heads nexts → 0 < left → left ≤ length near → next ≡ slice_index nexts (left - 1) → next < left
next_less near n heads nexts left next threads some within is = let latest = threads.nexts_at (left - 1) (omega (arith, some, within)) in let w = latest.within in omega (arith, w, is, some)
