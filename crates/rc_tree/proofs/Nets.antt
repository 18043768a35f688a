-- The nodes of a net and their numbers.
use Rattle.std.proofs.Common.{◌≡◌, ◌≢◌, ℕ, zero, suc, ◌<◌, ◌≤◌, ◌⊎◌, Bool, true, false, not, ◌||◌, if◌then◌else◌, List, [], ◌∷◌, ◌++◌, filter, length, get_or, AllPairs, append-nil, append_assoc, refl, sym, ◌∙◌, ap, ap₂, arith, inl, inr, true≢false}
use Rattle.std.proofs.lemmas.Bool.{cases_lt}
use Rattle.name_table.specs.NodeKeys.{same_key, among}
use Rattle.rc_tree.specs.Nodes.{Node, first_places, with_node, with_nodes}
use Rattle.name_table.specs.SameKeys.{same_key-Decides}
use Rattle.rc_tree.proofs.Numbers.{with_held, with_new, among_cases, with_apart}

abbrev pub Apart : List Node → Type 0
Apart nodes = AllPairs (λ one other. one ≢ other) nodes

-- the first place of a node, or past all
abbrev pub where_is : Node → List Node → ℕ
where_is node [] = 0
where_is node (first ∷ nodes) = if same_key node first then 0 else suc (where_is node nodes)

pub same_cases : (one other : Node) → ((one ≡ other) × (same_key one other ≡ true)) ⊎ ((one ≡ other → ⊥) × (same_key one other ≡ false))
same_cases one other = by (same_key one other) refl
  where
    by : (b : Bool) → same_key one other ≡ b → ((one ≡ other) × (same_key one other ≡ true)) ⊎ ((one ≡ other → ⊥) × (same_key one other ≡ false))
    by true is = inl ((same_key-Decides one other).0 is, is)
    by false is = inr ((λ e. true≢false (sym ((same_key-Decides one other).1 e) ∙ is)), is)

pub where_in : (node : Node) (nodes : List Node) (d : Node) → where_is node nodes < length nodes → get_or nodes (where_is node nodes) d ≡ node
where_in node [] d below = absurd (omega arith)
where_in node (first ∷ nodes) d below = elim (same_cases node first) [
  | inl h ↦ ap (λ b. get_or (first ∷ nodes) (if b then 0 else suc (where_is node nodes)) d) h.1 ∙ sym h.0
  | inr h ↦ ap (λ b. get_or (first ∷ nodes) (if b then 0 else suc (where_is node nodes)) d) h.1 ∙ where_in node nodes d (let is : where_is node (first ∷ nodes) ≡ suc (where_is node nodes) = ap (λ b. if b then 0 else suc (where_is node nodes)) h.1 in omega (arith, is, below))
]

pub where_most : (node : Node) (nodes : List Node) (d : Node) (k : ℕ) → k < length nodes → get_or nodes k d ≡ node → where_is node nodes ≤ k
where_most node [] d k below at = absurd (omega arith)
where_most node (first ∷ nodes) d zero below at = let is : where_is node (first ∷ nodes) ≡ 0 = ap (λ b. if b then 0 else suc (where_is node nodes)) ((same_key-Decides node first).1 (sym at)) in omega (arith, is)
where_most node (first ∷ nodes) d (suc k) below at = elim (same_cases node first) [
  | inl h ↦ (let is : where_is node (first ∷ nodes) ≡ 0 = ap (λ b. if b then 0 else suc (where_is node nodes)) h.1 in omega (arith, is))
  | inr h ↦ (let is : where_is node (first ∷ nodes) ≡ suc (where_is node nodes) = ap (λ b. if b then 0 else suc (where_is node nodes)) h.1 in let ih = where_most node nodes d k (omega arith) at in omega (arith, is, ih))
]

-- in a list of nodes that are apart a node has one place
pub one_place : (nodes : List Node) → Apart nodes → (d : Node) (i j : ℕ) → i < length nodes → j < length nodes → get_or nodes i d ≡ get_or nodes j d → i ≡ j
one_place nodes apart d i j i_below j_below same = elim (cases_lt i j) [
  | inl less ↦ absurd (apart i j d less j_below same)
  | inr more ↦ elim (cases_lt j i) [
    | inl less ↦ absurd (apart j i d less i_below (sym same))
    | inr least ↦ omega (arith, more, least)
  ]
]

pub where_of : (nodes : List Node) → Apart nodes → (d : Node) (k : ℕ) → k < length nodes → where_is (get_or nodes k d) nodes ≡ k
where_of nodes apart d k below =
    let most = where_most (get_or nodes k d) nodes d k below refl in
    let inside : where_is (get_or nodes k d) nodes < length nodes = omega (arith, most, below) in
    one_place nodes apart d (where_is (get_or nodes k d) nodes) k inside below (where_in (get_or nodes k d) nodes d inside)

-- each node once, at its first place: one more at the end
filter_push : (p : Node → Bool) (xs : List Node) (x : Node) → filter p (xs ++ x ∷ []) ≡ filter p xs ++ filter p (x ∷ [])
filter_push p [] x = refl
filter_push p (y ∷ xs) x = by (filter_push p xs x) (p y)
  where
    by : filter p (xs ++ x ∷ []) ≡ filter p xs ++ filter p (x ∷ []) → (b : Bool) → (if b then y ∷ filter p (xs ++ x ∷ []) else filter p (xs ++ x ∷ [])) ≡ (if b then y ∷ filter p xs else filter p xs) ++ filter p (x ∷ [])
    by rest true = ap (λ l. y ∷ l) rest
    by rest false = rest

keeps_among : (p : Node → Bool) (node : Node) (nodes : List Node) → p node ≡ true → among node (filter p nodes) ≡ among node nodes
keeps_among p node [] pass = refl
keeps_among p node (first ∷ nodes) pass = by (keeps_among p node nodes pass) (p first) refl
  where
    by : among node (filter p nodes) ≡ among node nodes → (b : Bool) → p first ≡ b → among node (if b then first ∷ filter p nodes else filter p nodes) ≡ (same_key node first || among node nodes)
    by rest true is = ap (λ r. same_key node first || r) rest
    by rest false is = rest ∙ elim (same_cases node first) [
      | inl h ↦ absurd (true≢false (sym pass ∙ ap p h.0 ∙ is))
      | inr h ↦ sym (ap (λ b. b || among node nodes) h.1)
    ]

pub first_more : (xs : List Node) (x : Node) → first_places (xs ++ x ∷ []) ≡ with_node (first_places xs) x
first_more [] x = refl
first_more (y ∷ xs) x = ap (λ l. y ∷ filter (λ other. not (same_key y other)) l) (first_more xs x) ∙ elim (same_cases y x) [
  | inl h ↦ elim (among_cases x (first_places xs)) [
    | inl held ↦ ap (λ l. y ∷ filter (λ other. not (same_key y other)) l) (with_held (first_places xs) x held) ∙ sym (with_held (y ∷ filter (λ other. not (same_key y other)) (first_places xs)) x (ap (λ b. b || among x (filter (λ other. not (same_key y other)) (first_places xs))) ((same_key-Decides x y).1 (sym h.0))))
    | inr new ↦ ap (λ l. y ∷ filter (λ other. not (same_key y other)) l) (with_new (first_places xs) x new) ∙ ap (λ l. y ∷ l) (filter_push (λ other. not (same_key y other)) (first_places xs) x)
        ∙ ap (λ b. y ∷ (filter (λ other. not (same_key y other)) (first_places xs) ++ (if not b then x ∷ [] else []))) h.1 ∙ ap (λ l. y ∷ l) (append-nil (filter (λ other. not (same_key y other)) (first_places xs)))
        ∙ sym (with_held (y ∷ filter (λ other. not (same_key y other)) (first_places xs)) x (ap (λ b. b || among x (filter (λ other. not (same_key y other)) (first_places xs))) ((same_key-Decides x y).1 (sym h.0))))
  ]
  | inr h ↦
      let pass : not (same_key y x) ≡ true = ap not h.1 in
      let other : same_key x y ≡ false = elim (same_cases x y) [ inl g ↦ absurd (h.0 (sym g.0)) | inr g ↦ g.1 ] in
      let kept = keeps_among (λ z. not (same_key y z)) x (first_places xs) pass in
      elim (among_cases x (first_places xs)) [
        | inl held ↦ ap (λ l. y ∷ filter (λ z. not (same_key y z)) l) (with_held (first_places xs) x held) ∙ sym (with_held (y ∷ filter (λ z. not (same_key y z)) (first_places xs)) x (ap₂ ◌||◌ other (kept ∙ held)))
        | inr new ↦ ap (λ l. y ∷ filter (λ z. not (same_key y z)) l) (with_new (first_places xs) x new) ∙ ap (λ l. y ∷ l) (filter_push (λ z. not (same_key y z)) (first_places xs) x)
            ∙ ap (λ b. y ∷ (filter (λ z. not (same_key y z)) (first_places xs) ++ (if not b then x ∷ [] else []))) h.1
            ∙ sym (with_new (y ∷ filter (λ z. not (same_key y z)) (first_places xs)) x (ap₂ ◌||◌ other (kept ∙ new)))
      ]
]

-- nodes put in one after another are their first places
pub first_all : (xs ys : List Node) → with_nodes (first_places xs) ys ≡ first_places (xs ++ ys)
first_all xs [] = ap first_places (sym (append-nil xs))
first_all xs (y ∷ ys) = ap (λ l. with_nodes l ys) (sym (first_more xs y)) ∙ first_all (xs ++ y ∷ []) ys ∙ ap first_places (append_assoc xs (y ∷ []) ys)

pub first_apart : (xs : List Node) → Apart xs → first_places xs ≡ xs
first_apart xs apart = sym (first_all [] xs) ∙ with_apart [] xs apart
