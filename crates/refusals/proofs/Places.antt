-- Elements of lists by their places: of filtered, numbered and shortened lists, and of lists with one value.
use Rattle.std.proofs.Common.{◌≡◌, ◌⊎◌, inl, inr, ℕ, zero, suc, ◌+◌, ◌<◌, Bool, true, cond, List, [], ◌∷◌, ◌++◌, length, take, drop, set, map, Option, Some, Contains, refl, sym, ◌∙◌, ap, ap₂, arith, add-zero}
use Rattle.std.specs.List.{slice_get, slice_index_or, filter, enumerate_from, AllZip}
use Rattle.std.proofs.lemmas.Bool.{cases_Bool}

pub some_is : {X : Type 0} (x y : X) → (let a : Option X = Some x in let b : Option X = Some y in a ≡ b) → x ≡ y
some_is x y e = cc

-- the element at a place
pub got_below : {X : Type 0} (xs : List X) (k : ℕ) → k < length xs → (x : X) × (slice_get xs k ≡ Some x)
got_below [] k b = absurd (omega arith)
got_below (x ∷ xs) zero b = (x, refl)
got_below (x ∷ xs) (suc k) b = got_below xs k (omega arith)

pub within : {X : Type 0} (xs : List X) (k : ℕ) (x : X) → slice_get xs k ≡ Some x → k < length xs
within [] k x e = cc
within (y ∷ xs) zero x e = omega arith
within (y ∷ xs) (suc k) x e = let h = within xs k x e in omega (arith, h)

pub index_is : {X : Type 0} (xs : List X) (k : ℕ) (x d : X) → slice_get xs k ≡ Some x → slice_index_or xs k d ≡ x
index_is [] k x d e = cc
index_is (y ∷ xs) zero x d e = cc
index_is (y ∷ xs) (suc k) x d e = index_is xs k x d e

-- an element stands somewhere, both ways
pub contains_at : {X : Type 0} (xs : List X) (x : X) → Contains xs x → (k : ℕ) × (slice_get xs k ≡ Some x)
contains_at xs x (k, below, is) =
    let got = got_below xs k below in
    let same : got.0 ≡ x = sym (index_is xs k got.0 x got.1) ∙ is in
    (k, got.1 ∙ ap (λ y. Some y) same)

pub at_contains : {X : Type 0} (xs : List X) (k : ℕ) (x : X) → slice_get xs k ≡ Some x → Contains xs x
at_contains xs k x e = (k, within xs k x e, index_is xs k x x e)

pub get_map : {X Y : Type 0} (f : X → Y) (xs : List X) (k : ℕ) (x : X) → slice_get xs k ≡ Some x → slice_get (map f xs) k ≡ Some (f x)
get_map f [] k x e = cc
get_map f (y ∷ xs) zero x e = ap (λ z. Some (f z)) (some_is y x e)
get_map f (y ∷ xs) (suc k) x e = get_map f xs k x e

pub map_get : {X Y : Type 0} (f : X → Y) (xs : List X) (k : ℕ) (y : Y) → slice_get (map f xs) k ≡ Some y → (x : X) × (slice_get xs k ≡ Some x) × (f x ≡ y)
map_get f [] k y e = cc
map_get f (x ∷ xs) zero y e = (x, refl, some_is (f x) y e)
map_get f (x ∷ xs) (suc k) y e = map_get f xs k y e

-- what a filter keeps stood before, and passes; and what passes is kept
pub kept_at : {X : Type 0} (p : X → Bool) (xs : List X) (k : ℕ) (x : X) → slice_get xs k ≡ Some x → p x ≡ true → (j : ℕ) × (slice_get (filter p xs) j ≡ Some x)
kept_at p [] k x e passes = cc
kept_at {X} p (y ∷ xs) zero x e passes =
    let same : y ≡ x = some_is y x e in
    (0, ap (λ t. slice_get (cond t (y ∷ filter p xs) (filter p xs)) 0) (ap p same ∙ passes) ∙ ap (λ z. Some z) same)
kept_at {X} p (y ∷ xs) (suc k) x e passes =
    let later = kept_at p xs k x e passes in
    elim (cases_Bool (p y)) [
      | inl t ↦ (suc later.0, ap (λ b. slice_get (cond b (y ∷ filter p xs) (filter p xs)) (suc later.0)) t ∙ later.1)
      | inr f ↦ (later.0, ap (λ b. slice_get (cond b (y ∷ filter p xs) (filter p xs)) later.0) f ∙ later.1)
    ]

first_or_later : {X : Type 0} (p : X → Bool) (y : X) (xs : List X) (j : ℕ) (x : X) → p y ≡ true → ((i : ℕ) → slice_get (filter p xs) i ≡ Some x → (k : ℕ) × (slice_get xs k ≡ Some x) × (p x ≡ true)) → slice_get (y ∷ filter p xs) j ≡ Some x → (k : ℕ) × (slice_get (y ∷ xs) k ≡ Some x) × (p x ≡ true)
first_or_later p y xs zero x t later e = (0, e, sym (ap p (some_is y x e)) ∙ t)
first_or_later p y xs (suc j) x t later e = let h = later j e in (suc h.0, h.1, h.2)

pub stood : {X : Type 0} (p : X → Bool) (xs : List X) (j : ℕ) (x : X) → slice_get (filter p xs) j ≡ Some x → (k : ℕ) × (slice_get xs k ≡ Some x) × (p x ≡ true)
stood p [] j x e = cc
stood {X} p (y ∷ xs) j x e = elim (cases_Bool (p y)) [
  | inl t ↦ first_or_later p y xs j x t (λ i. stood p xs i x) (sym (ap (λ b. slice_get (cond b (y ∷ filter p xs) (filter p xs)) j) t) ∙ e)
  | inr f ↦ let later = stood p xs j x (sym (ap (λ b. slice_get (cond b (y ∷ filter p xs) (filter p xs)) j) f) ∙ e) in (suc later.0, later.1, later.2)
]

-- a numbered list
pub numbered_at : {X : Type 0} (n : ℕ) (xs : List X) (k : ℕ) (x : X) → slice_get xs k ≡ Some x → slice_get (enumerate_from n xs) k ≡ Some (n + k, x)
numbered_at n [] k x e = cc
numbered_at n (y ∷ xs) zero x e = ap₂ (λ m z. Some (m, z)) (sym (add-zero n)) (some_is y x e)
numbered_at n (y ∷ xs) (suc k) x e =
    let place : n + 1 + k ≡ n + suc k = omega arith in
    numbered_at (n + 1) xs k x e ∙ ap (λ m. Some (m, x)) place

pub at_numbered : {X : Type 0} (n : ℕ) (xs : List X) (k : ℕ) (at : ℕ × X) → slice_get (enumerate_from n xs) k ≡ Some at → (slice_get xs k ≡ Some at.1) × (at.0 ≡ n + k)
at_numbered n [] k at e = cc
at_numbered n (y ∷ xs) zero at e =
    let same = some_is (n, y) at e in
    (ap (λ a. Some a.1) same, sym (ap (λ a. a.0) same) ∙ sym (add-zero n))
at_numbered n (y ∷ xs) (suc k) at e =
    let later = at_numbered (n + 1) xs k at e in
    let place : n + 1 + k ≡ n + suc k = omega arith in
    (later.0, later.1 ∙ place)

pub numbered_more : {X : Type 0} (n : ℕ) (xs : List X) (y : X) → enumerate_from n (xs ++ y ∷ []) ≡ enumerate_from n xs ++ (n + length xs, y) ∷ []
numbered_more n [] y = ap (λ m. (m, y) ∷ []) (sym (add-zero n))
numbered_more n (x ∷ xs) y =
    let place : n + 1 + length xs ≡ n + suc (length xs) = omega arith in
    ap (λ l. (n, x) ∷ l) (numbered_more (n + 1) xs y ∙ ap (λ m. enumerate_from (n + 1) xs ++ (m, y) ∷ []) place)

-- the front of a list
pub front_at : {X : Type 0} (n : ℕ) (xs : List X) (k : ℕ) (x : X) → slice_get (take n xs) k ≡ Some x → (slice_get xs k ≡ Some x) × (k < n)
front_at zero xs k x e = cc
front_at (suc n) [] k x e = cc
front_at (suc n) (y ∷ xs) zero x e = (e, omega arith)
front_at (suc n) (y ∷ xs) (suc k) x e = let h = front_at n xs k x e in let below = h.1 in (h.0, omega (arith, below))

pub front_more : {X : Type 0} (xs : List X) (k : ℕ) (x : X) → slice_get xs k ≡ Some x → take (k + 1) xs ≡ take k xs ++ x ∷ []
front_more [] k x e = cc
front_more (y ∷ xs) zero x e = ap (λ z. z ∷ []) (some_is y x e)
front_more (y ∷ xs) (suc k) x e =
    let place : suc k + 1 ≡ suc (k + 1) = omega arith in
    ap (λ n. take n (y ∷ xs)) place ∙ ap (λ l. y ∷ l) (front_more xs k x e)

pub front_length : {X : Type 0} (xs : List X) (k : ℕ) (x : X) → slice_get xs k ≡ Some x → length (take k xs) ≡ k
front_length [] k x e = cc
front_length (y ∷ xs) zero x e = refl
front_length (y ∷ xs) (suc k) x e = ap suc (front_length xs k x e)

-- one value alone
pub sole_set : {X : Type 0} (xs : List X) (x : X) → length xs ≡ 1 → set xs 0 x ≡ x ∷ []
sole_set [] x one = absurd (omega arith)
sole_set (first ∷ []) x one = refl
sole_set (first ∷ second ∷ xs) x one = absurd (omega arith)

pub one_at : {X : Type 0} (xs : List X) (k : ℕ) (x : X) → slice_get xs k ≡ Some x → take 1 (drop k xs) ≡ x ∷ []
one_at [] k x e = cc
one_at (y ∷ xs) zero x e = ap (λ z. z ∷ []) (some_is y x e)
one_at (y ∷ xs) (suc k) x e = one_at xs k x e

-- two lists that agree place by place
pub zipped : {A B : Type 0} (R : A → B → Type 0) (xs : List A) (ys : List B) → length xs ≡ length ys → ((k : ℕ) (x : A) (y : B) → slice_get xs k ≡ Some x → slice_get ys k ≡ Some y → R x y) → AllZip R xs ys
zipped R [] [] same each = tt
zipped R [] (y ∷ ys) same each = absurd (omega arith)
zipped R (x ∷ xs) [] same each = absurd (omega arith)
zipped R (x ∷ xs) (y ∷ ys) same each = (each 0 x y refl refl, zipped R xs ys (omega arith) (λ k. each (suc k)))

-- a list at a place: what stands before, what stands there, what stands behind
pub parts_at : {X : Type 0} (xs : List X) (k : ℕ) (x : X) → slice_get xs k ≡ Some x → xs ≡ take k xs ++ x ∷ drop (suc k) xs
parts_at [] k x e = cc
parts_at (y ∷ xs) zero x e = ap (λ z. z ∷ xs) (some_is y x e)
parts_at (y ∷ xs) (suc k) x e = ap (λ l. y ∷ l) (parts_at xs k x e)

-- the elements of a list with one more at its end
pub at_end : {X : Type 0} (xs : List X) (y : X) (k : ℕ) (x : X) → slice_get (xs ++ y ∷ []) k ≡ Some x → (slice_get xs k ≡ Some x) ⊎ ((k ≡ length xs) × (y ≡ x))
at_end [] y zero x e = inr (refl, some_is y x e)
at_end [] y (suc k) x e = absurd (cc)
at_end (z ∷ xs) y zero x e = inl e
at_end (z ∷ xs) y (suc k) x e = elim (at_end xs y k x e) [
  | inl h ↦ inl h
  | inr h ↦ inr (ap suc h.0, h.1)
]
