-- Places in lists that grow at their ends and that are written to.
use Rattle.std.proofs.Common.{◌≡◌, ℕ, zero, suc, ◌+◌, ◌<◌, List, [], ◌∷◌, ◌++◌, length, set, take, drop, map, ◌⊎◌, inl, inr, ⊎_elim, refl, sym, ap, ◌∙◌, subst, arith}
use Rattle.std.specs.Prelude.{Some, slice_get, All}
use Rattle.std.specs.Option.{option_map}
use Rattle.std.proofs.lemmas.Bool.{cases_eq}
use Rattle.std.proofs.lemmas.Option.{slice_get_within, slice_get-map, get_or_from_slice_get}

-- what stood stays where more is put behind
pub get_left : {X : Type 0} (xs more : List X) (i : ℕ) (x : X) → slice_get xs i ≡ Some x → slice_get (xs ++ more) i ≡ Some x
get_left [] more i x e = absurd (cc)
get_left (y ∷ xs) more zero x e = e
get_left (y ∷ xs) more (suc i) x e = get_left xs more i x e

pub get_right : {X : Type 0} (xs more : List X) (i : ℕ) → slice_get (xs ++ more) (length xs + i) ≡ slice_get more i
get_right [] more i = let e : 0 + i ≡ i = omega arith in ap (slice_get more) e
get_right (y ∷ xs) more i = let e : suc (length xs) + i ≡ suc (length xs + i) = omega arith in ap (slice_get (y ∷ (xs ++ more))) e ∙ get_right xs more i

pub get_last : {X : Type 0} (xs : List X) (y : X) → slice_get (xs ++ y ∷ []) (length xs) ≡ Some y
get_last xs y = let e : length xs ≡ length xs + 0 = omega arith in ap (slice_get (xs ++ y ∷ [])) e ∙ get_right xs (y ∷ []) 0

-- what stands in a list with one more stood before, or is the last
pub get_push : {X : Type 0} (xs : List X) (y : X) (i : ℕ) (x : X) → slice_get (xs ++ y ∷ []) i ≡ Some x → (slice_get xs i ≡ Some x) ⊎ ((i ≡ length xs) × (y ≡ x))
get_push [] y zero x e = inr (refl, cc)
get_push [] y (suc i) x e = absurd (cc)
get_push (z ∷ xs) y zero x e = inl e
get_push (z ∷ xs) y (suc i) x e = ⊎_elim (λ h. inl h) (λ h. inr (ap suc h.0, h.1)) (get_push xs y i x e)

pub get_set_same : {X : Type 0} (xs : List X) (i : ℕ) (y : X) → i < length xs → slice_get (set xs i y) i ≡ Some y
get_set_same [] i y h = absurd (omega arith)
get_set_same (x ∷ xs) zero y h = refl
get_set_same (x ∷ xs) (suc i) y h = get_set_same xs i y (omega arith)

pub get_set_other : {X : Type 0} (xs : List X) (i j : ℕ) (y : X) → (j ≡ i → ⊥) → slice_get (set xs i y) j ≡ slice_get xs j
get_set_other [] i j y h = refl
get_set_other (x ∷ xs) zero zero y h = absurd (h refl)
get_set_other (x ∷ xs) zero (suc j) y h = refl
get_set_other (x ∷ xs) (suc i) zero y h = refl
get_set_other (x ∷ xs) (suc i) (suc j) y h = get_set_other xs i j y (λ e. h (ap suc e))

pub length_set : {X : Type 0} (xs : List X) (i : ℕ) (y : X) → length (set xs i y) ≡ length xs
length_set [] i y = refl
length_set (x ∷ xs) zero y = refl
length_set (x ∷ xs) (suc i) y = ap suc (length_set xs i y)

-- what stands in a list that was written to was written there, or stood before
pub get_set : {X : Type 0} (xs : List X) (i j : ℕ) (y x : X) → i < length xs → slice_get (set xs i y) j ≡ Some x → ((j ≡ i) × (y ≡ x)) ⊎ ((j ≡ i → ⊥) × (slice_get xs j ≡ Some x))
get_set xs i j y x h e = by (cases_eq j i)
  where
    by : (j ≡ i) ⊎ (j ≡ i → ⊥) → ((j ≡ i) × (y ≡ x)) ⊎ ((j ≡ i → ⊥) × (slice_get xs j ≡ Some x))
    by (inl same) =
        let there : slice_get (set xs i y) j ≡ Some y = ap (slice_get (set xs i y)) same ∙ get_set_same xs i y h in
        inl (same, cc)
    by (inr other) = inr (other, sym (get_set_other xs i j y other) ∙ e)

pub some_within : {X : Type 0} (xs : List X) (i : ℕ) → i < length xs → (x : X) × (slice_get xs i ≡ Some x)
some_within [] i h = absurd (omega arith)
some_within (x ∷ xs) zero h = (x, refl)
some_within (x ∷ xs) (suc i) h = some_within xs i (omega arith)

-- a list at a place: what stands before, what stands there, what stands behind
pub parts_at : {X : Type 0} (xs : List X) (i : ℕ) (x : X) → slice_get xs i ≡ Some x → xs ≡ take i xs ++ x ∷ drop (suc i) xs
parts_at [] i x e = absurd (cc)
parts_at (y ∷ xs) zero x e = let same : y ≡ x = cc in ap (λ z. z ∷ xs) same
parts_at (y ∷ xs) (suc i) x e = ap (λ l. y ∷ l) (parts_at xs i x e)

pub take_push : {X : Type 0} (xs : List X) (i : ℕ) (x : X) → slice_get xs i ≡ Some x → take (suc i) xs ≡ take i xs ++ x ∷ []
take_push [] i x e = absurd (cc)
take_push (y ∷ xs) zero x e = let same : y ≡ x = cc in ap (λ z. z ∷ []) same
take_push (y ∷ xs) (suc i) x e = ap (λ l. y ∷ l) (take_push xs i x e)

pub all_at : {X : Type 0} (P : X → Type 0) (xs : List X) (i : ℕ) (x : X) → All P xs → slice_get xs i ≡ Some x → P x
all_at P xs i x all e = subst P (get_or_from_slice_get xs i x x e) (all i x (slice_get_within xs i x e))

pub map_at : {X Y : Type 0} (f : X → Y) (xs : List X) (i : ℕ) (x : X) → slice_get xs i ≡ Some x → slice_get (map f xs) i ≡ Some (f x)
map_at f xs i x e = slice_get-map f xs i ∙ ap (option_map f) e
