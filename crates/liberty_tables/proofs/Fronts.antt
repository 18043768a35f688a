-- Lists gone over by place.
use Rattle.std.proofs.Common.{◌≡◌, ℕ, zero, suc, ◌+◌, ◌<◌, ◌≤◌, Bool, true, false, cond, List, [], ◌∷◌, ◌++◌, take, drop, length, slice_get, slice_index_or, Option, Some, None, All, refl, sym, ap, ◌∙◌, arith, subst}
use Rattle.std.proofs.lemmas.Option.{slice_get_read, slice_get_within, get_or_from_slice_get}
use Rattle.std.proofs.lemmas.List.Elements.{All-get_or}
use Rattle.std.specs.List.{find, AllZip}

pub some_is : {X : Type 0} (x y : X) → (let a : Option X = Some x in let b : Option X = Some y in a ≡ b) → x ≡ y
some_is x y e = cc

-- the entry at a place, and those behind it
pub rest_at : {X : Type 0} (xs : List X) (k : ℕ) (x : X) → slice_get xs k ≡ Some x → drop k xs ≡ x ∷ drop (k + 1) xs
rest_at [] k x e = cc
rest_at (y ∷ xs) zero x e = ap (λ z. z ∷ xs) (some_is y x e)
rest_at (y ∷ xs) (suc k) x e =
    let place : suc k + 1 ≡ suc (k + 1) = omega arith in
    rest_at xs k x e ∙ ap (λ n. x ∷ drop n (y ∷ xs)) (sym place)

-- and those before it
pub front_at : {X : Type 0} (xs : List X) (k : ℕ) (x : X) → slice_get xs k ≡ Some x → take (k + 1) xs ≡ take k xs ++ x ∷ []
front_at [] k x e = cc
front_at (y ∷ xs) zero x e = ap (λ z. z ∷ []) (some_is y x e)
front_at (y ∷ xs) (suc k) x e =
    let place : suc k + 1 ≡ suc (k + 1) = omega arith in
    ap (λ n. take n (y ∷ xs)) place ∙ ap (λ l. y ∷ l) (front_at xs k x e)

pub nothing_behind : {X : Type 0} (xs : List X) (k : ℕ) → length xs ≤ k → drop k xs ≡ []
nothing_behind [] k past = empty k
  where
    empty : {Y : Type 0} (k : ℕ) → drop {A = Y} k [] ≡ []
    empty zero = refl
    empty (suc k) = refl
nothing_behind (x ∷ xs) zero past = absurd (omega (arith, past))
nothing_behind (x ∷ xs) (suc k) past = nothing_behind xs k (omega (arith, past))

-- ---- the first that passes a test, from a place on

pub found_at : {X : Type 0} (p : X → Bool) (xs : List X) (k : ℕ) (x : X) → slice_get xs k ≡ Some x → p x ≡ true → find p (drop k xs) ≡ Some x
found_at p xs k x e passes = ap (find p) (rest_at xs k x e) ∙ ap (λ b. cond b (Some x) (find p (drop (k + 1) xs))) passes

pub passed_at : {X : Type 0} (p : X → Bool) (xs : List X) (k : ℕ) (x : X) → slice_get xs k ≡ Some x → p x ≡ false → find p (drop k xs) ≡ find p (drop (k + 1) xs)
passed_at p xs k x e fails = ap (find p) (rest_at xs k x e) ∙ ap (λ b. cond b (Some x) (find p (drop (k + 1) xs))) fails

pub none_behind : {X : Type 0} (p : X → Bool) (xs : List X) (k : ℕ) → length xs ≤ k → find p (drop k xs) ≡ None
none_behind p xs k past = ap (find p) (nothing_behind xs k past)

-- ---- lists that belong together

pub zip_push : {A B : Type 0} (R : A → B → Type 0) (xs : List A) (ys : List B) (x : A) (y : B) → AllZip R xs ys → R x y → AllZip R (xs ++ x ∷ []) (ys ++ y ∷ [])
zip_push R [] [] x y all r = (r, all)
zip_push R [] (b ∷ ys) x y all r = absurd all
zip_push R (a ∷ xs) [] x y all r = absurd all
zip_push R (a ∷ xs) (b ∷ ys) x y all r = (all.0, zip_push R xs ys x y all.1 r)

-- one more pair
pub zip_at : {A B : Type 0} (R : A → B → Type 0) (xs : List A) (ys : List B) (k : ℕ) (x : A) (y : B) → slice_get xs k ≡ Some x → AllZip R (take k xs) ys → R x y → AllZip R (take (k + 1) xs) (ys ++ y ∷ [])
zip_at R xs ys k x y e all r = subst (λ l. AllZip R l (ys ++ y ∷ [])) (sym (front_at xs k x e)) (zip_push R (take k xs) ys x y all r)

pub all_taken : {X : Type 0} (xs : List X) (k : ℕ) → length xs ≤ k → take k xs ≡ xs
all_taken [] zero past = refl
all_taken [] (suc k) past = refl
all_taken (x ∷ xs) zero past = absurd (omega (arith, past))
all_taken (x ∷ xs) (suc k) past = ap (λ l. x ∷ l) (all_taken xs k (omega (arith, past)))

-- a value that is read at a place
pub got_at : {X : Type 0} (xs : List X) (k : ℕ) (x : X) → k < length xs → x ≡ slice_index_or xs k x → slice_get xs k ≡ Some x
got_at xs k x below is = slice_get_read xs (length xs) k x refl below is

-- a fact of each element is one of the element at a place
pub all_at : {X : Type 0} (P : X → Type 0) (xs : List X) (k : ℕ) (x : X) → slice_get xs k ≡ Some x → All P xs → P x
all_at P xs k x at all = subst P (get_or_from_slice_get xs k x x at) (All-get_or P xs k x (slice_get_within xs k x at) all)

pub zip_length : {A B : Type 0} (R : A → B → Type 0) (xs : List A) (ys : List B) → AllZip R xs ys → length xs ≡ length ys
zip_length R [] [] all = refl
zip_length R [] (y ∷ ys) all = absurd all
zip_length R (x ∷ xs) [] all = absurd all
zip_length R (x ∷ xs) (y ∷ ys) all = ap suc (zip_length R xs ys all.1)
