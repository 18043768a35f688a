-- One more of a list whose items are taken in turn, and of what some of them give.
use Rattle.std.proofs.Common.{◌≡◌, ℕ, zero, suc, ◌+◌, ◌<◌, ◌≤◌, ◌⊎◌, inl, inr, ⊎_elim, List, [], ◌∷◌, ◌++◌, length, get_or, take, drop, Option, Some, None, refl, sym, ap, ◌∙◌, arith, length-append}
use Rattle.std.specs.List.{filter_map, cons_option, slice_get}
use Rattle.std.proofs.lemmas.List.{take-append-drop, drop_all, drop_more, take_more, get_or_append_left, get_or_push, length_push, append-nil}
use Rattle.std.proofs.lemmas.List.Elements.{filter_map-append}
use Rattle.std.proofs.lemmas.Bool.{cases_lt}

-- an item of a longer list is one of before, or the new one
pub slice_get_pushed : {X : Type 0} (xs : List X) (y z : X) (k : ℕ) → slice_get (xs ++ y ∷ []) k ≡ Some z
    → (slice_get xs k ≡ Some z) ⊎ ((k ≡ length xs) × (y ≡ z))
slice_get_pushed [] y z zero e = inr (refl, cc)
slice_get_pushed [] y z (suc k) e = absurd cc
slice_get_pushed (x ∷ xs) y z zero e = inl e
slice_get_pushed (x ∷ xs) y z (suc k) e =
    ⊎_elim (λ h. inl h) (λ h. inr (ap suc h.0, h.1)) (slice_get_pushed xs y z k e)

-- the next item of what is left
pub record IsNext {X : Type 0} (all : List X) (n : ℕ) (item : X) (rest : List X) : Type 0 where
  pub within : n < length all
  pub here : (d : X) → get_or all n d ≡ item
  pub passed : take (n + 1) all ≡ take n all ++ item ∷ []
  pub left : drop (n + 1) all ≡ rest

pub next_from_rest : {X : Type 0} (all : List X) (n : ℕ) (item : X) (rest : List X) → drop n all ≡ item ∷ rest → IsNext all n item rest
next_from_rest all n item rest e = by (cases_lt n (length all))
  where
    by : (n < length all) ⊎ (length all ≤ n) → IsNext all n item rest
    by (inl lt) =
        let at = drop_more all n item lt in
        let same : get_or all n item ≡ item = cc in
        record {
          within = lt;
          here = λ d. let other = drop_more all n d lt in cc;
          passed = take_more all n item lt ∙ ap (λ x. take n all ++ x ∷ []) same;
          left = cc;
        }
    by (inr le) = let none = drop_all n all le in absurd cc

-- an item that gives nothing
pub nothing_given : {X Y : Type 0} (give : X → Option Y) (all : List X) (n : ℕ) (item : X) (rest : List X) → IsNext all n item rest
    → give item ≡ None → length (filter_map give (take (n + 1) all)) ≡ length (filter_map give (take n all))
nothing_given give all n item rest next none =
    let split = filter_map-append give (take n all) (item ∷ []) in
    let end : filter_map give (item ∷ []) ≡ [] = ap (λ o. cons_option o []) none in
    ap (λ xs. length (filter_map give xs)) next.passed ∙ ap length (split ∙ ap (λ ys. filter_map give (take n all) ++ ys) end)
    ∙ ap length (append-nil (filter_map give (take n all)))

pub given_pushed : {X Y : Type 0} (give : X → Option Y) (all : List X) (n : ℕ) (item : X) (rest : List X) (y : Y) → IsNext all n item rest
    → give item ≡ Some y → filter_map give (take (n + 1) all) ≡ filter_map give (take n all) ++ y ∷ []
given_pushed give all n item rest y next some =
    let split = filter_map-append give (take n all) (item ∷ []) in
    let end : filter_map give (item ∷ []) ≡ y ∷ [] = ap (λ o. cons_option o []) some in
    ap (filter_map give) next.passed ∙ split ∙ ap (λ ys. filter_map give (take n all) ++ ys) end

-- what is given is a front of the whole
pub given_front : {X Y : Type 0} (give : X → Option Y) (all : List X) (n : ℕ)
    → filter_map give all ≡ filter_map give (take n all) ++ filter_map give (drop n all)
given_front give all n = ap (filter_map give) (sym (take-append-drop n all)) ∙ filter_map-append give (take n all) (drop n all)

pub given_within : {X Y : Type 0} (give : X → Option Y) (all : List X) (n : ℕ)
    → length (filter_map give (take n all)) ≤ length (filter_map give all)
given_within give all n =
    let front = ap length (given_front give all n) in
    let sum = length-append (filter_map give (take n all)) (filter_map give (drop n all)) in
    omega arith

-- an item that gives one more stands at its place in the whole
pub given_place : {X Y : Type 0} (give : X → Option Y) (all : List X) (n : ℕ) (item : X) (rest : List X) (y d : Y) → IsNext all n item rest
    → give item ≡ Some y → get_or (filter_map give all) (length (filter_map give (take n all))) d ≡ y
given_place give all n item rest y d next some =
    let front = given_front give all (n + 1) in
    let push = given_pushed give all n item rest y next some in
    let a = filter_map give (take n all) in
    let b = filter_map give (drop (n + 1) all) in
    let whole : filter_map give all ≡ (a ++ y ∷ []) ++ b = front ∙ ap (λ xs. xs ++ b) push in
    let lt : length a < length (a ++ y ∷ []) = omega (arith, length_push a y) in
    ap (λ xs. get_or xs (length a) d) whole ∙ get_or_append_left (a ++ y ∷ []) b d (length a) lt ∙ get_or_push a y d (length a) refl
