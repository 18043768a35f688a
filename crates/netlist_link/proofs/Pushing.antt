-- A list with one item more: its fronts, and what holds of each of its numbers by its place.
use Rattle.std.proofs.Common.{◌≡◌, ℕ, ◌+◌, ◌<◌, List, [], ◌∷◌, ◌++◌, length, take, Some, inl, inr, sym, ap, ◌∙◌, subst, add-one, arith}
use Rattle.std.specs.Prelude.{slice_get, slice_index}
use Rattle.std.proofs.lemmas.Bool.{cases_lt}
use Rattle.std.proofs.lemmas.List.{get_or_append_left}
use Rattle.std.proofs.lemmas.Option.{get_or_from_slice_get, slice_get_within}
use Rattle.std.proofs.Math.Seq.{take-suc, get_or-append_seam}

pub take_push : {X : Type 0} (xs : List X) (i : ℕ) (x : X) → slice_get xs i ≡ Some x → take (i + 1) xs ≡ take i xs ++ x ∷ []
take_push xs i x is = ap (λ (n : ℕ). take n xs) (add-one i) ∙ take-suc xs i x (slice_get_within xs i x is)
    ∙ ap (λ y. take i xs ++ y ∷ []) (get_or_from_slice_get xs i x x is)

-- what holds of each number by its place holds with one number more
pub places_push : (P : ℕ → ℕ → Type 0) (xs : List ℕ) (x n : ℕ) → length xs ≡ n → ((i : ℕ) → i < n → P i (slice_index xs i)) → P n x
    → (i : ℕ) → i < n + 1 → P i (slice_index (xs ++ x ∷ []) i)
places_push P xs x n len each last i below = elim (cases_lt i n) [
  | inl less ↦ subst (P i) (sym (get_or_append_left xs (x ∷ []) 0 i (omega arith))) (each i less)
  | inr past ↦
      let at_end : slice_index (xs ++ x ∷ []) n ≡ x =
      subst (λ (k : ℕ). slice_index (xs ++ x ∷ []) k ≡ x) len (get_or-append_seam xs x [] 0) in
      let same : n ≡ i = omega arith in
      subst (λ (k : ℕ). P k (slice_index (xs ++ x ∷ []) k)) same (subst (P n) (sym at_end) last)
]

-- one item more of a list stands behind those before it
pub list_step : {X : Type 0} (all before after : List X) (n : ℕ) (x : X) → slice_get all n ≡ Some x → before ≡ take n all → after ≡ before ++ x ∷ []
    → after ≡ take (n + 1) all
list_step all before after n x here so_far is = is ∙ ap (λ l. l ++ x ∷ []) so_far ∙ sym (take_push all n x here)
