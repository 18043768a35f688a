-- What holds of each item of a list, by its place, holds with one item more.
use Rattle.std.proofs.Common.{◌≡◌, ℕ, zero, suc, List, [], ◌∷◌, ◌++◌, length, Some, subst}
use Rattle.std.specs.Prelude.{slice_get}
use Rattle.std.proofs.lemmas.Option.{none-some, same_Some}

pub each_push : {X : Type 0} (P : ℕ → X → Type 0) (xs : List X) (x : X) → ((i : ℕ) (y : X) → slice_get xs i ≡ Some y → P i y) → P (length xs) x
    → (i : ℕ) (y : X) → slice_get (xs ++ x ∷ []) i ≡ Some y → P i y
each_push P [] x each last zero y is = subst (P 0) (same_Some x y is) last
each_push P [] x each last (suc i) y is = absurd (none-some y is)
each_push P (first ∷ xs) x each last zero y is = each zero y is
each_push P (first ∷ xs) x each last (suc i) y is = each_push (λ k z. P (suc k) z) xs x (λ k z at. each (suc k) z at) last i y is
