-- Lists that have one item for each number.
use Rattle.std.proofs.Common.{◌≡◌, ℕ, zero, suc, ◌+◌, ◌<◌, [], ◌∷◌, length, get_or, refl, ap, ◌∙◌, arith}
use Rattle.hierarchy.specs.Walks.{joined_from}

pub numbered_count : {X : Type 0} (f : ℕ → X) (from n : ℕ) → length (joined_from (λ k. f k ∷ []) from n) ≡ n
numbered_count f from zero = refl
numbered_count f from (suc n) = ap suc (numbered_count f (suc from) n)

pub numbered_from : {X : Type 0} (f : ℕ → X) (from n j : ℕ) (d : X) → j < n → get_or (joined_from (λ k. f k ∷ []) from n) j d ≡ f (from + j)
numbered_from f from zero j d below = absurd (omega arith)
numbered_from f from (suc n) zero d below = let same : from ≡ from + 0 = omega arith in ap f same
numbered_from f from (suc n) (suc j) d below =
    let same : suc from + j ≡ from + suc j = omega arith in numbered_from f (suc from) n j d (omega arith) ∙ ap f same

pub numbered_at : {X : Type 0} (f : ℕ → X) (n j : ℕ) (d : X) → j < n → get_or (joined_from (λ k. f k ∷ []) 0 n) j d ≡ f j
numbered_at f n j d below = let same : 0 + j ≡ j = omega arith in numbered_from f 0 n j d below ∙ ap f same
