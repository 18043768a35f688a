-- Lists that are joined, by one more.
use Rattle.std.proofs.Common.{◌≡◌, ℕ, ◌+◌, ◌∙◌, ap, sym, refl, List, ◌++◌, append_assoc, arith}
use Rattle.hierarchy.specs.Walks.{joined_from}
use Rattle.hierarchy.proofs.Joining.{joined-more}

pub joined_next : {X : Type 0} (lists : ℕ → List X) (n : ℕ) (items after : List X) → items ≡ joined_from lists 0 n → after ≡ items ++ lists n
    → after ≡ joined_from lists 0 (n + 1)
joined_next lists n items after held is =
    let at : n ≡ 0 + n = omega arith in
    is ∙ ap (λ xs. xs ++ lists n) held ∙ ap (λ k. joined_from lists 0 n ++ lists k) at ∙ sym (joined-more lists 0 n)

pub joined_behind : {X : Type 0} (lists : ℕ → List X) (n : ℕ) (before items after : List X) → items ≡ before ++ joined_from lists 0 n → after ≡ items ++ lists n
    → after ≡ before ++ joined_from lists 0 (n + 1)
joined_behind lists n before items after held is =
    is ∙ ap (λ xs. xs ++ lists n) held ∙ append_assoc before (joined_from lists 0 n) (lists n)
    ∙ ap (λ xs. before ++ xs) (joined_next lists n (joined_from lists 0 n) (joined_from lists 0 n ++ lists n) refl refl)
