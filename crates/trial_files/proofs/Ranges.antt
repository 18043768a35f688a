-- The texts of the numbers of a range, with one number more.
use Rattle.std.proofs.Common.{◌≡◌, ℕ, ◌+◌, List, [], ◌∷◌, ◌++◌, map, ap, ap₂, sym, ◌∙◌, append_assoc}
use Rattle.std.specs.List.{flat_map, range_with_len}
use Rattle.std.proofs.lemmas.List.{append-nil}
use Rattle.std.proofs.lemmas.List.Folds.{flat_map-map}
use Rattle.std.proofs.lemmas.List.FromFn.{map-range_with_len_more}
use Rattle.std.proofs.lemmas.Grind.{flat_map-append}

pub one_more : (f : ℕ → List ℕ) (a n j : ℕ) → a + n ≡ j
    → flat_map f (range_with_len a (n + 1)) ≡ flat_map f (range_with_len a n) ++ f j
one_more f a n j e =
    sym (flat_map-map f (λ x. x) (range_with_len a (n + 1)))
    ∙ ap (flat_map f) (map-range_with_len_more (λ x. x) a n j e)
    ∙ flat_map-append f (map (λ x. x) (range_with_len a n)) (j ∷ [])
    ∙ ap₂ (λ s t. s ++ t) (flat_map-map f (λ x. x) (range_with_len a n)) (append-nil (f j))

-- a text that ends with those of a range, and then the next
pub text_more : (f : ℕ → List ℕ) (a n j : ℕ) (start front : List ℕ) {text text' : List ℕ} → a + n ≡ j
    → text ≡ start ++ (front ++ flat_map f (range_with_len a n)) → text' ≡ text ++ f j
    → text' ≡ start ++ (front ++ flat_map f (range_with_len a (n + 1)))
text_more f a n j start front e before next =
    let now = flat_map f (range_with_len a n) in
    next
    ∙ ap (λ t. t ++ f j) before
    ∙ append_assoc start (front ++ now) (f j)
    ∙ ap (λ t. start ++ t) (append_assoc front now (f j) ∙ ap (λ t. front ++ t) (sym (one_more f a n j e)))
