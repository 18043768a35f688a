-- A list of which the places up to here have one value.
use Rattle.std.proofs.Common.{◌≡◌, ℕ, ◌+◌, ◌-◌, ◌<◌, ◌≤◌, List, [], ◌∷◌, ◌++◌, length, drop, replicate, set, get_or, refl, sym, ap, ◌∙◌, arith, append_assoc}
use Rattle.std.proofs.lemmas.List.{length-replicate, set-append_right, drop_more, replicate_more, drop_all, append-nil}

module _ {X : Type 0} (d : List X) (y : X) where
  pub none_written : d ≡ replicate 0 y ++ drop 0 d
  none_written = refl

  pub more_written : (i : ℕ) (xs : List X) → xs ≡ replicate i y ++ drop i d → i < length d → set xs i y ≡ replicate (i + 1) y ++ drop (i + 1) d
  more_written i xs is below =
      let first : i - i ≡ 0 = omega arith in
      ap (λ (l : List X). set l i y) is
      ∙ set-append_right (replicate i y) (drop i d) i i y (length-replicate i y) (omega arith)
      ∙ ap (λ (k : ℕ). replicate i y ++ set (drop i d) k y) first
      ∙ ap (λ (l : List X). replicate i y ++ set l 0 y) (drop_more d i y below)
      ∙ sym (append_assoc (replicate i y) (y ∷ []) (drop (i + 1) d))
      ∙ ap (λ (l : List X). l ++ drop (i + 1) d) (replicate_more i y)

  pub all_written : (i : ℕ) (xs : List X) → xs ≡ replicate i y ++ drop i d → i ≡ length d → xs ≡ replicate (length d) y
  all_written i xs is all =
      is ∙ ap (λ (l : List X). replicate i y ++ l) (drop_all i d (omega (arith, all))) ∙ append-nil (replicate i y) ∙ ap (λ (k : ℕ). replicate k y) all
