-- Whether a token is broken, by its first byte.
use Rattle.std.proofs.Common.{◌≡◌, ℕ, Bool, true, false, cond, ◌==◌, List, [], ◌∷◌, length, sym, refl, ap, ◌∙◌, arith}
use Rattle.edge_io.specs.Bytes.{quote, slash, backslash}
use Rattle.token_texts.specs.Blanks.{is_blank}
use Rattle.token_texts.specs.ByteLemmas.{not_byte}
use Rattle.spef_text.specs.Tokens.{run_length, cut_at, is_broken, is_broken_cut}
use Rattle.token_texts.specs.declared.cuts.Cut.TheVariants.{Skip, Take}
use Rattle.spef_text.specs.declared.scan.Kind.TheVariants.{Whole}
use Rattle.spef_text.proofs.Cutting.{cut_backslash, cut_backslash_last}

pub by_first : (text : List ℕ) (first : ℕ) (rest : List ℕ) → text ≡ first ∷ rest → is_broken text ≡ is_broken_cut (cut_at first rest)
unfolding is_broken
by_first text first rest split = ap is_broken split

pub nothing_broken : (text : List ℕ) → length text ≡ 0 → is_broken text ≡ false
unfolding is_broken
nothing_broken [] none = refl
nothing_broken (b ∷ text) none = absurd (omega arith)

pub backslash_broken : (rest : List ℕ) → is_broken_cut (cut_at backslash rest) ≡ (length rest == 0)
backslash_broken [] = ap is_broken_cut (cut_backslash_last [] refl)
backslash_broken (b ∷ rest) = ap is_broken_cut (cut_backslash (b ∷ rest) (omega arith)) ∙ sym (not_byte (length (b ∷ rest)) 0 (λ e. omega arith))

neither : (blank : Bool) (n : ℕ) → is_broken_cut (cond blank (Skip 1) (Take n Whole)) ≡ false
neither true n = refl
neither false n = refl

pub others_broken : (first : ℕ) (rest : List ℕ) → (first == quote) ≡ false → (first == slash) ≡ false → (first == backslash) ≡ false → is_broken_cut (cut_at first rest) ≡ false
unfolding cut_at
others_broken first rest p q r = simp (p, q, r) (neither (is_blank first) (run_length (first ∷ rest)))
