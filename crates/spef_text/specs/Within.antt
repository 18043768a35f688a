-- What stands at the front of some bytes has a byte, and none past the end.
use Rattle.std.proofs.Common.{◌≡◌, ℕ, ◌+◌, ◌<◌, Bool, true, false, cond, ◌&&◌, ◌==◌, not, List, [], ◌∷◌, length, drop, Option, Some, None, position, refl, ap, arith}
use Rattle.std.specs.Prelude.{slice_index}
use Rattle.std.proofs.lemmas.List.Quantifiers.{position-Some}
use Rattle.edge_io.specs.Bytes.{star, slash, begins_with}
use Rattle.token_texts.specs.Blanks.{is_blank}
use Rattle.token_texts.specs.Comments.{line_length, comment_cut}
use Rattle.token_texts.specs.CommentLemmas.{line_within, comment_within}
use Rattle.token_texts.specs.RunLemmas.{escaped_more, escaped_taking, escaped_within}
use Rattle.token_texts.specs.Cuts.{IsWithin}
use Rattle.spef_text.specs.Tokens.{is_quote, is_backslash, ends_text, is_nothing, is_solid, text_cut, run_length, cut_at}
use Rattle.token_texts.specs.declared.cuts.Cut.{Cut}
use Rattle.token_texts.specs.declared.cuts.Cut.TheVariants.{Skip, Take}
use Rattle.spef_text.specs.declared.scan.Kind.{Kind}
use Rattle.spef_text.specs.declared.scan.Kind.TheVariants.{Whole, Broken}

pub run_plain : (b : ℕ) (rest : List ℕ) → is_backslash b ≡ false → is_blank b ≡ false → run_length (b ∷ rest) ≡ run_length rest + 1
run_plain b rest p q = escaped_more is_solid b rest p (ap not q)

pub run_taking : (b c : ℕ) (rest : List ℕ) → is_backslash b ≡ true → run_length (b ∷ c ∷ rest) ≡ run_length rest + 2
run_taking b c rest p = escaped_taking is_solid b c rest p

-- a run that is no backslash alone has a byte
pub run_from : (first : ℕ) (rest : List ℕ) → is_blank first ≡ false → is_backslash first && is_nothing rest ≡ false
    → 0 < run_length (first ∷ rest)
run_from first rest p q = by (is_backslash first) refl rest q
  where
    by : (slash : Bool) → is_backslash first ≡ slash → (rest : List ℕ) → slash && is_nothing rest ≡ false → 0 < run_length (first ∷ rest)
    by true is [] h = absurd (cc)
    by true is (c ∷ rest) h = omega (arith, run_taking first c rest is)
    by false is rest h = omega (arith, run_plain first rest is p)

text_within : (rest : List ℕ) (end : Option ℕ) → ((i : ℕ) → end ≡ Some i → i < length rest)
    → IsWithin (length rest + 1) (text_cut rest end)
text_within rest None below = (omega arith, omega arith)
text_within rest (Some place) below =
    let lt = below place refl in
    elim (is_quote (slice_index rest place))
    as (λ t. IsWithin (length rest + 1) (cond t (Take (place + 2) Whole) (Take (length rest + 1) Broken)))
    [ true ↦ (omega arith, omega arith) | false ↦ (omega arith, omega arith) ]

second : (s t : Bool) → s && t ≡ true → t ≡ true
second true t h = h
second false t h = absurd (cc)

-- a cut of a first byte and those behind it
abbrev Fits : List ℕ → Cut Kind → Type 0
Fits rest cut = IsWithin (length rest + 1) cut

-- what stands at the front has a byte, and none past the end
pub cut_within : (first : ℕ) (rest : List ℕ) → IsWithin (length rest + 1) (cut_at first rest)
unfolding cut_at
cut_within first rest =
    by (is_blank first) (is_quote first) (first == slash && begins_with slash rest) (first == slash && begins_with star rest)
    (is_backslash first && is_nothing rest)
    (text_within rest (position ends_text rest) (λ i e. (position-Some ends_text rest i 0 e).0))
    (line_within rest)
    (λ h. comment_within Broken slash rest (second (first == slash) (begins_with star rest) h))
    (λ p q. let all = escaped_within is_solid (first ∷ rest) in (run_from first rest p q, omega arith))
  where
    by : (blank quoted line comment last : Bool)
        → Fits rest (text_cut rest (position ends_text rest))
        → Fits rest (Skip (line_length rest))
        → (comment ≡ true → Fits rest (comment_cut slash Broken (drop 1 rest)))
        → (blank ≡ false → last ≡ false → Fits rest (Take (run_length (first ∷ rest)) Whole))
        → Fits rest (cond blank (Skip 1) (cond quoted (text_cut rest (position ends_text rest)) (cond line (Skip (line_length rest))
        (cond comment (comment_cut slash Broken (drop 1 rest))
        (cond last (Take (length rest + 1) Broken) (Take (run_length (first ∷ rest)) Whole))))))
    by true quoted line comment last text whole inside run = (omega arith, omega arith)
    by false true line comment last text whole inside run = text
    by false false true comment last text whole inside run = whole
    by false false false true last text whole inside run = inside refl
    by false false false false true text whole inside run = (omega arith, omega arith)
    by false false false false false text whole inside run = run refl refl
