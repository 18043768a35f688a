-- What stands at the front of some bytes, by their first byte.
use Rattle.std.proofs.Common.{◌≡◌, ℕ, true, false, ◌==◌, List, ◌∷◌, Option, None, refl, ap}
use Rattle.std.specs.Prelude.{unwrap_or}
use Rattle.edge_io.specs.Bytes.{quote, left_paren, right_paren, star, slash, begins_with}
use Rattle.token_texts.specs.Blanks.{is_blank}
use Rattle.token_texts.specs.Comments.{comment_at}
use Rattle.token_texts.specs.Quoted.{quoted_cut}
use Rattle.token_texts.specs.declared.quoted.Escape.TheVariants.{NextByte}
use Rattle.sdf_reader.specs.Tokens.{word_length, word_cut, cut_at}
use Rattle.sdf_reader.specs.declared.scan.Kind.{Kind}
use Rattle.sdf_reader.specs.declared.scan.Kind.TheVariants.{LeftParen, RightParen, Quoted, OpenQuoted, OpenNote}
use Rattle.token_texts.specs.declared.cuts.Cut.{Cut}
use Rattle.token_texts.specs.declared.cuts.Cut.TheVariants.{Skip, Take}

pub cut_blank : (first : ℕ) (rest : List ℕ) → is_blank first ≡ true → cut_at first rest ≡ Skip 1
unfolding cut_at
cut_blank first rest p = simp p

pub cut_left : (rest : List ℕ) → cut_at left_paren rest ≡ Take 1 LeftParen
unfolding cut_at
cut_left rest = refl

pub cut_right : (rest : List ℕ) → cut_at right_paren rest ≡ Take 1 RightParen
unfolding cut_at
cut_right rest = refl

pub cut_quote : (rest : List ℕ) → cut_at quote rest ≡ quoted_cut NextByte Quoted OpenQuoted rest
unfolding cut_at
cut_quote rest = refl

-- a comment, or a word
pub cut_other : (first : ℕ) (rest : List ℕ) (comment : Option (Cut Kind)) → is_blank first ≡ false → (first == left_paren) ≡ false
    → (first == right_paren) ≡ false → (first == quote) ≡ false → comment_at OpenNote first rest ≡ comment
    → cut_at first rest ≡ unwrap_or comment (word_cut (first ∷ rest) (word_length (first ∷ rest)))
unfolding cut_at
cut_other first rest comment p q r s is =
    simp (p, q, r, s) (ap (λ (c : Option (Cut Kind)). unwrap_or c (word_cut (first ∷ rest) (word_length (first ∷ rest)))) is)

pub cut_slash : (rest : List ℕ) → begins_with slash rest ≡ false → begins_with star rest ≡ false → cut_at slash rest ≡ word_cut (slash ∷ rest) (word_length (slash ∷ rest))
cut_slash rest p q = cut_other slash rest None refl refl refl refl (simp (p, q))

pub cut_word : (first : ℕ) (rest : List ℕ) → is_blank first ≡ false → (first == left_paren) ≡ false → (first == right_paren) ≡ false → (first == quote) ≡ false → (first == slash) ≡ false → cut_at first rest ≡ word_cut (first ∷ rest) (word_length (first ∷ rest))
cut_word first rest p q r s t = cut_other first rest None p q r s (simp t)
