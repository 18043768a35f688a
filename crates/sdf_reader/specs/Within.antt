-- What stands at the front of some bytes has a byte, and none past the end.
use Rattle.std.proofs.Common.{ℕ, zero, suc, ◌+◌, ◌≤◌, Bool, true, false, cond, ◌==◌, List, ◌∷◌, length, arith}
use Rattle.std.specs.Prelude.{unwrap_or}
use Rattle.edge_io.specs.Bytes.{quote, left_paren, right_paren}
use Rattle.token_texts.specs.Blanks.{is_blank}
use Rattle.token_texts.specs.Comments.{comment_at}
use Rattle.token_texts.specs.Quoted.{quoted_cut}
use Rattle.token_texts.specs.CommentLemmas.{comment_or_within}
use Rattle.token_texts.specs.QuotedLemmas.{quoted_within}
use Rattle.token_texts.specs.RunLemmas.{escaped_within}
use Rattle.token_texts.specs.declared.quoted.Escape.TheVariants.{NextByte}
use Rattle.token_texts.specs.Cuts.{IsWithin}
use Rattle.sdf_reader.specs.Tokens.{is_plain, word_length, word_cut, cut_at}
use Rattle.sdf_reader.specs.declared.scan.Kind.TheVariants.{LeftParen, RightParen, Quoted, OpenQuoted, OpenNote}
use Rattle.token_texts.specs.declared.cuts.Cut.TheVariants.{Skip, Take}

word_cut_within : (first : ℕ) (rest : List ℕ) (n : ℕ) → n ≤ length (first ∷ rest) → IsWithin (length rest + 1) (word_cut (first ∷ rest) n)
word_cut_within first rest zero le = (omega arith, omega arith)
word_cut_within first rest (suc more) le = (omega arith, omega arith)

pub cut_within : (first : ℕ) (rest : List ℕ) → IsWithin (length rest + 1) (cut_at first rest)
unfolding cut_at
cut_within first rest =
    by (is_blank first) (first == left_paren) (first == right_paren) (first == quote)
    (quoted_within Quoted OpenQuoted NextByte rest)
    (comment_or_within OpenNote first rest (word_cut (first ∷ rest) (word_length (first ∷ rest)))
    (λ none. word_cut_within first rest (word_length (first ∷ rest)) (escaped_within is_plain (first ∷ rest))))
  where
    by : (blank left right text : Bool)
        → IsWithin (length rest + 1) (quoted_cut NextByte Quoted OpenQuoted rest)
        → IsWithin (length rest + 1) (unwrap_or (comment_at OpenNote first rest) (word_cut (first ∷ rest) (word_length (first ∷ rest))))
        → IsWithin (length rest + 1)
        (cond blank (Skip 1) (cond left (Take 1 LeftParen) (cond right (Take 1 RightParen)
        (cond text (quoted_cut NextByte Quoted OpenQuoted rest)
        (unwrap_or (comment_at OpenNote first rest) (word_cut (first ∷ rest) (word_length (first ∷ rest))))))))
    by true left right text quoted other = (omega arith, omega arith)
    by false true right text quoted other = (omega arith, omega arith)
    by false false true text quoted other = (omega arith, omega arith)
    by false false false true quoted other = quoted
    by false false false false quoted other = other
