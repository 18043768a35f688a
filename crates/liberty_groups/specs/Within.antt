-- What stands at the front of some bytes has a byte, and none past the end.
use Rattle.std.proofs.Common.{◌≡◌, ℕ, suc, ◌+◌, ◌<◌, ◌≤◌, Bool, true, false, cond, ◌&&◌, ◌||◌, ◌==◌, List, [], ◌∷◌, length, drop, Option, Some, None, position, refl, sym, ap, subst, arith, nat_lt}
use Rattle.std.specs.Prelude.{slice_index, unwrap_or}
use Rattle.std.proofs.lemmas.List.Quantifiers.{position-Some}
use Rattle.edge_io.specs.Bytes.{quote, left_paren, right_paren, star, comma, slash, colon, semicolon, backslash, left_brace, right_brace, begins_with}
use Rattle.token_texts.specs.Blanks.{is_blank, is_line_end}
use Rattle.token_texts.specs.Comments.{line_length, comment_cut, comment_at}
use Rattle.token_texts.specs.Quoted.{quoted_cut}
use Rattle.token_texts.specs.CommentLemmas.{comment_or_within}
use Rattle.token_texts.specs.QuotedLemmas.{quoted_within}
use Rattle.token_texts.specs.declared.quoted.Escape.TheVariants.{NextQuote}
use Rattle.token_texts.specs.Cuts.{IsWithin}
use Rattle.liberty_groups.specs.Cuts.{word_cut}
use Rattle.liberty_groups.specs.Tokens.{is_plain, is_mark, mark_of, begins_comment, goes_on, opened_behind, continuation, continued_to, ends_gap, backslash_cut, mark_or_word, word_length, cut_at}
use Rattle.liberty_groups.specs.declared.scan.Kind.{Kind}
use Rattle.liberty_groups.specs.declared.scan.Kind.TheVariants.{Word, Quoted, Bad, OpenQuoted, OpenNote, LeftParen, RightParen, LeftBrace, RightBrace, Colon, Semicolon, Comma}
use Rattle.token_texts.specs.declared.cuts.Cut.TheVariants.{Skip, Take}

-- a word's first byte goes on with it
word_from : (first : ℕ) (rest : List ℕ) → is_plain first ≡ true → begins_comment first rest ≡ false → is_mark first ≡ false
    → word_length 0 (first ∷ rest) ≡ word_length (opened_behind 0 first) rest + 1
unfolding word_length
word_from first rest p q r = simp (p, q, r)

pub word_or_bad : (plain : Bool) (first : ℕ) (rest : List ℕ) → is_plain first ≡ plain → begins_comment first rest ≡ false
    → is_mark first ≡ false
    → cond plain (Take (word_length 0 (first ∷ rest)) Word) (Take (length rest + 1) Bad)
    ≡ cond plain (Take (word_length (opened_behind 0 first) rest + 1) Word) (Take (length rest + 1) Bad)
word_or_bad true first rest p q r = ap (λ n. Take n Word) (word_from first rest p q r)
word_or_bad false first rest p q r = refl

none_of : (a b c d e f g : Bool) → cond a (Some LeftParen)
    (cond b (Some RightParen)
    (cond c (Some LeftBrace) (cond d (Some RightBrace) (cond e (Some Colon) (cond f (Some Semicolon) (cond g (Some Comma) None)))))) ≡ None
    → (a || b || c || d || e || f || g) ≡ false
none_of true b c d e f g h = absurd (cc)
none_of false true c d e f g h = absurd (cc)
none_of false false true d e f g h = absurd (cc)
none_of false false false true e f g h = absurd (cc)
none_of false false false false true f g h = absurd (cc)
none_of false false false false false true g h = absurd (cc)
none_of false false false false false false true h = absurd (cc)
none_of false false false false false false false h = refl

pub no_mark : (first : ℕ) → mark_of first ≡ None → is_mark first ≡ false
no_mark first e = none_of (first == left_paren) (first == right_paren) (first == left_brace) (first == right_brace) (first == colon)
    (first == semicolon) (first == comma) e

continued_within : (rest : List ℕ) (end : Option ℕ) → ((i : ℕ) → end ≡ Some i → i < length rest) → continued_to rest end ≤ length rest
continued_within rest None below = omega arith
continued_within rest (Some place) below =
    let lt = below place refl in
    elim (is_line_end (slice_index rest place)) as (λ t. cond t (place + 1) 0 ≤ length rest) [ true ↦ omega arith | false ↦ omega arith ]

backslash_within : (rest : List ℕ) (n : ℕ) → n ≤ length rest → IsWithin (length rest + 1) (backslash_cut rest n)
backslash_within rest n le = elim (nat_lt 0 n) as
    (λ t. IsWithin (length rest + 1) (cond t (Skip (n + 1)) (Take (length rest + 1) Bad)))
    [ true ↦ (omega arith, omega arith) | false ↦ (omega arith, omega arith) ]

word_within : (opened : ℕ) (bytes : List ℕ) → word_length opened bytes ≤ length bytes
unfolding word_length
word_within opened [] = omega arith
word_within opened (b ∷ rest) =
    let more = word_within (opened_behind opened b) rest in
    elim (goes_on opened b rest) as (λ t. cond t (word_length (opened_behind opened b) rest + 1) 0 ≤ suc (length rest))
    [ true ↦ omega arith | false ↦ omega arith ]

word_cut_within : (first : ℕ) (rest : List ℕ) → IsWithin (length rest + 1) (word_cut first rest)
word_cut_within first rest =
    let more = word_within (opened_behind 0 first) rest in
    elim (is_plain first) as (λ t. IsWithin (length rest + 1)
    (cond t (Take (word_length (opened_behind 0 first) rest + 1) Word) (Take (length rest + 1) Bad)))
    [ true ↦ (omega arith, omega arith) | false ↦ (omega arith, omega arith) ]

pub no_comment : (first : ℕ) (rest : List ℕ) → comment_at OpenNote first rest ≡ None → begins_comment first rest ≡ false
no_comment first rest none = by (first == slash) (begins_with slash rest) (begins_with star rest) none
  where
    by : (slanted line block : Bool)
        → cond slanted (cond line (Some (Skip (line_length rest))) (cond block (Some (comment_cut slash OpenNote (drop 1 rest))) None)) None
        ≡ None → (slanted && (block || line)) ≡ false
    by false line block none = refl
    by true true block none = absurd (cc)
    by true false true none = absurd (cc)
    by true false false none = refl

other_within : (first : ℕ) (rest : List ℕ) (mark : Option Kind) → mark_of first ≡ mark → begins_comment first rest ≡ false
    → IsWithin (length rest + 1) (mark_or_word first rest mark)
other_within first rest (Some kind) is no_begin = (omega arith, omega arith)
other_within first rest None is no_begin =
    subst (IsWithin (length rest + 1)) (sym (word_or_bad (is_plain first) first rest refl no_begin (no_mark first is)))
    (word_cut_within first rest)

pub cut_within : (first : ℕ) (rest : List ℕ) → IsWithin (length rest + 1) (cut_at first rest)
unfolding cut_at
cut_within first rest =
    by (is_blank first) (first == quote) (first == backslash)
    (quoted_within Quoted OpenQuoted NextQuote rest)
    (backslash_within rest (continuation rest)
    (continued_within rest (position ends_gap rest) (λ i e. (position-Some ends_gap rest i 0 e).0)))
    (comment_or_within OpenNote first rest (mark_or_word first rest (mark_of first))
    (λ none. other_within first rest (mark_of first) refl (no_comment first rest none)))
  where
    by : (blank text gap : Bool)
        → IsWithin (length rest + 1) (quoted_cut NextQuote Quoted OpenQuoted rest)
        → IsWithin (length rest + 1) (backslash_cut rest (continuation rest))
        → IsWithin (length rest + 1) (unwrap_or (comment_at OpenNote first rest) (mark_or_word first rest (mark_of first)))
        → IsWithin (length rest + 1)
        (cond blank (Skip 1) (cond text (quoted_cut NextQuote Quoted OpenQuoted rest) (cond gap (backslash_cut rest (continuation rest))
        (unwrap_or (comment_at OpenNote first rest) (mark_or_word first rest (mark_of first))))))
    by true text gap quoted goes other = (omega arith, omega arith)
    by false true gap quoted goes other = quoted
    by false false true quoted goes other = goes
    by false false false quoted goes other = other
