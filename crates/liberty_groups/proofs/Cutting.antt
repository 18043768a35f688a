-- What stands at the front of some bytes, by their first byte.
use Rattle.std.proofs.Common.{◌≡◌, ℕ, zero, suc, ◌+◌, ◌-◌, ◌<◌, ◌≤◌, Bool, true, false, cond, not, ◌&&◌, ◌||◌, ◌==◌, nat_le, nat_lt, List, length, drop, get_or, Option, Some, None, refl, sym, ap, ap₂, ◌∙◌, subst, arith}
use Rattle.std.proofs.lemmas.Bool.{leb-true, le-leb}
use Rattle.std.specs.Prelude.{unwrap_or}
use Rattle.edge_io.specs.Bytes.{quote, left_paren, right_paren, star, comma, slash, colon, semicolon, left_bracket, backslash, right_bracket, left_brace, right_brace, begins_with}
use Rattle.token_texts.specs.Blanks.{is_blank}
use Rattle.token_texts.specs.ByteLemmas.{not_byte}
use Rattle.token_texts.specs.Comments.{line_length, comment_cut, comment_at}
use Rattle.token_texts.specs.Quoted.{quoted_to, quoted_cut}
use Rattle.token_texts.specs.QuotedLemmas.{EndSoFar, end_begins, end_goes_on, end_found}
use Rattle.memchr.specs.Find.{IsFirstByte, is_byte}
use Rattle.token_texts.specs.declared.quoted.Escape.TheVariants.{NextQuote}
use Rattle.liberty_groups.specs.Cuts.{word_cut, is_simple, is_behind_backslash}
use Rattle.liberty_groups.specs.Tokens.{is_plain, is_mark, mark_of, opened_behind, word_length, continuation, backslash_cut, mark_or_word, cut_at}
use Rattle.liberty_groups.specs.declared.scan.Kind.{Kind}
use Rattle.liberty_groups.specs.declared.scan.Kind.TheVariants.{Word, Quoted, LeftParen, RightParen, LeftBrace, RightBrace, Colon, Semicolon, Comma, Bad, OpenQuoted, OpenNote}
use Rattle.token_texts.specs.declared.cuts.Cut.{Cut}
use Rattle.token_texts.specs.declared.cuts.Cut.TheVariants.{Skip, Take}
use Rattle.liberty_groups.specs.Within.{word_or_bad, no_mark, no_comment}
use Rattle.liberty_groups.proofs.Runs.{all_five, simple_opens_none}

pub cut_blank : (first : ℕ) (rest : List ℕ) → is_blank first ≡ true → cut_at first rest ≡ Skip 1
unfolding cut_at
cut_blank first rest p = simp p

pub cut_quote : (rest : List ℕ) → cut_at quote rest ≡ quoted_cut NextQuote Quoted OpenQuoted rest
unfolding cut_at
cut_quote rest = refl

pub cut_backslash : (rest : List ℕ) → cut_at backslash rest ≡ backslash_cut rest (continuation rest)
unfolding cut_at
cut_backslash rest = refl

-- a comment, or a mark or a word
pub cut_other : (first : ℕ) (rest : List ℕ) (comment : Option (Cut Kind)) → is_blank first ≡ false → (first == quote) ≡ false
    → (first == backslash) ≡ false → comment_at OpenNote first rest ≡ comment
    → cut_at first rest ≡ unwrap_or comment (mark_or_word first rest (mark_of first))
unfolding cut_at
cut_other first rest comment p q r is =
    simp (p, q, r) (ap (λ (c : Option (Cut Kind)). unwrap_or c (mark_or_word first rest (mark_of first))) is)

pub cut_mark : (first : ℕ) (rest : List ℕ) (kind : Kind) → is_blank first ≡ false → (first == quote) ≡ false
    → (first == backslash) ≡ false → comment_at OpenNote first rest ≡ None → mark_of first ≡ Some kind → cut_at first rest ≡ Take 1 kind
cut_mark first rest kind p q r none is = cut_other first rest None p q r none ∙ ap (mark_or_word first rest) is

pub cut_word : (first : ℕ) (rest : List ℕ) → is_blank first ≡ false → (first == quote) ≡ false → (first == backslash) ≡ false
    → comment_at OpenNote first rest ≡ None → mark_of first ≡ None → cut_at first rest ≡ word_cut first rest
cut_word first rest p q r none is =
    cut_other first rest None p q r none ∙ ap (mark_or_word first rest) is
    ∙ word_or_bad (is_plain first) first rest refl (no_comment first rest none) (no_mark first is)

-- ---- a word that begins with a simple byte

all_four : (a b q s : Bool) → (a && b && not q && not s) ≡ true → (a ≡ true) × (b ≡ true) × (q ≡ false) × (s ≡ false)
all_four true true false false e = (refl, refl, refl, refl)
all_four true true false true e = cc
all_four true true true s e = cc
all_four true false q s e = cc
all_four false b q s e = cc

not_at_most : (a b : ℕ) → b < a → nat_le a b ≡ false
not_at_most a b lt = by (nat_le a b) refl
  where
    by : (t : Bool) → nat_le a b ≡ t → nat_le a b ≡ false
    by true e = let le = leb-true a b e in absurd (omega arith)
    by false e = e

neither : (x : Bool) → ((x && false) || false) ≡ false
neither true = refl
neither false = refl

no_blank : (first : ℕ) → 33 ≤ first → is_blank first ≡ false
no_blank first le =
    let high = not_at_most first 13 (omega arith) in
    let other = not_byte first 32 (λ same. omega (arith, le, same)) in
    ap₂ (λ x y. (nat_le 9 first && x) || y) high other ∙ neither (nat_le 9 first)

no_kind : (a b c d e f g : Bool) → (a || b || c || d || e || f || g) ≡ false
    → cond a (Some LeftParen) (cond b (Some RightParen)
    (cond c (Some LeftBrace) (cond d (Some RightBrace) (cond e (Some Colon) (cond f (Some Semicolon) (cond g (Some Comma) None)))))) ≡ None
no_kind false false false false false false false h = refl
no_kind true b c d e f g h = cc
no_kind false true c d e f g h = cc
no_kind false false true d e f g h = cc
no_kind false false false true e f g h = cc
no_kind false false false false true f g h = cc
no_kind false false false false false true g h = cc
no_kind false false false false false false true h = cc

not_a_mark : (first : ℕ) → is_mark first ≡ false → mark_of first ≡ None
not_a_mark first e = no_kind (first == left_paren) (first == right_paren) (first == left_brace) (first == right_brace) (first == colon)
    (first == semicolon) (first == comma) e

not_slanted : (first : ℕ) (rest : List ℕ) → (first == slash) ≡ false → comment_at OpenNote first rest ≡ None
not_slanted first rest e =
    ap (λ t. cond t (cond (begins_with slash rest) (Some (Skip (line_length rest)))
    (cond (begins_with star rest) (Some (comment_cut slash OpenNote (drop 1 rest))) None)) None) e

pub cut_simple : (first : ℕ) (rest : List ℕ) → is_simple first ≡ true → cut_at first rest ≡ Take (word_length 0 rest + 1) Word
cut_simple first rest e =
    let is = all_five (is_plain first) (is_mark first) (first == slash) (first == left_bracket) (first == right_bracket) e in
    let plain = all_four (nat_le 33 first) (nat_le first 126) (first == quote) (first == backslash) is.0 in
    cut_word first rest (no_blank first (leb-true 33 first plain.0)) plain.2 plain.3 (not_slanted first rest is.2) (not_a_mark first is.1)
    ∙ ap (λ t. cond t (Take (word_length (opened_behind 0 first) rest + 1) Word) (Take (length rest + 1) Bad)) is.0
    ∙ ap (λ n. Take (word_length n rest + 1) Word) (simple_opens_none 0 first e)

-- ---- a text that ends at its first quote

not_true : (b : Bool) → (b ≡ true → ⊥) → b ≡ false
not_true true h = absurd (h refl)
not_true false h = refl

behind_byte : (whole : List ℕ) (k : ℕ) → is_behind_backslash whole (suc k) ≡ (get_or whole k 0 == backslash)
behind_byte whole k =
    let some : nat_lt 0 (suc k) ≡ true = le-leb 1 (suc k) (omega arith) in
    let before : suc k - 1 ≡ k = omega arith in
    ap₂ (λ t n. t && (get_or whole n 0 == backslash)) some before

-- so many bytes of which none is a quote
no_quote_yet : (whole : List ℕ) (k : ℕ) → k ≤ length whole → ((j : ℕ) → j < k → (get_or whole j 0 == quote) ≡ false)
    → EndSoFar NextQuote whole (is_behind_backslash whole k) k
no_quote_yet whole zero le none = end_begins NextQuote whole
no_quote_yet whole (suc k) le none =
    let before = no_quote_yet whole k (omega (arith, le)) (λ j lt. none j (omega (arith, lt))) in
    let on = end_goes_on NextQuote whole (is_behind_backslash whole k) k before (omega (arith, le))
    (ap (λ t. t && not (is_behind_backslash whole k)) (none k (omega arith))) in
    subst (λ t. EndSoFar NextQuote whole t (suc k)) (sym (behind_byte whole k))
    (subst (EndSoFar NextQuote whole (get_or whole k 0 == backslash)) (omega arith) on)

pub first_quote : (whole : List ℕ) (place : ℕ) → IsFirstByte (is_byte quote) whole (Some place) → is_behind_backslash whole place ≡ false
    → quoted_cut NextQuote Quoted OpenQuoted whole ≡ Take (place + 2) Quoted
first_quote whole place first bare =
    let lt = first.0.high in
    let before = no_quote_yet whole place (omega arith) (λ j below. not_true _ (first.0.before j (omega arith) below)) in
    let here = subst (λ t. EndSoFar NextQuote whole t place) bare before in
    let ends = ap (λ t. t && true) first.1 in
    ap (quoted_to Quoted OpenQuoted whole) (end_found NextQuote whole false place here lt ends)
