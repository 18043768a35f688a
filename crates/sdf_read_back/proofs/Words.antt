-- The tokens of texts, piece by piece.
use Rattle.std.proofs.Common.{◌≡◌, ℕ, suc, ◌+◌, ◌<◌, ◌≤◌, Bool, true, false, not, ◌&&◌, ◌||◌, ◌==◌, nat_le, List, [], ◌∷◌, ◌++◌, length, refl, sym, ap, ◌∙◌, subst, arith, append_assoc}
use Rattle.std.specs.List.{list_all}
use Rattle.std.proofs.Math.Seq.{take-append_seam, drop-append_seam}
use Rattle.std.proofs.lemmas.Bool.{le-leb, leb-true}
use Rattle.edge_io.specs.Bytes.{begins_with}
use Rattle.token_texts.specs.Blanks.{is_blank}
use Rattle.token_texts.specs.CutLemmas.{skip, take_one}
use Rattle.token_texts.specs.RunLemmas.{escaped_more, escaped_none, escaped_taking}
use Rattle.sdf_reader.specs.Tokens.{is_plain, word_length, word_cut, cut_at, Lexeme, AreTokens}
use Rattle.sdf_reader.specs.declared.scan.Kind.TheVariants.{LeftParen, RightParen, Word}
use Rattle.token_texts.specs.declared.cuts.Cut.TheVariants.{Take}
use Rattle.sdf_read_back.proofs.TokenLists.{left, right, word}
use Rattle.sdf_reader.proofs.Cutting.{cut_blank, cut_left, cut_right, cut_slash, cut_word}
use Rattle.token_texts.specs.ByteLemmas.{not_byte}
use Rattle.sdf_reader.proofs.Clashes.{never_true, never_false}

-- ---- tokens

pub left_at : (rest : List ℕ) (others : List Lexeme) → AreTokens rest others → AreTokens (40 ∷ rest) (left ∷ others)
left_at rest others are = take_one 1 LeftParen (cut_left rest) are

pub right_at : (rest : List ℕ) (others : List Lexeme) → AreTokens rest others → AreTokens (41 ∷ rest) (right ∷ others)
right_at rest others are = take_one 1 RightParen (cut_right rest) are

pub space_at : (rest : List ℕ) (others : List Lexeme) → AreTokens rest others → AreTokens (32 ∷ rest) others
space_at rest others are = skip 1 (cut_blank 32 rest refl) are

pub line_at : (rest : List ℕ) (others : List Lexeme) → AreTokens rest others → AreTokens (10 ∷ rest) others
line_at rest others are = skip 1 (cut_blank 10 rest refl) are

-- ---- words

-- a word that reaches these bytes goes on over them
abbrev pub GoesOn : List ℕ → Type 0
GoesOn text = (rest : List ℕ) → word_length (text ++ rest) ≡ length text + word_length rest

pub nothing_goes_on : GoesOn []
nothing_goes_on rest = omega arith

pub both_go_on : (one other : List ℕ) → GoesOn one → GoesOn other → GoesOn (one ++ other)
both_go_on one other p q rest =
    let e = ap word_length (append_assoc one other rest) ∙ p (other ++ rest) in
    let f = q rest in
    let g = length_both one other in
    omega (arith, e, f, g)
  where
    length_both : (a b : List ℕ) → length (a ++ b) ≡ length a + length b
    length_both [] b = omega arith
    length_both (x ∷ a) b = let h = length_both a b in omega (arith, h)

-- a byte other than the backslash that a word goes on with
abbrev pub is_bare : ℕ → Bool
is_bare byte = is_plain byte && not (byte == 92)

pub bare_goes_on : (byte : ℕ) → is_plain byte ≡ true → (byte == 92) ≡ false → GoesOn (byte ∷ [])
bare_goes_on byte plain other rest = let e = escaped_more is_plain byte rest other plain in omega (arith, e)

pub taken_goes_on : (byte : ℕ) → GoesOn (92 ∷ byte ∷ [])
taken_goes_on byte rest = let e = escaped_taking is_plain 92 byte rest refl in omega (arith, e)

-- a byte that a word begins with, other than a slash and a backslash
pub record BeginsWord (byte : ℕ) : Type 0 where
  pub blank : is_blank byte ≡ false
  pub left : (byte == 40) ≡ false
  pub right : (byte == 41) ≡ false
  pub quote : (byte == 34) ≡ false
  pub slash : (byte == 47) ≡ false

-- the bytes are one word, whatever follows it
pub record IsWordText (text : List ℕ) : Type 0 where
  pub first : ℕ
  pub more : List ℕ
  pub splits : text ≡ first ∷ more
  pub begins : BeginsWord first
  pub goes_on : GoesOn text

pub word_and : (one other : List ℕ) → IsWordText one → GoesOn other → IsWordText (one ++ other)
word_and one other is goes = record {
  first = is.first;
  more = is.more ++ other;
  splits = ap (λ l. l ++ other) is.splits;
  begins = is.begins;
  goes_on = both_go_on one other is.goes_on goes;
}

-- The bytes are one word before a byte that no word goes on with, other than a slash and a star.
pub record IsWord (text : List ℕ) : Type 0 where
  pub first : ℕ
  pub more : List ℕ
  pub splits : text ≡ first ∷ more
  pub cut : (stop : ℕ) (rest : List ℕ) → (stop == 47) ≡ false → (stop == 42) ≡ false → cut_at first (more ++ stop ∷ rest) ≡ word_cut (first ∷ more ++ stop ∷ rest) (word_length (first ∷ more ++ stop ∷ rest))
  pub goes_on : GoesOn text

pub always_word : (text : List ℕ) → IsWordText text → IsWord text
always_word text is = record {
  first = is.first;
  more = is.more;
  splits = is.splits;
  cut = λ stop rest _ _. cut_word is.first (is.more ++ stop ∷ rest) is.begins.blank is.begins.left is.begins.right is.begins.quote is.begins.slash;
  goes_on = is.goes_on;
}

-- what begins with a slash, and neither with `//` nor with `/*`
pub slash_word : (more : List ℕ) → GoesOn (47 ∷ more) → ((stop : ℕ) (rest : List ℕ) → (stop == 47) ≡ false → (stop == 42) ≡ false → (begins_with 47 (more ++ stop ∷ rest) ≡ false) × (begins_with 42 (more ++ stop ∷ rest) ≡ false)) → IsWord (47 ∷ more)
slash_word more goes none = record {
  first = 47;
  more = more;
  splits = refl;
  cut = λ stop rest slash star. cut_slash (more ++ stop ∷ rest) (none stop rest slash star).0 (none stop rest slash star).1;
  goes_on = goes;
}

cut_there : (first : ℕ) (more : List ℕ) (stop : ℕ) (rest : List ℕ) → cut_at first (more ++ stop ∷ rest) ≡ word_cut (first ∷ more ++ stop ∷ rest) (word_length (first ∷ more ++ stop ∷ rest)) → GoesOn (first ∷ more) → is_plain stop ≡ false → (stop == 92) ≡ false
    → cut_at first (more ++ stop ∷ rest) ≡ Take (suc (length more)) Word
cut_there first more stop rest cut goes ends other =
    let none : word_length (stop ∷ rest) ≡ 0 = escaped_none is_plain stop rest other ends in
    let all : word_length (first ∷ more ++ stop ∷ rest) ≡ length (first ∷ more) + word_length (stop ∷ rest) = goes (stop ∷ rest) in
    let long : word_length (first ∷ more ++ stop ∷ rest) ≡ suc (length more) = omega (arith, none, all) in
    cut ∙ ap (word_cut (first ∷ more ++ stop ∷ rest)) long

word_here : (first : ℕ) (more : List ℕ) (stop : ℕ) (rest : List ℕ) (others : List Lexeme) → cut_at first (more ++ stop ∷ rest) ≡ word_cut (first ∷ more ++ stop ∷ rest) (word_length (first ∷ more ++ stop ∷ rest)) → GoesOn (first ∷ more) → is_plain stop ≡ false → (stop == 92) ≡ false
    → AreTokens (stop ∷ rest) others → AreTokens (first ∷ more ++ stop ∷ rest) (word (first ∷ more) ∷ others)
word_here first more stop rest others cut goes ends other are =
    subst (λ (t : List ℕ). AreTokens (first ∷ more ++ stop ∷ rest) (word t ∷ others)) (take-append_seam (first ∷ more) (stop ∷ rest))
    (take_one (suc (length more)) Word (cut_there first more stop rest cut goes ends other)
    (subst (λ (t : List ℕ). AreTokens t others) (sym (drop-append_seam (first ∷ more) (stop ∷ rest))) are))

word_at : (text : List ℕ) (stop : ℕ) (rest : List ℕ) (others : List Lexeme) → IsWord text → is_plain stop ≡ false → (stop == 92) ≡ false → (stop == 47) ≡ false → (stop == 42) ≡ false
    → AreTokens (stop ∷ rest) others → AreTokens (text ++ stop ∷ rest) (word text ∷ others)
word_at text stop rest others is ends other slash star are =
    subst (λ (t : List ℕ). AreTokens (t ++ stop ∷ rest) (word t ∷ others)) (sym is.splits)
    (word_here is.first is.more stop rest others (is.cut stop rest slash star) (subst GoesOn is.splits is.goes_on) ends other are)

-- a word with a space, with the end of a line, and with a parenthesis behind it
pub word_space : (text rest : List ℕ) (others : List Lexeme) → IsWord text → AreTokens rest others → AreTokens (text ++ 32 ∷ rest) (word text ∷ others)
word_space text rest others is are = word_at text 32 rest others is refl refl refl refl (space_at rest others are)

pub word_line : (text rest : List ℕ) (others : List Lexeme) → IsWord text → AreTokens rest others → AreTokens (text ++ 10 ∷ rest) (word text ∷ others)
word_line text rest others is are = word_at text 10 rest others is refl refl refl refl (line_at rest others are)

pub word_close : (text rest : List ℕ) (others : List Lexeme) → IsWord text → AreTokens rest others → AreTokens (text ++ 41 ∷ rest) (word text ∷ right ∷ others)
word_close text rest others is are = word_at text 41 rest (right ∷ others) is refl refl refl refl (right_at rest others are)

-- ---- plain words

pub both : (p q : Bool) → (p && q) ≡ true → (p ≡ true) × (q ≡ true)
both true true e = (refl, refl)
both true false e = never_true e
both false q e = never_true e

pub not_true : (p : Bool) → not p ≡ true → p ≡ false
not_true false e = refl
not_true true e = never_true e

pub bare_go_on : (text : List ℕ) → list_all is_bare text ≡ true → GoesOn text
bare_go_on [] all = nothing_goes_on
bare_go_on (byte ∷ text) all =
    let parts = both (is_bare byte) (list_all is_bare text) all in
    let own = both (is_plain byte) (not (byte == 92)) parts.0 in
    both_go_on (byte ∷ []) text (bare_goes_on byte own.0 (not_true (byte == 92) own.1)) (bare_go_on text parts.1)

-- bytes from 48 on
or_false : (p q : Bool) → p ≡ false → q ≡ false → (p || q) ≡ false
or_false false false e f = refl
or_false true q e f = never_false e
or_false false true e f = never_false f

and_false : (p q : Bool) → q ≡ false → (p && q) ≡ false
and_false true q e = e
and_false false q e = refl

past : (b n : ℕ) → n < b → nat_le b n ≡ false
past b n more = by (nat_le b n) refl
  where
    by : (t : Bool) → nat_le b n ≡ t → t ≡ false
    by true e = let le = leb-true b n e in absurd (omega (arith, le, more))
    by false e = refl

pub begins_from : (byte : ℕ) → 48 ≤ byte → BeginsWord byte
begins_from byte least = record {
  blank = or_false (nat_le 9 byte && nat_le byte 13) (byte == 32) (and_false (nat_le 9 byte) (nat_le byte 13) (past byte 13 (omega arith))) (not_byte byte 32 (λ e. omega (arith, e, least)));
  left = not_byte byte 40 (λ e. omega (arith, e, least));
  right = not_byte byte 41 (λ e. omega (arith, e, least));
  quote = not_byte byte 34 (λ e. omega (arith, e, least));
  slash = not_byte byte 47 (λ e. omega (arith, e, least));
}

pub bare_from : (byte : ℕ) → 48 ≤ byte → (byte == 92) ≡ false → is_plain byte ≡ true
bare_from byte least other =
    true_both (nat_le 33 byte) (not (byte == 40 || byte == 41 || byte == 34 || byte == 92)) (le-leb 33 byte (omega arith))
    (ap not (four (byte == 40) (byte == 41) (byte == 34) (byte == 92) (not_byte byte 40 (λ e. omega (arith, e, least))) (not_byte byte 41 (λ e. omega (arith, e, least))) (not_byte byte 34 (λ e. omega (arith, e, least))) other))
  where
    true_both : (p q : Bool) → p ≡ true → q ≡ true → (p && q) ≡ true
    true_both true q e f = f
    true_both false q e f = never_true e

    four : (a b c d : Bool) → a ≡ false → b ≡ false → c ≡ false → d ≡ false → (a || b || c || d) ≡ false
    four a b c d p q r s = or_false (a || b || c) d (or_false (a || b) c (or_false a b p q) r) s

-- ---- the words of a text that are the same in every one

abbrev pub is_high : ℕ → Bool
is_high byte = nat_le 48 byte && not (byte == 92)

abbrev pub is_high_word : List ℕ → Bool
is_high_word [] = false
is_high_word (byte ∷ bytes) = list_all is_high (byte ∷ bytes)

high_go_on : (text : List ℕ) → list_all is_high text ≡ true → GoesOn text
high_go_on [] all = nothing_goes_on
high_go_on (byte ∷ text) all =
    let parts = both (is_high byte) (list_all is_high text) all in
    let own = both (nat_le 48 byte) (not (byte == 92)) parts.0 in
    let other : (byte == 92) ≡ false = not_true (byte == 92) own.1 in
    both_go_on (byte ∷ []) text (bare_goes_on byte (bare_from byte (leb-true 48 byte own.0) other) other) (high_go_on text parts.1)

pub high_word : (text : List ℕ) → is_high_word text ≡ true → IsWord text
high_word [] all = never_true all
high_word (byte ∷ bytes) all =
    let parts = both (is_high byte) (list_all is_high bytes) all in
    let own = both (nat_le 48 byte) (not (byte == 92)) parts.0 in
    always_word (byte ∷ bytes) (record { first = byte; more = bytes; splits = refl; begins = begins_from byte (leb-true 48 byte own.0); goes_on = high_go_on (byte ∷ bytes) all })

-- a slash alone
pub slash_alone : IsWord (47 ∷ [])
slash_alone = slash_word [] (bare_goes_on 47 refl refl) (λ stop rest slash star. (slash, star))
