-- What stands at the front of some bytes, by their first byte, and that it has a byte, and none past the end.
use Rattle.std.proofs.Common.{◌≡◌, ℕ, zero, suc, ◌+◌, ◌-◌, ◌<◌, ◌≤◌, Bool, true, false, cond, ◌||◌, ◌==◌, List, [], ◌∷◌, length, drop, length-drop, refl, sym, ap, subst, arith, true≢false}
use Rattle.edge_io.specs.Bytes.{left_paren, right_paren, star, slash, backslash, begins_with}
use Rattle.token_texts.specs.Blanks.{is_blank}
use Rattle.token_texts.specs.Comments.{line_length, comment_cut}
use Rattle.token_texts.specs.Runs.{run_length}
use Rattle.token_texts.specs.CommentLemmas.{line_within, comment_within, comment_or_within}
use Rattle.token_texts.specs.RunLemmas.{run_more, run_within}
use Rattle.token_texts.specs.Cuts.{IsWithin}
use Rattle.verilog_netlist.specs.Tokens.{is_digit, is_letter, underscore, dollar, backquote, begins_name, goes_on_name, is_visible, is_constant_digit, is_sign, is_base, and_before, based_length, signed_length, constant_length, word_cut, number_cut_at, number_cut, ends_escaped, escaped_cut_at, escaped_cut, slash_cut, paren_cut, mark_kind, cut_at}
use Rattle.verilog_netlist.specs.declared.kinds.Kind.{Kind}
use Rattle.verilog_netlist.specs.declared.kinds.Kind.TheVariants as kind
use Rattle.token_texts.specs.declared.cuts.Cut.{Cut}
use Rattle.token_texts.specs.declared.cuts.Cut.TheVariants.{Skip, Take}

pub cut_blank : (first : ℕ) (rest : List ℕ) → is_blank first ≡ true → cut_at first rest ≡ Skip 1
unfolding cut_at
cut_blank first rest p = simp p

pub cut_name : (first : ℕ) (rest : List ℕ) → is_blank first ≡ false → begins_name first ≡ true → cut_at first rest ≡ word_cut (first ∷ rest)
unfolding cut_at
cut_name first rest p q = simp (p, q)

pub cut_digit : (first : ℕ) (rest : List ℕ) → is_blank first ≡ false → begins_name first ≡ false → is_digit first ≡ true → cut_at first rest ≡ number_cut (first ∷ rest)
unfolding cut_at
cut_digit first rest p q r = simp (p, q, r)

pub cut_backslash : (rest : List ℕ) → cut_at backslash rest ≡ escaped_cut rest
unfolding cut_at
cut_backslash rest = refl

pub cut_directive : (rest : List ℕ) → cut_at backquote rest ≡ Skip (line_length rest)
unfolding cut_at
cut_directive rest = refl

pub cut_slash : (rest : List ℕ) → cut_at slash rest ≡ slash_cut rest
unfolding cut_at
cut_slash rest = refl

pub cut_paren : (rest : List ℕ) → cut_at left_paren rest ≡ paren_cut rest
unfolding cut_at
cut_paren rest = refl

pub cut_mark : (first : ℕ) (rest : List ℕ) → is_blank first ≡ false → begins_name first ≡ false → is_digit first ≡ false
    → (first == backslash) ≡ false → (first == backquote) ≡ false → (first == slash) ≡ false → (first == left_paren) ≡ false → cut_at first rest ≡ Take 1 (mark_kind first)
unfolding cut_at
cut_mark first rest p q r s t u v = simp (p, q, r, s, t, u, v)

-- a letter or `_` goes on with a name
name_goes_on : (byte : ℕ) → begins_name byte ≡ true → goes_on_name byte ≡ true
name_goes_on byte h = by (is_letter byte) (is_digit byte) (byte == underscore) (byte == dollar) h
  where
    by : (letter digit line sign : Bool) → (letter || line) ≡ true → (letter || digit || line || sign) ≡ true
    by true digit line sign h = refl
    by false true line sign h = refl
    by false false true sign h = refl
    by false false false sign h = absurd (true≢false (sym h))

before_within : (n m k : ℕ) → m ≤ k → and_before n m ≤ n + k
before_within n zero k le = omega arith
before_within n (suc m) k le = omega arith

based_within : (bytes : List ℕ) → based_length bytes ≤ length bytes
based_within [] = omega arith
based_within (byte ∷ rest) =
    let more = before_within 1 (run_length is_constant_digit rest) (length rest) (run_within is_constant_digit rest) in
    elim (is_base byte) as (λ t. cond t (and_before 1 (run_length is_constant_digit rest)) 0 ≤ suc (length rest)) [ true ↦ omega arith | false ↦ omega arith ]

signed_within : (bytes : List ℕ) → signed_length bytes ≤ length bytes
signed_within [] = omega arith
signed_within (byte ∷ rest) =
    let signed = before_within 1 (based_length rest) (length rest) (based_within rest) in
    let plain = based_within (byte ∷ rest) in
    elim (is_sign byte) as (λ t. cond t (and_before 1 (based_length rest)) (based_length (byte ∷ rest)) ≤ suc (length rest)) [ true ↦ omega arith | false ↦ plain ]

constant_within : (bytes : List ℕ) → constant_length bytes ≤ length bytes
unfolding constant_length
constant_within [] = omega arith
constant_within (byte ∷ rest) =
    let more = before_within 1 (signed_length rest) (length rest) (signed_within rest) in
    elim (byte == 39) as (λ t. cond t (and_before 1 (signed_length rest)) 0 ≤ suc (length rest)) [ true ↦ omega arith | false ↦ omega arith ]

some_run : (is_in : ℕ → Bool) (first : ℕ) (rest : List ℕ) → is_in first ≡ true → 0 < run_length is_in (first ∷ rest)
some_run is_in first rest h = let one = run_more is_in first rest h in omega arith

word_within : (first : ℕ) (rest : List ℕ) → begins_name first ≡ true → IsWithin (length rest + 1) (word_cut (first ∷ rest))
word_within first rest h =
    let some = some_run goes_on_name first rest (name_goes_on first h) in
    let le = run_within goes_on_name (first ∷ rest) in
    (omega arith, omega arith)

number_at_within : (bytes : List ℕ) (digits more size : ℕ) → 0 < digits → digits + more ≤ size → IsWithin size (number_cut_at bytes digits more)
number_at_within bytes digits zero size some le = (omega arith, omega arith)
number_at_within bytes digits (suc more) size some le = (omega arith, omega arith)

number_within : (first : ℕ) (rest : List ℕ) → is_digit first ≡ true → IsWithin (length rest + 1) (number_cut (first ∷ rest))
number_within first rest h =
    let digits : ℕ = run_length is_digit (first ∷ rest) in
    let some = some_run is_digit first rest h in
    let le : digits ≤ suc (length rest) = run_within is_digit (first ∷ rest) in
    let left : length (drop digits (first ∷ rest)) ≡ length (first ∷ rest) - digits = length-drop digits (first ∷ rest) in
    let more = constant_within (drop digits (first ∷ rest)) in
    number_at_within (first ∷ rest) digits (constant_length (drop digits (first ∷ rest))) (length rest + 1) some (omega arith)

escaped_at_within : (rest : List ℕ) (n : ℕ) → n ≤ length rest → IsWithin (length rest + 1) (escaped_cut_at rest n)
escaped_at_within rest zero le = (omega arith, omega arith)
escaped_at_within rest (suc n) le = by (ends_escaped (drop (suc n) rest))
  where
    by : (t : Bool) → IsWithin (length rest + 1) (cond t (Take (suc n + 1) kind.Name) (Take 1 kind.Bad))
    by true = (omega arith, omega arith)
    by false = (omega arith, omega arith)

slash_within : (rest : List ℕ) → IsWithin (length rest + 1) (slash_cut rest)
slash_within rest = comment_or_within kind.Bad slash rest (Take 1 kind.Bad) (λ none. (omega arith, omega arith))

paren_within : (rest : List ℕ) → IsWithin (length rest + 1) (paren_cut rest)
paren_within rest = by (begins_with star rest) (comment_within kind.Bad right_paren rest)
  where
    by : (attribute : Bool) → (attribute ≡ true → IsWithin (length rest + 1) (comment_cut right_paren kind.Bad (drop 1 rest)))
        → IsWithin (length rest + 1) (cond attribute (comment_cut right_paren kind.Bad (drop 1 rest)) (Take 1 kind.LeftParen))
    by true inside = inside refl
    by false inside = (omega arith, omega arith)

pub cut_within : (first : ℕ) (rest : List ℕ) → IsWithin (length rest + 1) (cut_at first rest)
unfolding cut_at
cut_within first rest =
    by (is_blank first) (begins_name first) (is_digit first) (first == backslash) (first == backquote) (first == slash) (first == left_paren)
    (word_within first rest) (number_within first rest)
  where
    by : (blank name digit escape directive slanted paren : Bool)
        → (name ≡ true → IsWithin (length rest + 1) (word_cut (first ∷ rest)))
        → (digit ≡ true → IsWithin (length rest + 1) (number_cut (first ∷ rest)))
        → IsWithin (length rest + 1) (cond blank (Skip 1) (cond name (word_cut (first ∷ rest)) (cond digit (number_cut (first ∷ rest)) (cond escape (escaped_cut rest) (cond directive (Skip (line_length rest)) (cond slanted (slash_cut rest) (cond paren (paren_cut rest) (Take 1 (mark_kind first)))))))))
    by true name digit escape directive slanted paren word number = (omega arith, omega arith)
    by false true digit escape directive slanted paren word number = word refl
    by false false true escape directive slanted paren word number = number refl
    by false false false true directive slanted paren word number = escaped_at_within rest (run_length is_visible rest) (run_within is_visible rest)
    by false false false false true slanted paren word number = line_within rest
    by false false false false false true paren word number = slash_within rest
    by false false false false false false true word number = paren_within rest
    by false false false false false false false word number = (omega arith, omega arith)

pub within_of : (first : ℕ) (rest bytes : List ℕ) (cut : Cut Kind) → bytes ≡ first ∷ rest → cut ≡ cut_at first rest → IsWithin (length bytes) cut
within_of first rest bytes cut parts e =
    let size : length rest + 1 ≡ length bytes = let l : length bytes ≡ length (first ∷ rest) = ap length parts in omega arith in
    subst (λ (n : ℕ). IsWithin n cut) size (subst (IsWithin (length rest + 1)) (sym e) (cut_within first rest))
