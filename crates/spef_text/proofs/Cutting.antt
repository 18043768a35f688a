-- What stands at the front of some bytes, by their first byte.
use Rattle.std.proofs.Common.{◌≡◌, ℕ, suc, ◌+◌, ◌<◌, true, false, not, ◌==◌, List, [], ◌∷◌, length, drop, get_or, position, refl, sym, ap, ◌∙◌, subst, true≢false, arith}
use Rattle.std.proofs.Math.Seq.{drop-cons}
use Rattle.edge_io.specs.Bytes.{quote, star, slash, backslash, begins_with}
use Rattle.token_texts.specs.Blanks.{is_blank}
use Rattle.token_texts.specs.Comments.{line_length, comment_cut}
use Rattle.spef_text.specs.Tokens.{is_backslash, ends_text, is_solid, text_cut, run_length, cut_at}
use Rattle.spef_text.specs.Starts.{front_cut}
use Rattle.token_texts.specs.Cuts.{IsWithin, HasGapFirst}
use Rattle.token_texts.specs.declared.cuts.Cut.{Cut}
use Rattle.token_texts.specs.declared.cuts.Cut.TheVariants.{Skip, Take}
use Rattle.spef_text.specs.declared.scan.Kind.{Kind}
use Rattle.spef_text.specs.declared.scan.Kind.TheVariants.{Whole, Broken}
use Rattle.token_texts.specs.RunLemmas.{EscapedSoFar, escaped_stops}
use Rattle.spef_text.specs.Within.{run_plain, run_taking, cut_within}
use Rattle.spef_text.proofs.Runs.{run_goes_far}

pub cut_blank : (first : ℕ) (rest : List ℕ) → is_blank first ≡ true → cut_at first rest ≡ Skip 1
unfolding cut_at
cut_blank first rest p = simp p

pub cut_quote : (rest : List ℕ) → cut_at quote rest ≡ text_cut rest (position ends_text rest)
unfolding cut_at
cut_quote rest = refl

pub cut_line : (rest : List ℕ) → begins_with slash rest ≡ true → cut_at slash rest ≡ Skip (line_length rest)
unfolding cut_at
cut_line rest p = simp p

pub cut_comment : (rest : List ℕ) → begins_with slash rest ≡ false → begins_with star rest ≡ true → cut_at slash rest ≡ comment_cut slash Broken (drop 1 rest)
unfolding cut_at
cut_comment rest p q = simp (p, q)

pub cut_slash : (rest : List ℕ) → begins_with slash rest ≡ false → begins_with star rest ≡ false → cut_at slash rest ≡ Take (run_length rest + 1) Whole
unfolding cut_at
cut_slash rest p q = simp (p, q) (ap (λ n. Take n Whole) (run_plain slash rest refl refl))

pub cut_backslash_last : (rest : List ℕ) → length rest ≡ 0 → cut_at backslash rest ≡ Take (length rest + 1) Broken
unfolding cut_at
cut_backslash_last [] p = refl
cut_backslash_last (b ∷ rest) p = absurd (omega arith)

pub cut_backslash : (rest : List ℕ) → 0 < length rest → cut_at backslash rest ≡ Take (run_length (drop 1 rest) + 2) Whole
unfolding cut_at
cut_backslash [] p = absurd (omega arith)
cut_backslash (b ∷ rest) p = ap (λ n. Take n Whole) (run_taking backslash b rest refl)

pub cut_run : (first : ℕ) (rest : List ℕ) → is_blank first ≡ false → (first == quote) ≡ false → (first == slash) ≡ false → (first == backslash) ≡ false → cut_at first rest ≡ Take (run_length rest + 1) Whole
unfolding cut_at
cut_run first rest p q r s = simp (p, q, r, s) (ap (λ n. Take n Whole) (run_plain first rest s p))

-- a run of plain bytes that has a byte, and neither a text nor a comment, where a blank ends it
run_cut : (bytes : List ℕ) (n : ℕ) → 0 < n → n < length bytes
    → ((k : ℕ) → k < n → (is_blank (get_or bytes (0 + k) 0) ≡ false) × (is_backslash (get_or bytes (0 + k) 0) ≡ false))
    → (get_or bytes 0 0 == quote) ≡ false → (get_or bytes 0 0 == slash) ≡ false → is_blank (get_or bytes n 0) ≡ true → front_cut bytes ≡ Take n Whole
run_cut [] n some below plain no_text no_comment blank = absurd (omega arith)
run_cut (first ∷ rest) n some below plain no_text no_comment blank =
    let begun : EscapedSoFar is_solid (first ∷ rest) 0 = record { within = omega arith; so_far = omega arith } in
    let far : EscapedSoFar is_solid (first ∷ rest) n = subst (EscapedSoFar is_solid (first ∷ rest)) (omega arith) (run_goes_far (first ∷ rest) 0 n begun (omega arith) plain) in
    let size = escaped_stops is_solid (first ∷ rest) n far below (λ e. true≢false (sym blank ∙ ap is_blank e)) (ap not blank) in
    cut_run first rest (plain 0 some).0 no_text no_comment (plain 0 some).1 ∙ ap (λ k. Take k Whole) (sym (run_plain first rest (plain 0 some).1 (plain 0 some).0) ∙ sym size)

-- the same by its first byte
pub short_cut : (bytes : List ℕ) (first n : ℕ) → get_or bytes 0 0 ≡ first → 0 < n → n < length bytes
    → ((k : ℕ) → k < n → (is_blank (get_or bytes (0 + k) 0) ≡ false) × (is_backslash (get_or bytes (0 + k) 0) ≡ false))
    → (first == quote) ≡ false → (first == slash) ≡ false → is_blank (get_or bytes n 0) ≡ true → front_cut bytes ≡ Take n Whole
short_cut bytes first n front some below plain no_text no_comment blank =
    run_cut bytes n some below plain (ap (λ b. b == quote) front ∙ no_text) (ap (λ b. b == slash) front ∙ no_comment) blank

-- a blank is passed over by itself
pub gap_there : (bytes : List ℕ) (n : ℕ) → n < length bytes → is_blank (get_or bytes n 0) ≡ true → HasGapFirst cut_at (drop n bytes)
gap_there bytes n below blank = subst (HasGapFirst cut_at) (sym (drop-cons bytes n 0 below)) (cut_blank (get_or bytes n 0) (drop (suc n) bytes) blank)

-- a cut has a byte, and none past the end
pub cut_within_bytes : (bytes : List ℕ) (first : ℕ) (rest : List ℕ) (cut : Cut Kind) → bytes ≡ first ∷ rest → cut ≡ cut_at first rest
    → IsWithin (length bytes) cut
cut_within_bytes bytes first rest cut parts is =
    let size : length rest + 1 ≡ length bytes = let e = ap length parts in omega arith in
    subst (λ (c : Cut Kind). IsWithin (length bytes) c) (sym is) (subst (λ (n : ℕ). IsWithin n (cut_at first rest)) size (cut_within first rest))
