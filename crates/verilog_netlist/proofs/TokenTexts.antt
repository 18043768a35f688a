-- The text of a token that is not bad has a byte.
use Rattle.std.proofs.Common.{◌≡◌, ◌≢◌, ℕ, zero, suc, ◌+◌, ◌-◌, ◌<◌, ◌≤◌, Bool, true, false, List, [], ◌∷◌, length, drop, All, refl, sym, ap, ◌∙◌, subst, arith, true≢false, length-drop}
use Rattle.std.specs.Prelude.{◌==◌, if◌then◌else◌}
use Rattle.std.proofs.lemmas.Bool.Decides.{Decides-eqb}
use Rattle.std.proofs.lemmas.List.{drop-drop, length-take}
use Rattle.std.proofs.lemmas.List.Elements.{All-nil, All-cons}
use Rattle.edge_io.specs.Bytes.{backslash}
use Rattle.token_texts.specs.Runs.{run_length}
use Rattle.token_texts.specs.RunLemmas.{run_within}
use Rattle.token_texts.specs.Spans.{text_at}
use Rattle.token_texts.specs.declared.spans.Span.{Span}
use Rattle.token_texts.specs.Cuts.{IsWithin}
use Rattle.verilog_netlist.specs.Tokens.{Lexeme, AreTokensFrom, end, skip, take_one, cut_at, escaped_cut_at, ends_escaped, is_visible, is_bad, span_of}
use Rattle.verilog_netlist.specs.declared.kinds.Kind.{Kind}
use Rattle.verilog_netlist.specs.declared.kinds.Kind.TheVariants as kind
use Rattle.token_texts.specs.declared.cuts.Cut.TheVariants.{Take}
use Rattle.verilog_netlist.proofs.Cutting.{cut_within, cut_backslash}

-- a byte of a text
has_byte : (text : List ℕ) → 0 < length text → text ≢ []
has_byte text some none = let no : length text ≡ 0 = ap length none in absurd (omega arith)

piece_has_byte : (bytes : List ℕ) (span : Span) → 0 < span.len → span.start < length bytes → text_at bytes span ≢ []
piece_has_byte bytes span some within =
    let taken = length-take span.len (drop span.start bytes) in
    let left = length-drop span.start bytes in
    has_byte (text_at bytes span) (omega arith)

-- the place of a token in a file, and what stands there
module _ (bytes : List ℕ) (start first : ℕ) (rest : List ℕ) (here : drop start bytes ≡ first ∷ rest) where
  place : start + suc (length rest) ≡ length bytes
  place = let left = length-drop start bytes in let parts : length (drop start bytes) ≡ suc (length rest) = ap length here in omega arith

  moved : (n : ℕ) → drop (start + n) bytes ≡ drop n (first ∷ rest)
  moved n = sym (drop-drop n start bytes) ∙ ap (drop n) here

  -- an escaped identifier
  escaped : (visible n : ℕ) (of : Kind) → visible ≤ length rest → escaped_cut_at rest visible ≡ Take n of → is_bad of ≡ false
      → text_at bytes (record { start = start + 1; len = n - 1 }) ≢ []
  escaped zero n of within cut good = absurd (let bad : kind.Bad ≡ of = cc in true≢false (ap is_bad bad ∙ good))
  escaped (suc more) n of within cut good = by (ends_escaped (drop (suc more) rest)) cut
    where
      by : (ends : Bool) → (if ends then Take (suc more + 1) kind.Name else Take 1 kind.Bad) ≡ Take n of
          → text_at bytes (record { start = start + 1; len = n - 1 }) ≢ []
      by true cut = let size : suc more + 1 ≡ n = cc in let at = place in
          piece_has_byte bytes (record { start = start + 1; len = n - 1 }) (omega arith) (omega arith)
      by false cut = absurd (let bad : kind.Bad ≡ of = cc in true≢false (ap is_bad bad ∙ good))

  -- any token
  token_has_byte : (n : ℕ) (of : Kind) → cut_at first rest ≡ Take n of → is_bad of ≡ false → text_at bytes (span_of first start n) ≢ []
  token_has_byte n of cut good = by (first == backslash) refl
    where
      by : (slashed : Bool) → (first == backslash) ≡ slashed
          → text_at bytes (if slashed then record { start = start + 1; len = n - 1 } else record { start = start; len = n }) ≢ []
      by true is =
          let first_is : first ≡ backslash = (Decides-eqb first backslash).0 is in
          escaped (run_length is_visible rest) n of (run_within is_visible rest)
          (sym (cut_backslash rest) ∙ ap (λ byte. cut_at byte rest) (sym first_is) ∙ cut) good
      by false is =
          let within : IsWithin (length rest + 1) (Take n of) = subst (IsWithin (length rest + 1)) cut (cut_within first rest) in
          let some = within.0 in let at = place in
          piece_has_byte bytes (record { start = start; len = n }) some (omega arith)

module _ (bytes : List ℕ) where
  abbrev pub HasByte : Lexeme → Type 0
  HasByte token = is_bad token.kind ≡ false → text_at bytes token.at ≢ []

  -- each token of a file from a place on
  pub tokens_have_bytes : (start : ℕ) (rest : List ℕ) (tokens : List Lexeme) → AreTokensFrom start rest tokens → drop start bytes ≡ rest
      → All HasByte tokens
  tokens_have_bytes start rest tokens end here = All-nil HasByte
  tokens_have_bytes start from tokens (skip {first = first} {rest = rest} n cut more) here =
      tokens_have_bytes (start + n) (drop n (first ∷ rest)) tokens more (moved bytes start first rest here n)
  tokens_have_bytes start from tokens (take_one {first = first} {rest = rest} {tokens = later} n of cut more) here =
      All-cons HasByte (record { kind = of; at = span_of first start n }) later (token_has_byte bytes start first rest here n of cut)
      (tokens_have_bytes (start + n) (drop n (first ∷ rest)) later more (moved bytes start first rest here n))
