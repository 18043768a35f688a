-- Given bytes have only one list of tokens.
use Rattle.std.proofs.Common.{◌≡◌, ℕ, ◌+◌, List, ◌∷◌, drop, refl, ap, ◌∙◌, sym, subst}
use Rattle.verilog_netlist.specs.Tokens.{Lexeme, span_of, AreTokensFrom, end, skip, take_one, AreTokens}
use Rattle.verilog_netlist.specs.declared.kinds.Kind.{Kind}

one_tokens : {start : ℕ} {bytes : List ℕ} {some other : List Lexeme} → AreTokensFrom start bytes some → AreTokensFrom start bytes other → some ≡ other
one_tokens end end = refl
one_tokens (skip {start = s} {first = f} {rest = r} n cut are) (skip {tokens = other} k same others) =
    let e : k ≡ n = cc in
    one_tokens are (subst (λ (m : ℕ). AreTokensFrom (s + m) (drop m (f ∷ r)) other) e others)
one_tokens (skip n cut are) (take_one k kind same others) = absurd (cc)
one_tokens (take_one n kind cut are) (skip k same others) = absurd (cc)
one_tokens (take_one {start = s} {first = f} {rest = r} {tokens = some} n kind cut are) (take_one {tokens = other} k kind' same others) =
    let e : k ≡ n = cc in
    let e' : kind ≡ kind' = cc in
    let rest : some ≡ other = one_tokens are (subst (λ (m : ℕ). AreTokensFrom (s + m) (drop m (f ∷ r)) other) e others) in
    ap (λ l. record { kind = kind; at = span_of f s n } ∷ l) rest
    ∙ ap (λ (x : Kind). record { kind = x; at = span_of f s n } ∷ other) e'
    ∙ ap (λ (m : ℕ). record { kind = kind'; at = span_of f s m } ∷ other) (sym e)

pub one_parting : (bytes : List ℕ) (some other : List Lexeme) → AreTokens bytes some → AreTokens bytes other → some ≡ other
one_parting bytes some other are others = one_tokens are others
