-- The tokens among the parts of a file: how many they are, where they begin, and those behind others.
use Rattle.std.proofs.Common.{◌≡◌, ℕ, zero, suc, ◌+◌, Bool, false, ◌||◌, List, [], ◌∷◌, ◌++◌, length, refl, ap, ◌∙◌, arith}
use Rattle.std.specs.List.{slice_get}
use Rattle.token_texts.specs.Cuts.{Part, gap, token, lexemes, byte_count, place_behind}
use Rattle.liberty_groups.specs.Tokens.{Lexeme, said_by, breaks, tokens_from}
use Rattle.liberty_groups.specs.Causes.{place_of}
use Rattle.liberty_groups.specs.Leading.{fresh_behind}
use Rattle.liberty_groups.specs.declared.scan.Kind.{Kind}

pub as_many : (start : ℕ) (fresh : Bool) (parts : List (Part Kind)) → length (tokens_from start fresh parts) ≡ length (lexemes parts)
as_many start fresh [] = refl
as_many start fresh (gap bytes ∷ parts) = as_many (start + length bytes) (fresh || breaks bytes) parts
as_many start fresh (token t ∷ parts) = ap suc (as_many (start + length t.bytes) false parts)

-- the tokens of the parts behind others
pub tokens_behind : (start : ℕ) (fresh : Bool) (before more : List (Part Kind)) → tokens_from start fresh (before ++ more) ≡ tokens_from start fresh before ++ tokens_from (start + byte_count before) (fresh_behind fresh before) more
tokens_behind start fresh [] more = let e : start ≡ start + 0 = omega arith in ap (λ n. tokens_from n fresh more) e
tokens_behind start fresh (gap bytes ∷ before) more =
    let e : start + length bytes + byte_count before ≡ start + (length bytes + byte_count before) = omega arith in
    tokens_behind (start + length bytes) (fresh || breaks bytes) before more
    ∙ ap (λ n. tokens_from (start + length bytes) (fresh || breaks bytes) before ++ tokens_from n (fresh_behind (fresh || breaks bytes) before) more) e
tokens_behind start fresh (token t ∷ before) more =
    let e : start + length t.bytes + byte_count before ≡ start + (length t.bytes + byte_count before) = omega arith in
    let here : Lexeme = record { kind = t.kind; bytes = said_by t.kind t.bytes; fresh = fresh; start = start } in
    ap (λ l. here ∷ l)
    (tokens_behind (start + length t.bytes) false before more
    ∙ ap (λ n. tokens_from (start + length t.bytes) false before ++ tokens_from n (fresh_behind false before) more) e)

pub fresh_gap : (fresh : Bool) (before : List (Part Kind)) (bytes : List ℕ) → fresh_behind fresh (before ++ gap bytes ∷ []) ≡ (fresh_behind fresh before || breaks bytes)
fresh_gap fresh [] bytes = refl
fresh_gap fresh (gap first ∷ before) bytes = fresh_gap (fresh || breaks first) before bytes
fresh_gap fresh (token t ∷ before) bytes = fresh_gap false before bytes

pub fresh_token : (fresh : Bool) (before : List (Part Kind)) (last : Part Kind) (kind : Kind) (bytes : List ℕ) → last ≡ token (record { kind = kind; bytes = bytes }) → fresh_behind fresh (before ++ last ∷ []) ≡ false
fresh_token fresh [] last kind bytes is = ap (λ part. fresh_behind fresh (part ∷ [])) is
fresh_token fresh (gap first ∷ before) last kind bytes is = fresh_token (fresh || breaks first) before last kind bytes is
fresh_token fresh (token t ∷ before) last kind bytes is = fresh_token false before last kind bytes is

-- where the token begins that has so many before it, or where the file ends
pub begins_there : (bytes : List ℕ) (start : ℕ) (fresh : Bool) (parts : List (Part Kind)) (count : ℕ) → start + byte_count parts ≡ length bytes
    → place_of bytes (slice_get (tokens_from start fresh parts) count) ≡ start + place_behind count parts
begins_there bytes start fresh [] count e = omega arith
begins_there bytes start fresh (gap first ∷ parts) count e =
    begins_there bytes (start + length first) (fresh || breaks first) parts count (omega arith) ∙ omega arith
begins_there bytes start fresh (token t ∷ parts) zero e = omega arith
begins_there bytes start fresh (token t ∷ parts) (suc count) e =
    begins_there bytes (start + length t.bytes) false parts count (omega arith) ∙ omega arith
