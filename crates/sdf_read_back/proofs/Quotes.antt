-- A text in quotation marks is one token, and says the text.
use Rattle.std.proofs.Common.{◌≡◌, ℕ, ◌+◌, ◌-◌, Bool, true, false, cond, ◌&&◌, ◌||◌, ◌==◌, List, [], ◌∷◌, ◌++◌, length, take, Option, Some, option_map, refl, sym, ap, ◌∙◌, subst, arith, append_assoc}
use Rattle.std.specs.List.{flat_map}
use Rattle.std.proofs.Math.Seq.{take-append_seam, drop-append_seam}
use Rattle.std.proofs.lemmas.List.{length-append}
use Rattle.token_texts.specs.Quoted.{quote_end, quoted_to}
use Rattle.token_texts.specs.declared.quoted.Escape.TheVariants.{NextByte}
use Rattle.token_texts.specs.CutLemmas.{take_one}
use Rattle.sdf_reader.specs.Tokens.{cut_at, Lexeme, AreTokens, said_behind, meaning}
use Rattle.sdf_reader.specs.declared.scan.Kind.TheVariants.{Quoted, OpenQuoted}
use Rattle.token_texts.specs.declared.cuts.Cut.TheVariants.{Take}
use Rattle.sdf_reader.proofs.Cutting.{cut_quote}
use Rattle.sdf_writer.specs.SdfText.{escaped, quoted}
use Rattle.sdf_read_back.proofs.TokenLists.{text_token}

-- the bytes within the marks
abbrev inner : List ℕ → List ℕ
inner text = flat_map escaped text

abbrev next : Option ℕ → Option ℕ
next found = option_map (λ place. place + 1) found

-- a byte that stands as it is, and one behind a backslash
end_plain : (byte : ℕ) (rest : List ℕ) → (byte == 34) ≡ false → (byte == 92) ≡ false → quote_end NextByte false (byte ∷ rest) ≡ next (quote_end NextByte false rest)
unfolding quote_end
end_plain byte rest p q =
    ap (λ t. cond (t && true) (Some 0) (next (quote_end NextByte (byte == 92 && true) rest))) p
    ∙ ap (λ t. next (quote_end NextByte (t && true) rest)) q

and_false : (p : Bool) → (p && false) ≡ false
and_false true = refl
and_false false = refl

end_taken : (byte : ℕ) (rest : List ℕ) → quote_end NextByte true (byte ∷ rest) ≡ next (quote_end NextByte false rest)
unfolding quote_end
end_taken byte rest =
    ap (λ t. cond t (Some 0) (next (quote_end NextByte (byte == 92 && false) rest))) (and_false (byte == 34))
    ∙ ap (λ t. next (quote_end NextByte t rest)) (and_false (byte == 92))

end_slash : (rest : List ℕ) → quote_end NextByte false (92 ∷ rest) ≡ next (quote_end NextByte true rest)
unfolding quote_end
end_slash rest = refl

said_plain : (byte : ℕ) (rest : List ℕ) → (byte == 92) ≡ false → said_behind false (byte ∷ rest) ≡ byte ∷ said_behind false rest
unfolding said_behind
said_plain byte rest q = ap (λ t. cond (t && true) (said_behind true rest) (byte ∷ said_behind false rest)) q

said_taken : (byte : ℕ) (rest : List ℕ) → said_behind true (byte ∷ rest) ≡ byte ∷ said_behind false rest
unfolding said_behind
said_taken byte rest = ap (λ t. cond t (said_behind true rest) (byte ∷ said_behind false rest)) (and_false (byte == 92))

said_slash : (rest : List ℕ) → said_behind false (92 ∷ rest) ≡ said_behind true rest
unfolding said_behind
said_slash rest = refl

-- a byte of the text
record Passes (byte : ℕ) (piece : List ℕ) : Type 0 where
  ends : (rest : List ℕ) (place : ℕ) → quote_end NextByte false rest ≡ Some place → quote_end NextByte false (piece ++ rest) ≡ Some (length piece + place)
  said : (rest : List ℕ) → said_behind false (piece ++ rest) ≡ byte ∷ said_behind false rest

by_one : (place : ℕ) → next (Some place) ≡ Some (1 + place)
by_one place = ap (λ p. Some p) (let e : place + 1 ≡ 1 + place = omega arith in e)

by_two : (place : ℕ) → next (next (Some place)) ≡ Some (2 + place)
by_two place = ap (λ p. Some p) (let e : place + 1 + 1 ≡ 2 + place = omega arith in e)

passes_taken : (byte : ℕ) → Passes byte (92 ∷ byte ∷ [])
passes_taken byte = record {
  ends = λ rest place e. end_slash (byte ∷ rest) ∙ ap next (end_taken byte rest ∙ ap next e) ∙ by_two place;
  said = λ rest. said_slash (byte ∷ rest) ∙ said_taken byte rest;
}

passes_plain : (byte : ℕ) → (byte == 34) ≡ false → (byte == 92) ≡ false → Passes byte (byte ∷ [])
passes_plain byte p q = record {
  ends = λ rest place e. end_plain byte rest p q ∙ ap next e ∙ by_one place;
  said = λ rest. said_plain byte rest q;
}

passes : (byte : ℕ) → Passes byte (escaped byte)
passes byte = by (byte == 34) (byte == 92) refl refl
  where
    by : (quote slash : Bool) → (byte == 34) ≡ quote → (byte == 92) ≡ slash → Passes byte (cond (quote || slash) (92 ∷ byte ∷ []) (byte ∷ []))
    by true slash p q = passes_taken byte
    by false true p q = passes_taken byte
    by false false p q = passes_plain byte p q

end_of : (text rest : List ℕ) → quote_end NextByte false (inner text ++ 34 ∷ rest) ≡ Some (length (inner text))
unfolding quote_end
end_of [] rest = refl
end_of (byte ∷ text) rest =
    ap (quote_end NextByte false) (append_assoc (escaped byte) (inner text) (34 ∷ rest))
    ∙ (passes byte).ends (inner text ++ 34 ∷ rest) (length (inner text)) (end_of text rest)
    ∙ ap (λ n. Some n) (sym (length-append (escaped byte) (inner text)))

said_of : (text : List ℕ) → said_behind false (inner text) ≡ text
unfolding said_behind
said_of [] = refl
said_of (byte ∷ text) = (passes byte).said (inner text) ∙ ap (λ l. byte ∷ l) (said_of text)

-- the token says the text
pub quoted_means : (text : List ℕ) → meaning (quoted text) ≡ text
quoted_means text =
    let size : length (quoted text) - 2 ≡ length (inner text) = let e = length-append (inner text) (34 ∷ []) in omega (arith, e) in
    ap (λ n. said_behind false (take n (inner text ++ 34 ∷ []))) size
    ∙ ap (said_behind false) (take-append_seam (inner text) (34 ∷ []))
    ∙ said_of text

cut_there : (text rest : List ℕ) → cut_at 34 ((inner text ++ 34 ∷ []) ++ rest) ≡ Take (length (quoted text)) Quoted
cut_there text rest =
    let whole : (inner text ++ 34 ∷ []) ++ rest ≡ inner text ++ 34 ∷ rest = append_assoc (inner text) (34 ∷ []) rest in
    let size : length (inner text) + 2 ≡ length (quoted text) = let e = length-append (inner text) (34 ∷ []) in omega (arith, e) in
    ap (cut_at 34) whole ∙ cut_quote (inner text ++ 34 ∷ rest) ∙ ap (quoted_to Quoted OpenQuoted (inner text ++ 34 ∷ rest)) (end_of text rest) ∙ ap (λ n. Take n Quoted) size

pub quoted_at : (text rest : List ℕ) (others : List Lexeme) → AreTokens rest others → AreTokens (quoted text ++ rest) (text_token text ∷ others)
quoted_at text rest others are =
    subst (λ (t : List ℕ). AreTokens (quoted text ++ rest) (record { kind = Quoted; bytes = t } ∷ others)) (take-append_seam (quoted text) rest)
    (take_one (length (quoted text)) Quoted (cut_there text rest)
    (subst (λ (t : List ℕ). AreTokens t others) (sym (drop-append_seam (quoted text) rest)) are))
