-- A name that has a byte is a part of a path as SDF spells it, also with the index of a bit behind it.
use Rattle.std.proofs.Common.{◌≡◌, ◌≢◌, ℕ, List, [], ◌∷◌, ◌++◌, Option, Some, None, refl, sym, ap, ◌∙◌, subst, append_assoc}
use Rattle.std.specs.Prelude.{decimal}
use Rattle.std.proofs.lemmas.List.{append-nil}
use Rattle.edge_io.specs.Bytes.{left_bracket, backslash, right_bracket}
use Rattle.name_table.specs.SdfNames.{spelled, part}
use Rattle.verilog_netlist.specs.declared.entries.Range.{Range}
use Rattle.netlist_link.specs.FlatNames.{index_at, bit_suffix}
use Rattle.name_table.specs.WellSpelled.{alone, with_bit, IsPart, piece, pieces}
use Rattle.name_table.proofs.Spelling.{spelled_is_letter}
use Rattle.netlist_spelling.proofs.NumberDigits.{IsNumber, decimal_is_number}

-- the last letter of a name, with the index of a bit where its net is a vector
letter_is_part : (byte : ℕ) (range : Option Range) (bit : ℕ) → IsPart (spelled byte ++ bit_suffix range bit)
letter_is_part byte None bit = subst IsPart (sym (append-nil (spelled byte))) (piece (alone (spelled_is_letter byte)))
letter_is_part byte (Some range) bit =
    let number : IsNumber (decimal (index_at range bit)) = decimal_is_number (index_at range bit) in
    subst IsPart
    (append_assoc (spelled byte) (left_bracket ∷ number.first ∷ number.others) (right_bracket ∷ [])
    ∙ ap (λ text. spelled byte ++ (left_bracket ∷ text ++ right_bracket ∷ [])) (sym number.is))
    (piece (with_bit number.first number.others (spelled_is_letter byte) number.all))

-- a name that has a byte
pub name_is_part : (name : List ℕ) → name ≢ [] → (range : Option Range) (bit : ℕ) → IsPart (part name ++ bit_suffix range bit)
name_is_part [] some range bit = absurd (some refl)
name_is_part (byte ∷ []) some range bit =
    subst (λ text. IsPart (text ++ bit_suffix range bit)) (sym (append-nil (spelled byte))) (letter_is_part byte range bit)
name_is_part (byte ∷ next ∷ rest) some range bit =
    subst IsPart (sym (append_assoc (spelled byte) (part (next ∷ rest)) (bit_suffix range bit)))
    (pieces (alone (spelled_is_letter byte)) (name_is_part (next ∷ rest) (λ none. cc) range bit))
