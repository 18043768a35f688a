-- The lines of a text, parted into tokens.
use Rattle.std.proofs.Common.{◌≡◌, ℕ, List, [], ◌∷◌, ◌++◌, Option, Some, None, refl, sym, ap, ◌∙◌, subst, append_assoc, codes}
use Rattle.std.specs.Prelude.{⊤}
use Rattle.std.proofs.lemmas.Grind.{flat_map-append}
use Rattle.delay_units.specs.declared.quantities.Femto.{Femto}
use Rattle.sdf_reader.specs.Tokens.{Lexeme, AreTokens}
use Rattle.sdf_writer.specs.SdfText.{WireRow, PathRow, quoted, wire_line, path_line, edge_text, lines_text}
use Rattle.sdf_read_back.proofs.Quotes.{quoted_at}
use Rattle.sdf_read_back.proofs.TokenLists.{left, right, word, text_token, numbers, edge_tokens, wire_tokens, path_tokens, instance_tokens}
use Rattle.sdf_read_back.proofs.Words.{left_at, right_at, space_at, line_at, word_space, word_line, word_close, high_word, IsWord}

-- the tokens of a line with its end, whatever follows it
pub record LineIs (line : List ℕ) (tokens : List Lexeme) : Type 0 where
  pub parted : (rest : List ℕ) (others : List Lexeme) → AreTokens rest others → AreTokens ((line ++ 10 ∷ []) ++ rest) (tokens ++ others)

-- the same of lines
pub record LinesAre (lines : List (List ℕ)) (tokens : List Lexeme) : Type 0 where
  pub parted : (rest : List ℕ) (others : List Lexeme) → AreTokens rest others → AreTokens (lines_text lines ++ rest) (tokens ++ others)

pub no_line : LinesAre [] []
no_line = record { parted = λ rest others are. are }

pub line_and : (line : List ℕ) (lines : List (List ℕ)) (tokens more : List Lexeme) → LineIs line tokens → LinesAre lines more → LinesAre (line ∷ lines) (tokens ++ more)
line_and line lines tokens more is behind = record {
  parted = λ rest others are.
      subst (λ (t : List ℕ). AreTokens t ((tokens ++ more) ++ others)) (sym (append_assoc (line ++ 10 ∷ []) (lines_text lines) rest))
      (subst (λ (l : List Lexeme). AreTokens ((line ++ 10 ∷ []) ++ (lines_text lines ++ rest)) l) (sym (append_assoc tokens more others))
      (is.parted (lines_text lines ++ rest) (more ++ others) (behind.parted rest others are)));
}

pub lines_and : (some more : List (List ℕ)) (tokens behind : List Lexeme) → LinesAre some tokens → LinesAre more behind → LinesAre (some ++ more) (tokens ++ behind)
lines_and some more tokens behind is are = record {
  parted = λ rest others left.
      subst (λ (t : List ℕ). AreTokens (t ++ rest) ((tokens ++ behind) ++ others)) (sym (flat_map-append (λ line. line ++ 10 ∷ []) some more))
      (subst (λ (t : List ℕ). AreTokens t ((tokens ++ behind) ++ others)) (sym (append_assoc (lines_text some) (lines_text more) rest))
      (subst (λ (l : List Lexeme). AreTokens (lines_text some ++ (lines_text more ++ rest)) l) (sym (append_assoc tokens behind others))
      (is.parted (lines_text more ++ rest) (behind ++ others) (are.parted rest others left))));
}

-- ---- single lines

wire_shape : (row : WireRow) (rest : List ℕ) → (wire_line row ++ 10 ∷ []) ++ rest ≡ codes "(INTERCONNECT " ++ (row.from ++ (32 ∷ (row.to ++ (32 ∷ 40 ∷ (numbers row.delay ++ 41 ∷ 41 ∷ 10 ∷ rest)))))
wire_shape row rest = simp append_assoc

path_shape : (row : PathRow) (rest : List ℕ) → (path_line row ++ 10 ∷ []) ++ rest ≡ codes "(IOPATH " ++ (row.from ++ (32 ∷ (row.to ++ (32 ∷ (edge_text row.rise ++ (32 ∷ (edge_text row.fall ++ 41 ∷ 10 ∷ rest)))))))
path_shape row rest = simp append_assoc

-- ---- the lines of entries

pub wire_is : (row : WireRow) → IsWord row.from → IsWord row.to → IsWord (numbers row.delay) → LineIs (wire_line row) (wire_tokens row)
wire_is row from to delay = record {
  parted = λ rest others are. subst (λ (t : List ℕ). AreTokens t (wire_tokens row ++ others)) (sym (wire_shape row rest))
      (left_at _ _ (word_space (codes "INTERCONNECT") _ _ (high_word (codes "INTERCONNECT") refl)
      (word_space row.from _ _ from (word_space row.to _ _ to
      (left_at _ _ (word_close (numbers row.delay) _ _ delay (right_at _ _ (line_at _ _ are))))))));
}

-- an edge has the numbers of a value, or none
abbrev pub IsEdgeWord : Option (List Femto) → Type 0
IsEdgeWord None = ⊤
IsEdgeWord (Some delay) = IsWord (numbers delay)

edge_at : (edge : Option (List Femto)) → IsEdgeWord edge → (rest : List ℕ) (others : List Lexeme) → AreTokens rest others → AreTokens (edge_text edge ++ rest) (edge_tokens edge ++ others)
edge_at None is rest others are = left_at _ _ (right_at _ _ are)
edge_at (Some delay) is rest others are =
    subst (λ (t : List ℕ). AreTokens (40 ∷ t) (left ∷ word (numbers delay) ∷ right ∷ others)) (sym (append_assoc (numbers delay) (41 ∷ []) rest))
    (left_at _ _ (word_close (numbers delay) _ _ is are))

pub path_tokens_shape : (row : PathRow) (others : List Lexeme) → path_tokens row ++ others ≡ left ∷ word (codes "IOPATH") ∷ word row.from ∷ word row.to ∷ (edge_tokens row.rise ++ (edge_tokens row.fall ++ right ∷ others))
path_tokens_shape row others =
    ap (λ l. left ∷ word (codes "IOPATH") ∷ word row.from ∷ word row.to ∷ l)
    (append_assoc (edge_tokens row.rise) (edge_tokens row.fall ++ right ∷ []) others ∙ ap (λ l. edge_tokens row.rise ++ l) (append_assoc (edge_tokens row.fall) (right ∷ []) others))

pub path_is : (row : PathRow) → IsWord row.from → IsWord row.to → IsEdgeWord row.rise → IsEdgeWord row.fall → LineIs (path_line row) (path_tokens row)
path_is row from to rise fall = record {
  parted = λ rest others are. subst (λ (t : List ℕ). AreTokens t (path_tokens row ++ others)) (sym (path_shape row rest))
      (subst (λ (l : List Lexeme). AreTokens (codes "(IOPATH " ++ (row.from ++ (32 ∷ (row.to ++ (32 ∷ (edge_text row.rise ++ (32 ∷ (edge_text row.fall ++ 41 ∷ 10 ∷ rest)))))))) l) (sym (path_tokens_shape row others))
      (left_at _ _ (word_space (codes "IOPATH") _ _ (high_word (codes "IOPATH") refl)
      (word_space row.from _ _ from (word_space row.to _ _ to
      (edge_at row.rise rise _ _ (space_at _ _ (edge_at row.fall fall _ _ (right_at _ _ (line_at _ _ are))))))))));
}

pub close_is : LineIs (codes ")") (right ∷ [])
close_is = record { parted = λ rest others are. right_at _ _ (line_at _ _ are) }

-- ---- the other lines of a cell

pub delay_is : LineIs (codes "(DELAY") (left ∷ word (codes "DELAY") ∷ [])
delay_is = record { parted = λ rest others are. left_at _ _ (word_line (codes "DELAY") _ _ (high_word (codes "DELAY") refl) are) }

pub absolute_is : LineIs (codes "(ABSOLUTE") (left ∷ word (codes "ABSOLUTE") ∷ [])
absolute_is = record { parted = λ rest others are. left_at _ _ (word_line (codes "ABSOLUTE") _ _ (high_word (codes "ABSOLUTE") refl) are) }

pub cell_is : LineIs (codes "(CELL") (left ∷ word (codes "CELL") ∷ [])
cell_is = record { parted = λ rest others are. left_at _ _ (word_line (codes "CELL") _ _ (high_word (codes "CELL") refl) are) }

-- a keyword with a text
text_shape : (bytes text rest : List ℕ) → ((bytes ++ (quoted text ++ codes ")")) ++ 10 ∷ []) ++ rest ≡ bytes ++ (quoted text ++ 41 ∷ 10 ∷ rest)
text_shape bytes text rest = simp append_assoc

pub text_is : (keyword text : List ℕ) → IsWord keyword → LineIs ((40 ∷ (keyword ++ 32 ∷ [])) ++ (quoted text ++ codes ")")) (left ∷ word keyword ∷ text_token text ∷ right ∷ [])
text_is keyword text is = record {
  parted = λ rest others are. subst (λ (t : List ℕ). AreTokens t (left ∷ word keyword ∷ text_token text ∷ right ∷ others)) (sym (text_shape (40 ∷ (keyword ++ 32 ∷ [])) text rest ∙ ap (λ t. 40 ∷ t) (append_assoc keyword (32 ∷ []) (quoted text ++ 41 ∷ 10 ∷ rest))))
      (left_at _ _ (word_space keyword _ _ is (quoted_at text _ _ (right_at _ _ (line_at _ _ are)))));
}

pub type_is : (cell : List ℕ) → LineIs (codes "(CELLTYPE " ++ (quoted cell ++ codes ")")) (left ∷ word (codes "CELLTYPE") ∷ text_token cell ∷ right ∷ [])
type_is cell = text_is (codes "CELLTYPE") cell (high_word (codes "CELLTYPE") refl)

instance_shape : (instance rest : List ℕ) → ((codes "(INSTANCE " ++ (instance ++ codes ")")) ++ 10 ∷ []) ++ rest ≡ codes "(INSTANCE " ++ (instance ++ 41 ∷ 10 ∷ rest)
instance_shape instance rest = simp append_assoc

pub instance_is : (instance : List ℕ) → IsWord instance → LineIs (codes "(INSTANCE " ++ (instance ++ codes ")")) (instance_tokens instance)
instance_is instance is = record {
  parted = λ rest others are. subst (λ (t : List ℕ). AreTokens t (instance_tokens instance ++ others)) (sym (instance_shape instance rest))
      (left_at _ _ (word_space (codes "INSTANCE") _ _ (high_word (codes "INSTANCE") refl) (word_close instance _ _ is (line_at _ _ are))));
}

pub unnamed_is : LineIs (codes "(INSTANCE)") (left ∷ word (codes "INSTANCE") ∷ right ∷ [])
unnamed_is = record { parted = λ rest others are. left_at _ _ (word_close (codes "INSTANCE") _ _ (high_word (codes "INSTANCE") refl) (line_at _ _ are)) }
