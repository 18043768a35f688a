-- The text of a file, parted into tokens.
use Rattle.std.proofs.Common.{ℕ, Bool, true, false, cond, List, [], ◌∷◌, ◌++◌, map, Option, Some, None, refl, sym, subst, append_assoc, codes}
use Rattle.std.specs.List.{flat_map}
use Rattle.std.proofs.lemmas.List.{append-nil}
use Rattle.delay_units.specs.declared.quantities.Femto.{Femto}
use Rattle.token_texts.specs.CutLemmas.{no_token}
use Rattle.sdf_reader.specs.Tokens.{Lexeme, AreTokens}
use Rattle.sdf_writer.specs.SdfText.{WireRow, PathRow, SdfRows, wire_line, path_line, delay_lines, same_cell, before_cells, cells_of, cell_opening, cell_closing, cell_lines, opening_lines, sdf_lines, lines_text, sdf_text}
use Rattle.sdf_read_back.proofs.Fit.{Each, IsWire, IsPath, IsEdgeDelay}
use Rattle.sdf_read_back.proofs.Lines.{LineIs, LinesAre, no_line, line_and, lines_and, IsEdgeWord, wire_is, path_is, close_is, delay_is, absolute_is, cell_is, text_is, type_is, instance_is, unnamed_is}
use Rattle.sdf_read_back.proofs.Names.{name_is_word}
use Rattle.sdf_read_back.proofs.TokenLists.{numbers, left, right, word, wire_tokens, path_tokens, cell_tokens, wires_tokens, head_tokens, type_tokens, sdf_tokens}
use Rattle.sdf_read_back.proofs.Values.{numbers_are_word}
use Rattle.sdf_read_back.proofs.Words.{always_word, word_line, left_at, line_at, word_space, word_close, slash_alone, high_word}

wire_line_is : (row : WireRow) → IsWire row → LineIs (wire_line row) (wire_tokens row)
wire_line_is row is = wire_is row (name_is_word row.from is.from) (name_is_word row.to is.to) (always_word (numbers row.delay) (numbers_are_word row.delay is.delay).0)

wires_are : (rows : List WireRow) → Each IsWire rows → LinesAre (map wire_line rows) (flat_map wire_tokens rows)
wires_are [] each = no_line
wires_are (row ∷ rows) each = line_and (wire_line row) (map wire_line rows) (wire_tokens row) (flat_map wire_tokens rows) (wire_line_is row each.0) (wires_are rows each.1)

edge_word : (edge : Option (List Femto)) → IsEdgeDelay edge → IsEdgeWord edge
edge_word None is = tt
edge_word (Some delay) is = always_word (numbers delay) (numbers_are_word delay is).0

path_line_is : (row : PathRow) → IsPath row → LineIs (path_line row) (path_tokens row)
path_line_is row is = path_is row (name_is_word row.from is.from) (name_is_word row.to is.to) (edge_word row.rise is.rise) (edge_word row.fall is.fall)

paths_are : (rows : List PathRow) → Each IsPath rows → LinesAre (map path_line rows) (flat_map path_tokens rows)
paths_are [] each = no_line
paths_are (row ∷ rows) each = line_and (path_line row) (map path_line rows) (path_tokens row) (flat_map path_tokens rows) (path_line_is row each.0) (paths_are rows each.1)

-- ---- cells

opening_are : (row : PathRow) → IsPath row → LinesAre (cell_opening row.cell row.instance) (type_tokens row.cell ++ (left ∷ word (codes "INSTANCE") ∷ word row.instance ∷ right ∷ left ∷ word (codes "DELAY") ∷ left ∷ word (codes "ABSOLUTE") ∷ []))
opening_are row is =
    line_and _ _ _ _ cell_is (line_and _ _ _ _ (type_is row.cell) (line_and _ _ _ _ (instance_is row.instance (name_is_word row.instance is.instance))
    (line_and _ _ _ _ delay_is (line_and _ _ _ _ absolute_is no_line))))

closing_are : LinesAre cell_closing (right ∷ right ∷ right ∷ [])
closing_are = line_and _ _ _ _ close_is (line_and _ _ _ _ close_is (line_and _ _ _ _ close_is no_line))

cell_are : (rows : List PathRow) → Each IsPath rows → LinesAre (cell_lines rows) (cell_tokens rows)
cell_are [] each = no_line
cell_are (row ∷ rows) each =
    subst (λ (l : List Lexeme). LinesAre (cell_lines (row ∷ rows)) (type_tokens row.cell ++ (left ∷ word (codes "INSTANCE") ∷ word row.instance ∷ right ∷ left ∷ word (codes "DELAY") ∷ left ∷ word (codes "ABSOLUTE") ∷ l)))
    (sym (append_assoc (flat_map path_tokens (row ∷ rows)) (right ∷ right ∷ []) (right ∷ [])))
    (lines_and (cell_opening row.cell row.instance) (map path_line (row ∷ rows) ++ cell_closing) _ _ (opening_are row each.0)
    (lines_and (map path_line (row ∷ rows)) cell_closing _ _ (paths_are (row ∷ rows) each) closing_are))

cells_are : (cells : List (List PathRow)) → Each (Each IsPath) cells → LinesAre (flat_map cell_lines cells) (flat_map cell_tokens cells)
cells_are [] each = no_line
cells_are (cell ∷ cells) each = lines_and (cell_lines cell) (flat_map cell_lines cells) (cell_tokens cell) (flat_map cell_tokens cells) (cell_are cell each.0) (cells_are cells each.1)

-- a path that joins a cell, or stands in one of its own
before_each : (row : PathRow) (cells : List (List PathRow)) → IsPath row → Each (Each IsPath) cells → Each (Each IsPath) (before_cells row cells)
before_each row [] is each = ((is, tt), tt)
before_each row ([] ∷ cells) is each = ((is, tt), each)
before_each row ((next ∷ rows) ∷ cells) is each = by (same_cell row next)
  where
    by : (same : Bool) → Each (Each IsPath) (cond same ((row ∷ next ∷ rows) ∷ cells) ((row ∷ []) ∷ (next ∷ rows) ∷ cells))
    by true = ((is, each.0), each.1)
    by false = ((is, tt), each)

pub cells_each : (rows : List PathRow) → Each IsPath rows → Each (Each IsPath) (cells_of rows)
cells_each [] each = tt
cells_each (row ∷ rows) each = before_each row (cells_of rows) each.0 (cells_each rows each.1)

-- ---- the file

divider_is : LineIs (codes "(DIVIDER /)") (left ∷ word (codes "DIVIDER") ∷ word (47 ∷ []) ∷ right ∷ [])
divider_is = record { parted = λ rest others are. left_at _ _ (word_space (codes "DIVIDER") _ _ (high_word (codes "DIVIDER") refl) (word_close (47 ∷ []) _ _ slash_alone (line_at _ _ are))) }

timescale_is : LineIs (codes "(TIMESCALE 1ps)") (left ∷ word (codes "TIMESCALE") ∷ word (codes "1ps") ∷ right ∷ [])
timescale_is = record { parted = λ rest others are. left_at _ _ (word_space (codes "TIMESCALE") _ _ (high_word (codes "TIMESCALE") refl) (word_close (codes "1ps") _ _ (high_word (codes "1ps") refl) (line_at _ _ are))) }

file_is : LineIs (codes "(DELAYFILE") (left ∷ word (codes "DELAYFILE") ∷ [])
file_is = record { parted = λ rest others are. left_at _ _ (word_line (codes "DELAYFILE") _ _ (high_word (codes "DELAYFILE") refl) are) }

head_are : (design : List ℕ) → LinesAre (opening_lines design) (left ∷ word (codes "DELAYFILE") ∷ (head_tokens design ++ (type_tokens design ++ (left ∷ word (codes "INSTANCE") ∷ right ∷ []))))
head_are design =
    line_and _ _ _ _ file_is
    (line_and _ _ _ _ (text_is (codes "SDFVERSION") (codes "3.0") (high_word (codes "SDFVERSION") refl))
    (line_and _ _ _ _ (text_is (codes "DESIGN") design (high_word (codes "DESIGN") refl))
    (line_and _ _ _ _ (text_is (codes "PROGRAM") (codes "gdc") (high_word (codes "PROGRAM") refl))
    (line_and _ _ _ _ (text_is (codes "VERSION") (codes "1") (high_word (codes "VERSION") refl))
    (line_and _ _ _ _ divider_is (line_and _ _ _ _ timescale_is
    (line_and _ _ _ _ cell_is (line_and _ _ _ _ (type_is design) (line_and _ _ _ _ unnamed_is no_line)))))))))

delays_are : (rows : List WireRow) → Each IsWire rows → LinesAre (delay_lines rows) (wires_tokens rows)
delays_are [] each = no_line
delays_are (row ∷ rows) each =
    line_and _ _ _ _ delay_is (line_and _ _ _ _ absolute_is
    (lines_and (map wire_line (row ∷ rows)) (codes ")" ∷ codes ")" ∷ []) _ _ (wires_are (row ∷ rows) each) (line_and _ _ _ _ close_is (line_and _ _ _ _ close_is no_line))))

file_are : (rows : SdfRows) → Each IsWire rows.wires → Each IsPath rows.paths → LinesAre (sdf_lines rows) (sdf_tokens rows)
file_are rows wires paths =
    let cells : LinesAre (flat_map cell_lines (cells_of rows.paths) ++ codes ")" ∷ []) (flat_map cell_tokens (cells_of rows.paths) ++ right ∷ []) =
    lines_and (flat_map cell_lines (cells_of rows.paths)) (codes ")" ∷ []) _ _ (cells_are (cells_of rows.paths) (cells_each rows.paths paths)) (line_and _ _ _ _ close_is no_line) in
    subst (λ (l : List Lexeme). LinesAre (sdf_lines rows) (left ∷ word (codes "DELAYFILE") ∷ (head_tokens rows.design ++ (type_tokens rows.design ++ (left ∷ word (codes "INSTANCE") ∷ right ∷ l)))))
    (sym (append_assoc (wires_tokens rows.wires) (right ∷ []) (flat_map cell_tokens (cells_of rows.paths) ++ right ∷ [])))
    (lines_and (opening_lines rows.design) _ _ _ (head_are rows.design)
    (lines_and (delay_lines rows.wires) _ _ _ (delays_are rows.wires wires) (line_and _ _ _ _ close_is cells)))

pub text_parted : (rows : SdfRows) → Each IsWire rows.wires → Each IsPath rows.paths → AreTokens (sdf_text rows) (sdf_tokens rows)
unfolding sdf_text
text_parted rows wires paths =
    subst (λ (t : List ℕ). AreTokens t (sdf_tokens rows)) (append-nil (lines_text (sdf_lines rows)))
    (subst (λ (l : List Lexeme). AreTokens (lines_text (sdf_lines rows) ++ []) l) (append-nil (sdf_tokens rows))
    ((file_are rows wires paths).parted [] [] no_token))
