-- The lines of the text, as the pieces that the code pushes.
use Rattle.std.proofs.Common.{◌≡◌, ◌==◌, false, ℕ, ◌-◌, ◌≤◌, List, [], ◌∷◌, ◌++◌, length, take, drop, get_or, map, flat_map, codes, pos, ap, sym, ◌∙◌, arith}
use Rattle.std.specs.List.{join_with_byte}
use Rattle.std.proofs.lemmas.List.{append_assoc, append-nil, take_all}
use Rattle.std.proofs.lemmas.List.Folds.{flat_map-map}
use Rattle.std.proofs.lemmas.Grind.{flat_map-append}
use Rattle.delay_units.specs.declared.Femto.{Femto}
use Rattle.delay_units.specs.Printing.{femto_text}
use Rattle.sdf_writer.specs.SdfText.{WireRow, PathRow, SdfRows, quoted, wire_line, delay_lines, cells_of, cell_lines, opening_lines, lines_text, sdf_text}
use Rattle.sdf_writer.specs.PathRows.{cells_text}
use Rattle.sdf_writer.specs.WireRows.{wire_rows, wire_text, wires_text}
use Rattle.sdf_writer.specs.declared.rows.Wire.{Wire}

-- up to the name of the design
abbrev pub head : List ℕ
head = lines_text (codes "(DELAYFILE" ∷ (codes "(SDFVERSION " ++ (quoted (codes "3.0") ++ codes ")")) ∷ []) ++ codes "(DESIGN "

-- from there up to the type of the cell
abbrev pub middle : List ℕ
middle =
    codes ")" ++ 10 ∷ (lines_text (
    (codes "(PROGRAM " ++ (quoted (codes "gdc") ++ codes ")"))
    ∷ (codes "(VERSION " ++ (quoted (codes "1") ++ codes ")"))
    ∷ codes "(DIVIDER /)"
    ∷ codes "(TIMESCALE 1ps)"
    ∷ codes "(CELL"
    ∷ []) ++ codes "(CELLTYPE ")

-- and from there up to the delays
abbrev pub opening_end : List ℕ
opening_end = codes ")" ++ 10 ∷ (codes "(INSTANCE)" ++ 10 ∷ [])

pub opening_parts : (design : List ℕ) → lines_text (opening_lines design) ≡ head ++ (quoted design ++ (middle ++ (quoted design ++ opening_end)))
opening_parts design = simp append_assoc

pub wire_text_parts : (from to : List ℕ) (delay : List Femto) → wire_text (record { from = from; to = to; delay = delay }) ≡ codes "(INTERCONNECT " ++ (from ++ (32 ∷ [] ++ (to ++ (codes " (" ++ (join_with_byte 58 (map femto_text delay) ++ 41 ∷ 41 ∷ 10 ∷ [])))))
wire_text_parts from to delay = simp append_assoc

-- the lines of wires
pub lines_of_wires : (rows : List WireRow) → lines_text (map wire_line rows) ≡ wires_text rows
lines_of_wires rows = flat_map-map (λ line. line ++ 10 ∷ []) wire_line rows

-- before the wires, and after them
abbrev pub delays_open : List ℕ
delays_open = lines_text (codes "(DELAY" ∷ codes "(ABSOLUTE" ∷ [])

abbrev pub delays_close : List ℕ
delays_close = lines_text (codes ")" ∷ codes ")" ∷ [])

pub delays_parts : (row : WireRow) (rows : List WireRow) → lines_text (delay_lines (row ∷ rows)) ≡ delays_open ++ (wires_text (row ∷ rows) ++ delays_close)
delays_parts row rows =
    ap (λ t. delays_open ++ t)
    (flat_map-append (λ line. line ++ 10 ∷ []) (map wire_line (row ∷ rows)) (codes ")" ∷ codes ")" ∷ [])
    ∙ ap (λ t. t ++ delays_close) (lines_of_wires (row ∷ rows)))

-- the same of kept wires
pub kept_delays_parts : (count : ℕ) (names : List (List ℕ)) (wires : List Wire) (delays : List Femto) → false ≡ (length wires == 0) → lines_text (delay_lines (wire_rows count names wires delays)) ≡ delays_open ++ (wires_text (wire_rows count names wires delays) ++ delays_close)
kept_delays_parts count names [] delays some = cc
kept_delays_parts count names (wire ∷ wires) delays some = delays_parts _ _

-- the end of a cell, and that of the file
abbrev pub end_line : List ℕ
end_line = lines_text (codes ")" ∷ [])

-- the whole text
pub sdf_parts : (rows : SdfRows) → sdf_text rows ≡ lines_text (opening_lines rows.design) ++ (lines_text (delay_lines rows.wires) ++ (end_line ++ (cells_text rows.paths ++ end_line)))
unfolding sdf_text
sdf_parts rows =
    flat_map-append (λ line. line ++ 10 ∷ []) (opening_lines rows.design) (delay_lines rows.wires ++ codes ")" ∷ (flat_map cell_lines (cells_of rows.paths) ++ codes ")" ∷ []))
    ∙ ap (λ t. lines_text (opening_lines rows.design) ++ t)
    (flat_map-append (λ line. line ++ 10 ∷ []) (delay_lines rows.wires) (codes ")" ∷ (flat_map cell_lines (cells_of rows.paths) ++ codes ")" ∷ []))
    ∙ ap (λ t. lines_text (delay_lines rows.wires) ++ (end_line ++ t))
    (flat_map-append (λ line. line ++ 10 ∷ []) (flat_map cell_lines (cells_of rows.paths)) (codes ")" ∷ [])))

-- the text of kept rows, behind nothing
pub whole_text : (count : ℕ) {names names' : List (List ℕ)} {start design design' : List ℕ} {wires wires' : List Wire} {delays delays' : List Femto} {paths : List PathRow} {rows : SdfRows} → start ≡ [] → design ≡ design' → names ≡ names' → wires ≡ wires' → delays ≡ delays' → record { design = design'; wires = wire_rows count names' wires' delays'; paths = paths } ≡ rows → start ++ sdf_text (record { design = design; wires = wire_rows count names wires delays; paths = paths }) ≡ sdf_text rows
whole_text count e f n h k rows_is = rw (e, f, n, h, k) (ap sdf_text rows_is)

-- numbers parted by colons are the first, and each other with a colon before it
pub numbers_parts : (first : Femto) (others : List Femto) → join_with_byte 58 (map femto_text (first ∷ others)) ≡ femto_text first ++ flat_map (λ time. 58 ∷ femto_text time) others
numbers_parts first [] = sym (append-nil (femto_text first))
numbers_parts first (second ∷ others) = ap (λ t. femto_text first ++ 58 ∷ t) (numbers_parts second others)

-- a slice cut behind its first: the number of the first, and those of the others
abbrev pub first_text : List Femto → List ℕ
first_text delay = femto_text (get_or delay 0 (record { 0 = pos 0 }))

abbrev pub others_text : List Femto → List ℕ
others_text delay = flat_map (λ time. 58 ∷ femto_text time) (take (length delay - 1) (drop 1 delay))

pub numbers_of_slice : (delay : List Femto) → 1 ≤ length delay → join_with_byte 58 (map femto_text delay) ≡ first_text delay ++ others_text delay
numbers_of_slice [] some = absurd (omega arith)
numbers_of_slice (first ∷ others) some =
    let all : length others ≤ length (first ∷ others) - 1 = omega arith in
    rw (take_all (length (first ∷ others) - 1) others all) (numbers_parts first others)
