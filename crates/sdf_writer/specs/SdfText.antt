-- The SDF text of the delays of wires and of paths through cells (IEEE 1497-2001), as a join of lines.
use Rattle.std.specs.Prelude.{ℕ, Bool, ◌&&◌, if◌then◌else◌, List, [], ◌∷◌, ◌++◌, map, Option, Some, None, codes}
use Rattle.std.specs.List.{flat_map, join_with_byte}
use Rattle.std.specs.Str.{bytes_eq}
use Rattle.delay_units.specs.declared.Femto.{Femto}
use Rattle.delay_units.specs.Printing.{femto_text}
use Rattle.sdf_writer.specs.Escapes.{is_escaped}

-- the delay of a wire from one pin to another, both as they are spelled in SDF, with one value a corner
pub record WireRow : Type 0 where
  pub from : List ℕ
  pub to : List ℕ
  pub delay : List Femto

-- The delays of a path through a cell from one of its pins to another, both as they are spelled in SDF: of the rise at the other pin and of
-- its fall, each with one value a corner, or none. The cell has a type, and its instance is spelled as in SDF.
pub record PathRow : Type 0 where
  pub cell : List ℕ
  pub instance : List ℕ
  pub from : List ℕ
  pub to : List ℕ
  pub rise : Option (List Femto)
  pub fall : Option (List Femto)

-- what a file says: the name of the design, a row for each wire, and a row for each path
pub record SdfRows : Type 0 where
  pub design : List ℕ
  pub wires : List WireRow
  pub paths : List PathRow

-- a byte within quotation marks: the quotation mark, 34, and the backslash, 92, have a backslash before them
abbrev pub escaped : ℕ → List ℕ
escaped byte = if is_escaped byte then 92 ∷ byte ∷ [] else byte ∷ []

-- a text in quotation marks
abbrev pub quoted : List ℕ → List ℕ
quoted text = 34 ∷ (flat_map escaped text ++ 34 ∷ [])

-- a value: its numbers in picoseconds, one a corner, parted by colons, which are the byte 58
abbrev pub value_text : List Femto → List ℕ
value_text delay = codes "(" ++ (join_with_byte 58 (map femto_text delay) ++ codes ")")

-- the line of a wire, which has no conditions and one delay for its rise and its fall
abbrev pub wire_line : WireRow → List ℕ
wire_line row = codes "(INTERCONNECT " ++ (row.from ++ (codes " " ++ (row.to ++ (codes " " ++ (value_text row.delay ++ codes ")")))))

-- the lines of the delays: none where there is no wire
abbrev pub delay_lines : List WireRow → List (List ℕ)
delay_lines [] = []
delay_lines (row ∷ rows) =
    codes "(DELAY" ∷ codes "(ABSOLUTE" ∷ (map wire_line (row ∷ rows) ++ codes ")" ∷ codes ")" ∷ [])

-- the delay of an edge: empty parentheses where there is none
abbrev pub edge_text : Option (List Femto) → List ℕ
edge_text None = codes "()"
edge_text (Some delay) = value_text delay

-- the line of a path: its rise, and then its fall
abbrev pub path_line : PathRow → List ℕ
path_line row =
    codes "(IOPATH " ++ (row.from ++ (codes " "
    ++ (row.to ++ (codes " " ++ (edge_text row.rise ++ (codes " " ++ (edge_text row.fall ++ codes ")")))))))

-- paths of one cell: its type and its instance are the same
abbrev pub same_cell : PathRow → PathRow → Bool
same_cell one other = bytes_eq one.cell other.cell && bytes_eq one.instance other.instance

-- a path before cells with their paths: it joins those of the first cell where that is its own
abbrev pub before_cells : PathRow → List (List PathRow) → List (List PathRow)
before_cells row ((next ∷ rows) ∷ cells) = if same_cell row next then (row ∷ next ∷ rows) ∷ cells else (row ∷ []) ∷ (next ∷ rows) ∷ cells
before_cells row cells = (row ∷ []) ∷ cells

-- the paths by their cells: those of one cell that stand together
abbrev pub cells_of : List PathRow → List (List PathRow)
cells_of [] = []
cells_of (row ∷ rows) = before_cells row (cells_of rows)

-- the lines before the paths of a cell, and after them
abbrev pub cell_opening : List ℕ → List ℕ → List (List ℕ)
cell_opening cell instance =
    codes "(CELL"
    ∷ (codes "(CELLTYPE " ++ (quoted cell ++ codes ")"))
    ∷ (codes "(INSTANCE " ++ (instance ++ codes ")"))
    ∷ codes "(DELAY"
    ∷ codes "(ABSOLUTE"
    ∷ []

abbrev pub cell_closing : List (List ℕ)
cell_closing = codes ")" ∷ codes ")" ∷ codes ")" ∷ []

-- the lines of a cell with these paths
abbrev pub cell_lines : List PathRow → List (List ℕ)
cell_lines [] = []
cell_lines (row ∷ rows) = cell_opening row.cell row.instance ++ (map path_line (row ∷ rows) ++ cell_closing)

-- the lines before the delays of wires: the head of the file, and of its first cell, which is the design itself
abbrev pub opening_lines : List ℕ → List (List ℕ)
opening_lines design =
    codes "(DELAYFILE"
    ∷ (codes "(SDFVERSION " ++ (quoted (codes "3.0") ++ codes ")"))
    ∷ (codes "(DESIGN " ++ (quoted design ++ codes ")"))
    ∷ (codes "(PROGRAM " ++ (quoted (codes "gdc") ++ codes ")"))
    ∷ (codes "(VERSION " ++ (quoted (codes "1") ++ codes ")"))
    ∷ codes "(DIVIDER /)"
    ∷ codes "(TIMESCALE 1ps)"
    ∷ codes "(CELL"
    ∷ (codes "(CELLTYPE " ++ (quoted design ++ codes ")"))
    ∷ codes "(INSTANCE)"
    ∷ []

-- the lines of the file: the wires stand in the cell of the design, and the paths in cells behind it
abbrev pub sdf_lines : SdfRows → List (List ℕ)
sdf_lines rows = opening_lines rows.design
    ++ (delay_lines rows.wires ++ codes ")" ∷ (flat_map cell_lines (cells_of rows.paths) ++ codes ")" ∷ []))

-- lines one after another, each ended by the byte 10
abbrev pub lines_text : List (List ℕ) → List ℕ
lines_text lines = flat_map (λ line. line ++ 10 ∷ []) lines

-- the text of the file
unfoldable pub sdf_text : SdfRows → List ℕ
sdf_text rows = lines_text (sdf_lines rows)
