-- How rows of paths are kept: each cell once for the paths of it that stand together, names by number, and all times in one list.
use Rattle.std.specs.Prelude.{◌≡◌, ℕ, ◌+◌, ◌<◌, ◌≤◌, Bool, ◌&&◌, if◌then◌else◌, List, [], ◌∷◌, ◌++◌, map, length, get_or, take, drop, Option, Some, None, codes, ⊤}
use Rattle.std.specs.List.{All, flat_map, join_with_byte}
use Rattle.std.specs.Str.{bytes_eq}
use Rattle.std.proofs.Common.{Bor}
use Rattle.corner_set.specs.Grids.{GridOf}
use Rattle.delay_units.specs.declared.Femto.{Femto}
use Rattle.delay_units.specs.Printing.{femto_text}
use Rattle.sdf_writer.specs.Bounds.{AreWithin}
use Rattle.sdf_writer.specs.Names.{name_at, KeepsName}
use Rattle.sdf_writer.specs.SdfText.{PathRow, path_line, cells_of, cell_opening, cell_closing, cell_lines, lines_text}
use Rattle.sdf_writer.specs.declared.paths.KeptCell.{KeptCell}
use Rattle.sdf_writer.specs.declared.paths.Path.{Path}

-- ---- the rows that are kept

-- the type of a cell, and its instance in the spelling of SDF
pub record Cell : Type 0 where
  pub kind : List ℕ
  pub instance : List ℕ

abbrev pub cell_of_names : List (List ℕ) → KeptCell → Cell
cell_of_names names cell = record { kind = name_at names cell.kind; instance = name_at names cell.instance }

abbrev pub no_cell : KeptCell
no_cell = record { kind = 0; instance = 0 }

abbrev pub cell_at : List (List ℕ) → List KeptCell → ℕ → Cell
cell_at names cells place = cell_of_names names (get_or cells place no_cell)

-- the times of an edge, one a corner from a place on
abbrev pub edge_at : ℕ → List Femto → Option ℕ → Option (List Femto)
edge_at count times None = None
edge_at count times (Some place) = Some (take count (drop place times))

abbrev pub path_row : ℕ → List (List ℕ) → List KeptCell → List Femto → Path → PathRow
path_row count names cells times path = record {
  cell = (cell_at names cells path.cell).kind;
  instance = (cell_at names cells path.cell).instance;
  from = name_at names path.from;
  to = name_at names path.to;
  rise = edge_at count times path.rise;
  fall = edge_at count times path.fall;
}

abbrev pub path_rows : ℕ → List (List ℕ) → List KeptCell → List Femto → List Path → List PathRow
path_rows count names cells times paths = map (path_row count names cells times) paths

-- the times of an edge stand among so many
abbrev pub IsEdgeKept : ℕ → ℕ → Option ℕ → Type 0
IsEdgeKept count size None = ⊤
IsEdgeKept count size (Some place) = place + count ≤ size

-- the names of a cell stand among so many
pub record IsCellKept (names : ℕ) (cell : KeptCell) : Type 0 where
  pub kind : cell.kind < names
  pub instance : cell.instance < names

-- the names of a path, its cell and its times stand among so many
pub record IsKept (count names cells times : ℕ) (path : Path) : Type 0 where
  pub from : path.from < names
  pub to : path.to < names
  pub cell : path.cell < cells
  pub rise : IsEdgeKept count times path.rise
  pub fall : IsEdgeKept count times path.fall

-- ---- what is put at the end

-- cells whose names stand among so many
pub record Extends (names : ℕ) (old new : List KeptCell) : Type 0 where
  pub more : List KeptCell
  pub is : new ≡ old ++ more
  pub kept : All (IsCellKept names) more

pub record ExtendsTimes (old new : List Femto) : Type 0 where
  pub more : List Femto
  pub is : new ≡ old ++ more
  pub within : AreWithin more

-- the times of an edge
abbrev pub edge_times : Option (Bor (GridOf Femto)) → Option (List Femto)
edge_times None = None
edge_times (Some grid) = Some grid.now.values

-- one value a corner, or none
abbrev pub IsEdge : ℕ → Option (List Femto) → Type 0
IsEdge count None = ⊤
IsEdge count (Some delay) = (length delay ≡ count) × AreWithin delay

-- the times that stand at a place are these
pub record KeepsEdge (count : ℕ) (times : List Femto) (edge : Option (List Femto)) (place : Option ℕ) : Type 0 where
  pub kept : IsEdgeKept count (length times) place
  pub is : edge_at count times place ≡ edge

-- the names of a cell are those of this one
pub record KeepsCellNames (names : List (List ℕ)) (cell : Cell) (kept : KeptCell) : Type 0 where
  pub kind_kept : KeepsName names cell.kind kept.kind
  pub instance_kept : KeepsName names cell.instance kept.instance

-- the cell that stands at a place is this one
pub record KeepsCell (names : List (List ℕ)) (cells : List KeptCell) (cell : Cell) (place : ℕ) : Type 0 where
  pub below : place < length cells
  pub is : cell_at names cells place ≡ cell

-- a path stands for this row
pub record KeepsRow (count : ℕ) (names : List (List ℕ)) (cells : List KeptCell) (times : List Femto) (row : PathRow) (path : Path)
    : Type 0 where
  pub kept : IsKept count (length names) (length cells) (length times) path
  pub is : path_row count names cells times path ≡ row

-- ---- the text of the rows

abbrev pub cell_of : PathRow → Cell
cell_of row = record { kind = row.cell; instance = row.instance }

abbrev pub is_same : Cell → Cell → Bool
is_same one other = bytes_eq one.kind other.kind && bytes_eq one.instance other.instance

-- the line of a path, with its end
abbrev pub path_text : PathRow → List ℕ
path_text row = path_line row ++ 10 ∷ []

-- the parts of that line
abbrev pub names_text : List ℕ → List ℕ → List ℕ
names_text from to = codes "(IOPATH " ++ (from ++ (32 ∷ [] ++ (to ++ codes " (")))

-- what stands between the parentheses of an edge
abbrev pub times_text : Option (List Femto) → List ℕ
times_text None = []
times_text (Some delay) = join_with_byte 58 (map femto_text delay)

abbrev pub line_text : List ℕ → List ℕ → Option (List Femto) → Option (List Femto) → List ℕ
line_text from to rise fall = names_text from to ++ (times_text rise ++ (codes ") (" ++ (times_text fall ++ 41 ∷ 41 ∷ 10 ∷ [])))

abbrev pub opening_text : Cell → List ℕ
opening_text cell = lines_text (cell_opening cell.kind cell.instance)

abbrev pub closing_text : List ℕ
closing_text = lines_text cell_closing

-- what stands between paths of two cells: nothing where they are one
abbrev pub between_text : Cell → Cell → List ℕ
between_text one other = if is_same one other then [] else closing_text ++ opening_text other

-- a path behind one of some cell
abbrev pub next_text : Cell → PathRow → List ℕ
next_text before row = between_text before (cell_of row) ++ path_text row

-- the paths behind one of some cell, up to the end of the last cell
abbrev pub rest_text : Cell → List PathRow → List ℕ
rest_text before [] = closing_text
rest_text before (row ∷ rows) = next_text before row ++ rest_text (cell_of row) rows

-- the cells of the paths
abbrev pub cells_text : List PathRow → List ℕ
cells_text rows = lines_text (flat_map cell_lines (cells_of rows))
