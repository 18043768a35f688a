-- The cells of paths, as the pieces that the code pushes.
use Rattle.std.proofs.Common.{◌≡◌, Bool, true, false, if◌then◌else◌, List, ℕ, [], ◌∷◌, ◌++◌, map, flat_map, Option, None, Some, codes, refl, sym, ap, ap₂, ◌∙◌}
use Rattle.std.proofs.lemmas.List.{append_assoc, append-nil}
use Rattle.std.proofs.lemmas.List.Folds.{flat_map-map}
use Rattle.std.proofs.lemmas.Grind.{flat_map-append}
use Rattle.delay_units.specs.declared.Femto.{Femto}
use Rattle.sdf_writer.specs.SdfText.{PathRow, escaped, edge_text, path_line, same_cell, before_cells, cells_of, cell_opening, cell_closing, cell_lines, lines_text}
use Rattle.sdf_writer.specs.PathRows.{Cell, cell_of, is_same, path_text, names_text, times_text, line_text, opening_text, closing_text, between_text, rest_text, cells_text}

-- the line of a path with these values
abbrev names_values : List ℕ → List ℕ → List ℕ → List ℕ → List ℕ
names_values from to rise fall =
    (codes "(IOPATH " ++ (from ++ (codes " " ++ (to ++ (codes " " ++ (rise ++ (codes " " ++ (fall ++ codes ")")))))))) ++ 10 ∷ []

-- an edge is its times in parentheses
edge_parts : (edge : Option (List Femto)) → edge_text edge ≡ 40 ∷ (times_text edge ++ 41 ∷ [])
edge_parts None = refl
edge_parts (Some delay) = refl

lists_of : (from to rise fall : List ℕ) → names_values from to (40 ∷ (rise ++ 41 ∷ [])) (40 ∷ (fall ++ 41 ∷ [])) ≡ names_text from to ++ (rise ++ (codes ") (" ++ (fall ++ 41 ∷ 41 ∷ 10 ∷ [])))
lists_of from to rise fall = simp append_assoc

edges_of : (from to : List ℕ) (rise fall : Option (List Femto)) → names_values from to (edge_text rise) (edge_text fall) ≡ line_text from to rise fall
edges_of from to rise fall = ap₂ (names_values from to) (edge_parts rise) (edge_parts fall) ∙ lists_of from to (times_text rise) (times_text fall)

-- the line of a path is its names and its times
pub path_parts : (row : PathRow) → path_text row ≡ line_text row.from row.to row.rise row.fall
path_parts row = edges_of row.from row.to row.rise row.fall

-- up to the type of a cell, from there up to its instance, and from there up to its paths
abbrev pub before_kind : List ℕ
before_kind = lines_text (codes "(CELL" ∷ []) ++ codes "(CELLTYPE \""

abbrev pub before_instance : List ℕ
before_instance = codes "\")" ++ 10 ∷ codes "(INSTANCE "

abbrev pub before_paths : List ℕ
before_paths = codes ")" ++ 10 ∷ lines_text (codes "(DELAY" ∷ codes "(ABSOLUTE" ∷ [])

opening_of : (kind instance : List ℕ) → lines_text (cell_opening kind instance) ≡ before_kind ++ (flat_map escaped kind ++ (before_instance ++ (instance ++ before_paths)))
opening_of kind instance = simp append_assoc

pub opening_parts : (cell : Cell) {kind instance : List ℕ} → kind ≡ cell.kind → instance ≡ cell.instance → opening_text cell ≡ before_kind ++ (flat_map escaped kind ++ (before_instance ++ (instance ++ before_paths)))
opening_parts cell e f = rw (e, f) (opening_of cell.kind cell.instance)

-- ---- paths by their cells

abbrev paths_text : List PathRow → List ℕ
paths_text rows = flat_map path_text rows

abbrev all_text : List (List PathRow) → List ℕ
all_text cells = lines_text (flat_map cell_lines cells)

parts_joined : (a b c d : List ℕ) → (a ++ (b ++ c)) ++ d ≡ a ++ (b ++ (c ++ d))
parts_joined a b c d = simp append_assoc

lines_append : (some more : List (List ℕ)) → lines_text (some ++ more) ≡ lines_text some ++ lines_text more
lines_append some more = flat_map-append (λ line. line ++ 10 ∷ []) some more

-- the text of a cell
cell_parts : (row : PathRow) (rows : List PathRow) → lines_text (cell_lines (row ∷ rows)) ≡ opening_text (cell_of row) ++ (paths_text (row ∷ rows) ++ closing_text)
cell_parts row rows =
    lines_append (cell_opening row.cell row.instance) (map path_line (row ∷ rows) ++ cell_closing)
    ∙ ap (λ t. opening_text (cell_of row) ++ t)
    (lines_append (map path_line (row ∷ rows)) cell_closing ∙ ap (λ t. t ++ closing_text) (flat_map-map (λ line. line ++ 10 ∷ []) path_line (row ∷ rows)))

-- the same of the first cell and those behind it
cells_parts : (row : PathRow) (rows : List PathRow) (cells : List (List PathRow)) → all_text ((row ∷ rows) ∷ cells) ≡ opening_text (cell_of row) ++ (paths_text (row ∷ rows) ++ (closing_text ++ all_text cells))
cells_parts row rows cells =
    lines_append (cell_lines (row ∷ rows)) (flat_map cell_lines cells)
    ∙ ap (λ t. t ++ all_text cells) (cell_parts row rows)
    ∙ parts_joined (opening_text (cell_of row)) (paths_text (row ∷ rows)) closing_text (all_text cells)

-- the first cell begins with the first path
record Grouped (row : PathRow) (rows : List PathRow) : Type 0 where
  group : List PathRow
  cells : List (List PathRow)
  is : cells_of (row ∷ rows) ≡ (row ∷ group) ∷ cells
  text : paths_text (row ∷ group) ++ (closing_text ++ all_text cells) ≡ path_text row ++ rest_text (cell_of row) rows

chosen : {X : Type 0} (test : Bool) (x y : X) → (b : Bool) → test ≡ b → (if test then x else y) ≡ (if b then x else y)
chosen test x y b e = ap (λ t. if t then x else y) e

joins : (row next : PathRow) (rows : List PathRow) → same_cell row next ≡ true → Grouped next rows → Grouped row (next ∷ rows)
joins row next rows same g =
    let one : List ℕ = path_text row in
    let none : between_text (cell_of row) (cell_of next) ≡ [] = chosen (same_cell row next) [] (closing_text ++ opening_text (cell_of next)) true same in
    record {
      group = next ∷ g.group;
      cells = g.cells;
      is = ap (before_cells row) g.is ∙ chosen (same_cell row next) ((row ∷ next ∷ g.group) ∷ g.cells) ((row ∷ []) ∷ (next ∷ g.group) ∷ g.cells) true same;
      text =
          append_assoc one (paths_text (next ∷ g.group)) (closing_text ++ all_text g.cells)
          ∙ ap (λ t. one ++ t) (g.text ∙ sym (ap (λ t. (t ++ path_text next) ++ rest_text (cell_of next) rows) none));
    }

begins : (row next : PathRow) (rows : List PathRow) → same_cell row next ≡ false → Grouped next rows → Grouped row (next ∷ rows)
begins row next rows other g =
    let one : List ℕ = path_text row in
    let head : List ℕ = opening_text (cell_of next) in
    let two : List ℕ = path_text next in
    let rest : List ℕ = rest_text (cell_of next) rows in
    let some : between_text (cell_of row) (cell_of next) ≡ closing_text ++ head = chosen (same_cell row next) [] (closing_text ++ head) false other in
    let shuffled : closing_text ++ (head ++ (two ++ rest)) ≡ ((closing_text ++ head) ++ two) ++ rest = sym (append_assoc closing_text head (two ++ rest)) ∙ sym (append_assoc (closing_text ++ head) two rest) in
    record {
      group = [];
      cells = (next ∷ g.group) ∷ g.cells;
      is = ap (before_cells row) g.is ∙ chosen (same_cell row next) ((row ∷ next ∷ g.group) ∷ g.cells) ((row ∷ []) ∷ (next ∷ g.group) ∷ g.cells) false other;
      text =
          ap (λ t. t ++ (closing_text ++ all_text ((next ∷ g.group) ∷ g.cells))) (append-nil one)
          ∙ ap (λ t. one ++ (closing_text ++ t)) (cells_parts next g.group g.cells ∙ ap (λ t. head ++ t) g.text)
          ∙ ap (λ t. one ++ t) (shuffled ∙ sym (ap (λ t. (t ++ two) ++ rest) some));
    }

grouped : (row : PathRow) (rows : List PathRow) → Grouped row rows
grouped row [] = record {
  group = [];
  cells = [];
  is = refl;
  text = ap (λ t. t ++ (closing_text ++ [])) (append-nil (path_text row)) ∙ ap (λ t. path_text row ++ t) (append-nil closing_text);
}
grouped row (next ∷ rows) = by (same_cell row next) refl (grouped next rows)
  where
    by : (b : Bool) → same_cell row next ≡ b → Grouped next rows → Grouped row (next ∷ rows)
    by true e g = joins row next rows e g
    by false e g = begins row next rows e g

-- the cells of some paths: the opening of the first, its first path, and the rest
pub cells_text_of : (row : PathRow) (rows : List PathRow) → cells_text (row ∷ rows) ≡ opening_text (cell_of row) ++ (path_text row ++ rest_text (cell_of row) rows)
cells_text_of row rows =
    let g = grouped row rows in
    ap all_text g.is ∙ cells_parts row g.group g.cells ∙ ap (λ t. opening_text (cell_of row) ++ t) g.text

-- ---- what stands between two paths

-- whether two cells are one, where the names of the second are read elsewhere
pub same_parts : (one other : Cell) {kind instance : List ℕ} {same : Bool} → same ≡ is_same one (record { kind = kind; instance = instance }) → kind ≡ other.kind → instance ≡ other.instance → is_same one other ≡ same
same_parts one other s k i = sym (s ∙ ap₂ (λ (k i : List ℕ). is_same one (record { kind = k; instance = i })) k i)

pub between_two : (one other : Cell) → is_same one other ≡ false → between_text one other ≡ closing_text ++ opening_text other
between_two one other e = chosen (is_same one other) [] (closing_text ++ opening_text other) false e

pub between_none : (one other : Cell) → is_same one other ≡ true → between_text one other ≡ []
between_none one other e = chosen (is_same one other) [] (closing_text ++ opening_text other) true e

-- the line of a path whose names are read elsewhere
pub line_parts : {from to : List ℕ} (from' to' : List ℕ) (rise fall : Option (List Femto)) → from ≡ from' → to ≡ to' → line_text from' to' rise fall ≡ line_text from to rise fall
line_parts from' to' rise fall e f = rw (e, f) refl
