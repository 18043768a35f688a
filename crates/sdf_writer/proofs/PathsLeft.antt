-- Paths whose lines are pushed one after another, each behind the one before it.
use Rattle.std.proofs.Common.{◌≡◌, ℕ, zero, suc, ◌+◌, ◌-◌, ◌<◌, ◌≤◌, List, [], ◌∷◌, ◌++◌, length, take, drop, get_or, Option, None, Result, Ok, Err, refl, ap, sym, ◌∙◌, arith}
use Rattle.std.proofs.lemmas.List.{append_assoc, take_all, drop_all}
use Rattle.delay_units.specs.declared.Femto.{Femto}
use Rattle.edge_io.specs.declared.Failed.{Failed}
use Rattle.edge_io.specs.Gathering.{Pushes}
use Rattle.sdf_writer.specs.SdfText.{PathRow}
use Rattle.sdf_writer.specs.Names.{name_at}
use Rattle.sdf_writer.specs.PathRows.{Cell, cell_at, edge_at, path_row, path_rows, cell_of, line_text, opening_text, closing_text, between_text, next_text, rest_text, cells_text}
use Rattle.sdf_writer.specs.declared.paths.KeptCell.{KeptCell}
use Rattle.sdf_writer.specs.declared.paths.Path.{Path}
use Rattle.sdf_writer.proofs.CellTexts.{path_parts, cells_text_of}
use Rattle.edge_io.specs.Pushing.{pushes_nothing, pushes_then, pushes_stop}

-- of the whole text that before some rows is pushed; they stand behind a path of some cell
pub record WroteUpTo (whole : List ℕ) (before : Cell) (rows : List PathRow) (start waiting : List ℕ) (told now : Option (List ℕ)) (faults faults' : ℕ) : Type 0 where
  pub front : List ℕ
  pub whole_is : whole ≡ front ++ rest_text before rows
  pub pushed : Pushes (start ++ front) waiting told now faults faults' (Ok tt)

-- none is pushed yet
pub none_yet : (before : Cell) (rows : List PathRow) (start : List ℕ) (told : Option (List ℕ)) (faults : ℕ) → WroteUpTo (rest_text before rows) before rows start start told told faults faults
none_yet before rows start told faults = record { front = []; whole_is = refl; pushed = pushes_nothing start told faults }

-- the row of the path at `i`, and the rows after it
pub rows_at : (count : ℕ) (names : List (List ℕ)) (cells : List KeptCell) (times : List Femto) (paths : List Path) (i : ℕ) (d : Path) → i < length paths → path_rows count names cells times (drop i paths) ≡ path_row count names cells times (get_or paths i d) ∷ path_rows count names cells times (drop (i + 1) paths)
rows_at count names cells times [] i d below = absurd (omega (arith, below))
rows_at count names cells times (path ∷ paths) zero d below = refl
rows_at count names cells times (path ∷ paths) (suc i) d below =
    let next : suc i + 1 ≡ suc (i + 1) = omega arith in
    rw next (rows_at count names cells times paths i d (omega (arith, below)))

-- the next path is pushed
pub one_more : {whole : List ℕ} {before : Cell} {rows : List PathRow} (row : PathRow) (others : List PathRow) {start waiting waiting' : List ℕ} {told middle now : Option (List ℕ)} {faults faults₁ faults₂ : ℕ} {done : Unit {0}} → rows ≡ row ∷ others
    → WroteUpTo whole before rows start waiting told middle faults faults₁ → Pushes (waiting ++ next_text before row) waiting' middle now faults₁ faults₂ (Ok done) → WroteUpTo whole (cell_of row) others start waiting' told now faults faults₂
one_more {before = before} row others {start} e w v =
    let text : List ℕ = next_text before row in
    record {
      front = w.front ++ text;
      whole_is = w.whole_is ∙ ap (λ rows. w.front ++ rest_text before rows) e ∙ sym (append_assoc w.front text (rest_text (cell_of row) others));
      pushed = pushes_then start w.front text {result = Ok tt} w.pushed v;
    }

-- the next path is cut
pub one_cut : {whole : List ℕ} {before : Cell} {rows : List PathRow} (row : PathRow) (others : List PathRow) {start waiting waiting' waiting'' : List ℕ} {told middle now : Option (List ℕ)} {faults faults₁ faults₂ : ℕ} {failed failed' : Failed} → rows ≡ row ∷ others
    → WroteUpTo whole before rows start waiting told middle faults faults₁ → Pushes (waiting ++ next_text before row) waiting' middle now faults₁ faults₂ (Err failed) → Pushes (start ++ whole) waiting'' told now faults faults₂ (Err failed')
one_cut {before = before} row others {start} e w v =
    let text : List ℕ = next_text before row in
    let more : List ℕ = rest_text (cell_of row) others in
    let parts = w.whole_is ∙ ap (λ rows. w.front ++ rest_text before rows) e ∙ sym (append_assoc w.front text more) in
    rw parts (pushes_stop start (w.front ++ text) more (pushes_then start w.front text {result = Err _} w.pushed v))

-- behind the last path the cell is closed
pub closed : {whole : List ℕ} {before : Cell} {rows : List PathRow} {start waiting waiting' : List ℕ} {told middle now : Option (List ℕ)} {faults faults₁ faults₂ : ℕ} {result : Result (Unit {0}) Failed} → rows ≡ []
    → WroteUpTo whole before rows start waiting told middle faults faults₁ → Pushes (waiting ++ closing_text) waiting' middle now faults₁ faults₂ result → Pushes (start ++ whole) waiting' told now faults faults₂ result
closed {before = before} {start = start} {result = result} e w v =
    rw (w.whole_is ∙ ap (λ rows. w.front ++ rest_text before rows) e) (pushes_then start w.front closing_text {result = result} w.pushed v)

-- ---- what is read of the lists

-- what a place past the end of a list of paths would hold
abbrev pub no_path : Path
no_path = record { cell = 0; from = 0; to = 0; rise = None; fall = None }

pub no_rows : (count : ℕ) (names : List (List ℕ)) (cells : List KeptCell) (times : List Femto) (paths : List Path) (i : ℕ) → length paths ≤ i → path_rows count names cells times (drop i paths) ≡ []
no_rows count names cells times paths i past = ap (path_rows count names cells times) (drop_all i paths past)

-- the line of a path
abbrev pub kept_line : ℕ → List (List ℕ) → List Femto → Path → List ℕ
kept_line count names times path = line_text (name_at names path.from) (name_at names path.to) (edge_at count times path.rise) (edge_at count times path.fall)

-- a path behind one of some cell
pub next_parts : (count : ℕ) (names : List (List ℕ)) (cells : List KeptCell) (times : List Femto) (before : ℕ) (path : Path)
    → next_text (cell_at names cells before) (path_row count names cells times path) ≡ between_text (cell_at names cells before) (cell_at names cells path.cell) ++ kept_line count names times path
next_parts count names cells times before path =
    ap (λ t. between_text (cell_at names cells before) (cell_at names cells path.cell) ++ t) (path_parts (path_row count names cells times path))

-- the paths behind the first
abbrev pub other_rows : ℕ → List (List ℕ) → List KeptCell → List Femto → List Path → List PathRow
other_rows count names cells times paths = path_rows count names cells times (take (length paths - 1) (drop 1 paths))

-- the first cell, its first path, and the paths behind it
pub first_parts : (count : ℕ) (names : List (List ℕ)) (cells : List KeptCell) (times : List Femto) (paths : List Path) (first : Path) → 1 ≤ length paths → first ≡ get_or paths 0 no_path
    → cells_text (path_rows count names cells times paths) ≡ opening_text (cell_at names cells first.cell) ++ (kept_line count names times first ++ rest_text (cell_at names cells first.cell) (other_rows count names cells times paths))
first_parts count names cells times [] first some e = absurd (omega (arith, some))
first_parts count names cells times (path ∷ paths) first some e =
    let row : PathRow = path_row count names cells times first in
    let rows : List PathRow = path_rows count names cells times paths in
    let all : take (length (path ∷ paths) - 1) paths ≡ paths = take_all (length (path ∷ paths) - 1) paths (omega arith) in
    ap (λ p. cells_text (path_row count names cells times p ∷ rows)) (sym e)
    ∙ cells_text_of row rows
    ∙ ap (λ t. opening_text (cell_at names cells first.cell) ++ (t ++ rest_text (cell_of row) rows)) (path_parts row)
    ∙ ap (λ ps. opening_text (cell_at names cells first.cell) ++ (kept_line count names times first ++ rest_text (cell_of row) (path_rows count names cells times ps))) (sym all)
