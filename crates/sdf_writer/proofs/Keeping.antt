-- Rows of paths stay as they are when names, cells and times are put behind theirs.
use Rattle.std.proofs.Common.{◌≡◌, ℕ, suc, ◌+◌, ◌-◌, ◌<◌, ◌≤◌, List, [], ◌∷◌, ◌++◌, length, get_or, take, drop, Option, Some, None, Result, Ok, Err, OnErr, refl, sym, ap, ap₂, ◌∙◌, subst, arith}
use Rattle.std.specs.List.{All}
use Rattle.std.proofs.lemmas.List.{length-append, get_or_append_left, take-append-le, drop-append-le, take_all, length-drop, append-nil, append_assoc, map-append, drop_all}
use Rattle.std.proofs.lemmas.List.Elements.{All-nil, All-push, All-append}
use Rattle.std.proofs.Math.Seq.{get_or-append_seam}
use Rattle.delay_units.specs.declared.Femto.{Femto}
use Rattle.sdf_writer.specs.Bounds.{AreWithin}
use Rattle.sdf_writer.specs.SdfText.{PathRow}
use Rattle.sdf_writer.specs.Names.{ExtendsNames, KeepsName}
use Rattle.sdf_writer.specs.PathRows.{Cell, no_cell, cell_of_names, cell_at, edge_at, path_row, path_rows, IsCellKept, IsEdgeKept, IsKept, Extends, ExtendsTimes, KeepsEdge, KeepsCellNames, KeepsCell, KeepsRow}
use Rattle.sdf_writer.specs.declared.paths.KeptCell.{KeptCell}
use Rattle.sdf_writer.specs.declared.paths.Path.{Path}
use Rattle.sdf_writer.proofs.KeptNames.{longer, names_grow, name_stays}
use Rattle.sdf_writer.proofs.Within.{within_append}

-- ---- lists that grow

pub same_cells : (names : ℕ) (cells cells' : List KeptCell) → cells' ≡ cells → Extends names cells cells'
same_cells names cells cells' e = record { more = []; is = e ∙ sym (append-nil cells); kept = All-nil (IsCellKept names) }

pub same_times : (times times' : List Femto) → times' ≡ times → ExtendsTimes times times'
same_times times times' e = record { more = []; is = e ∙ sym (append-nil times); within = tt }

pub times_then : {first second third : List Femto} → ExtendsTimes first second → ExtendsTimes second third → ExtendsTimes first third
times_then {first} a b = record {
  more = a.more ++ b.more;
  is = b.is ∙ ap (λ t. t ++ b.more) a.is ∙ append_assoc first a.more b.more;
  within = within_append a.more b.more a.within b.within;
}

-- ---- what is kept

edge_kept : (count n m : ℕ) (place : Option ℕ) → n ≤ m → IsEdgeKept count n place → IsEdgeKept count m place
edge_kept count n m None le kept = tt
edge_kept count n m (Some place) le kept = omega (arith, le, kept)

edge_stays : (count : ℕ) (times more : List Femto) (place : Option ℕ) → IsEdgeKept count (length times) place → edge_at count (times ++ more) place ≡ edge_at count times place
edge_stays count times more None kept = refl
edge_stays count times more (Some place) kept =
    let size : length (drop place times) ≡ length times - place = length-drop place times in
    ap (λ t. Some t)
    (ap (take count) (drop-append-le place times more (omega (arith, kept)))
    ∙ take-append-le count (drop place times) more (omega (arith, kept, size)))

pub edge_later : {count : ℕ} {times times' : List Femto} {edge : Option (List Femto)} {place : Option ℕ} → ExtendsTimes times times' → KeepsEdge count times edge place → KeepsEdge count times' edge place
edge_later {count} {times} {times'} {place = place} grown keeps = record {
  kept = edge_kept count (length times) (length times') place (longer times grown.more grown.is) keeps.kept;
  is = ap (λ t. edge_at count t place) grown.is ∙ edge_stays count times grown.more place keeps.kept ∙ keeps.is;
}

make_cell : List ℕ → List ℕ → Cell
make_cell kind instance = record { kind = kind; instance = instance }

cell_named : {names names' : List (List ℕ)} (cell : KeptCell) → ExtendsNames names names' → IsCellKept (length names) cell → cell_of_names names' cell ≡ cell_of_names names cell
unfolding make_cell
cell_named cell grown kept = ap₂ make_cell (name_stays cell.kind grown kept.kind) (name_stays cell.instance grown kept.instance)

cell_kept : (n m : ℕ) (cell : KeptCell) → n ≤ m → IsCellKept n cell → IsCellKept m cell
cell_kept n m cell le kept = record { kind = omega (arith, le, kept.kind); instance = omega (arith, le, kept.instance) }

-- cells whose names stand among some stand among more
pub cells_kept : {names names' : List (List ℕ)} (cells : List KeptCell) → ExtendsNames names names' → All (IsCellKept (length names)) cells → All (IsCellKept (length names')) cells
cells_kept {names} {names'} cells grown kept = λ k d below. cell_kept (length names) (length names') (get_or cells k d) (names_grow grown) (kept k d below)

pub cells_more : {names names' : List (List ℕ)} {cells cells' : List KeptCell} → ExtendsNames names names' → Extends (length names') cells cells' → All (IsCellKept (length names)) cells → All (IsCellKept (length names')) cells'
cells_more {names' = names'} {cells} grown more kept =
    subst (All (IsCellKept (length names'))) (sym more.is) (All-append (IsCellKept (length names')) cells more.more (cells_kept cells grown kept) more.kept)

-- what grew round the paths that were kept
pub record Grown (names names' : List (List ℕ)) (cells cells' : List KeptCell) (times times' : List Femto) : Type 0 where
  pub names_more : ExtendsNames names names'
  pub cells_more : Extends (length names') cells cells'
  pub times_more : ExtendsTimes times times'
  pub named : All (IsCellKept (length names)) cells

pub all_grown : {names names' : List (List ℕ)} {cells cells' : List KeptCell} {times times' : List Femto} → ExtendsNames names names' → Extends (length names') cells cells' → ExtendsTimes times times' → All (IsCellKept (length names)) cells → Grown names names' cells cells' times times'
all_grown n c t named = record { names_more = n; cells_more = c; times_more = t; named = named }

cell_stays : {names names' : List (List ℕ)} {cells cells' : List KeptCell} {times times' : List Femto} (place : ℕ) → Grown names names' cells cells' times times' → place < length cells → cell_at names' cells' place ≡ cell_at names cells place
cell_stays {names' = names'} {cells} place grown below =
    ap (λ (l : List KeptCell). cell_at names' l place) grown.cells_more.is
    ∙ ap (cell_of_names names') (get_or_append_left cells grown.cells_more.more no_cell place below)
    ∙ cell_named (get_or cells place no_cell) grown.names_more (grown.named place no_cell below)

edge_as_before : (count : ℕ) {times times' : List Femto} (place : Option ℕ) → ExtendsTimes times times' → IsEdgeKept count (length times) place → edge_at count times' place ≡ edge_at count times place
edge_as_before count {times} place grown kept = ap (λ t. edge_at count t place) grown.is ∙ edge_stays count times grown.more place kept

path_kept : (count : ℕ) {names names' : List (List ℕ)} {cells cells' : List KeptCell} {times times' : List Femto} (path : Path) → Grown names names' cells cells' times times'
    → IsKept count (length names) (length cells) (length times) path → IsKept count (length names') (length cells') (length times') path
path_kept count {names} {names'} {cells} {cells'} {times} {times'} path grown kept =
    let more_names : length names ≤ length names' = names_grow grown.names_more in
    let more_cells : length cells ≤ length cells' = longer cells grown.cells_more.more grown.cells_more.is in
    let more_times : length times ≤ length times' = longer times grown.times_more.more grown.times_more.is in
    record {
      from = omega (arith, more_names, kept.from);
      to = omega (arith, more_names, kept.to);
      cell = omega (arith, more_cells, kept.cell);
      rise = edge_kept count (length times) (length times') path.rise more_times kept.rise;
      fall = edge_kept count (length times) (length times') path.fall more_times kept.fall;
    }

-- a row of these parts
row_of : (cell : Cell) (from to : List ℕ) (rise fall : Option (List Femto)) → PathRow
row_of cell from to rise fall = record { cell = cell.kind; instance = cell.instance; from = from; to = to; rise = rise; fall = fall }

row_same : {cell cell' : Cell} {from from' to to' : List ℕ} {rise rise' fall fall' : Option (List Femto)} → cell ≡ cell' → from ≡ from' → to ≡ to' → rise ≡ rise' → fall ≡ fall' → row_of cell from to rise fall ≡ row_of cell' from' to' rise' fall'
row_same {cell} {cell'} {from} {from'} {to} {to'} {rise} {rise'} {fall} {fall'} c f t r l =
    ap (λ x. row_of x from to rise fall) c ∙ ap₂ (λ x y. row_of cell' x y rise fall) f t ∙ ap₂ (row_of cell' from' to') r l

path_stays : (count : ℕ) {names names' : List (List ℕ)} {cells cells' : List KeptCell} {times times' : List Femto} (path : Path) → Grown names names' cells cells' times times'
    → IsKept count (length names) (length cells) (length times) path → path_row count names' cells' times' path ≡ path_row count names cells times path
unfolding row_of
path_stays count path grown kept =
    row_same (cell_stays path.cell grown kept.cell) (name_stays path.from grown.names_more kept.from) (name_stays path.to grown.names_more kept.to)
    (edge_as_before count path.rise grown.times_more kept.rise) (edge_as_before count path.fall grown.times_more kept.fall)

-- ---- a path more

-- the parts of a path
pub row_kept : (count : ℕ) (names : List (List ℕ)) (cells : List KeptCell) (times : List Femto) (cell : Cell) (from to : List ℕ) (path : Path) (rise fall : Option (List Femto)) → KeepsCell names cells cell path.cell → KeepsName names from path.from → KeepsName names to path.to
    → KeepsEdge count times rise path.rise → KeepsEdge count times fall path.fall
    → KeepsRow count names cells times (record { cell = cell.kind; instance = cell.instance; from = from; to = to; rise = rise; fall = fall }) path
unfolding row_of
row_kept count names cells times cell from to path rise fall c n m r f = record {
  kept = record { from = n.below; to = m.below; cell = c.below; rise = r.kept; fall = f.kept };
  is = row_same c.is n.is m.is r.is f.is;
}

-- the paths that were kept stay, and their rows too
pub kept_more : (count : ℕ) {names names' : List (List ℕ)} {cells cells' : List KeptCell} {times times' : List Femto} (paths : List Path) → Grown names names' cells cells' times times'
    → All (IsKept count (length names) (length cells) (length times)) paths → All (IsKept count (length names') (length cells') (length times')) paths
kept_more count paths grown kept = λ k d below. path_kept count (get_or paths k d) grown (kept k d below)

pub rows_more : (count : ℕ) {names names' : List (List ℕ)} {cells cells' : List KeptCell} {times times' : List Femto} (paths : List Path) → Grown names names' cells cells' times times'
    → All (IsKept count (length names) (length cells) (length times)) paths → path_rows count names' cells' times' paths ≡ path_rows count names cells times paths
rows_more count [] grown kept = refl
rows_more count (path ∷ paths) grown kept =
    ap₂ (λ (row : PathRow) (rows : List PathRow). row ∷ rows) (path_stays count path grown (kept 0 path (omega arith)))
    (rows_more count paths grown (λ k d below. kept (suc k) d (omega (arith, below))))

pub within_more : {times times' : List Femto} → ExtendsTimes times times' → AreWithin times → AreWithin times'
within_more {times} later all = subst AreWithin (sym later.is) (within_append times later.more all later.within)

-- the rows with a path more, where the paths and the rows before them are named
pub rows_put : (count : ℕ) {names names' : List (List ℕ)} {cells cells' : List KeptCell} {times times' : List Femto} (paths : List Path) {paths' : List Path} (path : Path) (row : PathRow) (before : List PathRow) → Grown names names' cells cells' times times'
    → All (IsKept count (length names) (length cells) (length times)) paths → KeepsRow count names' cells' times' row path
    → paths' ≡ paths ++ path ∷ [] → path_rows count names cells times paths ≡ before → path_rows count names' cells' times' paths' ≡ before ++ row ∷ []
rows_put count {names' = names'} {cells' = cells'} {times' = times'} paths path row before grown kept keeps e view =
    ap (path_rows count names' cells' times') e
    ∙ map-append (path_row count names' cells' times') paths (path ∷ [])
    ∙ ap₂ (λ (rows : List PathRow) (last : PathRow). rows ++ last ∷ []) (rows_more count paths grown kept ∙ view) keeps.is

-- the rows where none is put behind them
pub rows_left : {A E : Type 0} (result : Result A E) (count : ℕ) {names names' : List (List ℕ)} {cells cells' : List KeptCell} {times times' : List Femto} (paths : List Path) {paths' : List Path} (before : List PathRow) → Grown names names' cells cells' times times'
    → All (IsKept count (length names) (length cells) (length times)) paths
    → paths' ≡ paths → path_rows count names cells times paths ≡ before → OnErr result (path_rows count names' cells' times' paths' ≡ before)
rows_left (Ok done) count paths before grown kept e view = tt
rows_left (Err failed) count {names' = names'} {cells' = cells'} {times' = times'} paths before grown kept e view = ap (path_rows count names' cells' times') e ∙ rows_more count paths grown kept ∙ view

pub kept_added : (count : ℕ) {names names' : List (List ℕ)} {cells cells' : List KeptCell} {times times' : List Femto} (paths : List Path) (path : Path) (row : PathRow) → Grown names names' cells cells' times times'
    → All (IsKept count (length names) (length cells) (length times)) paths → KeepsRow count names' cells' times' row path
    → All (IsKept count (length names') (length cells') (length times')) (paths ++ path ∷ [])
kept_added count {names' = names'} {cells' = cells'} {times' = times'} paths path row grown kept keeps = All-push (IsKept count (length names') (length cells') (length times')) paths path (kept_more count paths grown kept) keeps.kept

-- ---- the times of an edge, and a cell

pub edge_added : (count : ℕ) (times delay : List Femto) {times' slice : List Femto} {place : ℕ} → place ≡ length times → times' ≡ times ++ slice → slice ≡ delay → length delay ≡ count → KeepsEdge count times' (Some delay) (Some place)
edge_added count times delay {times'} {slice} {place} e f h one =
    let grown : times' ≡ times ++ delay = f ∙ ap (λ s. times ++ s) h in
    let size : length times' ≡ length times + length delay = ap length grown ∙ length-append times delay in
    let behind : drop place times' ≡ delay =
    ap₂ drop e grown ∙ drop-append-le (length times) times delay (omega arith) ∙ ap (λ t. t ++ delay) (drop_all (length times) times (omega arith)) in
    record {
      kept = omega (arith, e, size, one);
      is = ap (λ t. Some (take count t)) behind ∙ ap (λ t. Some t) (take_all count delay (omega (arith, one)));
    }

pub times_added : (times delay : List Femto) {times' slice : List Femto} → times' ≡ times ++ slice → slice ≡ delay → AreWithin delay → ExtendsTimes times times'
times_added times delay f h within = record { more = delay; is = f ∙ ap (λ s. times ++ s) h; within = within }

pub cell_added : (names : List (List ℕ)) (cells cells' : List KeptCell) (cell : Cell) (kept : KeptCell) (place : ℕ) → KeepsCellNames names cell kept → cells' ≡ cells ++ kept ∷ [] → place ≡ length cells → KeepsCell names cells' cell place
unfolding make_cell
cell_added names cells cells' cell kept place keeps e f =
    let size : length cells' ≡ length cells + 1 = ap length e ∙ length-append cells (kept ∷ []) in
    record {
      below = omega (arith, f, size);
      is = ap₂ (cell_at names) e f ∙ ap (cell_of_names names) (get_or-append_seam cells kept [] no_cell) ∙ ap₂ make_cell keeps.kind_kept.is keeps.instance_kept.is;
    }

pub cells_pushed : (names : List (List ℕ)) (cells cells' : List KeptCell) (cell : Cell) (kept : KeptCell) → KeepsCellNames names cell kept → cells' ≡ cells ++ kept ∷ [] → Extends (length names) cells cells'
cells_pushed names cells cells' cell kept keeps e = record {
  more = kept ∷ [];
  is = e;
  kept = All-push (IsCellKept (length names)) [] kept (All-nil (IsCellKept (length names))) (record { kind = keeps.kind_kept.below; instance = keeps.instance_kept.below });
}
