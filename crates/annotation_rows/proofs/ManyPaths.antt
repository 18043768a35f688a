-- The paths of cells, by one cell more.
use Rattle.std.proofs.Common.{◌≡◌, ℕ, ◌+◌, ◌<◌, ◌∙◌, ap, sym, refl, subst, List, [], ◌∷◌, ◌++◌, length, length-append, get_or, Some, inl, inr, arith}
use Rattle.std.specs.Prelude.{slice_get}
use Rattle.std.specs.Option.{option_map_or}
use Rattle.std.proofs.lemmas.Bool.{cases_lt}
use Rattle.std.proofs.lemmas.List.{get_or_append_left, get_or-append-add}
use Rattle.std.proofs.lemmas.Option.{get_or_from_slice_get}
use Rattle.cell_models.specs.Cells.{TimedCell}
use Rattle.cell_models.specs.CornerCells.{AreCornerCells, arcs_at}
use Rattle.cell_models.specs.NamedSets.{NamedCells, set_cells}
use Rattle.cell_models.specs.declared.cell.Arc.{Arc}
use Rattle.slew_order.specs.FlatArcs.{arcs_of}
use Rattle.annotation_rows.specs.CellPaths.{ArePaths, HavePaths}
use Rattle.annotation_rows.specs.RowLaws.{AreShaped}

-- of each of the first so many cells the paths of its arcs
pub record HavePathsTo (cells : List NamedCells) (many : ℕ) (paths : List (List ℕ)) : Type 0 where
  pub len : length paths ≡ many
  pub each : (cell : ℕ) → cell < many → ArePaths (arcs_of cells cell 0) (get_or paths cell [])

pub none_have : (cells : List NamedCells) → HavePathsTo cells 0 []
none_have cells = record { len = refl; each = λ cell below. absurd (omega (arith, below)) }

pub more_have : (cells : List NamedCells) (many : ℕ) (models : List TimedCell) (own : List ℕ) (paths after : List (List ℕ)) → HavePathsTo cells many paths
    → slice_get (set_cells cells) many ≡ Some models → ArePaths (arcs_at models 0) own → after ≡ paths ++ own ∷ [] → HavePathsTo cells (many + 1) after
more_have cells many models own paths after held here are is = record {
  len = ap length is ∙ length-append paths (own ∷ []) ∙ ap (λ k. k + 1) held.len;
  each = λ cell below. elim (cases_lt cell many) [
    | inl less ↦ subst (ArePaths (arcs_of cells cell 0))
        (sym (ap (λ xs. get_or xs cell []) is ∙ get_or_append_left paths (own ∷ []) [] cell (omega (arith, less, held.len)))) (held.each cell less)
    | inr more ↦ (
        let at : many ≡ cell = omega (arith, below, more) in
        let last : length paths + 0 ≡ cell = omega (arith, held.len, at) in
        let put : get_or after cell [] ≡ own =
        ap (λ xs. get_or xs cell []) is ∙ ap (λ k. get_or (paths ++ own ∷ []) k []) (sym last) ∙ get_or-append-add paths (own ∷ []) 0 [] in
        let arcs : arcs_at models 0 ≡ arcs_of cells cell 0 =
        sym (ap (λ found. option_map_or (λ m. arcs_at m 0) found (let none : List Arc = [] in none)) here) ∙ ap (λ k. arcs_of cells k 0) at in
        subst (ArePaths (arcs_of cells cell 0)) (sym put) (subst (λ xs. ArePaths xs own) arcs are))
  ];
}

pub all_have : (cells : List NamedCells) (many : ℕ) (paths : List (List ℕ)) → many ≡ length cells → HavePathsTo cells many paths → HavePaths cells paths
all_have cells many paths all held = record {
  len = held.len ∙ all;
  each = λ cell below. held.each cell (omega (arith, below, all));
}

-- each of the first so many cells has one shape
abbrev pub AreShapedTo : ℕ → List NamedCells → ℕ → Type 0
AreShapedTo count cells many = (cell : ℕ) → cell < many → AreCornerCells count (get_or (set_cells cells) cell [])

pub none_shaped : (count : ℕ) (cells : List NamedCells) → AreShapedTo count cells 0
none_shaped count cells cell below = absurd (omega (arith, below))

pub more_shaped : (count : ℕ) (cells : List NamedCells) (many : ℕ) (models : List TimedCell) → AreShapedTo count cells many
    → slice_get (set_cells cells) many ≡ Some models → AreCornerCells count models → AreShapedTo count cells (many + 1)
more_shaped count cells many models held here whole cell below = elim (cases_lt cell many) [
  | inl less ↦ held cell less
  | inr more ↦ (
      let at : many ≡ cell = omega (arith, below, more) in
      subst (AreCornerCells count) (sym (get_or_from_slice_get (set_cells cells) many models [] here) ∙ ap (λ k. get_or (set_cells cells) k []) at) whole)
]

pub all_shaped : (count : ℕ) (cells : List NamedCells) (many : ℕ) → many ≡ length cells → AreShapedTo count cells many → AreShaped count cells
all_shaped count cells many all held cell below = held cell (omega (arith, below, all))
