use Rattle.std.proofs.Common.{List, length, All, ap, ◌∙◌, subst, refl, sym, true}
use Rattle.cell_models.specs.Cells.{TimedCell, IsCell}
use Rattle.cell_models.specs.CornerCells.{AreOneShape}
use Rattle.cell_models.proofs.joining.join_corners.Goals as goal

-- src/joining.rt
pub of-requires : goal.of-requires
of-requires g c =
    let same = c.into_cells-cells.ensures.cells in
    let AreCells : List TimedCell → Type 0 = All IsCell in
    let OneShape : List TimedCell → Type 0 = AreOneShape in
    record {
      every = ap length same ∙ c.requires;
      shaped = subst OneShape c.as_slice.ensures.value (c.in_ok-compare_shapes.ensures.alike.0 (refl {a = true}));
      whole = subst AreCells (sym same) c.into_cells-cells.ensures.whole;
    }
