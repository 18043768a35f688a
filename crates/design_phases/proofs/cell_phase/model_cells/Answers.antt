-- The cell of a name stops the phase, or its models are one more.
use Rattle.std.proofs.Common.{List, map}
use Rattle.liberty_groups.specs.Tables.{tree_of}
use Rattle.cell_models.specs.Cells.{TimedCell}
use Rattle.cell_models.specs.NamedSets.{NamedCells}
use Rattle.design_phases.specs.CellPhase.{ModelsCorners, ModelsCells, at_cell}
use Rattle.design_phases.proofs.CellLemmas.{named_at, name_is_new, cell_more}
use Rattle.design_phases.proofs.LibraryLemmas.{no_file_on}
use Rattle.design_phases.proofs.cell_phase.model_cells.Goals as goal

pub returns-in_err-set : goal.returns-in_err-set
returns-in_err-set g c =
    let named = named_at c.args.used.now c.as_slice-name-items.result.now c.loop-name.name-index c.name-item.result c.as_slice-name-items.ensures c.loop-name-test.true c.name-item.is in
    record {
      follows = no_file_on (List TimedCell) (List NamedCells) c.from_residual.result c.in_err-set.field-0.0 (ModelsCorners (map tree_of c.args.libraries.now) c.name-item.result)
          (ModelsCells (map tree_of c.args.libraries.now) c.args.used.now) c.from_residual.ensures.1 c.in_err-set.ensures.follows
          (λ refusal models. at_cell c.loop-name.name-index c.name-item.result c.loop-name.cells refusal c.loop-name.invariant named models);
    }

pub add-requires : goal.add-requires
add-requires g c =
    let named = named_at c.args.used.now c.as_slice-name-items.result.now c.loop-name.name-index c.name-item.result c.as_slice-name-items.ensures c.loop-name-test.true c.name-item.is in
    name_is_new c.args.used.now c.loop-name.name-index c.name-item.result _ c.requires.distinct named c.loop-name.invariant.named

pub loop-name-preserved : goal.loop-name-preserved
loop-name-preserved g c =
    let named = named_at c.args.used.now c.as_slice-name-items.result.now c.loop-name.name-index c.name-item.result c.as_slice-name-items.ensures c.loop-name-test.true c.name-item.is in
    cell_more (map tree_of c.args.libraries.now) c.args.used.now c.loop-name.name-index c.name-item.result c.in_ok-set.set c.loop-name.cells c.add.new.self c.loop-name.invariant named c.in_ok-set.ensures.follows c.in_ok-add.ensures.ok
