-- The phases that read a library have one answer each.
use Rattle.std.proofs.Common.{◌≢◌, Ok, Err, refl, ap}
use Rattle.liberty_groups.specs.declared.faults.SyntaxFault.{SyntaxFault}
use Rattle.liberty_groups.proofs.OneFault.{one_fault}
use Rattle.liberty_groups.proofs.SoFar.{one_tree}
use Rattle.liberty_tables.specs.declared.faults.CellFault.{CellFault}
use Rattle.liberty_tables.specs.declared.faults.CellFault.TheVariants.{NoSuchCell, OutOfMemory}
use Rattle.timing_arcs.proofs.OneAnswer.{one_fault_lem, no_fault_beside_lem}
use Rattle.timing_arcs.proofs.OneModel.{one_model_lem}
use Rattle.refusals.specs.declared.refusal.Refusal.TheVariants as refusal
use Rattle.design_phases.specs.LibraryPhases.{is_library, is_no_library, has_model, no_cell, no_model}
use Rattle.design_phases.specs.OneAnswer.{OneLibrary, OneCell}

-- ---- the library

pub one_library_lem : OneLibrary
one_library_lem corner bytes _ _ (is_library tree says) (is_library also tells) = ap Ok (one_tree bytes tree also says tells)
one_library_lem corner bytes _ _ (is_library tree says) (is_no_library fault is) = absurd (is.nothing tree says)
one_library_lem corner bytes _ _ (is_no_library fault is) (is_library tree says) = absurd (is.nothing tree says)
one_library_lem corner bytes _ _ (is_no_library fault is) (is_no_library also its) =
    ap (λ (f : SyntaxFault). Err (refusal.LibrarySyntax corner f.token f.line f.cause)) (one_fault bytes fault also is its)

-- ---- the model of a cell

is_no_memory : NoSuchCell ≢ OutOfMemory
is_no_memory e = cc

pub one_cell_lem : OneCell
one_cell_lem corner library name _ _ (has_model cell is) (has_model also its) = ap Ok (one_model_lem library name cell also is its)
one_cell_lem corner library name _ _ (has_model cell is) (no_cell fault) = absurd (is_no_memory (no_fault_beside_lem library name cell NoSuchCell is fault))
one_cell_lem corner library name _ _ (has_model cell is) (no_model fault found known bad) = absurd (known (no_fault_beside_lem library name cell fault is bad))
one_cell_lem corner library name _ _ (no_cell fault) (has_model cell is) = absurd (is_no_memory (no_fault_beside_lem library name cell NoSuchCell is fault))
one_cell_lem corner library name _ _ (no_cell fault) (no_cell also) = refl
one_cell_lem corner library name _ _ (no_cell missing) (no_model fault found known bad) = absurd (found (one_fault_lem library name fault NoSuchCell bad missing known is_no_memory))
one_cell_lem corner library name _ _ (no_model fault found known bad) (has_model cell is) = absurd (known (no_fault_beside_lem library name cell fault is bad))
one_cell_lem corner library name _ _ (no_model fault found known bad) (no_cell missing) = absurd (found (one_fault_lem library name fault NoSuchCell bad missing known is_no_memory))
one_cell_lem corner library name _ _ (no_model fault found known bad) (no_model also there told worse) =
    ap (λ (f : CellFault). Err (refusal.CellFault name corner f)) (one_fault_lem library name fault also bad worse known told)
