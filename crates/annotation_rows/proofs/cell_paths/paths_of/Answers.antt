use Rattle.std.proofs.Common.{◌≡◌, ℕ, sym, ap, subst, List, ◌<◌, length}
use Rattle.std.specs.Prelude.{slice_get, Some}
use Rattle.std.proofs.lemmas.Option.{get_or_from_slice_get, slice_get_within}
use Rattle.cell_models.specs.CornerCells.{arcs_at}
use Rattle.cell_models.specs.declared.cell.Arc.{Arc}
use Rattle.slew_order.specs.FlatArcs.{no_arc}
use Rattle.annotation_rows.specs.declared.cell_paths.PinPair.{PinPair}
use Rattle.annotation_rows.specs.CellPaths.{Numbers, arc_in, pair_of}
use Rattle.annotation_rows.proofs.PathNumbers.{number_is, numbers_next, paths_next}
use Rattle.annotation_rows.proofs.cell_paths.paths_of.Goals as goal

-- src/cell_paths.rt
pub loop-place-preserved : goal.loop-place-preserved
loop-place-preserved g c =
    let arcs : List Arc = arcs_at c.args.cell.now 0 in
    let k = c.loop-place.place in
    let arc : Arc = c.arc-arc.result.now in
    let here : slice_get arcs k ≡ Some arc = subst (λ (corner : ℕ). slice_get (arcs_at c.args.cell.now corner) k ≡ Some arc) c.first_corner.ensures c.arc-arc.ensures.arc in
    let is : arc ≡ arc_in arcs k = sym (get_or_from_slice_get arcs k arc no_arc here) in
    let within : k < length arcs = slice_get_within arcs k arc here in
    let numbers = subst (λ (p : PinPair). Numbers c.loop-place.numbers.entries c.path_number.new.numbers.entries p k c.in_ok-path_number.field-0) (ap pair_of is) c.in_ok-path_number.ensures in (
      numbers_next arcs k c.loop-place.numbers.entries _ _ c.loop-place.invariant.0 numbers,
      paths_next arcs k _ c.loop-place.paths.items _ c.loop-place.invariant.1 c.in_ok-push.ensures.ok
          (number_is arcs k c.loop-place.numbers.entries _ _ c.loop-place.invariant.0 numbers within),
    )
