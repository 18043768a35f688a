-- The rows that were kept stay, and one stands behind them.
use Rattle.std.proofs.Common.{[], ◌∷◌, ◌++◌, length, ap, ◌∙◌, arith}
use Rattle.sdf_writer.proofs.Adding.{chosen}
use Rattle.sdf_writer.proofs.Keeping.{all_grown, cells_more, kept_more, within_more, rows_put, rows_left, kept_added}
use Rattle.sdf_writer.proofs.paths.Paths.add.Goals as goal

pub keep_path-requires-clause-from : goal.keep_path-requires-clause-from
keep_path-requires-clause-from g c =
    c.last_pins.ensures.from g.C.CornerSet.COUNT (length c.self.inside.names) (length c.self.inside.cells.items) (length c.self.inside.times.items)
    (rw (c.deref.ensures.value, c.reserve.ensures.items) c.self.invariant.1)

pub keep_path-requires-clause-to : goal.keep_path-requires-clause-to
keep_path-requires-clause-to g c =
    c.last_pins.ensures.to g.C.CornerSet.COUNT (length c.self.inside.names) (length c.self.inside.cells.items) (length c.self.inside.times.items)
    (rw (c.deref.ensures.value, c.reserve.ensures.items) c.self.invariant.1)

pub invariant_of-self-in_err-path : goal.invariant_of-self-in_err-path
invariant_of-self-in_err-path g c =
    let more = all_grown c.keep_path.ensures.names c.keep_path.ensures.cells c.keep_path.ensures.times c.self.invariant.0 in
    rw c.reserve.ensures.items (
      cells_more c.keep_path.ensures.names c.keep_path.ensures.cells c.self.invariant.0,
      kept_more g.C.CornerSet.COUNT c.self.inside.paths.items more c.self.invariant.1,
      within_more c.keep_path.ensures.times c.self.invariant.2,
    )

pub returns-in_err-path-clause-err : goal.returns-in_err-path-clause-err
returns-in_err-path-clause-err g c =
    let more = all_grown c.keep_path.ensures.names c.keep_path.ensures.cells c.keep_path.ensures.times c.self.invariant.0 in
    rows_left c.from_residual-in_err-path.result g.C.CornerSet.COUNT c.self.inside.paths.items c.args.self.now more c.self.invariant.1 c.reserve.ensures.items c.self.view_is

pub invariant_of-self-2 : goal.invariant_of-self-2
invariant_of-self-2 g c =
    let path = c.in_ok-path.path in
    let more = all_grown c.keep_path.ensures.names c.keep_path.ensures.cells c.keep_path.ensures.times c.self.invariant.0 in
    let pushed = chosen _ _ c.push.ensures.items (c.push.ensures.succeeds (omega (arith, c.in_ok-reserve.ensures.ok))) ∙ ap (λ ps. ps ++ path ∷ []) c.reserve.ensures.items in (
      cells_more c.keep_path.ensures.names c.keep_path.ensures.cells c.self.invariant.0,
      rw pushed (kept_added g.C.CornerSet.COUNT c.self.inside.paths.items path _ more c.self.invariant.1 c.in_ok-path.ensures.kept),
      within_more c.keep_path.ensures.times c.self.invariant.2,
    )

pub returns-clause-ok : goal.returns-clause-ok
returns-clause-ok g c =
    let path = c.in_ok-path.path in
    let more = all_grown c.keep_path.ensures.names c.keep_path.ensures.cells c.keep_path.ensures.times c.self.invariant.0 in
    let pushed = chosen _ _ c.push.ensures.items (c.push.ensures.succeeds (omega (arith, c.in_ok-reserve.ensures.ok))) ∙ ap (λ ps. ps ++ path ∷ []) c.reserve.ensures.items in
    rows_put g.C.CornerSet.COUNT c.self.inside.paths.items path _ c.args.self.now more c.self.invariant.1 c.in_ok-path.ensures.kept pushed c.self.view_is
