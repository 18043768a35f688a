-- The wires that were kept stay, and one stands behind them.
use Rattle.std.proofs.Common.{◌∷◌, ◌++◌, [], refl, ap, ◌∙◌, arith}
use Rattle.std.proofs.lemmas.Result.{err_from_is_err_and}
use Rattle.sdf_writer.proofs.Adding.{chosen, added_sizes, wires_kept, wires_added, none_added, added}
use Rattle.sdf_writer.proofs.Within.{within_append}
use Rattle.sdf_writer.proofs.rows.Rows.put_wire.Goals as goal

pub returns-in_err-wire-clause-err : goal.returns-in_err-wire-clause-err
returns-in_err-wire-clause-err g c =
    let p = err_from_is_err_and c.from_residual-in_err-wire.result c.from_residual-in_err-wire.ensures.1 in
    rw (p.1) (none_added g.C.CornerSet.COUNT c.self.inside.design c.self.inside.paths c.self.inside.wires.items c.self.inside.delays.items c.self.view_is c.reserve.ensures.items refl c.keep_wire.ensures.names c.self.invariant.2)

pub invariant_of-self-in_err-add_times : goal.invariant_of-self-in_err-add_times
invariant_of-self-in_err-add_times g c =
    rw (c.reserve.ensures.items, c.in_err-add_times.ensures.err)
    (c.self.invariant.0, c.self.invariant.1, wires_kept c.self.inside.wires.items c.keep_wire.ensures.names c.self.invariant.2)

pub returns-in_err-add_times-clause-err : goal.returns-in_err-add_times-clause-err
returns-in_err-add_times-clause-err g c =
    let p = err_from_is_err_and c.from_residual-in_err-add_times.result c.from_residual-in_err-add_times.ensures.1 in
    rw (p.1)
    (none_added g.C.CornerSet.COUNT c.self.inside.design c.self.inside.paths c.self.inside.wires.items c.self.inside.delays.items c.self.view_is c.reserve.ensures.items c.in_err-add_times.ensures.err c.keep_wire.ensures.names c.self.invariant.2)

pub invariant_of-self-2 : goal.invariant_of-self-2
invariant_of-self-2 g c =
    let wire = c.in_ok-wire.wire in
    let pushed = chosen _ _ c.push.ensures.items (c.push.ensures.succeeds (omega (arith, c.in_ok-reserve.ensures.ok))) in
    let wires = pushed ∙ ap (λ ws. ws ++ wire ∷ []) c.reserve.ensures.items in
    let more = c.in_ok-add_times.ensures.ok in (
      added_sizes g.C.CornerSet.COUNT c.self.inside.wires.items c.self.inside.delays.items wire wires more c.as_slice.ensures c.self.invariant.0 c.requires.one_row,
      rw (more, c.as_slice.ensures) (within_append c.self.inside.delays.items c.args.delay.now.values c.self.invariant.1 c.requires.within),
      wires_added c.self.inside.wires.items wire c.keep_wire.ensures.names c.self.invariant.2 c.in_ok-wire.ensures.kept wires,
    )

pub returns-clause-ok : goal.returns-clause-ok
returns-clause-ok g c =
    let wire = c.in_ok-wire.wire in
    let pushed = chosen _ _ c.push.ensures.items (c.push.ensures.succeeds (omega (arith, c.in_ok-reserve.ensures.ok))) in
    let wires = pushed ∙ ap (λ ws. ws ++ wire ∷ []) c.reserve.ensures.items in
    let more = c.in_ok-add_times.ensures.ok in
    added g.C.CornerSet.COUNT c.self.inside.design c.self.inside.paths c.self.inside.wires.items c.self.inside.delays.items wire c.self.view_is c.keep_wire.ensures.names c.self.invariant.2 c.in_ok-wire.ensures.kept wires more c.as_slice.ensures c.self.invariant.0 c.requires.one_row
