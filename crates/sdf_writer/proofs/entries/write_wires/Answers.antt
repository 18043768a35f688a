use Rattle.std.proofs.Common.{◌<◌, length, take, get_or, ap, ◌∙◌, arith}
use Rattle.std.proofs.lemmas.Result.{err_from_is_err_and}
use Rattle.sdf_writer.proofs.Remaining.{no_wire, row_of, wrote_none, wrote_next, wrote_cut}
use Rattle.sdf_writer.proofs.entries.write_wires.Goals as goal

pub loop-wire-init : goal.loop-wire-init
loop-wire-init g c =
    wrote_none g.C.CornerSet.COUNT c.args.names.now c.args.wires.now c.args.delays.now c.args.buffer.now (g.O.Sink.written c.args.sink.now) (g.O.Sink.faults c.args.sink.now) c.requires.sizes c.requires.within

pub returns-in_err-write_wire : goal.returns-in_err-write_wire
returns-in_err-write_wire g c =
    let p = err_from_is_err_and c.from_residual.result c.from_residual.ensures.1 in
    let below : c.loop-wire.wire-index < length c.args.wires.now = omega arith in
    let is = row_of c.args.names.now (get_or c.args.wires.now c.loop-wire.wire-index no_wire) _ _ _ _ c.name-from.ensures c.name-to.ensures (c.split_at.ensures.front ∙ ap (λ n. take n c.loop-wire.rest.now) c.COUNT.ensures) in
    rw (p.1) record { pushes = wrote_cut c.args.wires.now c.loop-wire.wire-index no_wire _ is below c.loop-wire.invariant c.in_err-write_wire.ensures.pushes }

pub loop-wire-preserved : goal.loop-wire-preserved
loop-wire-preserved g c =
    let below : c.loop-wire.wire-index < length c.args.wires.now = omega arith in
    let is = row_of c.args.names.now (get_or c.args.wires.now c.loop-wire.wire-index no_wire) _ _ _ _ c.name-from.ensures c.name-to.ensures (c.split_at.ensures.front ∙ ap (λ n. take n c.loop-wire.rest.now) c.COUNT.ensures) in
    rw (c.split_at.ensures.back, c.COUNT.ensures)
    (wrote_next c.args.wires.now c.loop-wire.wire-index no_wire _ is below c.loop-wire.invariant c.in_ok-write_wire.ensures.pushes)
