use Rattle.std.proofs.lemmas.Result.{err_from_is_err_and}
use Rattle.std.proofs.Common.{Ok, Err, ◌++◌}
use Rattle.edge_io.specs.Pushing.{pushes_stop, pushes_then}
use Rattle.sdf_writer.specs.WireRows.{wire_rows, wires_text}
use Rattle.sdf_writer.proofs.Lines.{delays_open, delays_close, kept_delays_parts}
use Rattle.sdf_writer.proofs.entries.write_delays.Goals as goal

pub returns-in_err-push : goal.returns-in_err-push
returns-in_err-push g c =
    let p = err_from_is_err_and c.from_residual.result c.from_residual.ensures.1 in
    rw (p.1) (rw (kept_delays_parts g.C.CornerSet.COUNT c.args.names.now c.args.wires.now c.args.delays.now c.if-is_empty.ensures) (record { pushes = pushes_stop c.args.buffer.now delays_open ((wires_text (wire_rows g.C.CornerSet.COUNT c.args.names.now c.args.wires.now c.args.delays.now)) ++ (delays_close)) c.in_err-push.ensures.pushes }))

pub returns-in_err-write_wires : goal.returns-in_err-write_wires
returns-in_err-write_wires g c =
    let p = err_from_is_err_and c.from_residual-in_err-write_wires.result c.from_residual-in_err-write_wires.ensures.1 in
    rw (p.1) (rw (kept_delays_parts g.C.CornerSet.COUNT c.args.names.now c.args.wires.now c.args.delays.now c.if-is_empty.ensures) (record { pushes = pushes_then c.args.buffer.now delays_open ((wires_text (wire_rows g.C.CornerSet.COUNT c.args.names.now c.args.wires.now c.args.delays.now)) ++ (delays_close)) {result = Err _} c.in_ok-push.ensures.pushes (pushes_stop c.push.new.self (wires_text (wire_rows g.C.CornerSet.COUNT c.args.names.now c.args.wires.now c.args.delays.now)) (delays_close) c.in_err-write_wires.ensures.pushes) }))

pub returns-in_err-push-2 : goal.returns-in_err-push-2
returns-in_err-push-2 g c =
    let p = err_from_is_err_and c.from_residual-in_err-push-2.result c.from_residual-in_err-push-2.ensures.1 in
    rw (p.1) (rw (kept_delays_parts g.C.CornerSet.COUNT c.args.names.now c.args.wires.now c.args.delays.now c.if-is_empty.ensures) (record { pushes = pushes_then c.args.buffer.now delays_open ((wires_text (wire_rows g.C.CornerSet.COUNT c.args.names.now c.args.wires.now c.args.delays.now)) ++ (delays_close)) {result = Err _} c.in_ok-push.ensures.pushes (pushes_then c.push.new.self (wires_text (wire_rows g.C.CornerSet.COUNT c.args.names.now c.args.wires.now c.args.delays.now)) (delays_close) {result = Err _} c.in_ok-write_wires.ensures.pushes (c.in_err-push-2.ensures.pushes)) }))

pub returns : goal.returns
returns g c = rw (kept_delays_parts g.C.CornerSet.COUNT c.args.names.now c.args.wires.now c.args.delays.now c.if-is_empty.ensures) (record { pushes = pushes_then c.args.buffer.now delays_open ((wires_text (wire_rows g.C.CornerSet.COUNT c.args.names.now c.args.wires.now c.args.delays.now)) ++ (delays_close)) {result = Ok tt} c.in_ok-push.ensures.pushes (pushes_then c.push.new.self (wires_text (wire_rows g.C.CornerSet.COUNT c.args.names.now c.args.wires.now c.args.delays.now)) (delays_close) {result = Ok tt} c.in_ok-write_wires.ensures.pushes (c.in_ok-push-2.ensures.pushes)) })
