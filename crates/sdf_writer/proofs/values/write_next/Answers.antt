use Rattle.std.proofs.lemmas.Result.{err_from_is_err_and}
use Rattle.std.proofs.Common.{Ok, Err, [], ◌∷◌}
use Rattle.delay_units.specs.Printing.{femto_text}
use Rattle.edge_io.specs.Pushing.{pushes_stop, pushes_then}
use Rattle.sdf_writer.proofs.values.write_next.Goals as goal

pub returns-in_err-push : goal.returns-in_err-push
returns-in_err-push g c =
    let p = err_from_is_err_and c.from_residual.result c.from_residual.ensures.1 in
    rw (p.1) (record { pushes = pushes_stop c.args.buffer.now (58 ∷ []) (femto_text c.args.time) c.in_err-push.ensures.pushes })

pub returns-in_err-write_number : goal.returns-in_err-write_number
returns-in_err-write_number g c =
    let p = err_from_is_err_and c.from_residual-in_err-write_number.result c.from_residual-in_err-write_number.ensures.1 in
    rw (p.1) (record { pushes = pushes_then c.args.buffer.now (58 ∷ []) (femto_text c.args.time) {result = Err _} c.in_ok-push.ensures.pushes (c.in_err-write_number.ensures.pushes) })

pub returns : goal.returns
returns g c = record { pushes = pushes_then c.args.buffer.now (58 ∷ []) (femto_text c.args.time) {result = Ok tt} c.in_ok-push.ensures.pushes (c.in_ok-write_number.ensures.pushes) }
