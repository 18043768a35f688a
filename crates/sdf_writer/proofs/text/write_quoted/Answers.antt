use Rattle.std.proofs.lemmas.Result.{err_from_is_err_and}
use Rattle.std.proofs.Common.{Ok, Err, [], ◌∷◌, ◌++◌, flat_map}
use Rattle.edge_io.specs.Pushing.{pushes_stop, pushes_then}
use Rattle.sdf_writer.specs.SdfText.{escaped}
use Rattle.sdf_writer.proofs.text.write_quoted.Goals as goal

pub returns-in_err-push : goal.returns-in_err-push
returns-in_err-push g c =
    let p = err_from_is_err_and c.from_residual.result c.from_residual.ensures.1 in
    rw (p.1) (record { pushes = pushes_stop c.args.buffer.now (34 ∷ []) ((flat_map escaped c.args.text.now) ++ (34 ∷ [])) c.in_err-push.ensures.pushes })

pub returns-in_err-write_escaped : goal.returns-in_err-write_escaped
returns-in_err-write_escaped g c =
    let p = err_from_is_err_and c.from_residual-in_err-write_escaped.result c.from_residual-in_err-write_escaped.ensures.1 in
    rw (p.1) (record { pushes = pushes_then c.args.buffer.now (34 ∷ []) ((flat_map escaped c.args.text.now) ++ (34 ∷ [])) {result = Err _} c.in_ok-push.ensures.pushes (pushes_stop c.push.new.self (flat_map escaped c.args.text.now) (34 ∷ []) c.in_err-write_escaped.ensures.pushes) })

pub returns-in_err-push-2 : goal.returns-in_err-push-2
returns-in_err-push-2 g c =
    let p = err_from_is_err_and c.from_residual-in_err-push-2.result c.from_residual-in_err-push-2.ensures.1 in
    rw (p.1) (record { pushes = pushes_then c.args.buffer.now (34 ∷ []) ((flat_map escaped c.args.text.now) ++ (34 ∷ [])) {result = Err _} c.in_ok-push.ensures.pushes (pushes_then c.push.new.self (flat_map escaped c.args.text.now) (34 ∷ []) {result = Err _} c.in_ok-write_escaped.ensures.pushes (c.in_err-push-2.ensures.pushes)) })

pub returns : goal.returns
returns g c = record { pushes = pushes_then c.args.buffer.now (34 ∷ []) ((flat_map escaped c.args.text.now) ++ (34 ∷ [])) {result = Ok tt} c.in_ok-push.ensures.pushes (pushes_then c.push.new.self (flat_map escaped c.args.text.now) (34 ∷ []) {result = Ok tt} c.in_ok-write_escaped.ensures.pushes (c.in_ok-push-2.ensures.pushes)) }
