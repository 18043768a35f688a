-- One piece after another.
use Rattle.std.proofs.Common.{Ok, Err, [], ◌∷◌, ◌++◌, codes}
use Rattle.std.proofs.lemmas.Result.{err_from_is_err_and}
use Rattle.edge_io.specs.Pushing.{pushes_stop, pushes_then}
use Rattle.sdf_writer.proofs.cells.write_names.Goals as goal

pub returns-in_err-push : goal.returns-in_err-push
returns-in_err-push g c =
    let p = err_from_is_err_and c.from_residual.result c.from_residual.ensures.1 in
    rw (p.1) (record { pushes = pushes_stop c.args.buffer.now (codes "(IOPATH ") (c.args.from.now ++ (32 ∷ [] ++ (c.args.to.now ++ (codes " (")))) c.in_err-push.ensures.pushes })

pub returns-in_err-push-2 : goal.returns-in_err-push-2
returns-in_err-push-2 g c =
    let p = err_from_is_err_and c.from_residual-in_err-push-2.result c.from_residual-in_err-push-2.ensures.1 in
    rw (p.1) (record { pushes = pushes_then c.args.buffer.now (codes "(IOPATH ") (c.args.from.now ++ (32 ∷ [] ++ (c.args.to.now ++ (codes " (")))) {result = Err _} c.in_ok-push.ensures.pushes (pushes_stop c.push.new.self (c.args.from.now) (32 ∷ [] ++ (c.args.to.now ++ (codes " ("))) c.in_err-push-2.ensures.pushes) })

pub returns-in_err-push-3 : goal.returns-in_err-push-3
returns-in_err-push-3 g c =
    let p = err_from_is_err_and c.from_residual-in_err-push-3.result c.from_residual-in_err-push-3.ensures.1 in
    rw (p.1) (record { pushes = pushes_then c.args.buffer.now (codes "(IOPATH ") (c.args.from.now ++ (32 ∷ [] ++ (c.args.to.now ++ (codes " (")))) {result = Err _} c.in_ok-push.ensures.pushes (pushes_then c.push.new.self (c.args.from.now) (32 ∷ [] ++ (c.args.to.now ++ (codes " ("))) {result = Err _} c.in_ok-push-2.ensures.pushes (pushes_stop c.push-2.new.self (32 ∷ []) (c.args.to.now ++ (codes " (")) c.in_err-push-3.ensures.pushes)) })

pub returns-in_err-push-4 : goal.returns-in_err-push-4
returns-in_err-push-4 g c =
    let p = err_from_is_err_and c.from_residual-in_err-push-4.result c.from_residual-in_err-push-4.ensures.1 in
    rw (p.1) (record { pushes = pushes_then c.args.buffer.now (codes "(IOPATH ") (c.args.from.now ++ (32 ∷ [] ++ (c.args.to.now ++ (codes " (")))) {result = Err _} c.in_ok-push.ensures.pushes (pushes_then c.push.new.self (c.args.from.now) (32 ∷ [] ++ (c.args.to.now ++ (codes " ("))) {result = Err _} c.in_ok-push-2.ensures.pushes (pushes_then c.push-2.new.self (32 ∷ []) (c.args.to.now ++ (codes " (")) {result = Err _} c.in_ok-push-3.ensures.pushes (pushes_stop c.push-3.new.self (c.args.to.now) (codes " (") c.in_err-push-4.ensures.pushes))) })

pub returns-in_err-push-5 : goal.returns-in_err-push-5
returns-in_err-push-5 g c =
    let p = err_from_is_err_and c.from_residual-in_err-push-5.result c.from_residual-in_err-push-5.ensures.1 in
    rw (p.1) (record { pushes = pushes_then c.args.buffer.now (codes "(IOPATH ") (c.args.from.now ++ (32 ∷ [] ++ (c.args.to.now ++ (codes " (")))) {result = Err _} c.in_ok-push.ensures.pushes (pushes_then c.push.new.self (c.args.from.now) (32 ∷ [] ++ (c.args.to.now ++ (codes " ("))) {result = Err _} c.in_ok-push-2.ensures.pushes (pushes_then c.push-2.new.self (32 ∷ []) (c.args.to.now ++ (codes " (")) {result = Err _} c.in_ok-push-3.ensures.pushes (pushes_then c.push-3.new.self (c.args.to.now) (codes " (") {result = Err _} c.in_ok-push-4.ensures.pushes (c.in_err-push-5.ensures.pushes)))) })

pub returns : goal.returns
returns g c =
    record { pushes = pushes_then c.args.buffer.now (codes "(IOPATH ") (c.args.from.now ++ (32 ∷ [] ++ (c.args.to.now ++ (codes " (")))) {result = Ok tt} c.in_ok-push.ensures.pushes (pushes_then c.push.new.self (c.args.from.now) (32 ∷ [] ++ (c.args.to.now ++ (codes " ("))) {result = Ok tt} c.in_ok-push-2.ensures.pushes (pushes_then c.push-2.new.self (32 ∷ []) (c.args.to.now ++ (codes " (")) {result = Ok tt} c.in_ok-push-3.ensures.pushes (pushes_then c.push-3.new.self (c.args.to.now) (codes " (") {result = Ok tt} c.in_ok-push-4.ensures.pushes (c.in_ok-push-5.ensures.pushes)))) }
