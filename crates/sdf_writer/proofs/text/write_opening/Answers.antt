use Rattle.std.proofs.lemmas.Result.{err_from_is_err_and}
use Rattle.std.proofs.Common.{Ok, Err, ◌++◌}
use Rattle.sdf_writer.specs.SdfText.{quoted}
use Rattle.sdf_writer.proofs.Lines.{head, middle, opening_end, opening_parts}
use Rattle.edge_io.specs.Pushing.{pushes_stop, pushes_then}
use Rattle.sdf_writer.proofs.text.write_opening.Goals as goal

pub returns-in_err-push : goal.returns-in_err-push
returns-in_err-push g c =
    let p = err_from_is_err_and c.from_residual.result c.from_residual.ensures.1 in
    rw (p.1) (rw (opening_parts c.args.design.now) (record { pushes = pushes_stop c.args.buffer.now head ((quoted c.args.design.now) ++ (middle ++ ((quoted c.args.design.now) ++ (opening_end)))) c.in_err-push.ensures.pushes }))

pub returns-in_err-write_quoted : goal.returns-in_err-write_quoted
returns-in_err-write_quoted g c =
    let p = err_from_is_err_and c.from_residual-in_err-write_quoted.result c.from_residual-in_err-write_quoted.ensures.1 in
    rw (p.1) (rw (opening_parts c.args.design.now) (record { pushes = pushes_then c.args.buffer.now head ((quoted c.args.design.now) ++ (middle ++ ((quoted c.args.design.now) ++ (opening_end)))) {result = Err _} c.in_ok-push.ensures.pushes (pushes_stop c.push.new.self (quoted c.args.design.now) (middle ++ ((quoted c.args.design.now) ++ (opening_end))) c.in_err-write_quoted.ensures.pushes) }))

pub returns-in_err-push-2 : goal.returns-in_err-push-2
returns-in_err-push-2 g c =
    let p = err_from_is_err_and c.from_residual-in_err-push-2.result c.from_residual-in_err-push-2.ensures.1 in
    rw (p.1) (rw (opening_parts c.args.design.now) (record { pushes = pushes_then c.args.buffer.now head ((quoted c.args.design.now) ++ (middle ++ ((quoted c.args.design.now) ++ (opening_end)))) {result = Err _} c.in_ok-push.ensures.pushes (pushes_then c.push.new.self (quoted c.args.design.now) (middle ++ ((quoted c.args.design.now) ++ (opening_end))) {result = Err _} c.in_ok-write_quoted.ensures.pushes (pushes_stop c.write_quoted.new.buffer middle ((quoted c.args.design.now) ++ (opening_end)) c.in_err-push-2.ensures.pushes)) }))

pub returns-in_err-write_quoted-2 : goal.returns-in_err-write_quoted-2
returns-in_err-write_quoted-2 g c =
    let p = err_from_is_err_and c.from_residual-in_err-write_quoted-2.result c.from_residual-in_err-write_quoted-2.ensures.1 in
    rw (p.1) (rw (opening_parts c.args.design.now) (record { pushes = pushes_then c.args.buffer.now head ((quoted c.args.design.now) ++ (middle ++ ((quoted c.args.design.now) ++ (opening_end)))) {result = Err _} c.in_ok-push.ensures.pushes (pushes_then c.push.new.self (quoted c.args.design.now) (middle ++ ((quoted c.args.design.now) ++ (opening_end))) {result = Err _} c.in_ok-write_quoted.ensures.pushes (pushes_then c.write_quoted.new.buffer middle ((quoted c.args.design.now) ++ (opening_end)) {result = Err _} c.in_ok-push-2.ensures.pushes (pushes_stop c.push-2.new.self (quoted c.args.design.now) (opening_end) c.in_err-write_quoted-2.ensures.pushes))) }))

pub returns-in_err-push-3 : goal.returns-in_err-push-3
returns-in_err-push-3 g c =
    let p = err_from_is_err_and c.from_residual-in_err-push-3.result c.from_residual-in_err-push-3.ensures.1 in
    rw (p.1) (rw (opening_parts c.args.design.now) (record { pushes = pushes_then c.args.buffer.now head ((quoted c.args.design.now) ++ (middle ++ ((quoted c.args.design.now) ++ (opening_end)))) {result = Err _} c.in_ok-push.ensures.pushes (pushes_then c.push.new.self (quoted c.args.design.now) (middle ++ ((quoted c.args.design.now) ++ (opening_end))) {result = Err _} c.in_ok-write_quoted.ensures.pushes (pushes_then c.write_quoted.new.buffer middle ((quoted c.args.design.now) ++ (opening_end)) {result = Err _} c.in_ok-push-2.ensures.pushes (pushes_then c.push-2.new.self (quoted c.args.design.now) (opening_end) {result = Err _} c.in_ok-write_quoted-2.ensures.pushes (c.in_err-push-3.ensures.pushes)))) }))

pub returns : goal.returns
returns g c = rw (opening_parts c.args.design.now) (record { pushes = pushes_then c.args.buffer.now head ((quoted c.args.design.now) ++ (middle ++ ((quoted c.args.design.now) ++ (opening_end)))) {result = Ok tt} c.in_ok-push.ensures.pushes (pushes_then c.push.new.self (quoted c.args.design.now) (middle ++ ((quoted c.args.design.now) ++ (opening_end))) {result = Ok tt} c.in_ok-write_quoted.ensures.pushes (pushes_then c.write_quoted.new.buffer middle ((quoted c.args.design.now) ++ (opening_end)) {result = Ok tt} c.in_ok-push-2.ensures.pushes (pushes_then c.push-2.new.self (quoted c.args.design.now) (opening_end) {result = Ok tt} c.in_ok-write_quoted-2.ensures.pushes (c.in_ok-push-3.ensures.pushes)))) })
