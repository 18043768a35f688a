-- The lines before the paths of a cell.
use Rattle.std.proofs.Common.{Ok, Err, ◌++◌, flat_map}
use Rattle.std.proofs.lemmas.Result.{err_from_is_err_and}
use Rattle.sdf_writer.specs.SdfText.{escaped}
use Rattle.sdf_writer.specs.PathRows.{cell_of_names}
use Rattle.edge_io.specs.Pushing.{pushes_stop, pushes_then}
use Rattle.sdf_writer.proofs.CellTexts.{before_kind, before_instance, before_paths, opening_parts}
use Rattle.sdf_writer.proofs.cells.write_opening.Goals as goal

pub returns-in_err-push : goal.returns-in_err-push
returns-in_err-push g c =
    let p = err_from_is_err_and c.from_residual.result c.from_residual.ensures.1 in
    rw (p.1) (rw (opening_parts (cell_of_names c.args.names.now c.args.cell.now) c.name-kind.ensures c.name-instance.ensures) (record { pushes = pushes_stop c.args.buffer.now (before_kind) (flat_map escaped c.name-kind.result.now ++ (before_instance ++ (c.name-instance.result.now ++ (before_paths)))) c.in_err-push.ensures.pushes }))

pub returns-in_err-write_escaped : goal.returns-in_err-write_escaped
returns-in_err-write_escaped g c =
    let p = err_from_is_err_and c.from_residual-in_err-write_escaped.result c.from_residual-in_err-write_escaped.ensures.1 in
    rw (p.1) (rw (opening_parts (cell_of_names c.args.names.now c.args.cell.now) c.name-kind.ensures c.name-instance.ensures) (record { pushes = pushes_then c.args.buffer.now (before_kind) (flat_map escaped c.name-kind.result.now ++ (before_instance ++ (c.name-instance.result.now ++ (before_paths)))) {result = Err _} c.in_ok-push.ensures.pushes (pushes_stop c.push.new.self (flat_map escaped c.name-kind.result.now) (before_instance ++ (c.name-instance.result.now ++ (before_paths))) c.in_err-write_escaped.ensures.pushes) }))

pub returns-in_err-push-2 : goal.returns-in_err-push-2
returns-in_err-push-2 g c =
    let p = err_from_is_err_and c.from_residual-in_err-push-2.result c.from_residual-in_err-push-2.ensures.1 in
    rw (p.1) (rw (opening_parts (cell_of_names c.args.names.now c.args.cell.now) c.name-kind.ensures c.name-instance.ensures) (record { pushes = pushes_then c.args.buffer.now (before_kind) (flat_map escaped c.name-kind.result.now ++ (before_instance ++ (c.name-instance.result.now ++ (before_paths)))) {result = Err _} c.in_ok-push.ensures.pushes (pushes_then c.push.new.self (flat_map escaped c.name-kind.result.now) (before_instance ++ (c.name-instance.result.now ++ (before_paths))) {result = Err _} c.in_ok-write_escaped.ensures.pushes (pushes_stop c.write_escaped.new.buffer (before_instance) (c.name-instance.result.now ++ (before_paths)) c.in_err-push-2.ensures.pushes)) }))

pub returns-in_err-push-3 : goal.returns-in_err-push-3
returns-in_err-push-3 g c =
    let p = err_from_is_err_and c.from_residual-in_err-push-3.result c.from_residual-in_err-push-3.ensures.1 in
    rw (p.1) (rw (opening_parts (cell_of_names c.args.names.now c.args.cell.now) c.name-kind.ensures c.name-instance.ensures) (record { pushes = pushes_then c.args.buffer.now (before_kind) (flat_map escaped c.name-kind.result.now ++ (before_instance ++ (c.name-instance.result.now ++ (before_paths)))) {result = Err _} c.in_ok-push.ensures.pushes (pushes_then c.push.new.self (flat_map escaped c.name-kind.result.now) (before_instance ++ (c.name-instance.result.now ++ (before_paths))) {result = Err _} c.in_ok-write_escaped.ensures.pushes (pushes_then c.write_escaped.new.buffer (before_instance) (c.name-instance.result.now ++ (before_paths)) {result = Err _} c.in_ok-push-2.ensures.pushes (pushes_stop c.push-2.new.self (c.name-instance.result.now) (before_paths) c.in_err-push-3.ensures.pushes))) }))

pub returns-in_err-push-4 : goal.returns-in_err-push-4
returns-in_err-push-4 g c =
    let p = err_from_is_err_and c.from_residual-in_err-push-4.result c.from_residual-in_err-push-4.ensures.1 in
    rw (p.1) (rw (opening_parts (cell_of_names c.args.names.now c.args.cell.now) c.name-kind.ensures c.name-instance.ensures) (record { pushes = pushes_then c.args.buffer.now (before_kind) (flat_map escaped c.name-kind.result.now ++ (before_instance ++ (c.name-instance.result.now ++ (before_paths)))) {result = Err _} c.in_ok-push.ensures.pushes (pushes_then c.push.new.self (flat_map escaped c.name-kind.result.now) (before_instance ++ (c.name-instance.result.now ++ (before_paths))) {result = Err _} c.in_ok-write_escaped.ensures.pushes (pushes_then c.write_escaped.new.buffer (before_instance) (c.name-instance.result.now ++ (before_paths)) {result = Err _} c.in_ok-push-2.ensures.pushes (pushes_then c.push-2.new.self (c.name-instance.result.now) (before_paths) {result = Err _} c.in_ok-push-3.ensures.pushes (c.in_err-push-4.ensures.pushes)))) }))

pub returns : goal.returns
returns g c =
    rw (opening_parts (cell_of_names c.args.names.now c.args.cell.now) c.name-kind.ensures c.name-instance.ensures) (record { pushes = pushes_then c.args.buffer.now (before_kind) (flat_map escaped c.name-kind.result.now ++ (before_instance ++ (c.name-instance.result.now ++ (before_paths)))) {result = Ok tt} c.in_ok-push.ensures.pushes (pushes_then c.push.new.self (flat_map escaped c.name-kind.result.now) (before_instance ++ (c.name-instance.result.now ++ (before_paths))) {result = Ok tt} c.in_ok-write_escaped.ensures.pushes (pushes_then c.write_escaped.new.buffer (before_instance) (c.name-instance.result.now ++ (before_paths)) {result = Ok tt} c.in_ok-push-2.ensures.pushes (pushes_then c.push-2.new.self (c.name-instance.result.now) (before_paths) {result = Ok tt} c.in_ok-push-3.ensures.pushes (c.in_ok-push-4.ensures.pushes)))) })
