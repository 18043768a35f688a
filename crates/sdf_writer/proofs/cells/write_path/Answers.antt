-- The names, the rise and the fall.
use Rattle.std.proofs.Common.{Ok, Err, [], ◌∷◌, ◌++◌, codes}
use Rattle.std.proofs.lemmas.Result.{err_from_is_err_and}
use Rattle.sdf_writer.specs.Names.{name_at}
use Rattle.sdf_writer.specs.PathRows.{edge_at, names_text, times_text}
use Rattle.edge_io.specs.Pushing.{pushes_stop, pushes_then}
use Rattle.sdf_writer.proofs.CellTexts.{line_parts}
use Rattle.sdf_writer.proofs.cells.write_path.Goals as goal

pub returns-in_err-write_names : goal.returns-in_err-write_names
returns-in_err-write_names g c =
    let p = err_from_is_err_and c.from_residual.result c.from_residual.ensures.1 in
    rw (p.1) (rw (line_parts (name_at c.args.names.now c.args.path.now.from) (name_at c.args.names.now c.args.path.now.to) (edge_at g.C.CornerSet.COUNT c.args.times.now c.args.path.now.rise) (edge_at g.C.CornerSet.COUNT c.args.times.now c.args.path.now.fall) c.name.ensures c.name-2.ensures) (record { pushes = pushes_stop c.args.buffer.now (names_text c.name.result.now c.name-2.result.now) (times_text (edge_at g.C.CornerSet.COUNT c.args.times.now c.args.path.now.rise) ++ (codes ") (" ++ (times_text (edge_at g.C.CornerSet.COUNT c.args.times.now c.args.path.now.fall) ++ (41 ∷ 41 ∷ 10 ∷ [])))) c.in_err-write_names.ensures.pushes }))

pub returns-in_err-write_times : goal.returns-in_err-write_times
returns-in_err-write_times g c =
    let p = err_from_is_err_and c.from_residual-in_err-write_times.result c.from_residual-in_err-write_times.ensures.1 in
    rw (p.1) (rw (line_parts (name_at c.args.names.now c.args.path.now.from) (name_at c.args.names.now c.args.path.now.to) (edge_at g.C.CornerSet.COUNT c.args.times.now c.args.path.now.rise) (edge_at g.C.CornerSet.COUNT c.args.times.now c.args.path.now.fall) c.name.ensures c.name-2.ensures) (record { pushes = pushes_then c.args.buffer.now (names_text c.name.result.now c.name-2.result.now) (times_text (edge_at g.C.CornerSet.COUNT c.args.times.now c.args.path.now.rise) ++ (codes ") (" ++ (times_text (edge_at g.C.CornerSet.COUNT c.args.times.now c.args.path.now.fall) ++ (41 ∷ 41 ∷ 10 ∷ [])))) {result = Err _} c.in_ok-write_names.ensures.pushes (pushes_stop c.write_names.new.buffer (times_text (edge_at g.C.CornerSet.COUNT c.args.times.now c.args.path.now.rise)) (codes ") (" ++ (times_text (edge_at g.C.CornerSet.COUNT c.args.times.now c.args.path.now.fall) ++ (41 ∷ 41 ∷ 10 ∷ []))) c.in_err-write_times.ensures.pushes) }))

pub returns-in_err-push : goal.returns-in_err-push
returns-in_err-push g c =
    let p = err_from_is_err_and c.from_residual-in_err-push.result c.from_residual-in_err-push.ensures.1 in
    rw (p.1) (rw (line_parts (name_at c.args.names.now c.args.path.now.from) (name_at c.args.names.now c.args.path.now.to) (edge_at g.C.CornerSet.COUNT c.args.times.now c.args.path.now.rise) (edge_at g.C.CornerSet.COUNT c.args.times.now c.args.path.now.fall) c.name.ensures c.name-2.ensures) (record { pushes = pushes_then c.args.buffer.now (names_text c.name.result.now c.name-2.result.now) (times_text (edge_at g.C.CornerSet.COUNT c.args.times.now c.args.path.now.rise) ++ (codes ") (" ++ (times_text (edge_at g.C.CornerSet.COUNT c.args.times.now c.args.path.now.fall) ++ (41 ∷ 41 ∷ 10 ∷ [])))) {result = Err _} c.in_ok-write_names.ensures.pushes (pushes_then c.write_names.new.buffer (times_text (edge_at g.C.CornerSet.COUNT c.args.times.now c.args.path.now.rise)) (codes ") (" ++ (times_text (edge_at g.C.CornerSet.COUNT c.args.times.now c.args.path.now.fall) ++ (41 ∷ 41 ∷ 10 ∷ []))) {result = Err _} c.in_ok-write_times.ensures.pushes (pushes_stop c.write_times.new.buffer (codes ") (") (times_text (edge_at g.C.CornerSet.COUNT c.args.times.now c.args.path.now.fall) ++ (41 ∷ 41 ∷ 10 ∷ [])) c.in_err-push.ensures.pushes)) }))

pub returns-in_err-write_times-2 : goal.returns-in_err-write_times-2
returns-in_err-write_times-2 g c =
    let p = err_from_is_err_and c.from_residual-in_err-write_times-2.result c.from_residual-in_err-write_times-2.ensures.1 in
    rw (p.1) (rw (line_parts (name_at c.args.names.now c.args.path.now.from) (name_at c.args.names.now c.args.path.now.to) (edge_at g.C.CornerSet.COUNT c.args.times.now c.args.path.now.rise) (edge_at g.C.CornerSet.COUNT c.args.times.now c.args.path.now.fall) c.name.ensures c.name-2.ensures) (record { pushes = pushes_then c.args.buffer.now (names_text c.name.result.now c.name-2.result.now) (times_text (edge_at g.C.CornerSet.COUNT c.args.times.now c.args.path.now.rise) ++ (codes ") (" ++ (times_text (edge_at g.C.CornerSet.COUNT c.args.times.now c.args.path.now.fall) ++ (41 ∷ 41 ∷ 10 ∷ [])))) {result = Err _} c.in_ok-write_names.ensures.pushes (pushes_then c.write_names.new.buffer (times_text (edge_at g.C.CornerSet.COUNT c.args.times.now c.args.path.now.rise)) (codes ") (" ++ (times_text (edge_at g.C.CornerSet.COUNT c.args.times.now c.args.path.now.fall) ++ (41 ∷ 41 ∷ 10 ∷ []))) {result = Err _} c.in_ok-write_times.ensures.pushes (pushes_then c.write_times.new.buffer (codes ") (") (times_text (edge_at g.C.CornerSet.COUNT c.args.times.now c.args.path.now.fall) ++ (41 ∷ 41 ∷ 10 ∷ [])) {result = Err _} c.in_ok-push.ensures.pushes (pushes_stop c.push.new.self (times_text (edge_at g.C.CornerSet.COUNT c.args.times.now c.args.path.now.fall)) (41 ∷ 41 ∷ 10 ∷ []) c.in_err-write_times-2.ensures.pushes))) }))

pub returns-in_err-push-2 : goal.returns-in_err-push-2
returns-in_err-push-2 g c =
    let p = err_from_is_err_and c.from_residual-in_err-push-2.result c.from_residual-in_err-push-2.ensures.1 in
    rw (p.1) (rw (line_parts (name_at c.args.names.now c.args.path.now.from) (name_at c.args.names.now c.args.path.now.to) (edge_at g.C.CornerSet.COUNT c.args.times.now c.args.path.now.rise) (edge_at g.C.CornerSet.COUNT c.args.times.now c.args.path.now.fall) c.name.ensures c.name-2.ensures) (record { pushes = pushes_then c.args.buffer.now (names_text c.name.result.now c.name-2.result.now) (times_text (edge_at g.C.CornerSet.COUNT c.args.times.now c.args.path.now.rise) ++ (codes ") (" ++ (times_text (edge_at g.C.CornerSet.COUNT c.args.times.now c.args.path.now.fall) ++ (41 ∷ 41 ∷ 10 ∷ [])))) {result = Err _} c.in_ok-write_names.ensures.pushes (pushes_then c.write_names.new.buffer (times_text (edge_at g.C.CornerSet.COUNT c.args.times.now c.args.path.now.rise)) (codes ") (" ++ (times_text (edge_at g.C.CornerSet.COUNT c.args.times.now c.args.path.now.fall) ++ (41 ∷ 41 ∷ 10 ∷ []))) {result = Err _} c.in_ok-write_times.ensures.pushes (pushes_then c.write_times.new.buffer (codes ") (") (times_text (edge_at g.C.CornerSet.COUNT c.args.times.now c.args.path.now.fall) ++ (41 ∷ 41 ∷ 10 ∷ [])) {result = Err _} c.in_ok-push.ensures.pushes (pushes_then c.push.new.self (times_text (edge_at g.C.CornerSet.COUNT c.args.times.now c.args.path.now.fall)) (41 ∷ 41 ∷ 10 ∷ []) {result = Err _} c.in_ok-write_times-2.ensures.pushes (c.in_err-push-2.ensures.pushes)))) }))

pub returns : goal.returns
returns g c =
    rw (line_parts (name_at c.args.names.now c.args.path.now.from) (name_at c.args.names.now c.args.path.now.to) (edge_at g.C.CornerSet.COUNT c.args.times.now c.args.path.now.rise) (edge_at g.C.CornerSet.COUNT c.args.times.now c.args.path.now.fall) c.name.ensures c.name-2.ensures) (record { pushes = pushes_then c.args.buffer.now (names_text c.name.result.now c.name-2.result.now) (times_text (edge_at g.C.CornerSet.COUNT c.args.times.now c.args.path.now.rise) ++ (codes ") (" ++ (times_text (edge_at g.C.CornerSet.COUNT c.args.times.now c.args.path.now.fall) ++ (41 ∷ 41 ∷ 10 ∷ [])))) {result = Ok tt} c.in_ok-write_names.ensures.pushes (pushes_then c.write_names.new.buffer (times_text (edge_at g.C.CornerSet.COUNT c.args.times.now c.args.path.now.rise)) (codes ") (" ++ (times_text (edge_at g.C.CornerSet.COUNT c.args.times.now c.args.path.now.fall) ++ (41 ∷ 41 ∷ 10 ∷ []))) {result = Ok tt} c.in_ok-write_times.ensures.pushes (pushes_then c.write_times.new.buffer (codes ") (") (times_text (edge_at g.C.CornerSet.COUNT c.args.times.now c.args.path.now.fall) ++ (41 ∷ 41 ∷ 10 ∷ [])) {result = Ok tt} c.in_ok-push.ensures.pushes (pushes_then c.push.new.self (times_text (edge_at g.C.CornerSet.COUNT c.args.times.now c.args.path.now.fall)) (41 ∷ 41 ∷ 10 ∷ []) {result = Ok tt} c.in_ok-write_times-2.ensures.pushes (c.in_ok-push-2.ensures.pushes)))) })
