-- One part after another.
use Rattle.std.proofs.lemmas.Result.{err_from_is_err_and}
use Rattle.std.proofs.Common.{Ok, Err, ◌++◌}
use Rattle.edge_io.specs.Pushing.{pushes_stop, pushes_then}
use Rattle.sdf_writer.specs.SdfText.{lines_text, opening_lines, delay_lines}
use Rattle.sdf_writer.specs.WireRows.{wire_rows}
use Rattle.sdf_writer.specs.PathRows.{cells_text}
use Rattle.sdf_writer.proofs.Lines.{end_line, sdf_parts}
use Rattle.sdf_writer.proofs.text.write_rows.Goals as goal

pub returns-in_err-write_opening : goal.returns-in_err-write_opening
returns-in_err-write_opening g c =
    let p = err_from_is_err_and c.from_residual.result c.from_residual.ensures.1 in
    rw (p.1) (rw (sdf_parts (record { design = c.args.design.now; wires = wire_rows g.C.CornerSet.COUNT c.args.names.now c.args.wires.now c.args.delays.now; paths = c.args.paths.now })) (record { pushes = pushes_stop c.args.buffer.now (lines_text (opening_lines c.args.design.now)) (lines_text (delay_lines (wire_rows g.C.CornerSet.COUNT c.args.names.now c.args.wires.now c.args.delays.now)) ++ (end_line ++ (cells_text c.args.paths.now ++ (end_line)))) c.in_err-write_opening.ensures.pushes }))

pub returns-in_err-write_delays : goal.returns-in_err-write_delays
returns-in_err-write_delays g c =
    let p = err_from_is_err_and c.from_residual-in_err-write_delays.result c.from_residual-in_err-write_delays.ensures.1 in
    rw (p.1) (rw (sdf_parts (record { design = c.args.design.now; wires = wire_rows g.C.CornerSet.COUNT c.args.names.now c.args.wires.now c.args.delays.now; paths = c.args.paths.now })) (record { pushes = pushes_then c.args.buffer.now (lines_text (opening_lines c.args.design.now)) (lines_text (delay_lines (wire_rows g.C.CornerSet.COUNT c.args.names.now c.args.wires.now c.args.delays.now)) ++ (end_line ++ (cells_text c.args.paths.now ++ (end_line)))) {result = Err _} c.in_ok-write_opening.ensures.pushes (pushes_stop c.write_opening.new.buffer (lines_text (delay_lines (wire_rows g.C.CornerSet.COUNT c.args.names.now c.args.wires.now c.args.delays.now))) (end_line ++ (cells_text c.args.paths.now ++ (end_line))) c.in_err-write_delays.ensures.pushes) }))

pub returns-in_err-write_end : goal.returns-in_err-write_end
returns-in_err-write_end g c =
    let p = err_from_is_err_and c.from_residual-in_err-write_end.result c.from_residual-in_err-write_end.ensures.1 in
    rw (p.1) (rw (sdf_parts (record { design = c.args.design.now; wires = wire_rows g.C.CornerSet.COUNT c.args.names.now c.args.wires.now c.args.delays.now; paths = c.args.paths.now })) (record { pushes = pushes_then c.args.buffer.now (lines_text (opening_lines c.args.design.now)) (lines_text (delay_lines (wire_rows g.C.CornerSet.COUNT c.args.names.now c.args.wires.now c.args.delays.now)) ++ (end_line ++ (cells_text c.args.paths.now ++ (end_line)))) {result = Err _} c.in_ok-write_opening.ensures.pushes (pushes_then c.write_opening.new.buffer (lines_text (delay_lines (wire_rows g.C.CornerSet.COUNT c.args.names.now c.args.wires.now c.args.delays.now))) (end_line ++ (cells_text c.args.paths.now ++ (end_line))) {result = Err _} c.in_ok-write_delays.ensures.pushes (pushes_stop c.write_delays.new.buffer (end_line) (cells_text c.args.paths.now ++ (end_line)) c.in_err-write_end.ensures.pushes)) }))

pub returns-in_err-write_cells : goal.returns-in_err-write_cells
returns-in_err-write_cells g c =
    let p = err_from_is_err_and c.from_residual-in_err-write_cells.result c.from_residual-in_err-write_cells.ensures.1 in
    rw (p.1) (rw (sdf_parts (record { design = c.args.design.now; wires = wire_rows g.C.CornerSet.COUNT c.args.names.now c.args.wires.now c.args.delays.now; paths = c.args.paths.now })) (record { pushes = pushes_then c.args.buffer.now (lines_text (opening_lines c.args.design.now)) (lines_text (delay_lines (wire_rows g.C.CornerSet.COUNT c.args.names.now c.args.wires.now c.args.delays.now)) ++ (end_line ++ (cells_text c.args.paths.now ++ (end_line)))) {result = Err _} c.in_ok-write_opening.ensures.pushes (pushes_then c.write_opening.new.buffer (lines_text (delay_lines (wire_rows g.C.CornerSet.COUNT c.args.names.now c.args.wires.now c.args.delays.now))) (end_line ++ (cells_text c.args.paths.now ++ (end_line))) {result = Err _} c.in_ok-write_delays.ensures.pushes (pushes_then c.write_delays.new.buffer (end_line) (cells_text c.args.paths.now ++ (end_line)) {result = Err _} c.in_ok-write_end.ensures.pushes (pushes_stop c.write_end.new.buffer (cells_text c.args.paths.now) (end_line) c.in_err-write_cells.ensures.pushes))) }))

pub returns-in_err-write_end-2 : goal.returns-in_err-write_end-2
returns-in_err-write_end-2 g c =
    let p = err_from_is_err_and c.from_residual-in_err-write_end-2.result c.from_residual-in_err-write_end-2.ensures.1 in
    rw (p.1) (rw (sdf_parts (record { design = c.args.design.now; wires = wire_rows g.C.CornerSet.COUNT c.args.names.now c.args.wires.now c.args.delays.now; paths = c.args.paths.now })) (record { pushes = pushes_then c.args.buffer.now (lines_text (opening_lines c.args.design.now)) (lines_text (delay_lines (wire_rows g.C.CornerSet.COUNT c.args.names.now c.args.wires.now c.args.delays.now)) ++ (end_line ++ (cells_text c.args.paths.now ++ (end_line)))) {result = Err _} c.in_ok-write_opening.ensures.pushes (pushes_then c.write_opening.new.buffer (lines_text (delay_lines (wire_rows g.C.CornerSet.COUNT c.args.names.now c.args.wires.now c.args.delays.now))) (end_line ++ (cells_text c.args.paths.now ++ (end_line))) {result = Err _} c.in_ok-write_delays.ensures.pushes (pushes_then c.write_delays.new.buffer (end_line) (cells_text c.args.paths.now ++ (end_line)) {result = Err _} c.in_ok-write_end.ensures.pushes (pushes_then c.write_end.new.buffer (cells_text c.args.paths.now) (end_line) {result = Err _} c.in_ok-write_cells.ensures.pushes (c.in_err-write_end-2.ensures.pushes)))) }))

pub returns : goal.returns
returns g c =
    rw (sdf_parts (record { design = c.args.design.now; wires = wire_rows g.C.CornerSet.COUNT c.args.names.now c.args.wires.now c.args.delays.now; paths = c.args.paths.now })) (record { pushes = pushes_then c.args.buffer.now (lines_text (opening_lines c.args.design.now)) (lines_text (delay_lines (wire_rows g.C.CornerSet.COUNT c.args.names.now c.args.wires.now c.args.delays.now)) ++ (end_line ++ (cells_text c.args.paths.now ++ (end_line)))) {result = Ok tt} c.in_ok-write_opening.ensures.pushes (pushes_then c.write_opening.new.buffer (lines_text (delay_lines (wire_rows g.C.CornerSet.COUNT c.args.names.now c.args.wires.now c.args.delays.now))) (end_line ++ (cells_text c.args.paths.now ++ (end_line))) {result = Ok tt} c.in_ok-write_delays.ensures.pushes (pushes_then c.write_delays.new.buffer (end_line) (cells_text c.args.paths.now ++ (end_line)) {result = Ok tt} c.in_ok-write_end.ensures.pushes (pushes_then c.write_end.new.buffer (cells_text c.args.paths.now) (end_line) {result = Ok tt} c.in_ok-write_cells.ensures.pushes (c.in_ok-write_end-2.ensures.pushes)))) })
