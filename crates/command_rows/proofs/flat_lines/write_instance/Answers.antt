-- The line is that of the instance and of its cell's name.
use Rattle.std.proofs.Common.{ℕ, List, subst}
use Rattle.edge_io.specs.Writing.{Writes}
use Rattle.command_rows.proofs.FlatTexts.{instance_written}
use Rattle.command_rows.proofs.flat_lines.write_instance.Goals as goal

pub returns : goal.returns
returns g c =
    let line = instance_written c.args.design.now c.netlist-netlist.result.now c.cells.result.now c.args.i c.cell_of.result c.instance_text.result.now c.name-cell.result.now c.bytes.result.now
    c.netlist-netlist.ensures.netlist c.cells.ensures c.instance_text.ensures c.cell_of.ensures c.name-cell.ensures c.bytes.ensures in
    record {
      writes = subst (λ (t : List ℕ). Writes t (g.O.Sink.written c.args.out.now) (g.O.Sink.written c.write_5.new.sink) (g.O.Sink.faults c.args.out.now) (g.O.Sink.faults c.write_5.new.sink) c.write_5.result) line c.write_5.ensures.writes;
    }
