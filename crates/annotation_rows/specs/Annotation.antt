-- The rows that annotate a design with its delays.
use Rattle.std.specs.Prelude.{ℕ, List}
use Rattle.sdf_writer.specs.SdfText.{SdfRows}
use Rattle.annotation_rows.specs.PathRows.{TimedDesign, path_rows}
use Rattle.annotation_rows.specs.WireRows.{wire_rows}

-- the rows of a design of that name: its wires, net after net, and then its paths, instance after instance
abbrev pub annotation_of : List ℕ → TimedDesign → SdfRows
annotation_of name design = record {
  design = name;
  wires = wire_rows design.source.cells design.source.netlist design.source.count design.source.times;
  paths = path_rows design;
}
