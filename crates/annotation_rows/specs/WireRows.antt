-- The rows of the wires of a design: one from the driver of each net to each of its sinks.
use Rattle.std.specs.Prelude.{ℕ, ◌^◌, pos, List, [], ◌∷◌, ◌++◌, length, map, get_or, Option, Some, None}
use Rattle.std.specs.List.{range_with_len}
use Rattle.cell_models.specs.NamedSets.{NamedCells}
use Rattle.delay_units.specs.declared.Femto.{Femto}
use Rattle.hierarchy.specs.Walks.{joined_from}
use Rattle.netlist_link.specs.FlatNetlist.{FlatNetlist, net_at}
use Rattle.netlist_link.specs.declared.ends.End.{End}
use Rattle.netlist_link.specs.declared.ends.End.TheVariants.{Port}
use Rattle.sdf_writer.specs.SdfText.{WireRow, SdfRows}
use Rattle.slew_order.specs.Lookups.{half_up}
use Rattle.net_delays.specs.NetTimes.{NetTimes, elmore_at}
use Rattle.annotation_rows.specs.SdfEnds.{end_sdf}

-- an Elmore sum, in 10^-27 s, rounded once to a femtosecond
abbrev pub femto_of : ℕ → Femto
femto_of elmore = record { 0 = half_up (pos elmore) (pos (10 ^ 12)) }

-- a value at each of so many corners, in order of their numbers
abbrev pub at_corners : {X : Type 0} → (ℕ → X) → ℕ → List X
at_corners value count = map value (range_with_len 0 count)

-- the delays of the wire to a sink of a net, at so many corners
abbrev pub wire_delays : ℕ → NetTimes → ℕ → ℕ → List Femto
wire_delays count times net sink = at_corners (λ corner. femto_of (elmore_at count times net sink corner)) count

module _ (cells : List NamedCells) (netlist : FlatNetlist) (count : ℕ) (times : NetTimes) where
  -- the wire from an end that drives a net to one of its sinks
  abbrev pub wire_row : End → ℕ → ℕ → WireRow
  wire_row driver net sink = record {
    from = end_sdf cells netlist driver;
    to = end_sdf cells netlist (get_or (net_at netlist net).sinks sink (Port 0));
    delay = wire_delays count times net sink;
  }

  -- the wires to the first so many sinks
  abbrev pub driven_rows : End → ℕ → ℕ → List WireRow
  driven_rows driver net many = joined_from (λ sink. wire_row driver net sink ∷ []) 0 many

  -- the wires of a net: one to each sink, and none where nothing drives it
  abbrev pub rows_from : Option End → ℕ → List WireRow
  rows_from None net = []
  rows_from (Some driver) net = driven_rows driver net (length (net_at netlist net).sinks)

  abbrev pub net_rows : ℕ → List WireRow
  net_rows net = rows_from (net_at netlist net).driver net

  -- the wires of the first so many nets
  abbrev pub wire_rows_to : ℕ → List WireRow
  wire_rows_to many = joined_from net_rows 0 many

  -- the wires of all nets, in order
  abbrev pub wire_rows : List WireRow
  wire_rows = wire_rows_to (length netlist.nets)

-- rows with more wires behind
abbrev pub with_wires : SdfRows → List WireRow → SdfRows
with_wires rows more = record { design = rows.design; wires = rows.wires ++ more; paths = rows.paths }
