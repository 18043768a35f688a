-- A design with its delays.
use Rattle.std.specs.Prelude.{◌≡◌, ℕ, ◌<◌, List, All}
use Rattle.cell_models.specs.NamedSets.{NamedCells}
use Rattle.netlist_link.specs.FlatNetlist.{FlatNetlist}
use Rattle.sdf_writer.specs.SdfText.{SdfRows}
use Rattle.net_delays.specs.NetTimes.{NetTimes, elmore_limit}
use Rattle.slew_order.specs.Slews.{SlewTables, AreSlews}
use Rattle.annotation_rows.specs.Annotation.{annotation_of}
use Rattle.annotation_rows.specs.PathRows.{timed_of}
use Rattle.annotation_rows.specs.RowLaws.{AreShaped}

-- its rows, its flat netlist with its cells, the loads and Elmore sums of its nets, and the slews of its pins
pub record AnnotatedDesign : Type 0 where
  pub rows : SdfRows
  pub netlist : FlatNetlist
  pub cells : List NamedCells
  pub nets : NetTimes
  pub slews : SlewTables

-- the delays of a linked design: its rows, the loads and Elmore sums of its nets, and the slews of its pins
pub record DesignDelays : Type 0 where
  pub rows : SdfRows
  pub nets : NetTimes
  pub slews : SlewTables

-- the design with its delays
abbrev pub with_delays_of : FlatNetlist → List NamedCells → DesignDelays → AnnotatedDesign
with_delays_of netlist cells delays =
    record { rows = delays.rows; netlist = netlist; cells = cells; nets = delays.nets; slews = delays.slews }

-- each cell has one shape at all corners, and each Elmore sum is below its limit
pub record AreSound (count : ℕ) (cells : List NamedCells) (delays : DesignDelays) : Type 0 where
  pub shaped : AreShaped count cells
  pub small : All (λ elmore. elmore < elmore_limit) delays.nets.elmores

-- The slews are those of the netlist, the cells, the loads and the Elmore sums, and so are the rows. Each cell has one shape at all
-- corners, and each Elmore sum is below its limit.
pub record PartsAgree (count : ℕ) (design : AnnotatedDesign) : Type 0 where
  pub slews : AreSlews (timed_of design.netlist design.cells count design.nets design.slews).source design.slews
  pub shaped : AreShaped count design.cells
  pub small : All (λ elmore. elmore < elmore_limit) design.nets.elmores
  pub rows : design.rows ≡ annotation_of design.rows.design (timed_of design.netlist design.cells count design.nets design.slews)
