-- Rows whose values may be printed.
use Rattle.std.specs.Prelude.{◌≡◌, ℕ, ◌<◌, List, length, All}
use Rattle.sdf_writer.specs.Bounds.{AreWithin}
use Rattle.sdf_writer.specs.PathRows.{IsEdge}
use Rattle.sdf_writer.specs.SdfText.{WireRow, PathRow, SdfRows}
use Rattle.net_delays.specs.NetTimes.{elmore_limit}
use Rattle.annotation_rows.specs.Annotation.{annotation_of}
use Rattle.annotation_rows.specs.PathRows.{TimedDesign}

-- one delay a corner, each of at most 10^27 femtoseconds
pub record IsWirePrinted (count : ℕ) (row : WireRow) : Type 0 where
  pub one_row : length row.delay ≡ count
  pub within : AreWithin row.delay

-- the same at each edge, or none
pub record IsPathPrinted (count : ℕ) (row : PathRow) : Type 0 where
  pub rise : IsEdge count row.rise
  pub fall : IsEdge count row.fall

pub record AreRowsPrinted (count : ℕ) (rows : SdfRows) : Type 0 where
  pub wires : All (IsWirePrinted count) rows.wires
  pub paths : All (IsPathPrinted count) rows.paths

-- where the Elmore sums of a design are below their limit, its rows may be printed
abbrev pub PrintedRows : Type 0
PrintedRows = (name : List ℕ) (design : TimedDesign) → All (λ elmore. elmore < elmore_limit) design.source.times.elmores
    → AreRowsPrinted design.source.count (annotation_of name design)
