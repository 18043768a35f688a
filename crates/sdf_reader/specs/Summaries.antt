-- What a summary says of some rows.
use Rattle.std.specs.Prelude.{◌≡◌, List}
use Rattle.sdf_reader.specs.Lines.{wire_count, path_count, sum_of, largest_of}
use Rattle.sdf_reader.specs.declared.rows.SdfRow.{SdfRow}
use Rattle.sdf_reader.specs.declared.summary.Summary.{Summary}

-- it has the counts of their wires and paths, the sum of their typical times, and their largest member
pub record IsSummaryOf (rows : List SdfRow) (summary : Summary) : Type 0 where
  pub wires : summary.wires ≡ wire_count rows
  pub paths : summary.paths ≡ path_count rows
  pub sum : summary.sum ≡ sum_of rows
  pub largest : summary.largest ≡ largest_of rows
