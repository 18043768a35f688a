-- Why the timing models of the corners are not those of one cell.
use Rattle.std.specs.Prelude.{◌≡◌, ◌≢◌, ℕ, ◌+◌, ◌<◌, List, length, slice_get}
use Rattle.cell_models.specs.Cells.{TimedCell}
use Rattle.cell_models.specs.CornerCells.{shape_at, AreOneShape}
use Rattle.cell_models.specs.declared.shape.Entry.{Entry}
use Rattle.cell_models.specs.declared.shape.ShapeFault.{ShapeFault}
use Rattle.cell_models.specs.declared.joining.JoinEnd.{JoinEnd}
use Rattle.cell_models.specs.declared.joining.JoinEnd.TheVariants.{Shape, OutOfMemory}

-- two shapes agree before a place, and differ there: past its end a shape has no entry
pub record DifferFirst (one other : List Entry) (place : ℕ) : Type 0 where
  pub alike : (earlier : ℕ) → earlier < place → slice_get one earlier ≡ slice_get other earlier
  pub unlike : slice_get one place ≢ slice_get other place

-- the least corner whose shape is another than that of the first, and the first place, from 0, at which the two differ
pub record DifferAt (cells : List TimedCell) (corner place : ℕ) : Type 0 where
  pub within : corner < length cells
  pub least : (earlier : ℕ) → earlier < corner → shape_at cells earlier ≡ shape_at cells 0
  pub differ : DifferFirst (shape_at cells 0) (shape_at cells corner) place

-- that corner, that place, counted from 1, and the entries there
pub record IsShapeFault (cells : List TimedCell) (fault : ShapeFault) : Type 0 where
  pub before : ℕ
  pub from_one : fault.place ≡ before + 1
  pub differ : DifferAt cells fault.corner before
  pub first : fault.first ≡ slice_get (shape_at cells 0) before
  pub other : fault.other ≡ slice_get (shape_at cells fault.corner) before

-- memory is taken for the entries of a fault alone
pub data IsJoinEnd (cells : List TimedCell) : JoinEnd → Type 0 where
  other_shape : (fault : ShapeFault) → IsShapeFault cells fault → IsJoinEnd cells (Shape fault)
  no_memory : ¬ AreOneShape cells → IsJoinEnd cells OutOfMemory

-- there is at most one such fault
abbrev pub OneShapeFault : Type 0
OneShapeFault = (cells : List TimedCell) (one other : ShapeFault) → IsShapeFault cells one → IsShapeFault cells other → one ≡ other
