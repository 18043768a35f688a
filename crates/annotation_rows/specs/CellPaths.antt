-- The paths through a cell: from one of its pins to another, by one arc or by several.
use Rattle.std.specs.Prelude.{◌≡◌, ℕ, ◌<◌, ◌==◌, ◌&&◌, Bool, true, false, not, List, [], length, get_or, slice_index_or, Option, Some, None, if◌then◌else◌}
use Rattle.std.specs.List.{prefix_len}
use Rattle.std.specs.Map.{lookup}
use Rattle.std.specs.Option.{unwrap_or}
use Rattle.cell_models.specs.NamedSets.{NamedCells}
use Rattle.cell_models.specs.declared.cell.Arc.{Arc}
use Rattle.slew_order.specs.FlatArcs.{arcs_of, no_arc}
use Rattle.annotation_rows.specs.declared.cell_paths.PinPair.{PinPair}

-- the arc of a number
abbrev pub arc_in : List Arc → ℕ → Arc
arc_in arcs arc = slice_index_or arcs arc no_arc

-- whether an arc leads from one pin to another
abbrev pub leads : ℕ → ℕ → Arc → Bool
leads from to arc = (arc.from == from) && (arc.to == to)

-- The number of the path of an arc: the least number of an arc between the same pins.
abbrev pub path_of : List Arc → ℕ → ℕ
path_of arcs arc = prefix_len (λ other. not (leads (arc_in arcs arc).from (arc_in arcs arc).to other)) arcs

-- of each arc the number of its path
pub record ArePaths (arcs : List Arc) (numbers : List ℕ) : Type 0 where
  pub len : length numbers ≡ length arcs
  pub each : (arc : ℕ) → arc < length arcs → slice_index_or numbers arc 0 ≡ path_of arcs arc

-- of each cell the paths of its arcs
pub record HavePaths (cells : List NamedCells) (paths : List (List ℕ)) : Type 0 where
  pub len : length paths ≡ length cells
  pub each : (cell : ℕ) → cell < length cells → ArePaths (arcs_of cells cell 0) (get_or paths cell [])

-- ---- paths by their pins

abbrev pub pair_of : Arc → PinPair
pair_of arc = record { from = arc.from; to = arc.to }

abbrev pub is_same : PinPair → PinPair → Bool
is_same one other = (one.from == other.from) && (one.to == other.to)

-- the path of a pair of pins, if it has a number
abbrev pub number_in : List (PinPair × ℕ) → PinPair → Option ℕ
number_in entries pins = lookup (is_same pins) entries

-- a pair has its number, and else this one; no other pair has another
pub record Numbers (old new : List (PinPair × ℕ)) (pins : PinPair) (arc number : ℕ) : Type 0 where
  pub is : number ≡ unwrap_or (number_in old pins) arc
  pub all : (other : PinPair) → number_in new other ≡ (if is_same pins other then Some number else number_in old other)

-- the pairs of the first so many arcs have the least numbers of their arcs, and no other pair has one
pub record HasNumbers (arcs : List Arc) (many : ℕ) (entries : List (PinPair × ℕ)) : Type 0 where
  pub found : (pins : PinPair) (number : ℕ) → number_in entries pins ≡ Some number
      → (number < many) × (leads pins.from pins.to (arc_in arcs number) ≡ true)
      × ((earlier : ℕ) → earlier < number → leads pins.from pins.to (arc_in arcs earlier) ≡ false)
  pub none : (pins : PinPair) → number_in entries pins ≡ None → (arc : ℕ) → arc < many
      → leads pins.from pins.to (arc_in arcs arc) ≡ false
