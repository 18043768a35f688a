-- The delay groups of a cell and their arcs (Liberty, timing).
use Rattle.std.specs.Prelude.{◌≡◌, ℕ, Bool, true, ◌&&◌, ◌||◌, if◌then◌else◌, List, [], ◌∷◌, map, filter, flat_map, slice_get, Option, Some, None, Ok, unwrap_or, is_some, bytes_eq, codes}
use Rattle.std.specs.List.{list_any}
use Rattle.liberty_groups.specs.Groups.{Group, groups_of}
use Rattle.token_texts.specs.Blanks.{is_blank}
use Rattle.token_texts.specs.Pieces.{pieces_between}
use Rattle.cell_models.specs.declared.cell.ArcKind.{ArcKind}
use Rattle.cell_models.specs.declared.cell.ArcKind.TheVariants.{Positive, Negative, Both, RisingEdge, FallingEdge}
use Rattle.cell_models.specs.declared.cell.EdgeTables.{EdgeTables}
use Rattle.cell_models.specs.declared.cell.Arc.{Arc}
use Rattle.liberty_tables.specs.Library.{is_named, first_group, value_in}
use Rattle.timing_arcs.specs.PinModel.{PinEntry, is_pin_of, is_input, is_output, direction_of, pins_of}
use Rattle.liberty_tables.specs.LibraryUnits.{AreUnits}
use Rattle.timing_arcs.specs.DelayTables.{delay_names}
use Rattle.liberty_tables.specs.TableModel.{TableMeans, TransitionMeans}
use Rattle.liberty_tables.specs.declared.library_units.LibraryUnits.{LibraryUnits}

-- a `timing` group of an output pin, with the name of the pin
pub record DelayGroup : Type 0 where
  pub to : List ℕ
  pub group : Group

-- the types of timing that are delays
abbrev pub is_delay_type : Option (List ℕ) → Bool
is_delay_type None = true
is_delay_type (Some text) = list_any (bytes_eq text)
    (codes "combinational" ∷ codes "combinational_rise" ∷ codes "combinational_fall" ∷ codes "rising_edge" ∷ codes "falling_edge"
    ∷ codes "preset" ∷ codes "clear" ∷ [])

-- a `timing` group of such a type that has a delay table
unfoldable pub is_delay_group : Group → Bool
is_delay_group timing =
    is_named (codes "timing") timing && (is_delay_type (value_in (codes "timing_type") timing)
    && (is_some (first_group (codes "cell_rise") timing) || is_some (first_group (codes "cell_fall") timing)))

-- the delay groups of a pin: an output pin alone has some
abbrev pub delays_in : PinEntry → List DelayGroup
delays_in entry =
    if is_output (direction_of entry.group)
    then map (λ timing. record { to = entry.name; group = timing }) (filter is_delay_group (groups_of entry.group))
    else []

unfoldable pub delays_of : Group → List DelayGroup
delays_of cell = flat_map delays_in (pins_of cell)

-- the names of the related pins, parted by blanks
unfoldable pub related_names : Group → List (List ℕ)
related_names timing = pieces_between is_blank (unwrap_or (value_in (codes "related_pin") timing) [])

-- Which edges of the input an edge of the output follows. The edge of a clock decides before the sense.
abbrev pub kind_by : List ℕ → List ℕ → ArcKind
kind_by type sense =
    if bytes_eq type (codes "rising_edge") then RisingEdge
    else if bytes_eq type (codes "falling_edge") then FallingEdge
    else if bytes_eq sense (codes "positive_unate") then Positive
    else if bytes_eq sense (codes "negative_unate") then Negative
    else Both

unfoldable pub kind_of : Group → ArcKind
kind_of timing = kind_by (unwrap_or (value_in (codes "timing_type") timing) []) (unwrap_or (value_in (codes "timing_sense") timing) [])

-- a name is that of a pin
abbrev pub is_pin_in : List PinEntry → List ℕ → Bool
is_pin_in pins name = list_any (is_pin_of name) pins

-- a name is that of an input pin
abbrev pub is_input_in : List PinEntry → List ℕ → Bool
is_input_in pins name = list_any (λ (entry : PinEntry). is_pin_of name entry && is_input (direction_of entry.group)) pins

-- an arc: the names of its pins, and its group
pub record ArcEntry : Type 0 where
  pub from : List ℕ
  pub to : List ℕ
  pub group : Group

-- a delay group gives an arc for each name in `related_pin` that is an input pin
abbrev pub arcs_in : List PinEntry → DelayGroup → List ArcEntry
arcs_in pins delay = map (λ name. record { from = name; to = delay.to; group = delay.group })
    (filter (is_input_in pins) (related_names delay.group))

-- by output pin, then by group, then by related pin
unfoldable pub arcs_of : Group → List ArcEntry
arcs_of cell = flat_map (arcs_in (pins_of cell)) (delays_of cell)

-- the tables of an edge: a delay table, and then a transition table
pub data AreEdgeTables (library : Group) : Option Group → Option Group → Option EdgeTables → Type 0 where
  no_edge : {slew : Option Group} → AreEdgeTables library None slew None
  edge : {delay slew : Group} {tables : EdgeTables} {units : LibraryUnits} → AreUnits library units
      → TableMeans delay_names library delay units (Ok tables.delay) → TransitionMeans delay_names library slew units (Ok tables.slew)
      → AreEdgeTables library (Some delay) (Some slew) (Some tables)

-- the tables of a group's rise, and of its fall
abbrev pub IsRise : Group → Group → Option EdgeTables → Type 0
IsRise library timing tables = AreEdgeTables library (first_group (codes "cell_rise") timing)
    (first_group (codes "rise_transition") timing) tables

abbrev pub IsFall : Group → Group → Option EdgeTables → Type 0
IsFall library timing tables = AreEdgeTables library (first_group (codes "cell_fall") timing)
    (first_group (codes "fall_transition") timing) tables

-- an arc of a cell whose pins have these names
pub record IsArc (library : Group) (names : List (List ℕ)) (entry : ArcEntry) (arc : Arc) : Type 0 where
  pub from : slice_get names arc.from ≡ Some entry.from
  pub to : slice_get names arc.to ≡ Some entry.to
  pub kind : arc.kind ≡ kind_of entry.group
  pub rise : IsRise library entry.group arc.rise
  pub fall : IsFall library entry.group arc.fall
