-- How the rows of a net are added.
use Rattle.std.specs.Prelude.{◌≡◌, ◌+◌, ◌*◌, ◌^◌, ◌<◌, ℕ, List, [], ◌∷◌, ◌++◌, pos, Ok, length, slice_index_or, slice_get, Some}
use Rattle.delay_units.specs.Rounding.{IsRounding}
use Rattle.delay_units.specs.declared.Femto.{Femto}
use Rattle.name_table.specs.declared.spef_names.NodeName.{NodeName}
use Rattle.sdf_writer.specs.SdfText.{WireRow, SdfRows}
use Rattle.spef_nets.specs.NetElements.{NetElements}
use Rattle.rc_tree.specs.Arenas.{Arena, node_count, arena_elements}
use Rattle.rc_tree.specs.Elmore.{IsElmore}
use Rattle.rc_tree.specs.Pins.{Pins}
use Rattle.elmore_pass.specs.Delays.{HasDelay}
use Rattle.wire_phases.specs.WireNets.{NetGives}

-- the most steps that a net takes at so many corners: 16 at each for each of its resistors, of its capacitances to ground and of its
-- connections
abbrev pub most_steps : ℕ → NetElements → ℕ
most_steps count net = 16 * count * (length net.joints + length net.caps + length net.conns)

-- the delay of each node of a tree stands at its place
abbrev pub HasDelays : Arena → List ℕ → Type 0
HasDelays arena values = (node : ℕ) → node < node_count arena → HasDelay 1 arena values node 0

-- the node of a sink in a tree
abbrev pub node_of_sink : Arena → ℕ → ℕ
node_of_sink arena sink = (slice_index_or arena.sinks sink (record { 0 = 0 })).0

-- the row of the wire to a sink, by the delay of its node in the tree
pub record IsTreeRow (pins : Pins) (arena : Arena) (sink : ℕ) (row : WireRow) : Type 0 where
  pub name : NodeName
  pub named : slice_get pins.sinks sink ≡ Some name
  pub elmore : ℕ
  pub delay : Femto
  pub from : row.from ≡ pins.driver.sdf
  pub to : row.to ≡ name.sdf
  pub sole : row.delay ≡ delay ∷ []
  pub counted : IsElmore (arena_elements 1 arena 0) (node_of_sink arena sink) elmore
  pub rounded : IsRounding (pos elmore) (pos (10 ^ 12)) delay.0

abbrev pub with_rows : SdfRows → List WireRow → SdfRows
with_rows rows more = record { design = rows.design; wires = rows.wires ++ more; paths = rows.paths }

-- one row more
pub record AddsRow (pins : Pins) (arena : Arena) (sink : ℕ) (old new : SdfRows) : Type 0 where
  pub row : WireRow
  pub is : new ≡ with_rows old (row ∷ [])
  pub by_tree : IsTreeRow pins arena sink row

-- the rows of the first sinks were added, so many of them
pub record AddsRows (pins : Pins) (arena : Arena) (count : ℕ) (old new : SdfRows) : Type 0 where
  pub rows : List WireRow
  pub is : new ≡ with_rows old rows
  pub counted : length rows ≡ count
  pub by_tree : (sink : ℕ) (row : WireRow) → slice_get rows sink ≡ Some row → IsTreeRow pins arena sink row

-- a net's rows were added
pub record AddsNetRows (net : NetElements) (old new : SdfRows) : Type 0 where
  pub rows : List WireRow
  pub is : new ≡ with_rows old rows
  pub given : NetGives 1 net (Ok rows)
