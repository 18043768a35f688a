-- The instances of a flat design as they are kept.
use Rattle.std.specs.Prelude.{◌≡◌, ℕ, ◌+◌, ◌≤◌, List, [], ◌∷◌, length, take, drop, get_or, slice_get, Some}
use Rattle.hierarchy.specs.Walks.{joined_from}
use Rattle.netlist_link.specs.FlatNetlist.{FlatInstance}
use Rattle.netlist_link.specs.declared.instances.InstanceRow.{InstanceRow}
use Rattle.netlist_link.specs.declared.instances.Instances.{Instances}

abbrev pub no_row : InstanceRow
no_row = record { cell = 0; first_pin = 0; pin_count = 0 }

abbrev pub row_at : Instances → ℕ → InstanceRow
row_at kept i = get_or kept.rows.items i no_row

-- an instance: the nets of its pins stand from its first pin on
abbrev pub kept_instance : Instances → ℕ → FlatInstance
kept_instance kept i = record {
  text = get_or kept.names.texts i [];
  sdf = get_or kept.names.spellings i [];
  cell = (row_at kept i).cell;
  nets = take (row_at kept i).pin_count (drop (row_at kept i).first_pin kept.pin_nets.items);
}

abbrev pub instances_in : Instances → List FlatInstance
instances_in kept = joined_from (λ i. kept_instance kept i ∷ []) 0 (length kept.rows.items)

-- each instance has its names, and its pins' nets stand in the list of all
pub record AreInstanceTables (kept : Instances) : Type 0 where
  pub texts_count : length kept.names.texts ≡ length kept.rows.items
  pub spellings_count : length kept.names.spellings ≡ length kept.rows.items
  pub pins_within : (i : ℕ) (row : InstanceRow) → slice_get kept.rows.items i ≡ Some row
      → row.first_pin + row.pin_count ≤ length kept.pin_nets.items
