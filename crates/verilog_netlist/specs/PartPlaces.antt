-- Where the parts of a netlist's entries are, as tables keep it.
use Rattle.std.specs.Prelude.{◌≡◌, ℕ, zero, suc, ◌+◌, ◌-◌, ◌<◌, ◌≤◌, Bool, true, if◌then◌else◌, List, [], ◌∷◌, ◌++◌, length, take, drop, map, get_or, slice_get, count_by, Some}
use Rattle.verilog_netlist.specs.Namespaces.{begins_module, begins_instance}
use Rattle.verilog_netlist.specs.Parts.{parts, begins_connection}
use Rattle.verilog_netlist.specs.declared.entries.Entry.{Entry}
use Rattle.verilog_netlist.specs.declared.entries.Entry.TheVariants as entry
use Rattle.verilog_netlist.specs.declared.places.ModuleRow.{ModuleRow}
use Rattle.verilog_netlist.specs.declared.places.InstanceRow.{InstanceRow}
use Rattle.verilog_netlist.specs.declared.places.ModuleExtent.{ModuleExtent}
use Rattle.verilog_netlist.specs.declared.places.InstanceExtent.{InstanceExtent}
use Rattle.verilog_netlist.specs.declared.places.Places.{Places}

abbrev pub no_entry : Entry
no_entry = entry.Module (record { start = 0; len = 0 })

abbrev pub entry_at : List Entry → ℕ → Entry
entry_at entries place = get_or entries place no_entry

-- an item more, where the test holds
abbrev pub grown : {X : Type 0} → Bool → List X → X → List X
grown test items item = if test then items ++ item ∷ [] else items

module _ (begins : Entry → Bool) (entries : List Entry) where
  -- the places among the first n at which a part begins
  abbrev pub places_below : ℕ → List ℕ
  places_below zero = []
  places_below (suc n) = grown (begins (entry_at entries n)) (places_below n) n

  -- how many parts begin before this place
  abbrev pub begun : ℕ → ℕ
  begun place = count_by begins (take place entries)

module _ (entries : List Entry) where
  abbrev pub module_row : ℕ → ModuleRow
  module_row place = record {
    place = place;
    instances = begun begins_instance entries place;
    connections = begun begins_connection entries place;
  }

  abbrev pub instance_row : ℕ → InstanceRow
  instance_row place = record { place = place; connections = begun begins_connection entries place }

  -- the tables of the first n entries
  pub record HoldsPlaces (n : ℕ) (p : Places) : Type 0 where
    pub modules : p.modules.items ≡ map module_row (places_below begins_module entries n)
    pub instances : p.instances.items ≡ map instance_row (places_below begins_instance entries n)
    pub connections : p.connections.items ≡ places_below begins_connection entries n

  -- the tables of all entries; the last row of a module stands for the end
  pub record ArePlaces (p : Places) : Type 0 where
    pub modules : p.modules.items ≡ map module_row (places_below begins_module entries (length entries) ++ length entries ∷ [])
    pub instances : p.instances.items ≡ map instance_row (places_below begins_instance entries (length entries))
    pub connections : p.connections.items ≡ places_below begins_connection entries (length entries)

  -- the entries from one place up to another
  abbrev pub stretch : ℕ → ℕ → List Entry
  stretch from end = take (end - from) (drop from entries)

  -- the part of number k in the list `own` begins at this place, and ends before that one
  pub record IsPartAt (begins : Entry → Bool) (own : List Entry) (k place end : ℕ) : Type 0 where
    pub is : slice_get (parts begins own) k ≡ Some (record { head = entry_at entries place; behind = stretch (place + 1) end })
    pub begins_it : begins (entry_at entries place) ≡ true
    pub head : place < end
    pub within : end ≤ length entries

  pub record IsModuleExtent (x : ModuleExtent) : Type 0 where
    pub head : x.place < x.end
    pub within : x.end ≤ length entries
    pub first : x.first_instance ≡ begun begins_instance entries (x.place + 1)
    pub last : x.instances_end ≡ begun begins_instance entries x.end
    pub connections : x.connections_end ≡ begun begins_connection entries x.end

  pub record IsInstanceExtent (x : InstanceExtent) : Type 0 where
    pub head : x.place < x.end
    pub within : x.end ≤ length entries
    pub first : x.first_connection ≡ begun begins_connection entries (x.place + 1)
    pub last : x.connections_end ≡ begun begins_connection entries x.end

-- what one entry adds to the tables
pub record AddsModule (old : Places) (place : ℕ) (new : Places) : Type 0 where
  pub modules : new.modules.items ≡ old.modules.items
      ++ record { place = place; instances = length old.instances.items; connections = length old.connections.items } ∷ []
  pub instances : new.instances.items ≡ old.instances.items
  pub connections : new.connections.items ≡ old.connections.items

pub record AddsInstance (old : Places) (place : ℕ) (new : Places) : Type 0 where
  pub modules : new.modules.items ≡ old.modules.items
  pub instances : new.instances.items ≡ old.instances.items ++ record { place = place; connections = length old.connections.items } ∷ []
  pub connections : new.connections.items ≡ old.connections.items

pub record AddsConnection (old : Places) (place : ℕ) (new : Places) : Type 0 where
  pub modules : new.modules.items ≡ old.modules.items
  pub instances : new.instances.items ≡ old.instances.items
  pub connections : new.connections.items ≡ old.connections.items ++ place ∷ []

pub record AddsNothing (old new : Places) : Type 0 where
  pub modules : new.modules.items ≡ old.modules.items
  pub instances : new.instances.items ≡ old.instances.items
  pub connections : new.connections.items ≡ old.connections.items

abbrev pub AddsPlace : Places → ℕ → Entry → Places → Type 0
AddsPlace old place (entry.Module name) new = AddsModule old place new
AddsPlace old place (entry.Instance cell name) new = AddsInstance old place new
AddsPlace old place (entry.Port name) new = AddsConnection old place new
AddsPlace old place _ new = AddsNothing old new
