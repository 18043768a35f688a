-- What the tables of a netlist's modules stand for.
use Rattle.std.specs.Prelude.{◌≡◌, ℕ, true, ◌+◌, ◌^◌, ◌<◌, ◌≤◌, List, length, map}
use Rattle.std.specs.List.{flat_map}
use Rattle.token_texts.specs.Spans.{text_at}
use Rattle.verilog_netlist.specs.Namespaces.{name_of}
use Rattle.verilog_netlist.specs.Parts.{Part}
use Rattle.verilog_netlist.specs.PartPlaces.{entry_at, stretch, ArePlaces, IsModuleExtent, IsInstanceExtent}
use Rattle.verilog_netlist.specs.ModuleNames.{NetName, is_in, number_of}
use Rattle.verilog_netlist.specs.NameRows.{view_row, name_from, start_at, AreNetNames}
use Rattle.verilog_netlist.specs.NetModules.{NetModule, modules_of, module_of, instance_of, connection_of, run_of, joined_bits, module_at, instance_at, connection_at, runs_at, bits_at}
use Rattle.verilog_netlist.specs.declared.net_names.Group.TheVariants as group
use Rattle.verilog_netlist.specs.declared.net_names.NameRow.{NameRow}
use Rattle.verilog_netlist.specs.declared.runs.Bit.{Bit}
use Rattle.verilog_netlist.specs.declared.runs.Run.{Run}
use Rattle.verilog_netlist.specs.declared.places.ModuleExtent.{ModuleExtent}
use Rattle.verilog_netlist.specs.declared.places.InstanceExtent.{InstanceExtent}
use Rattle.verilog_netlist.specs.declared.places.ConnectionExtent.{ConnectionExtent}
use Rattle.verilog_netlist.specs.declared.tables.Tables.{Tables}

abbrev pub modules_in : Tables → List NetModule
modules_in t = modules_of t.bytes.now t.entries.items

abbrev pub name_row : NameRow → NetName
name_row row = name_from (view_row row)

-- the places and the names are those of the entries
pub record AreTables (t : Tables) : Type 0 where
  pub places : ArePlaces t.entries.items t.places
  pub names : AreNetNames t.bytes.now t.entries.items t.places t.names
  pub few : length t.entries.items < 2 ^ 30

module _ (t : Tables) where
  -- the entry at this place, with what stands between it and the end
  abbrev pub part_at : ℕ → ℕ → Part
  part_at place end = record { head = entry_at t.entries.items place; behind = stretch t.entries.items (place + 1) end }

  -- the names of a module
  abbrev pub names_at : ℕ → List NetName
  names_at m = (module_at (modules_in t) m).names

  pub record IsModuleAt (m : ℕ) (x : ModuleExtent) : Type 0 where
    pub value : module_at (modules_in t) m ≡ module_of t.bytes.now (part_at x.place x.end)
    pub extent : IsModuleExtent t.entries.items x
    pub count : x.first_instance + length (module_at (modules_in t) m).instances ≡ x.instances_end
    pub known : x.instances_end ≤ length t.places.instances.items
    pub start : x.place ≡ start_at t.places m
    pub end : x.end ≡ start_at t.places (m + 1)

  pub record IsInstanceAt (m k : ℕ) (x : InstanceExtent) : Type 0 where
    pub value : instance_at (modules_in t) m k ≡ instance_of t.bytes.now (names_at m) (part_at x.place x.end)
    pub extent : IsInstanceExtent t.entries.items x
    pub count : x.first_connection + length (instance_at (modules_in t) m k).connections ≡ x.connections_end
    pub known : x.connections_end ≤ length t.places.connections.items
    pub start : start_at t.places m < x.place
    pub end : x.end ≤ start_at t.places (m + 1)

  -- the bits that are joined between two places of a module
  abbrev pub bits_between : ℕ → ℕ → ℕ → List Bit
  bits_between m from end = flat_map (joined_bits t.bytes.now (names_at m)) (stretch t.entries.items from end)

  pub record IsConnectionAt (m k c : ℕ) (x : ConnectionExtent) : Type 0 where
    pub value : connection_at (modules_in t) m k c ≡ connection_of t.bytes.now (names_at m) (part_at x.place x.end)
    pub head : x.place < x.end
    pub within : x.end ≤ length t.entries.items
    pub start : start_at t.places m < x.place
    pub end : x.end ≤ start_at t.places (m + 1)

  -- all that is joined to the port of a connection stands between its place and this end
  pub record IsJoinedAt (m k c : ℕ) (x : ConnectionExtent) : Type 0 where
    pub runs : runs_at (modules_in t) m k c ≡ map (run_of t.bytes.now (names_at m)) (stretch t.entries.items (x.place + 1) x.end)
    pub bits : bits_at (modules_in t) m k c ≡ bits_between m (x.place + 1) x.end
    pub head : x.place < x.end
    pub within : x.end ≤ length t.entries.items
    pub start : start_at t.places m < x.place
    pub end : x.end ≤ start_at t.places (m + 1)

  -- the number of the name that is joined here
  abbrev pub IsNumberAt : ℕ → ℕ → ℕ → Type 0
  IsNumberAt m place number =
      is_in group.Joined (entry_at t.entries.items place) ≡ true
      → number ≡ number_of (names_at m) (text_at t.bytes.now (name_of (entry_at t.entries.items place)))

  abbrev pub run_at : ℕ → ℕ → Run
  run_at m place = run_of t.bytes.now (names_at m) (entry_at t.entries.items place)
