-- What each bit of each name in each visited module is on, as it is kept.
use Rattle.std.specs.Prelude.{◌≡◌, ℕ, ◌+◌, ◌<◌, List, [], ◌∷◌, ◌++◌, length, map, take, flat_map, get_or, slice_get, slice_index, Option, Some, None, ⊤}
use Rattle.verilog_netlist.specs.ModuleNames.{NetName}
use Rattle.verilog_netlist.specs.NetModules.{NetModule, NetConnection, instance_at, connection_at, bits_in}
use Rattle.verilog_netlist.specs.Ranges.{whole_width}
use Rattle.verilog_netlist.specs.declared.runs.Bit.{Bit}
use Rattle.verilog_netlist.specs.declared.runs.Bit.TheVariants.{Wire}
use Rattle.hierarchy.specs.Walks.{joined_from, visits}
use Rattle.netlist_link.specs.FlatBits.{NetBit, names_on, name_on, joined_above, nets_of_name, nets_of_visit}
use Rattle.netlist_link.specs.FlatPins.{wired, IsNumbered}
use Rattle.netlist_link.specs.LinkEnds.{all_faults}
use Rattle.netlist_link.specs.NamePlaces.{AreNamePlaces}
use Rattle.netlist_link.specs.PortTables.{IsPortNamed}
use Rattle.netlist_link.specs.PathTables.{top_of, visit_at, around_at}
use Rattle.netlist_link.specs.BitTables.{path_of, module_of, nets_of, net_bit_of, IsBitOf, IsBitIn, AreNetPlaces}
use Rattle.netlist_link.specs.Designs.{OverCells}
use Rattle.netlist_link.specs.declared.checking.Design.{Design}
use Rattle.netlist_link.specs.declared.flat_bits.FlatBits.{FlatBits}
use Rattle.netlist_link.specs.declared.flat_bits.NetPlace.{NetPlace}

-- the net of a bit in a visited module by its number, none where it is on a constant
abbrev pub IsOnNet : Design → ℕ → Bit → Option ℕ → Type 0
IsOnNet d visit bit net = IsNumbered d.modules.now (top_of d.walk.now) (wired d.modules.now (top_of d.walk.now) (path_of d visit) bit) net

-- no connection has a fault
abbrev pub IsFaultless : Design → Type 0
IsFaultless d = OverCells d (λ cells. all_faults d.modules.now (top_of d.walk.now) cells ≡ [])

-- the number of a net among those that are kept, and none for a constant
abbrev pub IsKept : List NetBit → Option NetBit → Option ℕ → Type 0
IsKept kept None None = ⊤
IsKept kept (Some net) (Some number) = slice_get kept number ≡ Some net
IsKept kept _ _ = ⊥

-- the numbers of these, one for each
abbrev pub AreKept : List NetBit → List (Option NetBit) → List (Option ℕ) → Type 0
AreKept kept [] [] = ⊤
AreKept kept (target ∷ targets) (number ∷ numbers) = IsKept kept target number × AreKept kept targets numbers
AreKept kept _ _ = ⊥

module _ (modules : List NetModule) (top : ℕ) where
  -- what the bits of a name in a visited module are on, from the left
  abbrev pub targets_of_name : List ℕ → ℕ → List (Option NetBit)
  targets_of_name path name =
      joined_from (λ bit. wired modules top path (Wire name bit) ∷ []) 0 (whole_width (name_on modules top path name).range)

  -- what the bits of the names of a visited module are on
  abbrev pub targets_of_visit : List ℕ → List (Option NetBit)
  targets_of_visit path = joined_from (targets_of_name path) 0 (length (names_on modules top path))

abbrev pub visits_of : Design → List (List ℕ)
visits_of d = visits d.modules.now (top_of d.walk.now)

-- what the bits of the first so many visited modules are on
abbrev pub targets_before : Design → ℕ → List (Option NetBit)
targets_before d many = flat_map (targets_of_visit d.modules.now (top_of d.walk.now)) (take many (visits_of d))

-- the nets of the first so many visited modules
abbrev pub nets_before : Design → ℕ → List NetBit
nets_before d many = flat_map (nets_of_visit d.modules.now (top_of d.walk.now)) (take many (visits_of d))

-- what is kept: the places of so many visited modules, what bits are on, and nets
pub record HoldBits (d : Design) (started : ℕ) (targets : List (Option NetBit)) (nets : List NetBit) (bits : FlatBits) : Type 0 where
  pub names : AreNamePlaces d.modules.now bits.names
  pub starts_len : length bits.starts.items ≡ started
  pub starts_are : (v : ℕ) → v < started → slice_index bits.starts.items v ≡ length (targets_before d v)
  pub numbers_are : AreKept nets targets bits.bits.items
  pub nets_are : map (net_bit_of d) bits.nets.items ≡ nets
  pub each : (n : ℕ) (place : NetPlace) → slice_get bits.nets.items n ≡ Some place → IsBitOf d place.visit place.name place.bit

-- the first so many visited modules are kept
abbrev pub HoldVisits : Design → ℕ → FlatBits → Type 0
HoldVisits d many = HoldBits d many (targets_before d many) (nets_before d many)

-- the visited modules before this one are kept, and the first so many of its names
abbrev pub HoldNames : Design → ℕ → ℕ → FlatBits → Type 0
HoldNames d v i =
    HoldBits d (v + 1) (targets_before d v ++ joined_from (targets_of_name d.modules.now (top_of d.walk.now) (path_of d v)) 0 i)
    (nets_before d v ++ joined_from (nets_of_name d.modules.now (top_of d.walk.now) (path_of d v)) 0 i)

-- the bits of a visited module are among those that are kept
pub record HasVisitBits (d : Design) (visit : ℕ) (bits : FlatBits) : Type 0 where
  pub started : ℕ
  pub rest : List (Option NetBit)
  pub nets : List NetBit
  pub below : visit < started
  pub held : HoldBits d started (targets_before d (visit + 1) ++ rest) nets bits

-- a bit in a visited module, of this number, of which the bits are kept
pub record HasKeptBit (bits : FlatBits) (visit m : ℕ) (bit : Bit) : Type 0 where
  pub design : Design
  pub has : HasVisitBits design visit bits
  pub module_is : m ≡ module_of design visit
  pub inside : IsBitIn design visit bit

-- the nets of a design are kept, and for each bit its net
pub record AreFlatBits (d : Design) (bits : FlatBits) : Type 0 where
  pub nets : AreNetPlaces d bits.nets.items
  pub held : HoldBits d (length (visits_of d)) (targets_before d (length (visits_of d))) (nets_of d) bits

-- a bit in a visited module, of this number, of a design whose bits are kept
pub record HasFlatBit (bits : FlatBits) (visit m : ℕ) (bit : Bit) : Type 0 where
  pub design : Design
  pub are : AreFlatBits design bits
  pub visit_below : visit < length (visits design.modules.now (top_of design.walk.now))
  pub module_is : m ≡ module_of design visit
  pub inside : IsBitIn design visit bit

-- the connections of the instance that a visited module is
abbrev pub connections_at : Design → ℕ → List NetConnection
connections_at d v = (instance_at d.modules.now (around_at d.walk.now v).«module» (visit_at d.walk.now v).instance).connections

abbrev pub connection_of : Design → ℕ → ℕ → NetConnection
connection_of d v c = connection_at d.modules.now (around_at d.walk.now v).«module» (visit_at d.walk.now v).instance c

abbrev pub joined_bits : Design → ℕ → ℕ → List Bit
joined_bits d v c = bits_in (connection_of d v c).runs

abbrev pub names_of : Design → ℕ → List NetName
names_of d v = names_on d.modules.now (top_of d.walk.now) (path_of d v)

-- a connection of the instance that a visited module is joins all bits to a name of that module
pub record IsJoinedBy (d : Design) (v name c : ℕ) : Type 0 where
  pub lower : 0 < v
  pub within : c < length (connections_at d v)
  pub joined : joined_above d.modules.now (top_of d.walk.now) (path_of d v) name ≡ Some (joined_bits d v c)
  pub width : length (joined_bits d v c) ≡ whole_width (name_on d.modules.now (top_of d.walk.now) (path_of d v) name).range

-- the connection that joins something to a name of a visited module, or none does
abbrev pub IsNameJoined : Design → ℕ → ℕ → Option ℕ → Type 0
IsNameJoined d v name None = joined_above d.modules.now (top_of d.walk.now) (path_of d v) name ≡ None
IsNameJoined d v name (Some c) = IsJoinedBy d v name c

pub record AreNamesJoined (d : Design) (v : ℕ) (joined : List (Option ℕ)) : Type 0 where
  pub count : length joined ≡ length (names_of d v)
  pub each : (name : ℕ) → name < length joined → IsNameJoined d v name (get_or joined name None)

-- a connection joins something to the port of this number
pub record JoinsName (d : Design) (v name c : ℕ) : Type 0 where
  pub port : IsPortNamed (names_of d v) name (connection_of d v c).port
  pub some : 0 < length (joined_bits d v c)

-- one of the first so many connections joins something to a name, or none does
abbrev pub IsJoinedAmong : Design → ℕ → ℕ → ℕ → Option ℕ → Type 0
IsJoinedAmong d v many name None = (c : ℕ) → c < many → JoinsName d v name c → ⊥
IsJoinedAmong d v many name (Some c) = (c < many) × JoinsName d v name c

pub record HoldJoined (d : Design) (v many : ℕ) (joined : List (Option ℕ)) : Type 0 where
  pub count : length joined ≡ length (names_of d v)
  pub each : (name : ℕ) → name < length joined → IsJoinedAmong d v many name (get_or joined name None)
