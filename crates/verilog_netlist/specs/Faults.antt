-- The first fault in the names and ranges of a netlist.
use Rattle.std.specs.Prelude.{◌≡◌, ℕ, ◌<◌, ◌≤◌, ◌⊎◌, nat_lt, if◌then◌else◌, List, Option, Some, None}
use Rattle.verilog_netlist.specs.Namespaces.{IsRepeated}
use Rattle.verilog_netlist.specs.Directions.{IsUnpaired}
use Rattle.verilog_netlist.specs.Ranges.{IsBadRange}
use Rattle.verilog_netlist.specs.declared.entries.Entry.{Entry}
use Rattle.verilog_netlist.specs.declared.faults.FirstFault.{FirstFault}
use Rattle.verilog_netlist.specs.declared.faults.NameFault.{NameFault}
use Rattle.verilog_netlist.specs.declared.faults.NameFault.TheVariants as fault

-- the fault stands at this place
abbrev pub HasFault : List ℕ → List Entry → NameFault → ℕ → Type 0
HasFault bytes entries fault.Repeated place = IsRepeated bytes entries place
HasFault bytes entries fault.PortDirection place = IsUnpaired bytes entries place
HasFault bytes entries fault.BadRange place = IsBadRange bytes entries place

-- at one place they come in this order
abbrev pub rank_of : NameFault → ℕ
rank_of fault.Repeated = 0
rank_of fault.PortDirection = 1
rank_of fault.BadRange = 2

abbrev pub ComesBefore : FirstFault → NameFault → ℕ → Type 0
ComesBefore first other place = (first.place < place) ⊎ ((first.place ≡ place) × (rank_of first.fault ≤ rank_of other))

-- no name and no range is at fault
abbrev pub IsFaultless : List ℕ → List Entry → Type 0
IsFaultless bytes entries = (other : NameFault) (place : ℕ) → HasFault bytes entries other place → ⊥

-- the fault at the least place, and at that place the first in their order
pub record IsFirstFault (bytes : List ℕ) (entries : List Entry) (first : FirstFault) : Type 0 where
  pub is : HasFault bytes entries first.fault first.place
  pub least : (other : NameFault) (place : ℕ) → HasFault bytes entries other place → ComesBefore first other place

abbrev pub FindsFault : List ℕ → List Entry → Option FirstFault → Type 0
FindsFault bytes entries None = IsFaultless bytes entries
FindsFault bytes entries (Some first) = IsFirstFault bytes entries first

-- what was found, or an earlier one of the next kind
abbrev pub or_earlier : Option FirstFault → NameFault → Option ℕ → Option FirstFault
or_earlier found next None = found
or_earlier None next (Some place) = Some (record { fault = next; place = place })
or_earlier (Some first) next (Some place) = if nat_lt place first.place then Some (record { fault = next; place = place }) else Some first
