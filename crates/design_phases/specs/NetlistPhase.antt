-- The phase that reads the grammar of a netlist (IEEE 1364), and its names and ranges.
use Rattle.std.specs.Prelude.{◌≡◌, ℕ, List, Result, Ok, Err}
use Rattle.verilog_netlist.specs.Netlist.{IsNameFault, HasItsWord}
use Rattle.verilog_netlist.specs.Netlists.{LeavesNetlist}
use Rattle.verilog_netlist.specs.NetModules.{NetModule}
use Rattle.verilog_netlist.specs.Parsed.{AreModulesOf}
use Rattle.verilog_netlist.specs.declared.faults.NameFault.TheVariants as fault
use Rattle.verilog_netlist.specs.declared.netlist.VerilogEnd.TheVariants as end
use Rattle.refusals.specs.declared.refusal.Refusal.{Refusal}
use Rattle.refusals.specs.declared.refusal.Refusal.TheVariants.{NetlistSyntax, NotStructural, RepeatedName, PortDirection, BadRange}

-- The bytes are a netlist of these modules; or they leave its grammar at a token, which may be a word that begins what is no structure;
-- or the first of its names and ranges that is at fault has this name.
pub data ParsesNetlist (bytes : List ℕ) : Result (List NetModule) Refusal → Type 0 where
  is_netlist : (modules : List NetModule) → AreModulesOf bytes modules → ParsesNetlist bytes (Ok modules)
  no_netlist : (token : ℕ) → LeavesNetlist bytes token → HasItsWord bytes (end.Syntax token)
      → ParsesNetlist bytes (Err (NetlistSyntax token))
  no_structure : (word : List ℕ) (token : ℕ) → LeavesNetlist bytes token → HasItsWord bytes (end.NotStructural word token)
      → ParsesNetlist bytes (Err (NotStructural word token))
  repeated_name : (name : List ℕ) → IsNameFault bytes fault.Repeated name → ParsesNetlist bytes (Err (RepeatedName name))
  port_direction : (name : List ℕ) → IsNameFault bytes fault.PortDirection name → ParsesNetlist bytes (Err (PortDirection name))
  bad_range : (name : List ℕ) → IsNameFault bytes fault.BadRange name → ParsesNetlist bytes (Err (BadRange name))

-- the bytes of a netlist have one answer: modules, or a refusal
abbrev pub OneNetlist : Type 0
OneNetlist = (bytes : List ℕ) (one other : Result (List NetModule) Refusal) → ParsesNetlist bytes one → ParsesNetlist bytes other
    → one ≡ other
