-- The modules that the bytes of a netlist are.
use Rattle.std.specs.Prelude.{◌≡◌, ℕ, List, Result, MatchResult}
use Rattle.verilog_netlist.specs.Netlist.{SaysSound}
use Rattle.verilog_netlist.specs.NetModules.{NetModule, modules_of}
use Rattle.verilog_netlist.specs.ModuleTables.{AreTables}
use Rattle.verilog_netlist.specs.declared.entries.Entry.{Entry}
use Rattle.verilog_netlist.specs.declared.netlist.VerilogEnd.{VerilogEnd}
use Rattle.verilog_netlist.specs.declared.netlist.VerilogEnd.TheVariants.{OutOfMemory}
use Rattle.verilog_netlist.specs.declared.tables.Tables.{Tables}

-- the bytes say entries without a fault, and these are their modules
pub record AreModulesOf (bytes : List ℕ) (modules : List NetModule) : Type 0 where
  pub entries : List Entry
  pub says : SaysSound bytes entries
  pub are : modules ≡ modules_of bytes entries

-- the modules of these entries are answered, unless memory ran out
abbrev pub GivesModules : List ℕ → List Entry → Result (List NetModule) VerilogEnd → Type 0
GivesModules bytes entries result = MatchResult result (λ modules. modules ≡ modules_of bytes entries) (λ refusal. refusal ≡ OutOfMemory)

-- the tables are those of these entries
pub record IsMadeOf (bytes : List ℕ) (entries : List Entry) (t : Tables) : Type 0 where
  pub bytes_are : t.bytes.now ≡ bytes
  pub entries_are : t.entries.items ≡ entries
  pub sound : AreTables t
