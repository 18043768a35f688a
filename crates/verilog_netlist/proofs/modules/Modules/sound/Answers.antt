-- Where names are the same, one is repeated.
use Rattle.std.proofs.Common.{◌≡◌, ◌<◌, ℕ, List, length, slice_get, Some, All, refl, subst}
use Rattle.verilog_netlist.specs.SoundModules.{Differ, AreWithin, HasNames, HasFewBitsEach, HasPortsFirst}
use Rattle.verilog_netlist.specs.NetModules.{NetModule, module_at, name_at, instance_at, connection_at, runs_at, bits_at}
use Rattle.verilog_netlist.specs.ModuleTables.{modules_in}
use Rattle.verilog_netlist.proofs.Sounding.{modules_differ, names_differ, instances_differ, ports_differ}
use Rattle.verilog_netlist.proofs.Joining.{runs_within}
use Rattle.verilog_netlist.proofs.Directing.{ports_first}
use Rattle.verilog_netlist.proofs.BitsWithin.{bit_within}
use Rattle.verilog_netlist.proofs.NamedModules.{modules_named, modules_have_few}
use Rattle.verilog_netlist.specs.declared.runs.Bit.{Bit}
use Rattle.verilog_netlist.specs.declared.runs.Run.{Run}
use Rattle.verilog_netlist.proofs.modules.Modules.sound.Goals as goal

pub returns-clause-modules : goal.returns-clause-modules
returns-clause-modules c =
    subst (λ (l : List NetModule). Differ (length l) (λ m. (module_at l m).name)) c.self.view_is
    (modules_differ c.self.inside.tables c.self.invariant.0 c.self.invariant.2.1)

pub returns-clause-names : goal.returns-clause-names
returns-clause-names c =
    subst (λ (l : List NetModule). (m : ℕ) → m < length l → Differ (length (module_at l m).names) (λ i. (name_at l m i).text)) c.self.view_is
    (names_differ c.self.inside.tables c.self.invariant.0)

pub returns-clause-instances : goal.returns-clause-instances
returns-clause-instances c =
    subst (λ (l : List NetModule). (m : ℕ) → m < length l → Differ (length (module_at l m).instances) (λ k. (instance_at l m k).name)) c.self.view_is
    (instances_differ c.self.inside.tables c.self.invariant.0 c.self.invariant.2.1)

pub returns-clause-ports : goal.returns-clause-ports
returns-clause-ports c =
    subst (λ (l : List NetModule). (m k : ℕ) → m < length l → k < length (module_at l m).instances → Differ (length (instance_at l m k).connections) (λ c. (connection_at l m k c).port)) c.self.view_is
    (λ m k below within. ports_differ c.self.inside.tables c.self.invariant.0 c.self.invariant.2.1 m below k within)

pub returns-clause-runs : goal.returns-clause-runs
returns-clause-runs c =
    subst (λ (l : List NetModule). (m k c r : ℕ) (run : Run) → m < length l → k < length (module_at l m).instances → c < length (instance_at l m k).connections
    → slice_get (runs_at l m k c) r ≡ Some run → AreWithin (module_at l m).names run.first run.count) c.self.view_is
    (λ m k d r run below. runs_within c.self.inside.tables c.self.invariant.0 m below c.self.invariant.2.1 k d r run)

pub returns-clause-bits : goal.returns-clause-bits
returns-clause-bits c =
    subst (λ (l : List NetModule). (m k c b : ℕ) (bit : Bit) → m < length l → k < length (module_at l m).instances → c < length (instance_at l m k).connections
    → slice_get (bits_at l m k c) b ≡ Some bit → AreWithin (module_at l m).names bit 1) c.self.view_is
    (λ m k d b bit below few within. bit_within (module_at (modules_in c.self.inside.tables) m).names (runs_at (modules_in c.self.inside.tables) m k d)
    (λ r run. runs_within c.self.inside.tables c.self.invariant.0 m below c.self.invariant.2.1 k d r run few within) b bit)

pub returns-clause-named : goal.returns-clause-named
returns-clause-named c =
    let tables = c.self.inside.tables in
    subst (All HasNames) c.self.view_is
    (modules_named tables.bytes.now (modules_in tables) (record { entries = tables.entries.items; says = c.self.invariant.2; are = refl }))

pub returns-clause-ranges : goal.returns-clause-ranges
returns-clause-ranges c =
    let tables = c.self.inside.tables in
    subst (All HasFewBitsEach) c.self.view_is
    (modules_have_few tables.bytes.now (modules_in tables) (record { entries = tables.entries.items; says = c.self.invariant.2; are = refl }))

pub returns-clause-ways : goal.returns-clause-ways
returns-clause-ways c =
    subst (λ (l : List NetModule). (m : ℕ) → m < length l → HasPortsFirst (module_at l m)) c.self.view_is
    (ports_first c.self.inside.tables c.self.invariant.0 c.self.invariant.2.1)
