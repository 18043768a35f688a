-- The module that is found is the first of its name, since names differ.
use Rattle.std.proofs.Common.{◌≡◌, ℕ, ◌<◌, ◌≤◌, List, length, Option, Some, None, IfSome, IfNone}
use Rattle.verilog_netlist.specs.NetModules.{NetModule, module_at}
use Rattle.verilog_netlist.specs.SoundModules.{Differ}
use Rattle.hierarchy.specs.Hierarchy.{module_named}
use Rattle.hierarchy.proofs.Named.{named_at, named_none}
use Rattle.hierarchy.proofs.naming.find_module.Goals as goal

found : (modules : List NetModule) (name : List ℕ) (result : Option ℕ) → Differ (length modules) (λ m. (module_at modules m).name)
    → IfSome result (λ m. (m < length modules) × ((module_at modules m).name ≡ name)) → IfSome result (λ m. m ≡ module_named modules name)
found modules name None differ h = tt
found modules name (Some m) differ h = named_at modules m name differ h.0 h.1

missed : (modules : List NetModule) (name : List ℕ) (result : Option ℕ)
    → IfNone result ((m : ℕ) → m < length modules → (module_at modules m).name ≡ name → ⊥)
    → IfNone result (length modules ≤ module_named modules name)
missed modules name None h = named_none modules name h
missed modules name (Some m) h = tt

pub returns-clause-named : goal.returns-clause-named
returns-clause-named c = found c.args.modules.now c.args.name.now c.find.result c.sound.ensures.modules c.find.ensures.some

pub returns-clause-none : goal.returns-clause-none
returns-clause-none c = missed c.args.modules.now c.args.name.now c.find.result c.find.ensures.none
