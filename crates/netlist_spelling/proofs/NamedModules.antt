-- The names of a netlist's modules by their numbers.
use Rattle.std.proofs.Common.{◌≢◌, ℕ, ◌<◌, List, [], length, All}
use Rattle.std.proofs.lemmas.List.Elements.{All-get_or}
use Rattle.verilog_netlist.specs.ModuleNames.{no_name}
use Rattle.verilog_netlist.specs.NetModules.{NetModule, module_at, name_at, instance_at, no_module, no_instance}
use Rattle.verilog_netlist.specs.SoundModules.{HasNames, IsPortNamed}
use Rattle.hierarchy.specs.Hierarchy.{instance_count}
use Rattle.netlist_link.proofs.NetTexts.{names_within}
use Rattle.netlist_link.proofs.PathSteps.{module_within}

-- an instance and a name, by the number of its module and its own
module _ (modules : List NetModule) (named : All HasNames modules) where
  module_has : (m : ℕ) → m < length modules → HasNames (module_at modules m)
  module_has m within = All-get_or HasNames modules m no_module within named

  pub instance_named : (m k : ℕ) → k < instance_count modules m → (instance_at modules m k).name ≢ []
  instance_named m k below =
      All-get_or (λ instance. instance.name ≢ []) (module_at modules m).instances k no_instance below
      (module_has m (module_within modules m k below)).instances

  pub connections_named : (m k : ℕ) → k < instance_count modules m → All IsPortNamed (instance_at modules m k).connections
  connections_named m k below =
      All-get_or (λ instance. All IsPortNamed instance.connections) (module_at modules m).instances k no_instance below
      (module_has m (module_within modules m k below)).ports

  pub name_named : (m i : ℕ) → i < length (module_at modules m).names → (name_at modules m i).text ≢ []
  name_named m i below =
      All-get_or (λ name. name.text ≢ []) (module_at modules m).names i no_name below
      (module_has m (names_within modules m i below)).names
