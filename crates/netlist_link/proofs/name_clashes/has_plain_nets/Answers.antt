-- The nets of a design of one module without ranges have the names of the module.
use Rattle.std.proofs.Common.{◌≡◌, ℕ, ◌<◌, length, None, subst}
use Rattle.verilog_netlist.specs.NetModules.{module_at, name_at}
use Rattle.netlist_link.specs.PathTables.{top_of}
use Rattle.netlist_link.proofs.OneModule.{nets_differ}
use Rattle.netlist_link.proofs.name_clashes.has_plain_nets.Goals as goal

pub returns-then-is_one_module : goal.returns-then-is_one_module
returns-then-is_one_module c = λ is.
    let d = c.args.design.now in
    let modules = d.modules.now in
    let top = top_of d.walk.now in
    let scalar : (i : ℕ) → i < length (module_at modules top).names → (name_at modules top i).range ≡ None =
    subst (λ (m : ℕ). (i : ℕ) → i < length (module_at modules m).names → (name_at modules m i).range ≡ None) c.top_module.ensures (c.has_no_range.ensures is) in
    nets_differ modules top (c.is_one_module.ensures c.if-is_one_module.true) scalar (c.sound.ensures.names top c.requires.top)
