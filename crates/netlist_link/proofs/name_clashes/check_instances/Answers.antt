-- The instances of a design of one module have the names that they have in the module.
use Rattle.std.proofs.Common.{sym, subst}
use Rattle.name_table.specs.Names.{AreDistinct}
use Rattle.netlist_link.specs.PathTables.{top_of}
use Rattle.netlist_link.proofs.OneModule.{instances_differ}
use Rattle.netlist_link.proofs.name_clashes.check_instances.Goals as goal

pub returns-then-is_one_module-clause-distinct : goal.returns-then-is_one_module-clause-distinct
returns-then-is_one_module-clause-distinct c =
    let d = c.args.design.now in
    subst AreDistinct (sym c.requires.names) (instances_differ d.modules.now (top_of d.walk.now) (c.is_one_module.ensures c.if-is_one_module.true)
    (c.sound.ensures.instances (top_of d.walk.now) c.requires.top))
