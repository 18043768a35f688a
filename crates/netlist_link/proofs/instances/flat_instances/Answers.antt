use Rattle.std.proofs.Common.{subst, ◌∙◌}
use Rattle.name_table.specs.Names.{AreDistinct}
use Rattle.netlist_link.specs.Clashes.{texts_of_instances}
use Rattle.netlist_link.proofs.Clashing.{named_of, clash_of}
use Rattle.netlist_link.proofs.instances.flat_instances.Goals as goal

pub returns-in-Ok-clause-named : goal.returns-in-Ok-clause-named
returns-in-Ok-clause-named c =
    named_of (texts_of_instances c.args.design.now) c.in_ok-instances.instances.names.texts c.in_ok-instances.ensures.texts
    (subst AreDistinct c.texts.ensures c.in-Ok.ensures.distinct)

pub returns-in-Err-clause-refused : goal.returns-in-Err-clause-refused
returns-in-Err-clause-refused c =
    clash_of (texts_of_instances c.args.design.now) c.texts.result.now (c.texts.ensures ∙ c.in_ok-instances.ensures.texts) c.in-Err.end c.in-Err.ensures.refused
