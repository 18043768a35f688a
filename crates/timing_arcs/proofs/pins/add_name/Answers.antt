use Rattle.timing_arcs.proofs.PinLemmas.{kept_entry, new_on_ok, even_on_ok}
use Rattle.timing_arcs.proofs.pins.add_name.Goals as goal

pub returns-in-Some-clause-entries : goal.returns-in-Some-clause-entries
returns-in-Some-clause-entries c = λ tree. kept_entry tree c.args.names.now c.args.groups.now.items c.args.name.now c.args.group c.in-Some.field-0.0 c.requires.even c.in-Some.ensures.found

pub returns-in-None-clause-entries : goal.returns-in-None-clause-entries
returns-in-None-clause-entries c = λ tree.
    new_on_ok c.add_new.result tree c.args.names.now c.add_new.new.names c.args.groups.now.items c.add_new.new.groups.items c.args.name.now c.args.group c.requires.even c.in-None.ensures.absent c.add_new.ensures.names c.add_new.ensures.groups

pub returns-in-None-clause-even : goal.returns-in-None-clause-even
returns-in-None-clause-even c =
    even_on_ok c.add_new.result c.args.names.now c.add_new.new.names c.args.groups.now.items c.add_new.new.groups.items c.args.name.now c.args.group c.requires.even c.add_new.ensures.names c.add_new.ensures.groups
