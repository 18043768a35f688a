use Rattle.std.proofs.Common.{sym, subst}
use Rattle.name_table.specs.Names.{AreDistinct}
use Rattle.netlist_link.proofs.name_clashes.check_nets.Goals as goal

pub returns-then-has_plain_nets-clause-distinct : goal.returns-then-has_plain_nets-clause-distinct
returns-then-has_plain_nets-clause-distinct c = subst AreDistinct (sym c.requires.names) (c.has_plain_nets.ensures c.if-has_plain_nets.true)
