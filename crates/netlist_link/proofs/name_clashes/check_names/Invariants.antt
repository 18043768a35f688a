use Rattle.std.proofs.Common.{take}
use Rattle.netlist_link.specs.Clashes.{AreNamed, texts_in}
use Rattle.netlist_link.proofs.name_clashes.check_names.Given as goal

abbrev pub invariant-loop-i : goal.invariant-loop-i
invariant-loop-i l = AreNamed (take l.i l.names) (texts_in l.seen.keys)
