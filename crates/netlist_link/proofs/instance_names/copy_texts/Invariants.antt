use Rattle.std.proofs.Common.{◌≡◌, take}
use Rattle.netlist_link.proofs.instance_names.copy_texts.Given as goal

abbrev pub invariant-loop-i : goal.invariant-loop-i
invariant-loop-i l = l.copies ≡ take l.i l.texts
