use Rattle.netlist_link.specs.PathTables.{top_of, HoldsPaths}
use Rattle.netlist_link.proofs.flat_names.paths_of_walk.Given as goal

abbrev pub invariant-loop-v : goal.invariant-loop-v
invariant-loop-v l = HoldsPaths l.modules (top_of l.walk) l.v l.paths.texts l.paths.spellings
