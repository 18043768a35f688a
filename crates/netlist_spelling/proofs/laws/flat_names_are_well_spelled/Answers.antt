-- The law is that of the definitions.
use Rattle.netlist_spelling.proofs.SpelledPaths.{netlist_spelled, design_nets_spelled}
use Rattle.netlist_spelling.proofs.SpelledPins.{pins_named}
use Rattle.netlist_spelling.proofs.laws.flat_names_are_well_spelled.Goals as goal

pub returns-clause-netlist : goal.returns-clause-netlist
returns-clause-netlist c = netlist_spelled

pub returns-clause-nets : goal.returns-clause-nets
returns-clause-nets c = design_nets_spelled

pub returns-clause-pins : goal.returns-clause-pins
returns-clause-pins c = pins_named
