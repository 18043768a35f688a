-- What the variants of `Pins` hold.
use Rattle.std.specs.Prelude.{List}
use Rattle.rc_tree.specs.Nodes.{Node}
use Rattle.rc_tree.specs.declared.pin_table.Pins.{Pins}
use Rattle.rc_tree.specs.declared.pin_table.Pins.TheVariants.{Few, Many}

abbrev pub nodes_in : Pins → List Node
nodes_in (Few pins) = pins
nodes_in (Many table) = table
