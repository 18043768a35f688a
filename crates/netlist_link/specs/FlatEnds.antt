-- An end as it is kept.
use Rattle.netlist_link.specs.declared.ends.End.{End}
use Rattle.netlist_link.specs.declared.ends.End.TheVariants as end
use Rattle.netlist_link.specs.declared.grouping.KeptEnd.{KeptEnd}
use Rattle.netlist_link.specs.declared.grouping.KeptEnd.TheVariants.{Port, Pin}

abbrev pub end_of : KeptEnd → End
end_of (Port port) = end.Port port
end_of (Pin instance pin) = end.Pin instance pin
