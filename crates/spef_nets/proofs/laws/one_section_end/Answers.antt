-- A file has one first fault.
use Rattle.spef_nets.proofs.FaultOrder.{no_end, one_end}
use Rattle.spef_nets.proofs.laws.one_section_end.Goals as goal

pub returns : goal.returns
returns c = record { none = no_end; one = one_end }
