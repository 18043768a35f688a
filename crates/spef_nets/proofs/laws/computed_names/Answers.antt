-- A word names the node that is computed.
use Rattle.spef_nets.proofs.Naming.{named_exactly, unknown_exactly, same_exactly}
use Rattle.spef_nets.proofs.laws.computed_names.Goals as goal

pub returns : goal.returns
returns c = record { node = named_exactly; none = unknown_exactly; same = same_exactly }
