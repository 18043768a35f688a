-- The times of the rise stay where those of the fall are put behind them.
use Rattle.sdf_writer.proofs.Keeping.{times_then, edge_later}
use Rattle.sdf_writer.proofs.paths.keep_edges.Goals as goal

pub returns-in_err-fall-clause-times : goal.returns-in_err-fall-clause-times
returns-in_err-fall-clause-times g c = times_then c.keep_edge.ensures.times c.keep_edge-2.ensures.times

pub returns-clause-times : goal.returns-clause-times
returns-clause-times g c = times_then c.keep_edge.ensures.times c.keep_edge-2.ensures.times

pub returns-clause-rise : goal.returns-clause-rise
returns-clause-rise g c = edge_later c.keep_edge-2.ensures.times c.in_ok-rise.ensures.kept
