use Rattle.std.proofs.Common.{◌+◌, ◌*◌, ◌≤◌, [], length, take, unsigned_abs}
use Rattle.command_rows.specs.ArcRows.{arc_edges, AddsEdges}
use Rattle.command_rows.proofs.arc_rows.arc_rows.Given as goal

abbrev pub invariant-loop-arc : goal.invariant-loop-arc
invariant-loop-arc g l = record {
  adds : AddsEdges l.pins (unsigned_abs l.at.slew.0) l.at.load.0 l.at.beyond (arc_edges (take l.arc-index l.arc-items)) [] l.rows;
  forward : l.fn.steps ≤ l.steps;
  bound : l.steps ≤ l.fn.steps + 64 * length (arc_edges (take l.arc-index l.arc-items));
}
