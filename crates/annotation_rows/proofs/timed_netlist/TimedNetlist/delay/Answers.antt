use Rattle.std.proofs.Common.{sym, ◌∙◌}
use Rattle.annotation_rows.proofs.ArcDelays.{no_edge}
use Rattle.annotation_rows.proofs.timed_netlist.TimedNetlist.delay.Goals as goal

-- src/timed_netlist.rt
pub returns-then-not-has_edge-clause-delay : goal.returns-then-not-has_edge-clause-delay
returns-then-not-has_edge-clause-delay g c =
    sym (no_edge c.args.self.now c.args.at.instance c.args.at.arc c.args.edge c.args.number g.C.CornerSet.COUNT c.cell_of.result.now
    c.cell_of.ensures.cell c.cell_of.ensures.whole (sym c.has_edge.ensures ∙ c.if-not-has_edge.true))
