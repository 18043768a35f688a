-- The edge that the arc has gives its row, or is the first that is refused.
use Rattle.std.proofs.Common.{unsigned_abs}
use Rattle.command_rows.proofs.ArcLemmas.{adds_one, refused_one}
use Rattle.command_rows.proofs.arc_rows.add_edge.Goals as goal

pub returns-in_ok-push-in-Ok-clause-ok : goal.returns-in_ok-push-in-Ok-clause-ok
returns-in_ok-push-in-Ok-clause-ok g c =
    rw c.in-Some.is
    (adds_one c.args.pins.now (unsigned_abs c.args.at.slew.0) c.args.at.load.0 c.args.at.beyond c.args.arc.now c.args.edge c.in-Some.tables c.in-Ok.looked c.args.rows.now c.push.new.self c.in_ok-row-in-Ok.row
    c.in-Ok.ensures.ok c.in_ok-row-in-Ok.ensures c.in_ok-push-in-Ok.ensures)

pub returns-in_ok-refusal-in-Err-clause-refused : goal.returns-in_ok-refusal-in-Err-clause-refused
returns-in_ok-refusal-in-Err-clause-refused g c =
    rw c.in-Some.is
    (refused_one c.args.pins.now (unsigned_abs c.args.at.slew.0) c.args.at.load.0 c.args.at.beyond c.args.corner c.args.cell.now c.args.arc.now c.args.edge c.in-Some.tables c.in-Err.end.part c.in-Err.end.end c.in_ok-refusal-in-Err.refusal
    c.in-Err.ensures.end c.in_ok-refusal-in-Err.ensures)
