-- The rise of an arc, and then its fall.
use Rattle.std.proofs.Common.{unsigned_abs}
use Rattle.cell_models.specs.declared.edge.Edge.TheVariants.{Rise, Fall}
use Rattle.command_rows.specs.ArcRows.{edge_of, IsFirstRefused}
use Rattle.command_rows.proofs.ArcLemmas.{adds_then, refused_then, refusal_on}
use Rattle.command_rows.proofs.arc_rows.add_arc.Goals as goal

pub returns-in_err-add_edge-2-clause-refused : goal.returns-in_err-add_edge-2-clause-refused
returns-in_err-add_edge-2-clause-refused g c =
    let pins = c.args.pins.now in
    let slew = unsigned_abs c.args.at.slew.0 in
    let load = c.args.at.load.0 in
    let beyond = c.args.at.beyond in
    let arc = c.args.arc.now in
    refusal_on (Unit {0}) _ c.from_residual-in_err-add_edge-2.result c.in_err-add_edge-2.field-0.0 (IsFirstRefused c.args.corner c.args.cell.now pins slew load beyond (edge_of arc Fall arc.fall)) _ c.from_residual-in_err-add_edge-2.ensures.1 c.in_err-add_edge-2.ensures.refused
    (λ refusal is. refused_then pins slew load beyond c.args.corner c.args.cell.now (edge_of arc Rise arc.rise) (edge_of arc Fall arc.fall) _ _ refusal c.in_ok-add_edge.ensures.ok is)

pub returns-clause-ok : goal.returns-clause-ok
returns-clause-ok g c =
    let arc = c.args.arc.now in
    adds_then c.args.pins.now (unsigned_abs c.args.at.slew.0) c.args.at.load.0 c.args.at.beyond (edge_of arc Rise arc.rise) (edge_of arc Fall arc.fall) _ _ _ c.in_ok-add_edge.ensures.ok c.in_ok-add_edge-2.ensures.ok
