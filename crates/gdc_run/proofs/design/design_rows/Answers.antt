-- The rows that are annotated may be written.
use Rattle.std.proofs.Common.{sym, subst}
use Rattle.name_table.specs.WellSpelled.{IsWellSpelled}
use Rattle.sdf_read_back.specs.ReadBack.{AreFit}
use Rattle.sdf_writer.specs.SdfText.{SdfRows}
use Rattle.spef_nets.specs.Drafts.{corners_of}
use Rattle.gdc_run.proofs.CalcRows.{calc_fit}
use Rattle.gdc_run.proofs.design.design_rows.Goals as goal

pub returns-clause-fit : goal.returns-clause-fit
returns-clause-fit g c =
    let corners = corners_of g.C.CornerSet.COUNT g.C.CornerSet.number_of g.C.CornerSet.member_of c.args.settings.now.pick in
    subst (λ (rows : SdfRows). AreFit IsWellSpelled g.C.CornerSet.COUNT rows) (sym c.into_rows.ensures.rows)
    (calc_fit corners (g.H.Shelf.held c.args.shelf.now) c.args.files.now c.args.settings.now c.in_ok-annotated.annotated g.met.C.CornerSet.one_or_three
    c.in_ok-annotated.ensures.follows c.into_rows.ensures.agrees)
