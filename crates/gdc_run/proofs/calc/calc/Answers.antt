-- The rows of one corner or of three are what is to be written, by the libraries that are asked for.
use Rattle.sdf_writer.specs.SdfText.{SdfRows}
use Rattle.gdc_words.specs.CommandLine.{libraries_of}
use Rattle.gdc_words.specs.declared.commands.Libraries.TheVariants.{One, EachCorner}
use Rattle.wire_phases.specs.SpefPhases.{sole_corner}
use Rattle.design_phases.proofs.LibraryLemmas.{halted}
use Rattle.gdc_run.specs.Calculation.{each_corner, files_from, CalcGives}
use Rattle.gdc_run.specs.Verdict.{CalcOutput}
use Rattle.gdc_run.specs.declared.output.Output.{Output}
use Rattle.gdc_run.proofs.CalcOutputs.{corners_are, one_rows, one_halts, one_work, each_rows, each_halts, each_work}
use Rattle.gdc_run.proofs.calc.calc.Goals as goal

pub calc_rows-requires-clause-corners : goal.calc_rows-requires-clause-corners
calc_rows-requires-clause-corners g c = corners_are (g.H.Shelf.held c.args.shelf.now) c.args.asked.now c.libraries.result One c.in-One.is c.libraries.ensures

pub calc_rows-requires-in-EachCorner-clause-corners : goal.calc_rows-requires-in-EachCorner-clause-corners
calc_rows-requires-in-EachCorner-clause-corners g c = corners_are (g.H.Shelf.held c.args.shelf.now) c.args.asked.now c.libraries.result EachCorner c.in-EachCorner.is c.libraries.ensures

pub returns-in_err-rows-in-One-clause-follows : goal.returns-in_err-rows-in-One-clause-follows
returns-in_err-rows-in-One-clause-follows g c =
    let held = g.H.Shelf.held c.args.shelf.now in
    let asked = c.args.asked.now in
    halted SdfRows Output c.from_residual.result c.in_err-rows-in-One.field-0.0
    (CalcGives sole_corner held (files_from asked) asked) (CalcOutput held asked (libraries_of asked.given)) c.from_residual.ensures.1 c.in_err-rows-in-One.ensures.follows
    (λ why stop. one_halts held asked c.libraries.result c.libraries.ensures why c.in-One.is stop)

pub returns-in_err-rows-in-One-clause-steps : goal.returns-in_err-rows-in-One-clause-steps
returns-in_err-rows-in-One-clause-steps g c =
    one_work (g.H.Shelf.held c.args.shelf.now) c.args.asked.now c.libraries.result c.libraries.ensures _ _ c.in-One.is c.calc_rows.ensures.steps

pub returns-in_ok-rows-in-One-clause-follows : goal.returns-in_ok-rows-in-One-clause-follows
returns-in_ok-rows-in-One-clause-follows g c =
    one_rows (g.H.Shelf.held c.args.shelf.now) c.args.asked.now c.libraries.result c.libraries.ensures c.in_ok-rows-in-One.rows c.in-One.is c.in_ok-rows-in-One.ensures.follows

pub returns-in_ok-rows-in-One-clause-steps : goal.returns-in_ok-rows-in-One-clause-steps
returns-in_ok-rows-in-One-clause-steps g c =
    one_work (g.H.Shelf.held c.args.shelf.now) c.args.asked.now c.libraries.result c.libraries.ensures _ _ c.in-One.is c.calc_rows.ensures.steps

pub returns-in_err-rows-in-EachCorner-clause-follows : goal.returns-in_err-rows-in-EachCorner-clause-follows
returns-in_err-rows-in-EachCorner-clause-follows g c =
    let held = g.H.Shelf.held c.args.shelf.now in
    let asked = c.args.asked.now in
    halted SdfRows Output c.from_residual-in_err-rows-in-EachCorner.result c.in_err-rows-in-EachCorner.field-0.0
    (CalcGives each_corner held (files_from asked) asked) (CalcOutput held asked (libraries_of asked.given)) c.from_residual-in_err-rows-in-EachCorner.ensures.1 c.in_err-rows-in-EachCorner.ensures.follows
    (λ why stop. each_halts held asked c.libraries.result c.libraries.ensures why c.in-EachCorner.is stop)

pub returns-in_err-rows-in-EachCorner-clause-steps : goal.returns-in_err-rows-in-EachCorner-clause-steps
returns-in_err-rows-in-EachCorner-clause-steps g c =
    each_work (g.H.Shelf.held c.args.shelf.now) c.args.asked.now c.libraries.result c.libraries.ensures _ _ c.in-EachCorner.is c.calc_rows-in-EachCorner.ensures.steps

pub returns-in_ok-rows-in-EachCorner-clause-follows : goal.returns-in_ok-rows-in-EachCorner-clause-follows
returns-in_ok-rows-in-EachCorner-clause-follows g c =
    each_rows (g.H.Shelf.held c.args.shelf.now) c.args.asked.now c.libraries.result c.libraries.ensures c.in_ok-rows-in-EachCorner.rows c.in-EachCorner.is c.in_ok-rows-in-EachCorner.ensures.follows

pub returns-in_ok-rows-in-EachCorner-clause-steps : goal.returns-in_ok-rows-in-EachCorner-clause-steps
returns-in_ok-rows-in-EachCorner-clause-steps g c =
    each_work (g.H.Shelf.held c.args.shelf.now) c.args.asked.now c.libraries.result c.libraries.ensures _ _ c.in-EachCorner.is c.calc_rows-in-EachCorner.ensures.steps
