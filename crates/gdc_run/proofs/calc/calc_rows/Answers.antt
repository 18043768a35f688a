-- What is made of the files that are asked for, by the settings that are asked for, is what is asked for.
use Rattle.std.proofs.Common.{◌∙◌, length, sym, ap}
use Rattle.spef_nets.specs.Drafts.{corners_of}
use Rattle.gdc_words.specs.CommandLine.{libraries_of}
use Rattle.delay_core.specs.declared.settings.Files.{Files}
use Rattle.gdc_run.specs.Calculation.{files_from}
use Rattle.gdc_run.proofs.CalcFiles.{names_long, calc_follows, calc_fault, calc_work}
use Rattle.gdc_run.proofs.calc.calc_rows.Goals as goal

pub design_rows-requires-clause-libraries : goal.design_rows-requires-clause-libraries
design_rows-requires-clause-libraries g c =
    ap (λ (f : Files). length f.libraries) c.in_ok-files.ensures ∙ names_long c.args.asked.now (libraries_of c.args.asked.now.given) ∙ sym c.requires.corners

pub returns-clause-follows : goal.returns-clause-follows
returns-clause-follows g c =
    calc_follows (corners_of g.C.CornerSet.COUNT g.C.CornerSet.number_of g.C.CornerSet.member_of) (g.H.Shelf.held c.args.shelf.now) (files_from c.args.asked.now) c.args.asked.now
    c.in_ok-files.files c.in_ok-settings.settings c.design_rows.result c.in_ok-files.ensures c.in_ok-settings.ensures.settings c.design_rows.ensures.follows

pub returns-clause-fault : goal.returns-clause-fault
returns-clause-fault g c =
    calc_fault c.args.asked.now (g.H.Shelf.held c.args.shelf.now) g.C.CornerSet.COUNT c.in_ok-files.files _ _ _ _ c.design_rows.result c.requires.command c.requires.corners
    c.in_ok-files.ensures c.design_rows.ensures.fault

pub returns-clause-steps : goal.returns-clause-steps
returns-clause-steps g c =
    calc_work (corners_of g.C.CornerSet.COUNT g.C.CornerSet.number_of g.C.CornerSet.member_of) (g.H.Shelf.held c.args.shelf.now) (files_from c.args.asked.now) c.args.asked.now
    c.in_ok-files.files c.in_ok-settings.settings _ _ c.in_ok-files.ensures c.in_ok-settings.ensures.settings c.design_rows.ensures.steps
