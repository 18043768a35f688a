-- What is made is what is asked for.
use Rattle.std.proofs.Common.{◌∙◌}
use Rattle.gdc_run.proofs.MadeFiles.{trial_follows, trial_work, trial_reads}
use Rattle.gdc_run.proofs.trial.trial_rows.Goals as goal

pub returns-clause-follows : goal.returns-clause-follows
returns-clause-follows g c =
    trial_follows c.args.shape c.args.size c.new-shelf.result.files.now c.in_ok-names.names c.in_ok-settings.settings (c.new-shelf.ensures ∙ c.in_ok-files.ensures)
    c.in_ok-names.ensures c.in_ok-settings.ensures c.design_rows.result c.design_rows.ensures.follows

pub returns-clause-fault : goal.returns-clause-fault
returns-clause-fault g c =
    trial_reads c.args.shape c.args.size c.new-shelf.result.files.now c.in_ok-names.names c.in_ok-settings.settings (c.new-shelf.ensures ∙ c.in_ok-files.ensures)
    c.in_ok-names.ensures c.in_ok-settings.ensures _ _ c.design_rows.result c.design_rows.ensures.fault

pub returns-clause-steps : goal.returns-clause-steps
returns-clause-steps g c =
    trial_work c.args.shape c.args.size c.new-shelf.result.files.now c.in_ok-names.names c.in_ok-settings.settings (c.new-shelf.ensures ∙ c.in_ok-files.ensures)
    c.in_ok-names.ensures c.in_ok-settings.ensures _ _ c.design_rows.ensures.steps
