use Rattle.gdc_run.proofs.Completing.{complete_of, no_fault_without_file, usage_of}
use Rattle.gdc_run.proofs.ReadBack.{done_readable, done_text}
use Rattle.gdc_run.proofs.Saying.{says_of}
use Rattle.gdc_run.proofs.Work.{before_trees}
use Rattle.gdc_run.proofs.top.run.Goals as goal

pub returns-clause-done : goal.returns-clause-done
returns-clause-done g c = done_readable _ _ _ _ _ c.always_readable.ensures.law c.answer-outcome.ensures.done

pub returns-clause-complete : goal.returns-clause-complete
returns-clause-complete g c =
    let a = c.answer-outcome.ensures in
    complete_of _ _ _ _ _ _ _ _ _ _ _ (done_text _ _ _ _ _ a.done) a.refused a.usage a.read_fault a.write_fault

pub returns-clause-usage_first : goal.returns-clause-usage_first
returns-clause-usage_first g c =
    let a = c.answer-outcome.ensures in
    usage_of _ _ _ _ _ _ _ _ _ _ _ (done_text _ _ _ _ _ a.done) a.refused a.usage a.read_fault a.write_fault

pub returns-clause-said : goal.returns-clause-said
returns-clause-said g c = says_of _ _ _ _ _ _ _ _ c.answer-outcome.ensures.corners c.say.ensures.writes

pub returns-clause-no_read_fault : goal.returns-clause-no_read_fault
returns-clause-no_read_fault g c = no_fault_without_file _ _ _ _ _ _ _ c.answer-outcome.ensures.read_fault

pub returns-clause-no_steps : goal.returns-clause-no_steps
returns-clause-no_steps g c = before_trees c.args.words.now c.answer-outcome.result c.args.steps.now c.answer-outcome.new.steps c.answer-outcome.ensures.no_steps
