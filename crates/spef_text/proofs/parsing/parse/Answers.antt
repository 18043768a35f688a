-- The answers, from what the loop over the tokens answers.
use Rattle.spef_text.proofs.Answering.{lens_there, reads_there, only_there, kept_there, dead_there, form_there, nothing_there, if_dead}
use Rattle.spef_text.proofs.parsing.parse.Goals as goal

pub invariant_of-result : goal.invariant_of-result
invariant_of-result c = (kept_there c.in-Ok.ensures.ok c.requires, c.requires, lens_there c.in-Ok.ensures.ok)

pub returns-in-Ok-clause-ok : goal.returns-in-Ok-clause-ok
returns-in-Ok-clause-ok c = reads_there c.in-Ok.ensures.ok

pub returns-in-Ok-clause-only : goal.returns-in-Ok-clause-only
returns-in-Ok-clause-only c reading says = only_there c.in-Ok.ensures.ok reading says

pub returns-in-Err-Refused-clause-dead : goal.returns-in-Err-Refused-clause-dead
returns-in-Err-Refused-clause-dead c = dead_there (if_dead c.in-Err-Refused.field-0 c.in-Err-Refused.field-0-is c.in-Err-Refused.ensures.fault)

pub returns-in-Err-Refused-clause-form : goal.returns-in-Err-Refused-clause-form
returns-in-Err-Refused-clause-form c = form_there (if_dead c.in-Err-Refused.field-0 c.in-Err-Refused.field-0-is c.in-Err-Refused.ensures.fault)

pub returns-in-Err-Refused-clause-only : goal.returns-in-Err-Refused-clause-only
returns-in-Err-Refused-clause-only c reading says =
    absurd (nothing_there (if_dead c.in-Err-Refused.field-0 c.in-Err-Refused.field-0-is c.in-Err-Refused.ensures.fault) reading says)
