-- Bytes that are passed over, or a token.
use Rattle.std.proofs.Common.{Option, refl, subst}
use Rattle.token_texts.specs.Readings.{Follows}
use Rattle.liberty_groups.specs.Leading.{Leads, Stops}
use Rattle.liberty_groups.specs.declared.faults.Cause.{Cause}
use Rattle.liberty_groups.proofs.Feeding.{passed_over, leads_behind, can_pass, past}
use Rattle.liberty_groups.proofs.progress.Progress.take.Goals as goal

pub returns-in-Skip-clause-ok : goal.returns-in-Skip-clause-ok
returns-in-Skip-clause-ok c = λ before leads.
    passed_over before c.args.bytes.now c.args.cut c.in-Skip.field-0 c.in-Skip.is
    (past c.args.self.now _ c.args.bytes.now before leads refl refl (c.pass.ensures.state before leads.leads))

pub returns-in-Ok-None-clause-ok : goal.returns-in-Ok-None-clause-ok
returns-in-Ok-None-clause-ok c = λ before leads.
    leads_behind c.args.self.now _ c.args.bytes.now before c.args.cut c.in-Take.field-0 c.in-Take.kind c.in-Take.is leads refl refl
    (subst (λ (o : Option Cause). Follows Leads Stops before c.args.self.now.number c.in-Take.kind c.args.bytes.now c.take.new.self o) c.in-Ok-None.field-0-is
    (c.in-Ok-None.ensures.state before leads.next leads.leads))

pub returns-in-Skip-clause-goes_on : goal.returns-in-Skip-clause-goes_on
returns-in-Skip-clause-goes_on c = can_pass c.args.self.now _ c.args.bytes.now c.requires.some c.requires.goes_on refl refl c.pass.ensures.sound
