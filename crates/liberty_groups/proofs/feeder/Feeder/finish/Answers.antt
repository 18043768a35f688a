-- What all parts say, or that they end inside.
use Rattle.std.proofs.Common.{Err, refl, sym, subst}
use Rattle.std.specs.Prelude.{⊤}
use Rattle.liberty_groups.specs.Causes.{IsFault}
use Rattle.liberty_groups.specs.Answers.{SaysTree, IfSyntax}
use Rattle.liberty_groups.specs.Tables.{tree_of}
use Rattle.liberty_groups.specs.declared.faults.ParseEnd.{ParseEnd}
use Rattle.token_texts.specs.Readings.{Finishes}
use Rattle.liberty_groups.specs.Leading.{Makes, Stops}
use Rattle.liberty_groups.proofs.Pieces.{named, says_all, ends_fault}
use Rattle.liberty_groups.proofs.feeder.Feeder.finish.Goals as goal

pub returns-in-Ok-Ok-clause-ok : goal.returns-in-Ok-Ok-clause-ok
returns-in-Ok-Ok-clause-ok c = λ bytes h.
    subst (λ tree. SaysTree bytes (tree_of tree)) (sym c.in-Ok-Ok.tree-is)
    (says_all h c.in-Ok-Ok.tree (subst (λ answer. Finishes Makes Stops h.before answer) c.in-Ok-Ok.field-0-is (c.in-Ok-Ok.ensures.state h.before h.leads.leads)))

pub returns-in-Ok-Err-clause-fault : goal.returns-in-Ok-Err-clause-fault
returns-in-Ok-Err-clause-fault c = λ bytes h.
    subst (λ (answer : ParseEnd). IfSyntax {A = ⊤} (Err answer) (IsFault bytes)) (sym c.fault.ensures)
    (named bytes c.args.self.progress.number c.args.self.line c.in-Ok-Err.cause _ _ refl (sym c.in-Ok-Err.cause-is)
    (ends_fault h c.in-Ok-Err.cause (subst (λ answer. Finishes Makes Stops h.before answer) c.in-Ok-Err.field-0-is (c.in-Ok-Err.ensures.state h.before h.leads.leads))))
