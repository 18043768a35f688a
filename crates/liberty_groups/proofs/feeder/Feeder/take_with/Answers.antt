-- All of what waits, with the bytes.
use Rattle.std.proofs.Common.{List, ℕ, ◌++◌, sym, subst}
use Rattle.liberty_groups.specs.Feeding.{Begins, HasReadTo}
use Rattle.liberty_groups.proofs.feeder.Feeder.take_with.Goals as goal

pub returns-in-Ok-take_waiting-clause-ok : goal.returns-in-Ok-take_waiting-clause-ok
returns-in-Ok-take_waiting-clause-ok c = λ all rest begins h.
    c.in-Ok-take_waiting.ensures.ok all rest (subst (λ (l : List ℕ). Begins (l ++ rest) c.args.cut) (sym c.in-Ok.ensures.items) begins)
    (subst (λ (l : List ℕ). HasReadTo all (l ++ rest) c.args.self.now.progress c.args.self.now.line) (sym c.in-Ok.ensures.items) h)

pub returns-in-Err-take_waiting-clause-fault : goal.returns-in-Err-take_waiting-clause-fault
returns-in-Err-take_waiting-clause-fault c = λ all rest begins h.
    c.in-Err-take_waiting.ensures.fault all rest (subst (λ (l : List ℕ). Begins (l ++ rest) c.args.cut) (sym c.in-Ok.ensures.items) begins)
    (subst (λ (l : List ℕ). HasReadTo all (l ++ rest) c.args.self.now.progress c.args.self.now.line) (sym c.in-Ok.ensures.items) h)
