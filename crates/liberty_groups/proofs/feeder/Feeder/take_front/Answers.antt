-- The front of what waits, and then the others.
use Rattle.std.proofs.Common.{ℕ, List, ◌++◌, sym, subst}
use Rattle.liberty_groups.specs.Feeding.{Begins, HasReadTo}
use Rattle.liberty_groups.proofs.Pieces.{rejoined}
use Rattle.liberty_groups.proofs.feeder.Feeder.take_front.Goals as goal

pub returns-in-Ok-take_waiting-clause-ok : goal.returns-in-Ok-take_waiting-clause-ok
returns-in-Ok-take_waiting-clause-ok c = λ all rest begins h.
    let waiting = c.args.self.now.waiting.items in
    let left = c.in-Ok.left.items in
    let e = rejoined c.size_of.result waiting c.split_off.new.self.items left rest c.in-Ok.ensures.items c.in-Ok.ensures.tail in
    c.in-Ok-take_waiting.ensures.ok all (left ++ rest) (subst (λ (l : List ℕ). Begins l c.args.cut) (sym e) begins)
    (subst (λ (l : List ℕ). HasReadTo all l c.args.self.now.progress c.args.self.now.line) (sym e) h)

pub returns-in-Err-take_waiting-clause-fault : goal.returns-in-Err-take_waiting-clause-fault
returns-in-Err-take_waiting-clause-fault c = λ all rest begins h.
    let waiting = c.args.self.now.waiting.items in
    let left = c.in-Ok.left.items in
    let e = rejoined c.size_of.result waiting c.split_off.new.self.items left rest c.in-Ok.ensures.items c.in-Ok.ensures.tail in
    c.in-Err-take_waiting.ensures.fault all (left ++ rest) (subst (λ (l : List ℕ). Begins l c.args.cut) (sym e) begins)
    (subst (λ (l : List ℕ). HasReadTo all l c.args.self.now.progress c.args.self.now.line) (sym e) h)
