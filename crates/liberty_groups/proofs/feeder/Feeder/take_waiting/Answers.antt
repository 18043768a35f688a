-- The part that waited, or where it is refused.
use Rattle.std.proofs.Common.{◌-◌, ◌++◌, Err, sym, ◌∙◌, subst, arith}
use Rattle.std.specs.Prelude.{⊤}
use Rattle.liberty_groups.specs.Answers.{IfSyntax}
use Rattle.liberty_groups.specs.Feeding.{IsFaultOfAny}
use Rattle.liberty_groups.specs.declared.faults.ParseEnd.{ParseEnd}
use Rattle.liberty_groups.proofs.Pieces.{fault_named, line_ends, part_fault, waiting_read, all_front, all_within}
use Rattle.liberty_groups.proofs.feeder.Feeder.take_waiting.Goals as goal

pub returns-in-Ok-clause-ok : goal.returns-in-Ok-clause-ok
returns-in-Ok-clause-ok c = λ all rest begins h.
    let raw = c.as_slice-bytes.result.now in
    waiting_read c.args.self.now.waiting.items rest c.args.cut c.requires.size c.args.self.now.progress c.take.new.self raw c.args.self.now.line (c.line_at.result - 1) c.as_slice-bytes.ensures.value h begins
    c.in-Ok.ensures.start (line_ends raw _ c.line_at.result c.line_at.ensures.value (omega arith)) c.in-Ok.ensures.ok

pub returns-in-Err-Refused-clause-fault : goal.returns-in-Err-Refused-clause-fault
returns-in-Err-Refused-clause-fault c = λ all rest begins h.
    let waiting = c.args.self.now.waiting.items in
    subst (λ (answer : ParseEnd). IfSyntax {A = ⊤} (Err answer) (IsFaultOfAny all)) (sym c.fault.ensures)
    (fault_named all c.in-Err-Refused.token c.args.self.now.line c.in-Err-Refused.cause _ _ (sym c.in-Err-Refused.token-is) (sym c.in-Err-Refused.cause-is)
    (part_fault ⊤ c.args.self.now.progress (waiting ++ rest) c.as_slice-bytes.result.now c.in-Err-Refused.field-0 _ _ c.args.self.now.line _ c.args.cut c.in-Err-Refused.field-0-is
    c.requires.goes_on.bound h begins (all_within waiting rest c.args.cut c.requires.size)
    (c.as_slice-bytes.ensures.value ∙ all_front waiting rest c.args.cut c.requires.size) c.in-Err-Refused.ensures.fault))
