-- What has been read of the piece, and its lines.
use Rattle.std.proofs.Common.{◌-◌, length, Err, sym, subst, arith}
use Rattle.std.specs.Prelude.{⊤}
use Rattle.liberty_groups.specs.Answers.{IfSyntax}
use Rattle.liberty_groups.specs.Feeding.{IsFaultOfAny}
use Rattle.liberty_groups.specs.declared.faults.ParseEnd.{ParseEnd}
use Rattle.liberty_groups.proofs.Pieces.{past_line, read_fault}
use Rattle.liberty_groups.proofs.feeder.Feeder.read.Goals as goal

pub overflow_sub-piece : goal.overflow_sub-piece
overflow_sub-piece c = c.in-Ok.ensures.shorter

pub returns-in-Ok-clause-lines : goal.returns-in-Ok-clause-lines
returns-in-Ok-clause-lines c =
    let lines = c.requires.lines in
    let within = c.line_at.ensures.within in
    let shorter = c.in-Ok.ensures.shorter in
    let size = c.in-Ok.ensures.size in
    omega (arith, lines, within, shorter, size)

pub returns-in-Ok-clause-ok : goal.returns-in-Ok-clause-ok
returns-in-Ok-clause-ok c = λ all h.
    let piece = c.args.piece.now in
    let p = c.args.self.now.progress in
    let shorter = c.in-Ok.ensures.shorter in
    let size = c.in-Ok.ensures.size in
    record {
      read = c.in-Ok.ensures.ok all h.read;
      counted = past_line all piece p.start c.args.self.now.line (length piece - length c.in-Ok.left.now) c.read.new.self.start c.line_at.result h.read.there h.counted (omega (arith, shorter, size)) c.line_at.ensures.value;
    }

pub returns-in-Err-Refused-clause-fault : goal.returns-in-Err-Refused-clause-fault
returns-in-Err-Refused-clause-fault c = λ all h.
    subst (λ (answer : ParseEnd). IfSyntax {A = ⊤} (Err answer) (IsFaultOfAny all)) (sym c.fault.ensures)
    (read_fault ⊤ ⊤ c.args.self.now.progress c.args.piece.now c.in-Err-Refused.field-0 _ _ c.args.self.now.line c.line_at-in-Err-Refused.result _ c.in-Err-Refused.field-0-is h
    (c.in-Err-Refused.ensures.fault all h.read) c.in-Err-Refused.ensures.within c.line_at-in-Err-Refused.ensures.value)
