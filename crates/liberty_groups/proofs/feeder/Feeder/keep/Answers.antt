-- A byte that begins no token.
use Rattle.std.proofs.Common.{Err, sym, subst}
use Rattle.std.specs.Prelude.{⊤}
use Rattle.liberty_groups.specs.Answers.{IfSyntax}
use Rattle.liberty_groups.specs.Feeding.{IsFaultOfAny}
use Rattle.liberty_groups.specs.declared.faults.ParseEnd.{ParseEnd}
use Rattle.liberty_groups.proofs.Pieces.{bad_bytes}
use Rattle.liberty_groups.proofs.feeder.Feeder.keep.Goals as goal

pub returns-in-Bad-clause-fault : goal.returns-in-Bad-clause-fault
returns-in-Bad-clause-fault c = λ all h.
    subst (λ (answer : ParseEnd). IfSyntax {A = ⊤} (Err answer) (IsFaultOfAny all)) (sym c.fault.ensures)
    (bad_bytes c.args.bytes.now c.scan_bytes.result c.args.self.now.progress c.args.self.now.line c.scan_bytes.ensures.shown c.scan_bytes.ensures.some
    c.in-Bad.is c.requires.goes_on.bound h)
