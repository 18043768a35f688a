-- Nothing waits, or what waits is the last part.
use Rattle.std.proofs.Common.{◌≡◌, ◌<◌, ◌-◌, length, Err, sym, subst, ap, ap₂, ◌∙◌, arith, eqb-true}
use Rattle.std.specs.Prelude.{⊤}
use Rattle.liberty_groups.specs.Causes.{IsFault}
use Rattle.liberty_groups.specs.Answers.{IfSyntax}
use Rattle.liberty_groups.specs.declared.faults.ParseEnd.{ParseEnd}
use Rattle.token_texts.specs.CutLemmas.{no_bytes}
use Rattle.liberty_groups.specs.Places.{whole}
use Rattle.liberty_groups.proofs.Pieces.{some_left, named, line_ends, read_all, last_read, last_fault}
use Rattle.liberty_groups.proofs.feeder.Feeder.take_last.Goals as goal

pub returns-then-is_empty-clause-ok : goal.returns-then-is_empty-clause-ok
returns-then-is_empty-clause-ok c = λ bytes h.
    let waiting = c.args.self.now.waiting.items in
    let none : length c.as_slice-bytes.result.now ≡ 0 = eqb-true _ 0 (sym c.is_empty.ensures ∙ c.if-is_empty.true) in
    let long : length c.as_slice-bytes.result.now ≡ length waiting = ap length c.as_slice-bytes.ensures.value in
    read_all c.args.self.now.progress c.args.self.now.line waiting (no_bytes waiting (omega (arith, none, long))) h

pub returns-in-Ok-clause-ok : goal.returns-in-Ok-clause-ok
returns-in-Ok-clause-ok c = λ bytes h.
    let waiting = c.args.self.now.waiting.items in
    let raw = c.as_slice-bytes.result.now in
    let long : length raw ≡ length waiting = ap length c.as_slice-bytes.ensures.value in
    let some : 0 < length raw = some_left _ (sym c.is_empty.ensures ∙ c.if-is_empty.false) in
    last_read c.args.self.now.progress c.args.self.now.line waiting c.args.self.now.place (omega (arith, some, long)) c.requires.ready.shown h
    c.take.new.self (c.line_at.result - 1) c.whole.result raw (c.whole.ensures ∙ ap₂ whole long c.ended.ensures) c.as_slice-bytes.ensures.value
    (line_ends raw _ c.line_at.result c.line_at.ensures.value (omega arith)) c.in-Ok.ensures.ok

pub returns-in-Err-Refused-clause-fault : goal.returns-in-Err-Refused-clause-fault
returns-in-Err-Refused-clause-fault c = λ bytes h.
    let waiting = c.args.self.now.waiting.items in
    let raw = c.as_slice-bytes.result.now in
    let long : length raw ≡ length waiting = ap length c.as_slice-bytes.ensures.value in
    let some : 0 < length raw = some_left _ (sym c.is_empty.ensures ∙ c.if-is_empty.false) in
    subst (λ (answer : ParseEnd). IfSyntax {A = ⊤} (Err answer) (IsFault bytes)) (sym c.fault.ensures)
    (named bytes c.in-Err-Refused.token c.args.self.now.line c.in-Err-Refused.cause _ _ (sym c.in-Err-Refused.token-is) (sym c.in-Err-Refused.cause-is)
    (last_fault c.args.self.now.progress c.args.self.now.line waiting c.args.self.now.place (omega (arith, some, long)) c.requires.ready.shown h
    ⊤ c.in-Err-Refused.field-0 _ _ _ c.whole.result raw (c.whole.ensures ∙ ap₂ whole long c.ended.ensures) c.as_slice-bytes.ensures.value
    c.in-Err-Refused.field-0-is c.requires.ready.progress.bound c.in-Err-Refused.ensures.fault))
