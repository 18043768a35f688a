-- The bytes that waited, those that are certain, and those that wait now.
use Rattle.std.proofs.Common.{◌≡◌, ℕ, List, ◌++◌, length, append-nil, sym, ap, ◌∙◌, subst, arith, eqb-true}
use Rattle.token_texts.specs.CutLemmas.{no_bytes}
use Rattle.liberty_groups.specs.Feeding.{HasReadTo}
use Rattle.liberty_groups.proofs.Pieces.{some_left, fed_more}
use Rattle.liberty_groups.proofs.feeder.Feeder.feed.Goals as goal

pub returns-then-is_empty-clause-ok : goal.returns-then-is_empty-clause-ok
returns-then-is_empty-clause-ok c = λ bytes h.
    let piece : List ℕ = c.args.piece.now in
    let now : List ℕ = c.go_on.new.self.waiting.items in
    let none : length c.in-Ok.rest.now ≡ 0 = eqb-true _ 0 (sym c.is_empty.ensures ∙ c.if-is_empty.true) in
    subst (λ (l : List ℕ). HasReadTo (bytes ++ piece) l c.go_on.new.self.progress c.go_on.new.self.line)
    (ap (λ l. now ++ l) (no_bytes c.in-Ok.rest.now (omega (arith, none))) ∙ append-nil now)
    (c.in-Ok.ensures.ok (bytes ++ piece) (fed_more bytes piece c.args.self.now.waiting.items c.args.self.now.progress c.args.self.now.line h))

pub returns-in-Ok-read-clause-ok : goal.returns-in-Ok-read-clause-ok
returns-in-Ok-read-clause-ok c = λ bytes h.
    let piece : List ℕ = c.args.piece.now in
    let some = some_left _ (sym c.is_empty.ensures ∙ c.if-is_empty.false) in
    c.keep.ensures.ok (bytes ++ piece)
    (c.in-Ok-read.ensures.ok (bytes ++ piece)
    (subst (λ (l : List ℕ). HasReadTo (bytes ++ piece) (l ++ c.in-Ok.rest.now) c.go_on.new.self.progress c.go_on.new.self.line) (c.in-Ok.ensures.empty some)
    (c.in-Ok.ensures.ok (bytes ++ piece) (fed_more bytes piece c.args.self.now.waiting.items c.args.self.now.progress c.args.self.now.line h))))

pub returns-in-Ok-read-clause-fault : goal.returns-in-Ok-read-clause-fault
returns-in-Ok-read-clause-fault c = λ bytes h.
    let piece : List ℕ = c.args.piece.now in
    let some = some_left _ (sym c.is_empty.ensures ∙ c.if-is_empty.false) in
    c.keep.ensures.fault (bytes ++ piece)
    (c.in-Ok-read.ensures.ok (bytes ++ piece)
    (subst (λ (l : List ℕ). HasReadTo (bytes ++ piece) (l ++ c.in-Ok.rest.now) c.go_on.new.self.progress c.go_on.new.self.line) (c.in-Ok.ensures.empty some)
    (c.in-Ok.ensures.ok (bytes ++ piece) (fed_more bytes piece c.args.self.now.waiting.items c.args.self.now.progress c.args.self.now.line h))))

pub returns-in-Err-read-clause-fault : goal.returns-in-Err-read-clause-fault
returns-in-Err-read-clause-fault c = λ bytes h.
    let piece : List ℕ = c.args.piece.now in
    let some = some_left _ (sym c.is_empty.ensures ∙ c.if-is_empty.false) in
    c.in-Err-read.ensures.fault (bytes ++ piece)
    (subst (λ (l : List ℕ). HasReadTo (bytes ++ piece) (l ++ c.in-Ok.rest.now) c.go_on.new.self.progress c.go_on.new.self.line) (c.in-Ok.ensures.empty some)
    (c.in-Ok.ensures.ok (bytes ++ piece) (fed_more bytes piece c.args.self.now.waiting.items c.args.self.now.progress c.args.self.now.line h)))
