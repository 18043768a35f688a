-- A byte more, or some that are dropped.
use Rattle.std.proofs.Common.{ℕ, ◌+◌, List, get_or, sym, ap, ◌∙◌, subst, arith}
use Rattle.liberty_groups.specs.Dropping.{dropped}
use Rattle.liberty_groups.proofs.Saying.{SaidSoFar, said_drops, said_keeps, said_ends}
use Rattle.liberty_groups.proofs.texts.unescaped.Goals as goal

pub loop-place-preserved-then-count-gt0 : goal.loop-place-preserved-then-count-gt0
loop-place-preserved-then-count-gt0 c =
    let back_len = c.split_at.ensures.back_len in
    let within = c.dropped-count.ensures.within in
    said_drops c.args.raw.now c.loop-place.text c.loop-place.place c.dropped-count.result c.loop-place.invariant c.loop-place-test.true
    (c.dropped-count.ensures.value ∙ ap (λ (l : List ℕ). dropped (get_or c.args.raw.now c.loop-place.place 0) l) c.split_at.ensures.back) c.if-count-gt0.true (omega arith)

pub loop-place-preserved : goal.loop-place-preserved
loop-place-preserved c =
    subst (λ (l : List ℕ). SaidSoFar c.args.raw.now l (c.loop-place.place + 1)) (sym c.in_ok-push_all.ensures.ok)
    (said_keeps c.args.raw.now c.loop-place.text c.loop-place.place c.dropped-count.result c.loop-place.invariant c.loop-place-test.true
    (c.dropped-count.ensures.value ∙ ap (λ (l : List ℕ). dropped (get_or c.args.raw.now c.loop-place.place 0) l) c.split_at.ensures.back) (let none = c.if-count-gt0.false in omega arith))

pub returns : goal.returns
returns c = said_ends c.args.raw.now c.loop-place.text c.loop-place.place c.loop-place.invariant c.loop-place-test.false
