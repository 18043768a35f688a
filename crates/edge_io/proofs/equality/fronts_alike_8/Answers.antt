-- So many bytes more are equal, and where no more than the end is left, all are.
use Rattle.std.proofs.Common.{List, ℕ, take, drop, sym, ◌∙◌, subst, arith}
use Rattle.std.proofs.lemmas.Slice.Eq.{bytes_eq-Decides}
use Rattle.edge_io.proofs.Words.{AlikeSoFar, alike_more, alike_all}
use Rattle.edge_io.proofs.equality.fronts_alike_8.Goals as goal

pub loop-rest-preserved : goal.loop-rest-preserved
loop-rest-preserved c =
    let one = c.args.one.now in
    let other = c.args.other.now in
    let rest = c.loop-rest.rest.now in
    let twin = c.loop-rest.twin.now in
    let same = (bytes_eq-Decides (take 8 rest) (take 8 twin)).0 (sym c.begin_alike_8.ensures ∙ c.if-not-begin_alike_8.false) in
    subst (λ (l : List ℕ). AlikeSoFar one other l c.split_at-in-loop-rest.result.1.now) (sym c.split_at.ensures.back)
    (subst (λ (l : List ℕ). AlikeSoFar one other (drop 8 rest) l) (sym c.split_at-in-loop-rest.ensures.back)
    (alike_more one other rest twin (omega (arith, c.loop-rest-test.true)) c.loop-rest.invariant same))

pub returns : goal.returns
returns c =
    sym (alike_all c.args.one.now c.args.other.now c.loop-rest.rest.now c.loop-rest.twin.now c.requires.long c.requires.ends c.loop-rest.invariant (omega (arith, c.loop-rest-test.false)))
