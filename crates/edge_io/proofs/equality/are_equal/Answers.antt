-- Where two short words end alike their fronts tell.
use Rattle.std.proofs.Common.{sym, ◌∙◌, arith}
use Rattle.edge_io.proofs.Words.{front_tells}
use Rattle.edge_io.proofs.equality.are_equal.Goals as goal

pub returns-then-ends_alike_4 : goal.returns-then-ends_alike_4
returns-then-ends_alike_4 c =
    c.begin_alike_4.ensures
    ∙ front_tells c.args.one.now c.args.other.now (omega (arith, c.if-one-other.false)) (omega (arith, c.if-one-ge4.true)) (omega (arith, c.if-one-ge8.false))
    (sym c.ends_alike_4.ensures ∙ c.if-ends_alike_4.true)
