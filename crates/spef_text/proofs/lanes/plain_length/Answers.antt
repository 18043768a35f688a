-- Below the lowest bit that is set none is.
use Rattle.std.proofs.Common.{arith}
use Rattle.spef_text.proofs.LaneLemmas.{below_lowest}
use Rattle.spef_text.proofs.lanes.plain_length.Goals as goal

pub returns-clause-plain : goal.returns-clause-plain
returns-clause-plain c k lt =
    let least = c.min.ensures in
    let fits = c.ends_from-ends.type_inv in
    c.ends_from-ends.ensures k (omega (arith, least, lt)) (below_lowest c.ends_from-ends.result k (omega (arith, fits)) (omega (arith, least, lt)))
