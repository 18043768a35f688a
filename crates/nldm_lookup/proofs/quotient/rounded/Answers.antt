-- A near quotient is the rounding where the rest says so.
use Rattle.std.proofs.Common.{pos, subst, sym, FitsSigned, arith}
use Rattle.std.specs.Int.{w128}
use Rattle.std.proofs.lemmas.Int.{ints, to_z-of_z, to_z_pos}
use Rattle.delay_units.specs.Rounding.{IsRounding}
use Rattle.nldm_lookup.proofs.NearQuotient.{rest_fits, double_fits, all_fits, twice_fits, near_rounding}
use Rattle.nldm_lookup.proofs.quotient.rounded.Goals as goal

pub returns-then-up-lt0 : goal.returns-then-up-lt0
returns-then-up-lt0 c =
    let r : FitsSigned w128 c.half_up.result = record { sfits = c.half_up.type_inv } in
    let d = to_z_pos w128 c.args.d (omega (arith, c.requires.divisor)) in
    simp to_z-of_z (subst (λ z. IsRounding c.args.n z c.half_up.result) d (simp (to_z-of_z, c.ranges.n) at c.half_up.ensures.rounded))

pub returns-then-rest-d : goal.returns-then-rest-d
returns-then-rest-d c =
    let near = c.near_quotient-near.result in
    let m = c.multiple.result in
    let size = c.requires.small in
    let most = c.requires.divisor in
    let many = c.multiple.ensures.small in
    let d = to_z_pos w128 c.args.d (omega (arith, most)) in
    let p = to_z_pos w128 m (omega (arith, many)) in
    let v = to_z_pos w128 near (omega (arith, c.near_quotient-near.ensures)) in
    let a = rest_fits c.args.n m size many in
    let b = double_fits c.args.n m size many in
    let e = all_fits c.args.n m c.args.d size many most in
    let f = twice_fits c.args.d most in
    let low = simp (to_z-of_z, c.ranges.n, d, p, a, b, e) at c.if-rest-ge0.true in
    let high = simp (to_z-of_z, c.ranges.n, d, p, a, b, e, f) at c.if-rest-d.true in
    subst (λ z. IsRounding c.args.n (pos c.args.d) z) (sym v)
    (near_rounding c.args.n c.args.d near m c.multiple.ensures.value (omega (arith, ints, low)) (omega (arith, ints, high)))

pub returns : goal.returns
returns c =
    let r : FitsSigned w128 c.half_up-2.result = record { sfits = c.half_up-2.type_inv } in
    let d = to_z_pos w128 c.args.d (omega (arith, c.requires.divisor)) in
    simp to_z-of_z (subst (λ z. IsRounding c.args.n z c.half_up-2.result) d (simp (to_z-of_z, c.ranges.n) at c.half_up-2.ensures.rounded))
