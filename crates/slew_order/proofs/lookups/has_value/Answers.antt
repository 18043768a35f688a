use Rattle.std.proofs.Common.{◌≡◌, sym, subst, ap, unsigned_abs, to_z, arith}
use Rattle.std.specs.Int.{w64}
use Rattle.std.proofs.lemmas.Int.{to_z_pos}
use Rattle.nldm_lookup.specs.Interpolant.{IsLookup}
use Rattle.slew_order.specs.Lookups.{lookup_of}
use Rattle.slew_order.proofs.LookupValues.{lookup_is}
use Rattle.slew_order.proofs.lookups.has_value.Goals as goal

pub returns-clause-value : goal.returns-clause-value
returns-clause-value g c =
    let answer = lookup_of c.args.table.now c.args.slew c.args.load.0 c.args.grain c.args.beyond in
    let size : unsigned_abs (to_z w64 c.args.slew) ≡ c.args.slew = ap unsigned_abs (to_z_pos w64 c.args.slew (omega (arith, c.requires.slew))) in
    c.has_value.ensures.value answer
    (subst (λ slew. IsLookup c.args.table.now slew c.args.load.0 c.args.grain c.args.beyond answer) (sym size)
    (lookup_is c.args.table.now c.args.slew c.args.load.0 c.args.grain c.args.beyond c.whole.ensures c.requires.slew))
