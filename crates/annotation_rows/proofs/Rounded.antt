-- An Elmore sum as it is rounded.
use Rattle.std.proofs.Common.{◌≡◌, ℕ, ◌^◌, sym, ap, ℤ, pos, ◌≤ℤ◌, arith}
use Rattle.std.proofs.lemmas.Int.{ints}
use Rattle.delay_units.specs.Rounding.{IsRounding}
use Rattle.delay_units.specs.declared.Femto.{Femto}
use Rattle.slew_order.specs.Lookups.{half_up}
use Rattle.slew_order.proofs.LookupValues.{half_up_rounds}
use Rattle.annotation_rows.specs.WireRows.{femto_of}

pub rounded_is : (elmore : ℕ) (time : Femto) → ((v : ℤ) → IsRounding (pos elmore) (pos (10 ^ 12)) v → v ≡ time.0) → time ≡ femto_of elmore
rounded_is elmore time only =
    let one : pos 1 ≤ℤ pos (10 ^ 12) = omega (arith, ints) in
    ap (λ v. let made : Femto = record { 0 = v } in made) (sym (only (half_up (pos elmore) (pos (10 ^ 12))) (half_up_rounds (pos elmore) (pos (10 ^ 12)) one)))
