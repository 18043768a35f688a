-- The sum of the values around by rows is the sum of all four.
use Rattle.std.proofs.Common.{◌≡◌, ◌+◌, ap, sym, ◌∙◌, ℤ, ◌+ℤ◌, ◌*ℤ◌, arith}
use Rattle.std.proofs.lemmas.Int.{ints}
use Rattle.std.proofs.Math.IntN.{*ℤ_comm}
use Rattle.nldm_lookup.specs.Betweens.{Between}
use Rattle.nldm_lookup.specs.Tables.{TimingTable, value_at}
use Rattle.nldm_lookup.specs.Interpolant.{weighed}
use Rattle.nldm_lookup.specs.Rows.{rows_at}
use Rattle.nldm_lookup.proofs.Scaling.{sum_scale, scale_times}

turned : (x low weight : ℤ) → (x *ℤ low) *ℤ weight ≡ x *ℤ (weight *ℤ low)
turned x low weight = sym (scale_times x low weight) ∙ ap (λ n. x *ℤ n) (*ℤ_comm low weight)

-- a row by the weight of its point
row_scaled : (x y low high weight : ℤ) → ((x *ℤ low) +ℤ (y *ℤ high)) *ℤ weight ≡ (x *ℤ (weight *ℤ low)) +ℤ (y *ℤ (weight *ℤ high))
row_scaled x y low high weight =
    let split = sum_scale (x *ℤ low) (y *ℤ high) weight in
    let one = turned x low weight in
    let two = turned y high weight in
    omega (arith, ints, split, one, two)

pub by_rows : (table : TimingTable) (slew load : Between) → rows_at table slew load ≡ weighed table slew load
by_rows table slew load =
    let one = row_scaled (value_at table slew.place load.place) (value_at table slew.place (load.place + 1)) load.low load.high slew.low in
    let two = row_scaled (value_at table (slew.place + 1) load.place) (value_at table (slew.place + 1) (load.place + 1)) load.low load.high slew.high in
    omega (arith, ints, one, two)
