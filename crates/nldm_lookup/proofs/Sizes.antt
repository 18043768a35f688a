-- How large values are by their weights.
use Rattle.std.proofs.Common.{ℕ, ◌+◌, ◌*◌, ◌≤◌, sym, refl, subst, length, pos, unsigned_abs, inl, inr, arith}
use Rattle.std.proofs.lemmas.Bool.{cases_lt}
use Rattle.std.proofs.lemmas.List.{get_or_past}
use Rattle.std.proofs.lemmas.List.Elements.{All-get_or}
use Rattle.nldm_lookup.specs.Axes.{most}
use Rattle.nldm_lookup.specs.Betweens.{Between}
use Rattle.nldm_lookup.specs.Tables.{TimingTable, IsTable, IsSmall, place_in, value_at}
use Rattle.nldm_lookup.specs.Interpolant.{weighed}
use Rattle.nldm_lookup.specs.Rows.{row_at, size_of}
use Rattle.nldm_lookup.proofs.Scaling.{row_small}
use Rattle.nldm_lookup.proofs.Weighing.{by_rows}

-- what stands at two points is small, and so are all four by their weights
value_small : (table : TimingTable) (slew load : ℕ) → IsTable table → unsigned_abs (value_at table slew load) ≤ most
value_small table slew load whole = elim (cases_lt (place_in table.order table slew load) (length table.values)) [
  | inl within ↦ All-get_or IsSmall table.values (place_in table.order table slew load) (pos 0) within whole.small
  | inr past ↦ subst (λ value. unsigned_abs value ≤ most) (sym (get_or_past table.values (place_in table.order table slew load) (pos 0) past)) (omega arith)
]

row_is_small : (table : TimingTable) (slew : ℕ) (load : Between) → IsTable table → unsigned_abs (row_at table slew load) ≤ most * size_of load
row_is_small table slew load whole =
    row_small _ _ (value_at table slew load.place) (value_at table slew (load.place + 1)) load.low load.high most refl refl
    (value_small table slew load.place whole) (value_small table slew (load.place + 1) whole)

pub weighed_small : (table : TimingTable) (slew load : Between) → IsTable table → unsigned_abs (weighed table slew load) ≤ most * size_of load * size_of slew
weighed_small table slew load whole =
    subst (λ sum. unsigned_abs sum ≤ most * size_of load * size_of slew) (by_rows table slew load)
    (row_small _ _ (row_at table slew.place load) (row_at table (slew.place + 1) load) slew.low slew.high (most * size_of load) refl refl
    (row_is_small table slew.place load whole) (row_is_small table (slew.place + 1) load whole))
