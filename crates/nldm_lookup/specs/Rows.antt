-- The values of one point of the slew, by the weights of the load's neighbours.
use Rattle.std.specs.Prelude.{◌≢◌, ℕ, ◌+◌, ◌<◌, ◌≤◌, ℤ, pos, ◌+ℤ◌, ◌*ℤ◌, ◌≤ℤ◌, unsigned_abs, List, length}
use Rattle.nldm_lookup.specs.Axes.{most, most_points}
use Rattle.nldm_lookup.specs.Betweens.{Between, width}
use Rattle.nldm_lookup.specs.Tables.{TimingTable, value_at}

abbrev pub row_at : TimingTable → ℕ → Between → ℤ
row_at table slew load = (value_at table slew load.place *ℤ load.low) +ℤ (value_at table slew (load.place + 1) *ℤ load.high)

-- the same of all points of the slew, by the weights of its neighbours
abbrev pub rows_at : TimingTable → Between → Between → ℤ
rows_at table slew load = (row_at table slew.place load *ℤ slew.low) +ℤ (row_at table (slew.place + 1) load *ℤ slew.high)

-- how large both weights are
abbrev pub size_of : Between → ℕ
size_of between = unsigned_abs between.low + unsigned_abs between.high

-- a place of an axis, with weights that are not too large
pub record IsOn (points : List ℕ) (between : Between) : Type 0 where
  pub within : between.place < length points
  pub few : length points ≤ most_points
  pub next : between.high ≢ pos 0 → between.place + 1 < length points
  pub some : pos 1 ≤ℤ width between
  pub small : width between ≤ℤ pos most
  pub small_low : unsigned_abs between.low ≤ most
  pub small_high : unsigned_abs between.high ≤ most
