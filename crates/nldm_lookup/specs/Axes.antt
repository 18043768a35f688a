-- Axes of a table (Liberty, lu_table_template: index_1 and index_2): points that rise.
use Rattle.std.specs.Prelude.{◌≡◌, ℕ, ◌<◌, ◌≤◌, ◌^◌, ◌+◌, ℤ, pos, ◌≤ℤ◌, List, length, map, slice_get, All, Some}
use Rattle.nldm_lookup.specs.declared.faults.AxisFault.{AxisFault}
use Rattle.nldm_lookup.specs.declared.faults.AxisFault.TheVariants.{Empty, NotRising, TooLong, OutOfMemory}

-- an axis has at most so many points
abbrev pub most_points : ℕ
most_points = 256

-- each point is a microsecond or a nanofarad at most
abbrev pub most : ℕ
most = 10 ^ 12

-- the point at a place is not above the one before
pub record FallsAt (points : List ℤ) (place : ℕ) : Type 0 where
  pub before : ℕ
  pub one : ℤ
  pub other : ℤ
  pub next : place ≡ before + 1
  pub earlier : slice_get points before ≡ Some one
  pub here : slice_get points place ≡ Some other
  pub falls : other ≤ℤ one

-- Why some points are no axis. Want of memory alone may come at any time.
pub data IsAxisFault (points : List ℤ) : AxisFault → Type 0 where
  empty : length points ≡ 0 → IsAxisFault points Empty
  too_long : most_points < length points → IsAxisFault points TooLong
  not_rising : (place : ℕ) → length points ≤ most_points → FallsAt points place
      → ((earlier : ℕ) → earlier < place → ¬ FallsAt points earlier) → IsAxisFault points (NotRising place)
  no_memory : IsAxisFault points OutOfMemory

-- The points of an axis.
pub record IsAxis (points : List ℕ) : Type 0 where
  pub some : 0 < length points
  pub few : length points ≤ most_points
  pub rising : (place : ℕ) → ¬ FallsAt (map pos points) place
  pub small : All (λ point. point ≤ most) points

-- No fault stands in some points.
pub record IsFaultless (points : List ℤ) : Type 0 where
  pub some : 0 < length points
  pub few : length points ≤ most_points
  pub rising : (place : ℕ) → ¬ FallsAt points place
