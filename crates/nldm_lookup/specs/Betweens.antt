-- Which points of an axis are taken for a quantity, and by what weights.
use Rattle.std.specs.Prelude.{◌≡◌, ℕ, ◌+◌, ◌-◌, ◌<◌, ◌≤◌, ℤ, pos, ◌+ℤ◌, ◌-ℤ◌, List, length, slice_get, Some}
use Rattle.corner_set.specs.declared.choices.Beyond.{Beyond}
use Rattle.corner_set.specs.declared.choices.Beyond.TheVariants.{Edge, Extend}

-- Two neighbouring points: the place of the lower one, and the weights of both.
pub record Between : Type 0 where
  pub place : ℕ
  pub low : ℤ
  pub high : ℤ

-- the sum of the weights
abbrev pub width : Between → ℤ
width between = between.low +ℤ between.high

-- The neighbouring points around one number, by their weights at another: the lower one weighs how far that is below the upper one, and
-- the upper one how far it is above the lower one.
pub data AreNeighbours (points : List ℕ) (near at : ℕ) : Between → Type 0 where
  neighbours : (place lower upper : ℕ) → slice_get points place ≡ Some lower → slice_get points (place + 1) ≡ Some upper
      → lower ≤ near → near ≤ upper
      → AreNeighbours points near at (record { place = place; low = pos upper -ℤ pos at; high = pos at -ℤ pos lower })

-- A quantity is past this end of two or more points: below the first, or above the last.
pub data IsPast (points : List ℕ) (quantity : ℕ) : ℕ → Type 0 where
  below : (first : ℕ) → 1 < length points → slice_get points 0 ≡ Some first → quantity < first → IsPast points quantity first
  above : (last : ℕ) → 1 < length points → slice_get points (length points - 1) ≡ Some last → last < quantity
      → IsPast points quantity last

-- it is past one of them
pub record IsPassed (points : List ℕ) (quantity : ℕ) : Type 0 where
  pub passed : ℕ
  pub past : IsPast points quantity passed

-- What is taken for a quantity. An axis of one point is constant: that point has the whole weight. Otherwise it is the neighbours around
-- the quantity. Where an end is passed it is the neighbours around that end: the first two points, or the last two. `Edge` takes them by
-- their weights at the end, and `Extend` by those at the quantity.
pub data IsBetween (points : List ℕ) (quantity : ℕ) : Beyond → Between → Type 0 where
  sole : {beyond : Beyond} → length points ≡ 1 → IsBetween points quantity beyond (record { place = 0; low = pos 1; high = pos 0 })
  inside : {beyond : Beyond} {between : Between} → AreNeighbours points quantity quantity between
      → IsBetween points quantity beyond between
  edge : {passed : ℕ} {between : Between} → IsPast points quantity passed → AreNeighbours points passed passed between
      → IsBetween points quantity Edge between
  extend : {passed : ℕ} {between : Between} → IsPast points quantity passed → AreNeighbours points passed quantity between
      → IsBetween points quantity Extend between
