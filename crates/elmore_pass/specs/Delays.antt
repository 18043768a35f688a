-- The Elmore delays of a tree, at each node and corner.
use Rattle.std.specs.Prelude.{◌≡◌, ℕ, ◌*◌, ◌^◌, ◌<◌, List, Some}
use Rattle.corner_set.specs.Places.{value_at}
use Rattle.rc_tree.specs.Elmore.{IsElmore}
use Rattle.rc_tree.specs.Arenas.{Arena, arena_elements}

-- An Elmore delay stays below this: 2^19 resistors of 10^14 times 2^20 capacitances of 10^12.
abbrev pub delay_limit : ℕ
delay_limit = 56 * 10 ^ 36

-- what is kept for a node at a corner is its Elmore delay there, in units of 10^-27 s and not rounded
pub record HasDelay (count : ℕ) (arena : Arena) (values : List ℕ) (node number : ℕ) : Type 0 where
  pub delay : ℕ
  pub held : value_at count values node number ≡ Some delay
  pub elmore : IsElmore (arena_elements count arena number) node delay
  pub small : delay < delay_limit
