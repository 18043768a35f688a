-- The larger of two capacitances.
use Rattle.std.specs.Prelude.{ℕ, max, Option, Some, None}
use Rattle.delay_units.specs.declared.amounts.Amount.{Amount}
use Rattle.delay_units.specs.declared.amounts.Amount.TheVariants.{Unread, Below, Within, Past}

-- the larger of two
abbrev pub larger_size : Amount → Amount → Amount
larger_size Unread other = Unread
larger_size Below other = other
larger_size (Within one) Unread = Unread
larger_size (Within one) Below = Within one
larger_size (Within one) (Within two) = Within (max one two)
larger_size (Within one) Past = Past
larger_size Past Unread = Unread
larger_size Past Below = Past
larger_size Past (Within two) = Past
larger_size Past Past = Past

abbrev pub grains_within : Amount → Option ℕ
grains_within Unread = None
grains_within Below = None
grains_within (Within grains) = Some grains
grains_within Past = None
