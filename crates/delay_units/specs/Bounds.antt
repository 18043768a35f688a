-- The largest quantities of one element of a net, in whole grains.
use Rattle.std.specs.Prelude.{ℕ, ◌^◌}

-- a resistance: 100 megohms
abbrev pub most_ohms : ℕ
most_ohms = 10 ^ 14

-- a capacitance: 1 nanofarad
abbrev pub most_farads : ℕ
most_farads = 10 ^ 12
