-- How the driver of a net is found.
use Rattle.std.specs.Prelude.{◌≡◌, ◌⊎◌, ℕ, true, List, [], ◌∷◌, filter, slice_get, Option, Some, None, option_to_list, Result, Ok, Err}
use Rattle.spef_nets.specs.NetElements.{NetElements}
use Rattle.spef_nets.specs.declared.parts.Listed.{Listed}
use Rattle.wire_phases.specs.declared.net_pins.DriverEnd.{DriverEnd}
use Rattle.wire_phases.specs.declared.net_pins.DriverEnd.TheVariants.{NoDriver, ManyDrivers}
use Rattle.wire_phases.specs.WireNets.{drives}

-- why no connection drives a net alone
abbrev pub IsDriverEnd : NetElements → DriverEnd → Type 0
IsDriverEnd net NoDriver = filter drives net.conns ≡ []
IsDriverEnd net ManyDrivers = (one : Listed) × (other : Listed) × (others : List Listed) × (filter drives net.conns ≡ one ∷ other ∷ others)

-- the connection at a place, if there is one
abbrev pub conn_of : NetElements → Option ℕ → List Listed
conn_of net None = []
conn_of net (Some place) = option_to_list (slice_get net.conns place)

-- a connection after those of which the one at this place is the sole driver, or none is: the sole driver of all of them, or there
-- are several
abbrev pub IsNextDriver : Option ℕ → ℕ → Listed → Result (Option ℕ) DriverEnd → Type 0
IsNextDriver found place conn (Ok next) =
    ((filter drives (conn ∷ []) ≡ []) × (next ≡ found)) ⊎ ((filter drives (conn ∷ []) ≡ conn ∷ []) × (found ≡ None) × (next ≡ Some place))
IsNextDriver found place conn (Err end) = (one : ℕ) × (found ≡ Some one) × (drives conn ≡ true) × (end ≡ ManyDrivers)
