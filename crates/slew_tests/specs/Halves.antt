-- A plain rule for slews.
use Rattle.std.specs.Prelude.{ℕ, ◌+◌, ◌-◌, ◌/◌, if◌then◌else◌, nat_lt, Option, Some, None}
use Rattle.cell_models.specs.declared.edge.Edge.{Edge}
use Rattle.cell_models.specs.declared.edge.Edge.TheVariants.{Rise, Fall}
use Rattle.slew_states.specs.PinState.{most}

abbrev pub own_part : Edge → ℕ
own_part Rise = 10
own_part Fall = 20

-- half of the slew and a part by edge, up to a limit
abbrev pub half_of : ℕ → ℕ → Edge → ℕ → Option ℕ
half_of limit arc edge slew = if nat_lt limit slew then None else Some (slew / 2 + own_part edge)

-- the slew and a constant
abbrev pub more_of : ℕ → ℕ → ℕ → Option ℕ
more_of wire arc slew = if nat_lt (most - slew) wire then None else Some (slew + wire)
