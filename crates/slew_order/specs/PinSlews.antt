-- The slews at pins of instances.
use Rattle.std.specs.Prelude.{◌≡◌, ℕ, Bool, false, nat_lt, if◌then◌else◌, pos, length, Option, Some, None, ⊤}
use Rattle.cell_models.specs.declared.edge.Edge.{Edge}
use Rattle.delay_units.specs.declared.quantities.Atto.{Atto}
use Rattle.netlist_link.specs.FlatNetlist.{FlatNetlist, net_at}
use Rattle.netlist_link.specs.declared.ends.End.{End}
use Rattle.slew_states.specs.PinState.{behind}
use Rattle.slew_states.specs.declared.states.PinState.{PinState}
use Rattle.slew_states.specs.declared.states.PinState.TheVariants.{Absent, Known, Stuck}
use Rattle.corner_set.specs.declared.choices.WireSlew.{WireSlew}
use Rattle.slew_order.specs.FlatArcs.{net_on}
use Rattle.net_delays.specs.NetTimes.{NetTimes, elmore_at}
use Rattle.slew_order.specs.Sinks.{is_pin, pin_place}
use Rattle.slew_order.specs.WireBehind.{wire_of}

-- a pin is this driver of a net
abbrev pub is_driver : ℕ → ℕ → Option End → Bool
is_driver instance pin None = false
is_driver instance pin (Some driver) = is_pin instance pin driver

-- which sink of a net a pin is, if it is one
abbrev pub sink_of : FlatNetlist → ℕ → ℕ → ℕ → Option ℕ
sink_of netlist instance pin net =
    if nat_lt (pin_place instance pin (net_at netlist net).sinks) (length (net_at netlist net).sinks)
    then Some (pin_place instance pin (net_at netlist net).sinks) else None

-- The states of the nets at a corner are given.
module _ (netlist : FlatNetlist) (count : ℕ) (times : NetTimes) (mode : WireSlew) (corner : ℕ) (before : ℕ → Edge → PinState) where
  -- the state of a sink of a net, behind its wire
  abbrev pub sink_state : ℕ → Option ℕ → Edge → PinState
  sink_state net None edge = Absent
  sink_state net (Some sink) edge = behind (wire_of mode (elmore_at count times net sink corner)) (before net edge)

  -- the state of a pin on a net: that of the net where the pin drives it, and behind the wire where it is a sink
  abbrev pub state_on : ℕ → ℕ → Option ℕ → Edge → PinState
  state_on instance pin None edge = Absent
  state_on instance pin (Some net) edge = if is_driver instance pin (net_at netlist net).driver then before net edge
      else sink_state net (sink_of netlist instance pin net) edge

  -- the state of a pin of an instance
  abbrev pub state_of_pin : ℕ → ℕ → Edge → PinState
  state_of_pin instance pin edge = state_on instance pin (net_on netlist instance pin) edge

-- the slew of a state, in attoseconds; none where it is not known
abbrev pub IsSlewOf : PinState → Option Atto → Type 0
IsSlewOf Absent None = ⊤
IsSlewOf Absent (Some slew) = ⊥
IsSlewOf (Known known) None = ⊥
IsSlewOf (Known known) (Some slew) = slew.0 ≡ pos known
IsSlewOf Stuck None = ⊤
IsSlewOf Stuck (Some slew) = ⊥
