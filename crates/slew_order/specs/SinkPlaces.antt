-- The table of which sink of its net each pin is, on its way.
use Rattle.std.specs.Prelude.{◌≡◌, ℕ, ◌+◌, ◌<◌, List, length, drop, Some}
use Rattle.netlist_link.specs.FlatNetlist.{FlatNetlist, net_at}
use Rattle.net_delays.specs.NetTimes.{start_in}
use Rattle.slew_order.specs.FlatArcs.{net_on}
use Rattle.slew_order.specs.Sinks.{pin_place}

module _ (netlist : FlatNetlist) (starts : List ℕ) where
  -- a pin on a net that is one of its sinks from a place on has the first such place
  abbrev pub IsPlaced : List ℕ → ℕ → ℕ → ℕ → ℕ → Type 0
  IsPlaced places instance pin net from =
      pin_place instance pin (drop from (net_at netlist net).sinks) < length (drop from (net_at netlist net).sinks)
      → start_in places (start_in starts instance + pin) ≡ from + pin_place instance pin (drop from (net_at netlist net).sinks)

  -- a pin that is a sink of its net has this row of the table
  pub record IsSinkRow (row : ℕ) : Type 0 where
    pub instance : ℕ
    pub pin : ℕ
    pub net : ℕ
    pub within : net < length netlist.nets
    pub on : net_on netlist instance pin ≡ Some net
    pub sink : pin_place instance pin (net_at netlist net).sinks < length (net_at netlist net).sinks
    pub row_is : row ≡ start_in starts instance + pin

  -- any other row has 0
  abbrev pub HasNoOther : List ℕ → Type 0
  HasNoOther places = (row : ℕ) → ¬ IsSinkRow row → start_in places row ≡ 0

  -- the table has all pins, those on the nets before this one are placed, and of its own sinks those from a place on
  pub record ArePlacedTo (net from : ℕ) (places : List ℕ) : Type 0 where
    pub len : length places ≡ start_in starts (length netlist.instances)
    pub before : (instance pin other : ℕ) → other < net → net_on netlist instance pin ≡ Some other → IsPlaced places instance pin other 0
    pub here : (instance pin : ℕ) → net_on netlist instance pin ≡ Some net → IsPlaced places instance pin net from
    pub others : HasNoOther places

  -- all pins that are sinks are placed, and nothing else
  pub record ArePlaces (places : List ℕ) : Type 0 where
    pub len : length places ≡ start_in starts (length netlist.instances)
    pub all : (instance pin net : ℕ) → net < length netlist.nets → net_on netlist instance pin ≡ Some net
        → IsPlaced places instance pin net 0
    pub others : HasNoOther places
