-- Two tables of loads and Elmore sums are one where they have the same at each place.
use Rattle.std.specs.Prelude.{◌≡◌, ℕ, ◌<◌, length}
use Rattle.netlist_link.specs.FlatNetlist.{FlatNetlist, net_at}
use Rattle.net_delays.specs.NetTimes.{NetTimes, AreNetTimes, Fits, load_at, elmore_at}

-- the same load at each net and the same Elmore sum at each sink, at so many corners
pub record AreAlike (count : ℕ) (netlist : FlatNetlist) (one other : NetTimes) : Type 0 where
  pub loads : (net corner : ℕ) → net < length netlist.nets → corner < count
      → load_at count one net corner ≡ load_at count other net corner
  pub elmores : (net sink corner : ℕ) → net < length netlist.nets → sink < length (net_at netlist net).sinks → corner < count
      → elmore_at count one net sink corner ≡ elmore_at count other net sink corner

-- two tables of one netlist that are alike are equal
abbrev pub OneTimes : Type 0
OneTimes = (count : ℕ) (netlist : FlatNetlist) (one other : NetTimes) → AreNetTimes count one → AreNetTimes count other
    → Fits netlist one → Fits netlist other → AreAlike count netlist one other → one ≡ other
