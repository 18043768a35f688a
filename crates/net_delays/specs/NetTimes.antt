-- The load of each net and the Elmore sum of each sink of each net, at each corner.
use Rattle.std.specs.Prelude.{◌≡◌, ℕ, ◌+◌, ◌-◌, ◌*◌, ◌^◌, ◌<◌, ◌≤◌, List, length, slice_index_or, All}
use Rattle.corner_set.specs.Places.{place}
use Rattle.delay_units.specs.declared.quantities.Farads.{Farads}
use Rattle.netlist_link.specs.FlatNetlist.{FlatNetlist, net_at}

-- Loads stand net after net, and Elmore sums sink after sink, with those of the first net first. Both have the corners by their numbers
-- at each. A start says how many sinks the nets before have; the last one is the number of all sinks.
pub record NetTimes : Type 0 where
  pub starts : List ℕ
  pub loads : List Farads
  pub elmores : List ℕ

abbrev pub start_in : List ℕ → ℕ → ℕ
start_in starts net = slice_index_or starts net 0

-- the load of a net at a corner, of so many corners, in 10^-21 F
abbrev pub load_at : ℕ → NetTimes → ℕ → ℕ → ℕ
load_at count times net corner = (slice_index_or times.loads (place count net corner) (record { 0 = 0 })).0

-- the Elmore sum of a sink of a net, in 10^-27 s
abbrev pub elmore_at : ℕ → NetTimes → ℕ → ℕ → ℕ → ℕ
elmore_at count times net sink corner = slice_index_or times.elmores (place count (start_in times.starts net + sink) corner) 0

-- an Elmore sum is less than this
abbrev pub elmore_limit : ℕ
elmore_limit = 56 * 10 ^ 36

-- how many nets there are, and how many sinks they have
abbrev pub nets_in : NetTimes → ℕ
nets_in times = length times.starts - 1

abbrev pub sinks_in : NetTimes → ℕ
sinks_in times = start_in times.starts (nets_in times)

-- the starts rise, and there is a load for each net and an Elmore sum for each sink, at so many corners, and no more
pub record AreNetTimes (count : ℕ) (times : NetTimes) : Type 0 where
  pub loads : length times.loads ≡ nets_in times * count
  pub rise : (net : ℕ) → net + 1 < length times.starts → start_in times.starts net ≤ start_in times.starts (net + 1)
  pub elmores : length times.elmores ≡ sinks_in times * count
  pub small : All (λ elmore. elmore < elmore_limit) times.elmores

-- there is such a net, and such a sink of it
abbrev pub HasNet : NetTimes → ℕ → Type 0
HasNet times net = net + 1 < length times.starts

abbrev pub HasSink : NetTimes → ℕ → ℕ → Type 0
HasSink times net sink = (net + 1 < length times.starts) × (start_in times.starts net + sink < start_in times.starts (net + 1))

-- The starts of so many groups of these sizes, the first one at 0, and then the sum of all sizes.
pub record AreSums (sizes : ℕ → ℕ) (many : ℕ) (starts : List ℕ) : Type 0 where
  pub len : length starts ≡ many + 1
  pub first : start_in starts 0 ≡ 0
  pub next : (group : ℕ) → group < many → start_in starts (group + 1) ≡ start_in starts group + sizes group

-- the sinks of the nets of a netlist begin there
abbrev pub AreStarts : FlatNetlist → List ℕ → Type 0
AreStarts netlist starts = AreSums (λ net. length (net_at netlist net).sinks) (length netlist.nets) starts

-- the nets and sinks are those of a netlist
abbrev pub Fits : FlatNetlist → NetTimes → Type 0
Fits netlist times = AreStarts netlist times.starts

-- all loads but one are what they were, and all Elmore sums but one
abbrev pub LeavesLoads : ℕ → NetTimes → NetTimes → ℕ → ℕ → ℕ → ℕ → Type 0
LeavesLoads count before after net corner other at =
    ¬ ((other ≡ net) × (at ≡ corner)) → load_at count after other at ≡ load_at count before other at

abbrev pub LeavesElmores : ℕ → NetTimes → NetTimes → ℕ → ℕ → ℕ → ℕ → ℕ → ℕ → Type 0
LeavesElmores count before after net sink corner other of at =
    ¬ ((other ≡ net) × (of ≡ sink) × (at ≡ corner)) → elmore_at count after other of at ≡ elmore_at count before other of at
