-- The delays of a net's wires are within what is written: its resistors and capacitances are so few and so small.
use Rattle.std.proofs.Common.{◌≡◌, ℕ, zero, suc, ◌+◌, ◌*◌, ◌^◌, ◌≤◌, inl, inr, Bool, true, false, cond, ◌&&◌, List, [], ◌∷◌, length, map, take, drop, sum_by, ℤ, pos, unsigned_abs, length-append, subst, arith}
use Rattle.std.specs.Prelude.{All, slice_index, slice_index_or}
use Rattle.std.specs.List.{range_with_len, enumerate_from}
use Rattle.std.proofs.lemmas.Bool.{cases_lt}
use Rattle.std.proofs.lemmas.Int.{ints}
use Rattle.std.proofs.lemmas.Nat.{mul-le}
use Rattle.std.proofs.lemmas.List.{length-map}
use Rattle.std.proofs.lemmas.List.Elements.{All-nil, All-cons, All-head, All-tail, All-append, All-take, All-drop, All-map, All-weaker}
use Rattle.std.proofs.lemmas.List.FromFn.{length-enumerate_from, length-map-range_with_len}
use Rattle.std.proofs.lemmas.List.Sums.{sum_by-le}
use Rattle.delay_units.specs.Bounds.{most_farads, most_ohms}
use Rattle.delay_units.specs.Rounding.{IsRounding}
use Rattle.delay_units.specs.declared.Femto.{Femto}
use Rattle.delay_units.specs.declared.quantities.Farads.{Farads}
use Rattle.delay_units.specs.declared.quantities.Ohms.{Ohms}
use Rattle.spef_nets.specs.NetElements.{NetElements as SectionElements, AreWhole}
use Rattle.rc_tree.specs.Arenas.{most_elements}
use Rattle.rc_tree.specs.Builds.{IsFit}
use Rattle.rc_tree.specs.Elmore.{shared_resistance, elmore_sum, IsElmore}
use Rattle.rc_tree.specs.ListedPins.{listed_pins}
use Rattle.rc_tree.specs.NetElements.{NetElements, NetResistor, NetCapacitance}
use Rattle.rc_tree.specs.Nodes.{Node, node_of}
use Rattle.rc_tree.specs.Pins.{Pins}
use Rattle.rc_tree.specs.SectionNets.{section_node, sink_node, joint_at, on_net, net_elements}
use Rattle.rc_tree.specs.Values.{farads_at, ohms_at}
use Rattle.wire_phases.specs.AnnotationRows.{IsWireDelay}

-- a quotient of a small number is small, rounded
rounded_small : (n : ℕ) (v : ℤ) → n ≤ 10 ^ 38 → IsRounding (pos n) (pos (10 ^ 12)) v → unsigned_abs v ≤ 10 ^ 27
rounded_small n v few rounds = let least = rounds.least in let most = rounds.most in omega (arith, ints, few, least, most)

-- what stands at a place is small, if each element is
index_small : {X : Type 0} (size : X → ℕ) (most : ℕ) (xs : List X) (k : ℕ) (d : X) → size d ≤ most → All (λ x. size x ≤ most) xs → size (slice_index_or xs k d) ≤ most
index_small size most [] k d small all = small
index_small size most (x ∷ xs) zero d small all = All-head (λ z. size z ≤ most) x xs all
index_small size most (x ∷ xs) (suc k) d small all = index_small size most xs k d small (All-tail (λ z. size z ≤ most) x xs all)

numbered_all : {X : Type 0} (P : X → Type 0) (n : ℕ) (xs : List X) → All P xs → All (λ (at : ℕ × X). P at.1) (enumerate_from n xs)
numbered_all {X} P n [] all = All-nil (λ (at : ℕ × X). P at.1)
numbered_all {X} P n (x ∷ xs) all = All-cons (λ (at : ℕ × X). P at.1) (n, x) (enumerate_from (n + 1) xs) (All-head P x xs all) (numbered_all P (n + 1) xs (All-tail P x xs all))

kept_small : (kept : Bool) (n most : ℕ) → n ≤ most → cond kept n 0 ≤ most
kept_small true n most small = small
kept_small false n most small = omega arith

-- the resistance that nodes share, of few small resistors
shared_small : (cuts : ℕ → Node → Bool) (net : NetElements Node) (a b : Node) (most : ℕ) → All (λ (r : NetResistor Node). r.ohms ≤ most) net.resistors → shared_resistance cuts net a b ≤ length net.resistors * most
shared_small cuts net a b most all =
    let Part : (ℕ × NetResistor Node) → ℕ = λ at. cond (cuts at.0 a && cuts at.0 b) at.1.ohms 0 in
    let places : List (ℕ × NetResistor Node) = enumerate_from 0 net.resistors in
    let each : All (λ at. Part at ≤ most) places =
    All-weaker (λ (at : ℕ × NetResistor Node). at.1.ohms ≤ most) (λ at. Part at ≤ most) (λ at small. kept_small (cuts at.0 a && cuts at.0 b) at.1.ohms most small) places (numbered_all (λ (r : NetResistor Node). r.ohms ≤ most) 0 net.resistors all) in
    subst (λ (n : ℕ). sum_by Part places ≤ n * most) (length-enumerate_from 0 net.resistors) (sum_by-le Part most places each)

-- and the delay, where the capacitances are few and small too
elmore_small : (cuts : ℕ → Node → Bool) (net : NetElements Node) (node : Node) (ohms farads : ℕ) → ((other : Node) → shared_resistance cuts net node other ≤ ohms) → All (λ (c : NetCapacitance Node). c.farads ≤ farads) net.capacitances
    → elmore_sum cuts net node ≤ length net.capacitances * (ohms * farads)
elmore_small cuts net node ohms farads shared all =
    sum_by-le (λ (c : NetCapacitance Node). shared_resistance cuts net node c.node * c.farads) (ohms * farads) net.capacitances
    (All-weaker (λ (c : NetCapacitance Node). c.farads ≤ farads) (λ c. shared_resistance cuts net node c.node * c.farads ≤ ohms * farads)
    (λ c small. mul-le (shared_resistance cuts net node c.node) c.farads ohms farads (shared c.node) small) net.capacitances all)

module _ (net : SectionElements) (whole : AreWhole 1 net) (driver : ℕ) where
  abbrev pins : Pins
  pins = listed_pins 1 net driver

  abbrev elements : NetElements Node
  elements = net_elements 1 net pins 0

  abbrev resistor_at : ℕ → NetResistor Node
  resistor_at place = record { from = section_node net pins (joint_at net place).a; to = section_node net pins (joint_at net place).b; ohms = ohms_at 1 net.ohms place 0 }

  abbrev cap_at : ℕ → NetCapacitance Node
  cap_at place = record { node = on_net net pins (section_node net pins (slice_index net.caps place)); farads = farads_at 1 net.farads place 0 }

  abbrev load_at : ℕ → NetCapacitance Node
  load_at sink = record { node = on_net net pins (sink_node pins sink); farads = farads_at 1 pins.loads sink 0 }

  abbrev IsSmallCap : NetCapacitance Node → Type 0
  IsSmallCap cap = cap.farads ≤ most_farads

  abbrev IsSmallRes : NetResistor Node → Type 0
  IsSmallRes res = res.ohms ≤ most_ohms

  farads_small : (values : List Farads) (k : ℕ) → All (λ (value : Farads). value.0 ≤ most_farads) values → farads_at 1 values k 0 ≤ most_farads
  farads_small values k all = index_small (λ (value : Farads). value.0) most_farads values (k * 1 + 0) (record { 0 = 0 }) (omega arith) all

  resistors_small : All IsSmallRes elements.resistors
  resistors_small =
      All-map IsSmallRes resistor_at (range_with_len 0 (length net.joints))
      (λ k d below. index_small (λ (value : Ohms). value.0) most_ohms net.ohms (slice_index_or (range_with_len 0 (length net.joints)) k d * 1 + 0) (record { 0 = 0 }) (omega arith) whole.small_ress)

  loads_small : All (λ (value : Farads). value.0 ≤ most_farads) pins.loads
  loads_small =
      All-append (λ (value : Farads). value.0 ≤ most_farads) (take (driver * 1) net.loads) (drop (suc driver * 1) net.loads)
      (All-take (λ (value : Farads). value.0 ≤ most_farads) (driver * 1) net.loads whole.small_loads)
      (All-drop (λ (value : Farads). value.0 ≤ most_farads) (suc driver * 1) net.loads whole.small_loads)

  caps_small : All IsSmallCap elements.capacitances
  caps_small =
      All-append IsSmallCap (map cap_at (range_with_len 0 (length net.caps))) (map load_at (range_with_len 0 (length pins.sinks)))
      (All-map IsSmallCap cap_at (range_with_len 0 (length net.caps)) (λ k d below. farads_small net.farads (slice_index_or (range_with_len 0 (length net.caps)) k d) whole.small_caps))
      (All-map IsSmallCap load_at (range_with_len 0 (length pins.sinks)) (λ k d below. farads_small pins.loads (slice_index_or (range_with_len 0 (length pins.sinks)) k d) loads_small))

  few_resistors : IsFit net pins → length elements.resistors ≤ most_elements
  few_resistors fit =
      let long : length elements.resistors ≡ length net.joints = length-map-range_with_len resistor_at 0 (length net.joints) in
      elim (cases_lt most_elements (length net.joints)) [
        | inl many ↦ absurd (fit.1 (inl many))
        | inr few ↦ omega (arith, long, few)
      ]

  few_pins : IsFit net pins → net.written + length pins.sinks ≤ most_elements
  few_pins fit =
      let long : length (map node_of pins.sinks) ≡ length pins.sinks = length-map pins.sinks node_of in
      elim (cases_lt most_elements (net.written + suc (length (map node_of pins.sinks)))) [
        | inl many ↦ absurd (fit.1 (inr many))
        | inr few ↦ omega (arith, long, few)
      ]

  few_caps : IsFit net pins → length elements.capacitances ≤ 2 ^ 20
  few_caps fit =
      let both : length elements.capacitances ≡ length (map cap_at (range_with_len 0 (length net.caps))) + length (map load_at (range_with_len 0 (length pins.sinks))) =
      length-append (map cap_at (range_with_len 0 (length net.caps))) (map load_at (range_with_len 0 (length pins.sinks))) in
      let caps = length-map-range_with_len cap_at 0 (length net.caps) in
      let loads = length-map-range_with_len load_at 0 (length pins.sinks) in
      let few = few_pins fit in
      let twice = whole.few_caps in
      omega (arith, both, caps, loads, few, twice)

  shared_within : IsFit net pins → (cuts : ℕ → Node → Bool) (a b : Node) → shared_resistance cuts elements a b ≤ 2 ^ 19 * 10 ^ 14
  shared_within fit cuts a b =
      let sum = shared_small cuts elements a b most_ohms resistors_small in
      let most = mul-le (length elements.resistors) most_ohms most_elements most_ohms (few_resistors fit) (omega arith) in
      omega (arith, sum, most)

  elmore_within : IsFit net pins → (node : Node) (delay : ℕ) → IsElmore elements node delay → delay ≤ 10 ^ 38
  elmore_within fit node delay is =
      let sum = elmore_small is.cuts elements node (2 ^ 19 * 10 ^ 14) most_farads (shared_within fit is.cuts node) caps_small in
      let most = mul-le (length elements.capacitances) (2 ^ 19 * 10 ^ 14 * most_farads) (2 ^ 20) (2 ^ 19 * 10 ^ 14 * most_farads) (few_caps fit) (omega arith) in
      let same = is.sum in
      omega (arith, sum, most, same)

  pub delay_within : IsFit net pins → (node : Node) (delay : Femto) → IsWireDelay node elements delay → unsigned_abs delay.0 ≤ 10 ^ 27
  delay_within fit node delay is = rounded_small is.0 delay.0 (elmore_within fit node is.0 is.1) is.2
