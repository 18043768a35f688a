-- The ends on the nets of a linked netlist: what drives a net, and its sinks, of which no two are one.
use Rattle.std.proofs.Common.{◌≡◌, ◌≢◌, ℕ, zero, suc, ◌+◌, ◌<◌, Bool, true, false, not, if◌then◌else◌, List, [], ◌∷◌, ◌++◌, length, map, filter, get_or, slice_get, Option, Some, None, refl, sym, ap, subst, ◌∙◌, arith}
use Rattle.std.specs.Prelude.{All, ◌==◌, ⊤, option_to_list}
use Rattle.std.proofs.lemmas.List.Elements.{All-nil, All-cons, All-head, All-tail, All-append, All-map, All-filter, All-get_or}
use Rattle.std.proofs.lemmas.Option.{slice_get-get_or}
use Rattle.cell_models.specs.NamedSets.{NamedCells}
use Rattle.cell_models.specs.declared.cell.Direction.{Direction}
use Rattle.cell_models.specs.declared.cell.Direction.TheVariants as direction
use Rattle.cell_models.specs.declared.cell.Pin.{Pin}
use Rattle.netlist_link.specs.FlatNetlist.{FlatNetlist, FlatInstance, FlatPort, EndOn, net_at, no_net, is_input_pin, is_output_pin, end_at, pin_ends, instance_ends, port_ends, ends_on, driving_ends, driven_ends}
use Rattle.netlist_link.specs.FlatPins.{pins_of}
use Rattle.netlist_link.specs.Linked.{IsLinked}
use Rattle.netlist_link.specs.declared.ends.End.{End}
use Rattle.netlist_link.specs.declared.ends.End.TheVariants as end

-- what holds of each pin that passes holds of the ends
module _ (P : EndOn → Type 0) (test : Direction → Bool) where
  one_end : (instance pin : ℕ) (net : Option ℕ) → ((n : ℕ) → P (record { net = n; at = end.Pin instance pin })) → All P (end_at instance pin net)
  one_end instance pin None holds = All-nil P
  one_end instance pin (Some n) holds = All-cons P (record { net = n; at = end.Pin instance pin }) [] (holds n) (All-nil P)

  all_pin_ends : (instance from : ℕ) (pins : List Pin) (nets : List (Option ℕ))
      → ((k : ℕ) (pin : Pin) (n : ℕ) → slice_get pins k ≡ Some pin → test pin.direction ≡ true → P (record { net = n; at = end.Pin instance (from + k) }))
      → All P (pin_ends test instance from pins nets)
  all_pin_ends instance from [] nets holds = All-nil P
  all_pin_ends instance from (pin ∷ pins) [] holds = All-nil P
  all_pin_ends instance from (pin ∷ pins) (net ∷ nets) holds =
      by (test pin.direction) refl (all_pin_ends instance (suc from) pins nets
      (λ k later n there passes. let at : from + suc k ≡ suc from + k = omega arith in
      subst (λ j. P (record { net = n; at = end.Pin instance j })) at (holds (suc k) later n there passes)))
    where
      by : (passes : Bool) → test pin.direction ≡ passes → All P (pin_ends test instance (suc from) pins nets)
          → All P (if passes then end_at instance from net ++ pin_ends test instance (suc from) pins nets else pin_ends test instance (suc from) pins nets)
      by true is rest = All-append P (end_at instance from net) (pin_ends test instance (suc from) pins nets)
          (one_end instance from net (λ n. let at : from + 0 ≡ from = omega arith in
          subst (λ j. P (record { net = n; at = end.Pin instance j })) at (holds 0 pin n refl is))) rest
      by false is rest = rest

  all_instance_ends : (cells : List NamedCells) (from : ℕ) (instances : List FlatInstance)
      → ((i : ℕ) (instance : FlatInstance) (k : ℕ) (pin : Pin) (n : ℕ) → slice_get instances i ≡ Some instance → slice_get (pins_of cells instance.cell) k ≡ Some pin
      → test pin.direction ≡ true → P (record { net = n; at = end.Pin (from + i) k }))
      → All P (instance_ends cells test from instances)
  all_instance_ends cells from [] holds = All-nil P
  all_instance_ends cells from (instance ∷ instances) holds =
      All-append P (pin_ends test from 0 (pins_of cells instance.cell) instance.nets) (instance_ends cells test (suc from) instances)
      (all_pin_ends from 0 (pins_of cells instance.cell) instance.nets
      (λ k pin n there passes. let at : from + 0 ≡ from = omega arith in let zeroth : k ≡ 0 + k = omega arith in
      subst (λ j. P (record { net = n; at = end.Pin from j })) zeroth
      (subst (λ i. P (record { net = n; at = end.Pin i k })) at (holds 0 instance k pin n refl there passes))))
      (all_instance_ends cells (suc from) instances
      (λ i later k pin n there its passes. let at : from + suc i ≡ suc from + i = omega arith in
      subst (λ j. P (record { net = n; at = end.Pin j k })) at (holds (suc i) later k pin n there its passes)))

all_port_ends : (P : EndOn → Type 0) (inputs : Bool) (from : ℕ) (ports : List FlatPort)
    → ((p : ℕ) (port : FlatPort) (n : ℕ) → slice_get ports p ≡ Some port → (if inputs then port.is_input else not port.is_input) ≡ true
    → P (record { net = n; at = end.Port (from + p) }))
    → All P (port_ends inputs from ports)
all_port_ends P inputs from [] holds = All-nil P
all_port_ends P inputs from (port ∷ ports) holds =
    by (if inputs then port.is_input else not port.is_input) refl (all_port_ends P inputs (suc from) ports
    (λ p later n there passes. let at : from + suc p ≡ suc from + p = omega arith in
    subst (λ j. P (record { net = n; at = end.Port j })) at (holds (suc p) later n there passes)))
  where
    by : (passes : Bool) → (if inputs then port.is_input else not port.is_input) ≡ passes → All P (port_ends inputs (suc from) ports)
        → All P (if passes then record { net = port.net; at = end.Port from } ∷ port_ends inputs (suc from) ports else port_ends inputs (suc from) ports)
    by true is rest = All-cons P (record { net = port.net; at = end.Port from }) (port_ends inputs (suc from) ports)
        (let at : from + 0 ≡ from = omega arith in
        subst (λ j. P (record { net = port.net; at = end.Port j })) at (holds 0 port port.net refl is)) rest
    by false is rest = rest

-- no two ends of a list are one
abbrev pub Apart : List EndOn → Type 0
Apart [] = ⊤
Apart (x ∷ xs) = All (λ y. x.at ≢ y.at) xs × Apart xs

abbrev pub ApartEnds : List End → Type 0
ApartEnds [] = ⊤
ApartEnds (x ∷ xs) = All (λ y. x ≢ y) xs × ApartEnds xs

apart_both : (xs ys : List EndOn) → Apart xs → Apart ys → All (λ x. All (λ y. x.at ≢ y.at) ys) xs → Apart (xs ++ ys)
apart_both [] ys first second between = second
apart_both (x ∷ xs) ys first second between = (
  All-append (λ y. x.at ≢ y.at) xs ys first.0 (All-head (λ x. All (λ y. x.at ≢ y.at) ys) x xs between),
  apart_both xs ys first.1 second (All-tail (λ x. All (λ y. x.at ≢ y.at) ys) x xs between),
)

on_net_apart : (n : ℕ) (xs : List EndOn) → Apart xs → ApartEnds (ends_on n xs)
on_net_apart n [] apart = tt
on_net_apart n (x ∷ xs) apart = by (x.net == n) (on_net_apart n xs apart.1)
  where
    by : (is : Bool) → ApartEnds (ends_on n xs)
        → ApartEnds (map (λ (e : EndOn). e.at) (if is then x ∷ filter (λ (e : EndOn). e.net == n) xs else filter (λ (e : EndOn). e.net == n) xs))
    by true rest = (
      All-map (λ y. x.at ≢ y) (λ (e : EndOn). e.at) (filter (λ (e : EndOn). e.net == n) xs)
          (All-filter (λ (e : EndOn). e.net == n) (λ y. x.at ≢ y.at) xs apart.0),
      rest,
    )
    by false rest = rest

module _ (test : Direction → Bool) where
  pins_apart : (instance from : ℕ) (pins : List Pin) (nets : List (Option ℕ)) → Apart (pin_ends test instance from pins nets)
  pins_apart instance from [] nets = tt
  pins_apart instance from (pin ∷ pins) [] = tt
  pins_apart instance from (pin ∷ pins) (net ∷ nets) = by (test pin.direction) (pins_apart instance (suc from) pins nets)
    where
      one : (net : Option ℕ) → Apart (pin_ends test instance (suc from) pins nets) → Apart (end_at instance from net ++ pin_ends test instance (suc from) pins nets)
      one None rest = rest
      one (Some n) rest = (
        all_pin_ends (λ y. end.Pin instance from ≢ y.at) test instance (suc from) pins nets
            (λ k later m there passes same. let at : from ≡ suc from + k = cc in omega (arith, at)),
        rest,
      )

      by : (passes : Bool) → Apart (pin_ends test instance (suc from) pins nets)
          → Apart (if passes then end_at instance from net ++ pin_ends test instance (suc from) pins nets else pin_ends test instance (suc from) pins nets)
      by true rest = one net rest
      by false rest = rest

  instances_apart : (cells : List NamedCells) (from : ℕ) (instances : List FlatInstance) → Apart (instance_ends cells test from instances)
  instances_apart cells from [] = tt
  instances_apart cells from (instance ∷ instances) =
      apart_both (pin_ends test from 0 (pins_of cells instance.cell) instance.nets) (instance_ends cells test (suc from) instances)
      (pins_apart from 0 (pins_of cells instance.cell) instance.nets) (instances_apart cells (suc from) instances)
      (all_pin_ends (λ x. All (λ y. x.at ≢ y.at) (instance_ends cells test (suc from) instances)) test from 0 (pins_of cells instance.cell) instance.nets
      (λ k pin n there passes. all_instance_ends (λ y. end.Pin from (0 + k) ≢ y.at) test cells (suc from) instances
      (λ i later j its m there passes at same. let one : from ≡ suc from + i = cc in omega (arith, one))))

ports_apart : (inputs : Bool) (from : ℕ) (ports : List FlatPort) → Apart (port_ends inputs from ports)
ports_apart inputs from [] = tt
ports_apart inputs from (port ∷ ports) = by (if inputs then port.is_input else not port.is_input) (ports_apart inputs (suc from) ports)
  where
    by : (passes : Bool) → Apart (port_ends inputs (suc from) ports)
        → Apart (if passes then record { net = port.net; at = end.Port from } ∷ port_ends inputs (suc from) ports else port_ends inputs (suc from) ports)
    by true rest = (
      all_port_ends (λ y. end.Port from ≢ y.at) inputs (suc from) ports
          (λ p later n there passes same. let at : from ≡ suc from + p = cc in omega (arith, at)),
      rest,
    )
    by false rest = rest

-- no two of the ends that are driven are one
driven_apart : (cells : List NamedCells) (ports : List FlatPort) (instances : List FlatInstance) → Apart (driven_ends cells ports instances)
driven_apart cells ports instances =
    apart_both (instance_ends cells is_input_pin 0 instances) (port_ends false 0 ports) (instances_apart is_input_pin cells 0 instances) (ports_apart false 0 ports)
    (all_instance_ends (λ x. All (λ y. x.at ≢ y.at) (port_ends false 0 ports)) is_input_pin cells 0 instances
    (λ i instance k pin n there its passes. all_port_ends (λ y. end.Pin (0 + i) k ≢ y.at) false 0 ports (λ p port m at gives same. cc)))

-- two places of a list of ends that are apart have two ends
pub ends_differ : (ends : List End) (i j : ℕ) (d : End) → ApartEnds ends → i < j → j < length ends → get_or ends i d ≢ get_or ends j d
ends_differ [] i j d apart less below same = absurd (omega (arith, below))
ends_differ (x ∷ xs) i zero d apart less below same = absurd (omega (arith, less))
ends_differ (x ∷ xs) zero (suc j) d apart less below same = All-get_or (λ y. x ≢ y) xs j d (omega (arith, below)) apart.0 same
ends_differ (x ∷ xs) (suc i) (suc j) d apart less below same = ends_differ xs i j d apart.1 (omega (arith, less)) (omega (arith, below)) same

-- an end that is driven, and one that drives
module _ (netlist : FlatNetlist) (cells : List NamedCells) where
  pub record HasPin (test : Direction → Bool) (i j : ℕ) : Type 0 where
    pub instance : FlatInstance
    pub there : slice_get netlist.instances i ≡ Some instance
    pub pin : Pin
    pub its : slice_get (pins_of cells instance.cell) j ≡ Some pin
    pub passes : test pin.direction ≡ true

  pub record HasPort (inputs : Bool) (p : ℕ) : Type 0 where
    pub port : FlatPort
    pub there : slice_get netlist.ports p ≡ Some port
    pub passes : (if inputs then port.is_input else not port.is_input) ≡ true

  abbrev pub IsDriven : End → Type 0
  IsDriven (end.Pin i j) = HasPin is_input_pin i j
  IsDriven (end.Port p) = HasPort false p

  abbrev pub IsDriving : End → Type 0
  IsDriving (end.Pin i j) = HasPin is_output_pin i j
  IsDriving (end.Port p) = HasPort true p

  all_driven : All (λ e. IsDriven e.at) (driven_ends cells netlist.ports netlist.instances)
  all_driven = All-append (λ e. IsDriven e.at) (instance_ends cells is_input_pin 0 netlist.instances) (port_ends false 0 netlist.ports)
      (all_instance_ends (λ e. IsDriven e.at) is_input_pin cells 0 netlist.instances
      (λ i instance k pin n there its passes. let at : i ≡ 0 + i = omega arith in
      subst (λ i. HasPin is_input_pin i k) at (record { instance = instance; there = there; pin = pin; its = its; passes = passes })))
      (all_port_ends (λ e. IsDriven e.at) false 0 netlist.ports
      (λ p port n there passes. let at : p ≡ 0 + p = omega arith in
      subst (HasPort false) at (record { port = port; there = there; passes = passes })))

  all_driving : All (λ e. IsDriving e.at) (driving_ends cells netlist.ports netlist.instances)
  all_driving = All-append (λ e. IsDriving e.at) (port_ends true 0 netlist.ports) (instance_ends cells is_output_pin 0 netlist.instances)
      (all_port_ends (λ e. IsDriving e.at) true 0 netlist.ports
      (λ p port n there passes. let at : p ≡ 0 + p = omega arith in
      subst (HasPort true) at (record { port = port; there = there; passes = passes })))
      (all_instance_ends (λ e. IsDriving e.at) is_output_pin cells 0 netlist.instances
      (λ i instance k pin n there its passes. let at : i ≡ 0 + i = omega arith in
      subst (λ i. HasPin is_output_pin i k) at (record { instance = instance; there = there; pin = pin; its = its; passes = passes })))

  module _ (linked : IsLinked cells netlist) (n : ℕ) (within : n < length netlist.nets) where
    pub sinks_driven : All IsDriven (net_at netlist n).sinks
    sinks_driven =
        let joined = linked.joined n (net_at netlist n) (slice_get-get_or netlist.nets n no_net within) in
        subst (All IsDriven) (sym joined.sinks)
        (All-map IsDriven (λ (e : EndOn). e.at) (filter (λ (e : EndOn). e.net == n) (driven_ends cells netlist.ports netlist.instances))
        (All-filter (λ (e : EndOn). e.net == n) (λ e. IsDriven e.at) (driven_ends cells netlist.ports netlist.instances) all_driven))

    pub sinks_apart : ApartEnds (net_at netlist n).sinks
    sinks_apart =
        let joined = linked.joined n (net_at netlist n) (slice_get-get_or netlist.nets n no_net within) in
        subst ApartEnds (sym joined.sinks) (on_net_apart n (driven_ends cells netlist.ports netlist.instances) (driven_apart cells netlist.ports netlist.instances))

    pub driver_drives : (driver : End) → (net_at netlist n).driver ≡ Some driver → IsDriving driver
    driver_drives driver is =
        let joined = linked.joined n (net_at netlist n) (slice_get-get_or netlist.nets n no_net within) in
        All-head IsDriving driver []
        (subst (All IsDriving) (sym joined.driver ∙ ap option_to_list is)
        (All-map IsDriving (λ (e : EndOn). e.at) (filter (λ (e : EndOn). e.net == n) (driving_ends cells netlist.ports netlist.instances))
        (All-filter (λ (e : EndOn). e.net == n) (λ e. IsDriving e.at) (driving_ends cells netlist.ports netlist.instances) all_driving)))

  -- nothing drives and is driven
  two_ways : (d : Direction) → is_input_pin d ≡ true → is_output_pin d ≡ true → ⊥
  two_ways direction.Input input output = cc
  two_ways direction.Output input output = cc
  two_ways direction.Inout input output = cc
  two_ways direction.Internal input output = cc

  two_sides : (b : Bool) → b ≡ true → not b ≡ true → ⊥
  two_sides true is other = cc
  two_sides false is other = cc

  pub drives_no_sink : (one : End) → IsDriving one → IsDriven one → ⊥
  drives_no_sink (end.Pin i j) drives driven =
      let same : drives.instance ≡ driven.instance = (let e = sym drives.there ∙ driven.there in cc) in
      let pin : drives.pin ≡ driven.pin = (let e = sym drives.its ∙ ap (λ (x : FlatInstance). slice_get (pins_of cells x.cell) j) same ∙ driven.its in cc) in
      two_ways driven.pin.direction driven.passes (ap (λ (p : Pin). is_output_pin p.direction) (sym pin) ∙ drives.passes)
  drives_no_sink (end.Port p) drives driven =
      let same : drives.port ≡ driven.port = (let e = sym drives.there ∙ driven.there in cc) in
      two_sides driven.port.is_input (ap (λ (x : FlatPort). x.is_input) (sym same) ∙ drives.passes) driven.passes
