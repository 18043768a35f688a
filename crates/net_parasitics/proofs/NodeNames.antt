-- The nodes of a net's pins differ.
use Rattle.std.proofs.Common.{◌≡◌, ℕ, zero, suc, ◌<◌, List, length, map, take, get_or, slice_get, Some, sym, ap, subst, ◌∙◌, arith, inl, inr}
use Rattle.std.specs.Prelude.{Contains}
use Rattle.std.proofs.lemmas.Bool.{cases_lt, cases_eq}
use Rattle.std.proofs.lemmas.List.{get_or-map, length-map, get_or-take, length-take-le}
use Rattle.std.proofs.lemmas.List.Elements.{All-get_or}
use Rattle.std.proofs.lemmas.Option.{slice_get_within, get_or_from_slice_get}
use Rattle.name_table.specs.Names.{AreDistinct}
use Rattle.cell_models.specs.NamedSets.{NamedCells}
use Rattle.cell_models.specs.declared.cell.Pin.{Pin}
use Rattle.netlist_link.specs.FlatNetlist.{FlatNetlist, FlatInstance, FlatPort, no_instance, no_port, instance_at, net_at}
use Rattle.netlist_link.specs.Linked.{IsLinked}
use Rattle.netlist_link.specs.declared.ends.End.{End}
use Rattle.netlist_link.specs.declared.ends.End.TheVariants as end
use Rattle.rc_tree.specs.Nodes.{Node, node_of}
use Rattle.rc_tree.specs.Pins.{pin_nodes}
use Rattle.net_parasitics.specs.Inputs.{Inputs, AreNamedApart}
use Rattle.net_parasitics.specs.NetPins.{cell_pins, no_pin, pin_at, IsEnd, PinsDiffer, end_name, pins_to}
use Rattle.net_parasitics.specs.NetTrees.{IsWired}
use Rattle.net_parasitics.proofs.EndLists.{IsDriven, IsDriving, sinks_driven, sinks_apart, driver_drives, drives_no_sink, ends_differ}

-- one text, one place
one_place : (texts : List (List ℕ)) (i j : ℕ) (d : List ℕ) → AreDistinct texts → i < length texts → j < length texts → get_or texts i d ≡ get_or texts j d → i ≡ j
one_place texts i j d apart low high same = elim (cases_eq i j) [
  | inl is ↦ is
  | inr other ↦ elim (cases_lt i j) [
    | inl less ↦ absurd (apart i j d less high same)
    | inr more ↦ absurd (apart j i d (omega (arith, other, more)) low (sym same))
  ]
]

-- one name, one place
pub one_named : {X : Type 0} (name : X → List ℕ) (xs : List X) (i j : ℕ) (d : X) → AreDistinct (map name xs) → i < length xs → j < length xs
    → name (get_or xs i d) ≡ name (get_or xs j d) → i ≡ j
one_named name xs i j d apart low high same =
    one_place (map name xs) i j (name d) apart (let n = length-map xs name in omega (arith, low, n)) (let n = length-map xs name in omega (arith, high, n))
    (get_or-map name xs i d (name d) low ∙ same ∙ sym (get_or-map name xs j d (name d) high))

module _ (netlist : FlatNetlist) (cells : List NamedCells) where
  -- two ends of one node are one
  pub one_end : AreNamedApart netlist → (one other : End) → IsEnd netlist cells one → IsEnd netlist cells other → PinsDiffer netlist cells other
      → node_of (end_name netlist cells one) ≡ node_of (end_name netlist cells other) → one ≡ other
  one_end apart (end.Port p) (end.Port q) there here differ same =
      ap end.Port (one_named (λ (port : FlatPort). port.text) netlist.ports p q no_port apart.ports there here (ap (λ (k : Node). k.head) same))
  one_end apart (end.Port p) (end.Pin i j) there here differ same = absurd (let tails = ap (λ (k : Node). k.tail) same in cc)
  one_end apart (end.Pin i j) (end.Port q) there here differ same = absurd (let tails = ap (λ (k : Node). k.tail) same in cc)
  one_end apart (end.Pin i j) (end.Pin k m) there here differ same =
      let row : i ≡ k = one_named (λ (instance : FlatInstance). instance.text) netlist.instances i k no_instance apart.instances there.0 here.0 (ap (λ (k : Node). k.head) same) in
      let tails : Some (pin_at netlist cells 0 i j).name ≡ Some (pin_at netlist cells 0 k m).name = ap (λ (k : Node). k.tail) same in
      let names : (pin_at netlist cells 0 i j).name ≡ (pin_at netlist cells 0 k m).name = cc in
      let moved : (pin_at netlist cells 0 k j).name ≡ (pin_at netlist cells 0 i j).name = ap (λ x. (pin_at netlist cells 0 x j).name) (sym row) in
      let low : j < length (cell_pins cells 0 (instance_at netlist k).cell) = subst (λ x. j < length (cell_pins cells 0 (instance_at netlist x).cell)) row there.1 in
      let pin : j ≡ m = one_named (λ (pin : Pin). pin.name) (cell_pins cells 0 (instance_at netlist k).cell) j m no_pin differ low here.1 (moved ∙ names) in
      ap (λ x. end.Pin x j) row ∙ ap (end.Pin k) pin

  pub driven_is_end : (one : End) → IsDriven netlist cells one → IsEnd netlist cells one
  driven_is_end (end.Port p) is = slice_get_within netlist.ports p is.port is.there
  driven_is_end (end.Pin i j) is = (
    slice_get_within netlist.instances i is.instance is.there,
    let same : instance_at netlist i ≡ is.instance = get_or_from_slice_get netlist.instances i is.instance no_instance is.there in
        subst (λ (x : FlatInstance). j < length (cell_pins cells 0 x.cell)) (sym same) (slice_get_within (cell_pins cells 0 is.instance.cell) j is.pin is.its),
  )

  pub driving_is_end : (one : End) → IsDriving netlist cells one → IsEnd netlist cells one
  driving_is_end (end.Port p) is = slice_get_within netlist.ports p is.port is.there
  driving_is_end (end.Pin i j) is = (
    slice_get_within netlist.instances i is.instance is.there,
    let same : instance_at netlist i ≡ is.instance = get_or_from_slice_get netlist.instances i is.instance no_instance is.there in
        subst (λ (x : FlatInstance). j < length (cell_pins cells 0 x.cell)) (sym same) (slice_get_within (cell_pins cells 0 is.instance.cell) j is.pin is.its),
  )

-- the next sink is none of the pins so far
pub next_differs : (inputs : Inputs) (net : ℕ) (driver : End) (k : ℕ) (sink : End) → AreNamedApart inputs.netlist → IsLinked inputs.cells inputs.netlist
    → IsWired inputs.netlist net driver → slice_get (net_at inputs.netlist net).sinks k ≡ Some sink
    → PinsDiffer inputs.netlist inputs.cells sink
    → ¬ Contains (pin_nodes (pins_to inputs driver (take k (net_at inputs.netlist net).sinks))) (node_of (end_name inputs.netlist inputs.cells sink))
next_differs inputs net driver k sink apart linked wired at differ (zero, below, same) =
    let netlist = inputs.netlist in
    let cells = inputs.cells in
    let sinks = (net_at netlist net).sinks in
    let here = slice_get_within sinks k sink at in
    let is : get_or sinks k sink ≡ sink = get_or_from_slice_get sinks k sink sink at in
    let driven : IsDriven netlist cells sink = subst (IsDriven netlist cells) is (All-get_or (IsDriven netlist cells) sinks k sink here (sinks_driven netlist cells linked net wired.there)) in
    let drives = driver_drives netlist cells linked net wired.there driver wired.driven in
    let one : driver ≡ sink = one_end netlist cells apart driver sink (driving_is_end netlist cells driver drives) (driven_is_end netlist cells sink driven) differ same in
    drives_no_sink netlist cells sink (subst (IsDriving netlist cells) one drives) driven
next_differs inputs net driver k sink apart linked wired at differ (suc m, below, same) =
    let netlist = inputs.netlist in
    let cells = inputs.cells in
    let sinks = (net_at netlist net).sinks in
    let here = slice_get_within sinks k sink at in
    let is : get_or sinks k sink ≡ sink = get_or_from_slice_get sinks k sink sink at in
    let all = sinks_driven netlist cells linked net wired.there in
    let driven : IsDriven netlist cells sink = subst (IsDriven netlist cells) is (All-get_or (IsDriven netlist cells) sinks k sink here all) in
    let earlier : m < length (take k sinks) =
    (let many = length-map (map (end_name netlist cells) (take k sinks)) node_of in let some = length-map (take k sinks) (end_name netlist cells) in omega (arith, below, many, some)) in
    let low : m < k = (let few = length-take-le k sinks (omega (arith, here)) in omega (arith, earlier, few)) in
    let other = get_or sinks m sink in
    let there : IsDriven netlist cells other = All-get_or (IsDriven netlist cells) sinks m sink (omega (arith, low, here)) all in
    let node : get_or (map node_of (map (end_name netlist cells) (take k sinks))) m (node_of (end_name netlist cells sink)) ≡ node_of (end_name netlist cells other) =
    get_or-map node_of (map (end_name netlist cells) (take k sinks)) m (end_name netlist cells sink) (node_of (end_name netlist cells sink)) (let some = length-map (take k sinks) (end_name netlist cells) in omega (arith, earlier, some))
    ∙ ap node_of (get_or-map (end_name netlist cells) (take k sinks) m sink (end_name netlist cells sink) earlier)
    ∙ ap (λ x. node_of (end_name netlist cells x)) (get_or-take k sinks m sink low) in
    let one : other ≡ sink = one_end netlist cells apart other sink (driven_is_end netlist cells other there) (driven_is_end netlist cells sink driven) differ (sym node ∙ same) in
    ends_differ sinks m k sink (sinks_apart netlist cells linked net wired.there) low here (one ∙ sym is)

-- a sink of a net is there
pub sink_is_end : (cells : List NamedCells) (netlist : FlatNetlist) (net k : ℕ) (d : End) → IsLinked cells netlist → net < length netlist.nets → k < length (net_at netlist net).sinks
    → IsEnd netlist cells (get_or (net_at netlist net).sinks k d)
sink_is_end cells netlist net k d linked within below =
    let sinks = (net_at netlist net).sinks in
    driven_is_end netlist cells (get_or sinks k d) (All-get_or (IsDriven netlist cells) sinks k d below (sinks_driven netlist cells linked net within))

-- so is its driver
pub driver_is_end : (cells : List NamedCells) (netlist : FlatNetlist) (net : ℕ) (driver : End) → IsLinked cells netlist → IsWired netlist net driver → IsEnd netlist cells driver
driver_is_end cells netlist net driver linked wired = driving_is_end netlist cells driver (driver_drives netlist cells linked net wired.there driver wired.driven)
