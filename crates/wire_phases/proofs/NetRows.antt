-- The rows of a net, and of several nets one after another.
use Rattle.std.proofs.Common.{◌≡◌, ℕ, suc, ◌<◌, ◌≤◌, List, [], ◌∷◌, length, map, take, Some, refl, sym, ◌∙◌, ap, subst, arith, drop, length-append, length-drop, length-take-le, inl, inr}
use Rattle.std.proofs.lemmas.Bool.{cases_lt}
use Rattle.std.proofs.lemmas.List.{length-map, take_all}
use Rattle.std.specs.List.{slice_get, AllZip}
use Rattle.delay_units.specs.declared.Femto.{Femto}
use Rattle.name_table.specs.declared.spef_names.NodeName.{NodeName}
use Rattle.sdf_writer.specs.SdfText.{WireRow, SdfRows}
use Rattle.spef_nets.specs.NetElements.{NetElements}
use Rattle.rc_tree.specs.Arenas.{Arena}
use Rattle.rc_tree.specs.Elmore.{IsElmore}
use Rattle.rc_tree.specs.NetElements.{NetElements as ElementsOf}
use Rattle.rc_tree.specs.Nodes.{Node, node_of}
use Rattle.rc_tree.specs.Pins.{Pins}
use Rattle.rc_tree.specs.SectionNets.{net_elements, on_net, sink_node}
use Rattle.rc_tree.specs.Builds.{IsTreeOf}
use Rattle.wire_phases.specs.AnnotationRows.{Wire, IsWireDelay, IsAnnotationRow, AreAnnotationRows}
use Rattle.rc_tree.specs.ListedPins.{without, conn_name, listed_pins}
use Rattle.wire_phases.specs.WireNets.{HasDriver, wires_of, is_tree}
use Rattle.wire_phases.specs.NetRows.{IsTreeRow, AddsRows, AddsNetRows}
use Rattle.refusals.proofs.Places.{some_is, within, index_is, map_get, zipped}

-- the delay of a wire's row, once it is alone in it
sole_delay : (wire : Wire) (net : ElementsOf Node) (times : List Femto) (time : Femto) → wire.corners ≡ net ∷ [] → times ≡ time ∷ [] → IsWireDelay wire.at net time → AllZip (IsWireDelay wire.at) wire.corners times
sole_delay wire net times time corners sole is =
    subst (λ c. AllZip (IsWireDelay wire.at) c times) (sym corners) (subst (AllZip (IsWireDelay wire.at) (net ∷ [])) (sym sole) (is, tt))

-- the row of a sink in the tree of a net annotates its wire
annotates : (net : NetElements) (pins : Pins) (arena : Arena) (sink : ℕ) (name : NodeName) (row : WireRow) → IsTreeOf 1 net pins arena → slice_get pins.sinks sink ≡ Some name → IsTreeRow pins arena sink row
    → IsAnnotationRow (record { driver = pins.driver; sink = name; at = on_net net pins (node_of name); corners = net_elements 1 net pins 0 ∷ [] }) row
annotates net pins arena sink name row tree named by_tree =
    let same : by_tree.name ≡ name = some_is by_tree.name name (sym by_tree.named ∙ named) in
    let node : sink_node pins sink ≡ node_of name = ap node_of (index_is pins.sinks sink name pins.driver named) in
    let below : sink < length pins.sinks = within pins.sinks sink name named in
    let some : 0 < 1 = omega arith in
    let delays = tree.delays 0 sink some below by_tree.elmore in
    let counted : IsElmore (net_elements 1 net pins 0) (on_net net pins (node_of name)) by_tree.elmore = subst (λ n. IsElmore (net_elements 1 net pins 0) (on_net net pins n) by_tree.elmore) node (delays.0 by_tree.counted) in
    record {
      from = by_tree.from;
      to = by_tree.to ∙ ap (λ n. n.sdf) same;
      delay = sole_delay (record { driver = pins.driver; sink = name; at = on_net net pins (node_of name); corners = net_elements 1 net pins 0 ∷ [] }) (net_elements 1 net pins 0) row.delay by_tree.delay refl by_tree.sole (by_tree.elmore, counted, by_tree.rounded);
    }

-- the rows of all sinks are those of the net
pub net_rows_added : (net : NetElements) (driver : ℕ) (arena : Arena) (old new : SdfRows) → HasDriver net driver → IsTreeOf 1 net (listed_pins 1 net driver) arena → AddsRows (listed_pins 1 net driver) arena (length (listed_pins 1 net driver).sinks) old new → AddsNetRows net old new
net_rows_added net driver arena old new sole tree added = record {
  rows = added.rows;
  is = added.is;
  given = is_tree driver added.rows sole tree.fit tree.tree annotated;
}
  where
    pins : Pins
    pins = listed_pins 1 net driver

    wire_to : NodeName → Wire
    wire_to sink = record { driver = pins.driver; sink = sink; at = on_net net pins (node_of sink); corners = net_elements 1 net pins 0 ∷ [] }

    annotated : AreAnnotationRows (wires_of 1 net pins) added.rows
    annotated = zipped IsAnnotationRow (map wire_to pins.sinks) added.rows (length-map pins.sinks wire_to ∙ sym added.counted)
        (λ k wire row at stands.
        let sink = map_get wire_to pins.sinks k wire at in
        subst (λ w. IsAnnotationRow w row) sink.2 (annotates net pins arena k sink.0 row tree sink.1 (added.by_tree k row stands)))

-- no more sinks than connections
pub sinks_few : (net : NetElements) (driver : ℕ) → length (listed_pins 1 net driver).sinks ≤ length net.conns
sinks_few net driver =
    let sinks = length-map (without driver net.conns) (conn_name net) in
    let parts = length-append (take driver net.conns) (drop (suc driver) net.conns) in
    let rest = length-drop (suc driver) net.conns in
    elim (cases_lt driver (length net.conns)) [
      | inl below ↦ (let front = length-take-le driver net.conns (omega (arith, below)) in omega (arith, sinks, parts, rest, front, below))
      | inr past ↦ (let front = ap length (take_all driver net.conns past) in omega (arith, sinks, parts, rest, front, past))
    ]
