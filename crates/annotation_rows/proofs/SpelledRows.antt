-- The names in rows are well spelled.
use Rattle.std.proofs.Common.{◌≡◌, ℕ, ◌<◌, ◌==◌, ◌||◌, Bool, true, false, if◌then◌else◌, ◌∙◌, ap, sym, refl, subst, List, [], ◌∷◌, ◌++◌, append_assoc, length, map, get_or, Option, Some, None, is_some, arith}
use Rattle.std.specs.Prelude.{All}
use Rattle.std.proofs.lemmas.Bool.{and_parts, eqb-true, false≢true}
use Rattle.std.proofs.lemmas.List.Elements.{All-nil, All-cons, All-get_or}
use Rattle.cell_models.specs.declared.edge.Edge.{Edge}
use Rattle.edge_io.specs.Bytes.{slash}
use Rattle.hierarchy.specs.WalkLaws.{joined-all}
use Rattle.name_table.specs.WellSpelled.{IsPart, IsWellSpelled, one_part, parts}
use Rattle.name_table.proofs.Spelling.{part_is_part}
use Rattle.netlist_link.specs.FlatNetlist.{instance_at, net_at, no_instance, no_port}
use Rattle.netlist_link.specs.declared.ends.End.{End}
use Rattle.netlist_link.specs.declared.ends.End.TheVariants as end
use Rattle.sdf_writer.specs.SdfText.{WireRow}
use Rattle.slew_states.specs.InputEdges.{input_edges}
use Rattle.slew_states.specs.PinState.{join, joined}
use Rattle.slew_states.specs.declared.states.PinState.{PinState}
use Rattle.slew_states.specs.declared.states.PinState.TheVariants.{Absent, Known}
use Rattle.slew_order.specs.FlatArcs.{cell_arc, if_loaded, net_on}
use Rattle.slew_order.specs.LivePaths.{HasInput}
use Rattle.slew_order.specs.PinSlews.{state_on}
use Rattle.slew_order.specs.Timings.{SlewSource}
use Rattle.slew_order.specs.declared.arcs.ArcAt.{ArcAt}
use Rattle.annotation_rows.specs.CellPaths.{arc_in, path_of}
use Rattle.annotation_rows.specs.PathRows.{TimedDesign, cell_arcs, if_delayed, instance_rows, path_row, path_rows, rows_at, states_of}
use Rattle.annotation_rows.specs.RowLaws.{IsSlewed, IsFirstArc, IsLiveAt, arc_place}
use Rattle.annotation_rows.specs.SdfEnds.{IsEndThere, end_sdf, pin_name, pin_sdf}
use Rattle.annotation_rows.specs.SpelledRows.{AreNamesSpelled, IsWireSpelled, IsPathSpelled, SpelledRows}
use Rattle.annotation_rows.specs.WireRows.{net_rows, rows_from, wire_row, wire_rows}
use Rattle.annotation_rows.proofs.EndsThere.{IsPinOn, driver_joined, driver_there, sink_joined, sink_there}
use Rattle.annotation_rows.proofs.RowLaws.{live_rows}

-- a part behind a path
behind_path : (path own : List ℕ) → IsWellSpelled path → IsPart own → IsWellSpelled (path ++ slash ∷ own)
behind_path path own (one_part is) also = parts is (one_part also)
behind_path path own (parts {part} {rest} is more) also =
    subst IsWellSpelled (sym (append_assoc part (slash ∷ rest) (slash ∷ own))) (parts is (behind_path rest own more also))

all_absent : (edges : List Edge) (state : Edge → PinState) → ((edge : Edge) → state edge ≡ Absent) → joined (map state edges) ≡ Absent
all_absent [] state none = refl
all_absent (edge ∷ edges) state none = ap (λ s. join s (joined (map state edges))) (none edge) ∙ all_absent edges state none

absent_known : (slew : ℕ) → Absent ≡ Known slew → ⊥
absent_known slew is = cc

module _ (source : SlewSource) (corner : ℕ) (before : ℕ → Edge → PinState) (at : ArcAt) (edge : Edge) (input : HasInput source corner before at edge) where
  -- an arc with a worst input slew begins and ends on a net
  from_on : (on : Option ℕ) → net_on source.netlist at.instance (cell_arc source.netlist source.cells at 0).from ≡ on → (net : ℕ) × (on ≡ Some net)
  from_on None is =
      let pin = (cell_arc source.netlist source.cells at 0).from in
      let none = all_absent (input_edges (cell_arc source.netlist source.cells at 0).kind edge)
      (λ e. state_on source.netlist source.count source.times source.mode corner before at.instance pin (net_on source.netlist at.instance pin) e)
      (λ e. ap (λ o. state_on source.netlist source.count source.times source.mode corner before at.instance pin o e) is) in
      absurd (absent_known input.slew (sym none ∙ input.known))
  from_on (Some net) is = (net, refl)

  to_on : (on : Option ℕ) → net_on source.netlist at.instance (cell_arc source.netlist source.cells at 0).to ≡ on → (net : ℕ) × (on ≡ Some net)
  to_on None is = absurd (false≢true (ap (λ o. is_some (if_loaded source.netlist o)) (sym is) ∙ input.loaded))
  to_on (Some net) is = (net, refl)

module _ (design : TimedDesign) (slewed : IsSlewed design) (some : 0 < design.source.count) (names : AreNamesSpelled design.source.cells design.source.netlist) where
  instance_spelled : (instance : ℕ) → instance < length design.source.netlist.instances → IsWellSpelled (instance_at design.source.netlist instance).sdf
  instance_spelled instance within = All-get_or (λ i. IsWellSpelled i.sdf) design.source.netlist.instances instance no_instance within names.instances

  pin_spelled : (instance pin net : ℕ) → net_on design.source.netlist instance pin ≡ Some net → IsPart (pin_sdf design.source.cells design.source.netlist instance pin)
  pin_spelled instance pin net on = part_is_part (pin_name design.source.cells design.source.netlist instance pin) (names.pins instance pin net on)

  end_spelled : (net : ℕ) (e : End) → IsEndThere design.source.cells design.source.netlist e → IsPinOn design.source.cells design.source.netlist net e
      → IsWellSpelled (end_sdf design.source.cells design.source.netlist e)
  end_spelled net (end.Port port) there on = All-get_or (λ p. IsWellSpelled p.sdf) design.source.netlist.ports port no_port there names.ports
  end_spelled net (end.Pin instance pin) there on =
      behind_path (instance_at design.source.netlist instance).sdf (pin_sdf design.source.cells design.source.netlist instance pin)
      (instance_spelled instance there.0) (pin_spelled instance pin net on)

  wires_of_net : (net : ℕ) → net < length design.source.netlist.nets → All IsWireSpelled (net_rows design.source.cells design.source.netlist design.source.count design.source.times net)
  wires_of_net net below = by (net_at design.source.netlist net).driver refl
    where
      by : (driver : Option End) → (net_at design.source.netlist net).driver ≡ driver
          → All IsWireSpelled (rows_from design.source.cells design.source.netlist design.source.count design.source.times driver net)
      by None is = All-nil IsWireSpelled
      by (Some driver) is =
          let row : ℕ → WireRow = λ sink. wire_row design.source.cells design.source.netlist design.source.count design.source.times driver net sink in
          joined-all IsWireSpelled (λ sink. row sink ∷ []) 0 (length (net_at design.source.netlist net).sinks)
          (λ sink low high.
          let within : sink < length (net_at design.source.netlist net).sinks = omega (arith, high) in
          All-cons IsWireSpelled (row sink) [] (record {
            from = end_spelled net driver (driver_there design.source.cells design.source.netlist slewed.slews.source_is.linked net driver below is)
                (driver_joined design.source.cells design.source.netlist slewed.slews.source_is.linked net driver below is);
            to = end_spelled net (get_or (net_at design.source.netlist net).sinks sink (end.Port 0))
                (sink_there design.source.cells design.source.netlist slewed.slews.source_is.linked net sink below within)
                (sink_joined design.source.cells design.source.netlist slewed.slews.source_is.linked net sink below within);
          }) (All-nil IsWireSpelled))

  path_spelled : (instance arc : ℕ) → instance < length design.source.netlist.instances → IsLiveAt design instance arc 0 → IsPathSpelled (path_row design instance arc)
  path_spelled instance arc there live =
      let at : ArcAt = arc_place instance live.arc in
      let pins = and_parts _ _ live.between in
      let own = cell_arc design.source.netlist design.source.cells at 0 in
      let from = from_on design.source 0 (states_of design 0) at live.edge live.input (net_on design.source.netlist instance own.from) refl in
      let to = to_on design.source 0 (states_of design 0) at live.edge live.input (net_on design.source.netlist instance own.to) refl in
      let from_is : own.from ≡ (arc_in (cell_arcs design instance) arc).from = eqb-true own.from (arc_in (cell_arcs design instance) arc).from pins.0 in
      let to_is : own.to ≡ (arc_in (cell_arcs design instance) arc).to = eqb-true own.to (arc_in (cell_arcs design instance) arc).to pins.1 in
      record {
        instance = instance_spelled instance there;
        from = one_part (subst (λ pin. IsPart (pin_sdf design.source.cells design.source.netlist instance pin)) from_is (pin_spelled instance own.from from.0 from.1));
        to = one_part (subst (λ pin. IsPart (pin_sdf design.source.cells design.source.netlist instance pin)) to_is (pin_spelled instance own.to to.0 to.1));
      }

  paths_of_arc : (instance arc : ℕ) → instance < length design.source.netlist.instances → arc < length (cell_arcs design instance) → All IsPathSpelled (rows_at design instance arc)
  paths_of_arc instance arc there within = by (path_of (cell_arcs design instance) arc == arc) refl (is_some (path_row design instance arc).rise || is_some (path_row design instance arc).fall) refl
    where
      by : (first : Bool) → (path_of (cell_arcs design instance) arc == arc) ≡ first → (delayed : Bool)
          → (is_some (path_row design instance arc).rise || is_some (path_row design instance arc).fall) ≡ delayed
          → All IsPathSpelled (if first then (if delayed then path_row design instance arc ∷ [] else []) else [])
      by true is true also =
          let row : rows_at design instance arc ≡ path_row design instance arc ∷ [] =
          ap (λ b. if b then if_delayed (path_row design instance arc) else []) is ∙ ap (λ b. if b then path_row design instance arc ∷ [] else []) also in
          let first : IsFirstArc design instance arc = record { there = (there, within); first = eqb-true (path_of (cell_arcs design instance) arc) arc is } in
          All-cons IsPathSpelled (path_row design instance arc) [] (path_spelled instance arc there ((live_rows design slewed instance arc 0 first some).1 row)) (All-nil IsPathSpelled)
      by true is false also = All-nil IsPathSpelled
      by false is delayed also = All-nil IsPathSpelled

  all_wires : All IsWireSpelled (wire_rows design.source.cells design.source.netlist design.source.count design.source.times)
  all_wires = joined-all IsWireSpelled (net_rows design.source.cells design.source.netlist design.source.count design.source.times) 0 (length design.source.netlist.nets)
      (λ net low high. wires_of_net net (omega (arith, high)))

  all_paths : All IsPathSpelled (path_rows design)
  all_paths = joined-all IsPathSpelled (instance_rows design) 0 (length design.source.netlist.instances)
      (λ instance low high. joined-all IsPathSpelled (rows_at design instance) 0 (length (cell_arcs design instance))
      (λ arc least most. paths_of_arc instance arc (omega (arith, high)) (omega (arith, most))))

pub spelled_rows : SpelledRows
spelled_rows name design slewed some names = record { wires = all_wires design slewed some names; paths = all_paths design slewed some names }
