-- The values of rows may be printed.
use Rattle.std.proofs.Common.{ℕ, zero, suc, ◌+◌, ◌^◌, ◌<◌, ◌≤◌, ◌==◌, ◌||◌, Bool, true, false, if◌then◌else◌, ap, sym, refl, subst, List, [], ◌∷◌, length, map, Option, Some, None, is_some, ℤ, pos, negsuc, unsigned_abs, ◌≤ℤ◌, inl, inr, arith}
use Rattle.std.specs.Prelude.{All}
use Rattle.std.specs.List.{range_with_len}
use Rattle.std.proofs.lemmas.Bool.{cases_lt}
use Rattle.std.proofs.lemmas.Int.{ints}
use Rattle.std.proofs.lemmas.List.{get_or_past}
use Rattle.std.proofs.lemmas.List.Elements.{All-nil, All-cons, All-get_or}
use Rattle.std.proofs.lemmas.List.FromFn.{length-map-range_with_len}
use Rattle.cell_models.specs.declared.edge.Edge.{Edge}
use Rattle.cell_models.specs.declared.edge.Edge.TheVariants.{Rise, Fall}
use Rattle.corner_set.specs.Places.{place}
use Rattle.delay_units.specs.Rounding.{IsRounding}
use Rattle.delay_units.specs.declared.Femto.{Femto}
use Rattle.hierarchy.specs.WalkLaws.{joined-all}
use Rattle.netlist_link.specs.FlatNetlist.{net_at}
use Rattle.netlist_link.specs.declared.ends.End.{End}
use Rattle.sdf_writer.specs.Bounds.{AreWithin}
use Rattle.sdf_writer.specs.PathRows.{IsEdge}
use Rattle.slew_order.specs.FlatArcs.{arc_count}
use Rattle.slew_order.specs.LivePaths.{is_between}
use Rattle.net_delays.specs.NetTimes.{elmore_at, elmore_limit, start_in}
use Rattle.annotation_rows.specs.CellPaths.{arc_in, path_of}
use Rattle.annotation_rows.specs.PathRows.{TimedDesign, IsPrinted, all_times, arc_delay, cell_arcs, delay_of_path, edge_delays, instance_rows, path_row, path_rows, rows_at, states_of, with_time}
use Rattle.annotation_rows.specs.PrintedRows.{IsWirePrinted, IsPathPrinted, PrintedRows}
use Rattle.annotation_rows.specs.WireRows.{femto_of, net_rows, rows_from, wire_row, wire_rows}
use Rattle.annotation_rows.proofs.ArcDelays.{printed}
use Rattle.annotation_rows.proofs.EdgeRows.{one_of, printed_from}
use Rattle.slew_order.proofs.LookupValues.{half_up_rounds}

time_small : (elmore : ℕ) (time : ℤ) → elmore < elmore_limit → IsRounding (pos elmore) (pos (10 ^ 12)) time → unsigned_abs time ≤ 10 ^ 27
time_small elmore (pos time) small rounded = let least = rounded.least in omega (arith, ints, least, small)
time_small elmore (negsuc time) small rounded = let most = rounded.most in omega (arith, ints, most)

femto_small : (elmore : ℕ) → elmore < elmore_limit → unsigned_abs (femto_of elmore).0 ≤ 10 ^ 27
femto_small elmore small =
    let one : pos 1 ≤ℤ pos (10 ^ 12) = omega (arith, ints) in
    time_small elmore (femto_of elmore).0 small (half_up_rounds (pos elmore) (pos (10 ^ 12)) one)

within_from : (time : ℕ → Femto) (from n : ℕ) → ((k : ℕ) → unsigned_abs (time k).0 ≤ 10 ^ 27) → AreWithin (map time (range_with_len from n))
within_from time from zero each = tt
within_from time from (suc n) each = (each from, within_from time (from + 1) n each)

-- the times of an edge, by one corner more
edge_with : (value : ℤ) (times : Option (List Femto)) (n : ℕ) → unsigned_abs value ≤ 10 ^ 27 → IsEdge n times → IsEdge (suc n) (with_time value times)
edge_with value None n small edge = tt
edge_with value (Some times) n small edge = (ap suc edge.0, (small, edge.1))

edge_cons : (first : Option ℤ) (behind : List (Option ℤ)) (n : ℕ) → IsPrinted first → IsEdge n (all_times behind) → IsEdge (suc n) (all_times (first ∷ behind))
edge_cons None behind n small edge = tt
edge_cons (Some value) behind n small edge = edge_with value (all_times behind) n small edge

edge_from : (delay : ℕ → Option ℤ) (from n : ℕ) → ((k : ℕ) → IsPrinted (delay k)) → IsEdge n (all_times (map delay (range_with_len from n)))
edge_from delay from zero each = (refl, tt)
edge_from delay from (suc n) each = edge_cons (delay from) (map delay (range_with_len (from + 1) n)) n (each from) (edge_from delay (from + 1) n each)

module _ (design : TimedDesign) where
  edge_printed : (instance arc : ℕ) (edge : Edge) → IsEdge design.source.count (edge_delays design instance arc edge)
  edge_printed instance arc edge =
      edge_from (delay_of_path design instance arc edge) 0 design.source.count
      (λ corner. printed_from (λ k. if is_between design.source corner (states_of design corner) instance (arc_in (cell_arcs design instance) arc).from (arc_in (cell_arcs design instance) arc).to k
      then arc_delay design instance k edge corner else None) 0 (arc_count design.source.netlist design.source.cells instance)
      (λ k. one_of (is_between design.source corner (states_of design corner) instance (arc_in (cell_arcs design instance) arc).from (arc_in (cell_arcs design instance) arc).to k)
      (arc_delay design instance k edge corner) None (printed design instance k edge corner) tt))

  path_printed : (instance arc : ℕ) → All (IsPathPrinted design.source.count) (rows_at design instance arc)
  path_printed instance arc = by (path_of (cell_arcs design instance) arc == arc) (is_some (edge_delays design instance arc Rise) || is_some (edge_delays design instance arc Fall))
    where
      by : (first delayed : Bool) → All (IsPathPrinted design.source.count) (if first then (if delayed then path_row design instance arc ∷ [] else []) else [])
      by true true = All-cons (IsPathPrinted design.source.count) (path_row design instance arc) []
          (record { rise = edge_printed instance arc Rise; fall = edge_printed instance arc Fall }) (All-nil (IsPathPrinted design.source.count))
      by true false = All-nil (IsPathPrinted design.source.count)
      by false delayed = All-nil (IsPathPrinted design.source.count)

  all_paths : All (IsPathPrinted design.source.count) (path_rows design)
  all_paths = joined-all (IsPathPrinted design.source.count) (instance_rows design) 0 (length design.source.netlist.instances)
      (λ instance low high. joined-all (IsPathPrinted design.source.count) (rows_at design instance) 0 (length (cell_arcs design instance)) (λ arc least most. path_printed instance arc))

  module _ (small : All (λ elmore. elmore < elmore_limit) design.source.times.elmores) where
    elmore_small : (net sink corner : ℕ) → elmore_at design.source.count design.source.times net sink corner < elmore_limit
    elmore_small net sink corner =
        let at : ℕ = place design.source.count (start_in design.source.times.starts net + sink) corner in
        elim (cases_lt at (length design.source.times.elmores)) [
          | inl within ↦ All-get_or (λ elmore. elmore < elmore_limit) design.source.times.elmores at 0 within small
          | inr past ↦ subst (λ elmore. elmore < elmore_limit) (sym (get_or_past design.source.times.elmores at 0 past)) (omega arith)
        ]

    wire_printed : (driver : End) (net sink : ℕ) → IsWirePrinted design.source.count (wire_row design.source.cells design.source.netlist design.source.count design.source.times driver net sink)
    wire_printed driver net sink =
        let time : ℕ → Femto = λ corner. femto_of (elmore_at design.source.count design.source.times net sink corner) in
        record {
          one_row = length-map-range_with_len time 0 design.source.count;
          within = within_from time 0 design.source.count (λ corner. femto_small (elmore_at design.source.count design.source.times net sink corner) (elmore_small net sink corner));
        }

    net_printed : (net : ℕ) → All (IsWirePrinted design.source.count) (net_rows design.source.cells design.source.netlist design.source.count design.source.times net)
    net_printed net = by (net_at design.source.netlist net).driver
      where
        by : (driver : Option End) → All (IsWirePrinted design.source.count) (rows_from design.source.cells design.source.netlist design.source.count design.source.times driver net)
        by None = All-nil (IsWirePrinted design.source.count)
        by (Some driver) =
            joined-all (IsWirePrinted design.source.count) (λ sink. wire_row design.source.cells design.source.netlist design.source.count design.source.times driver net sink ∷ [])
            0 (length (net_at design.source.netlist net).sinks)
            (λ sink low high. All-cons (IsWirePrinted design.source.count) (wire_row design.source.cells design.source.netlist design.source.count design.source.times driver net sink) []
            (wire_printed driver net sink) (All-nil (IsWirePrinted design.source.count)))

    all_wires : All (IsWirePrinted design.source.count) (wire_rows design.source.cells design.source.netlist design.source.count design.source.times)
    all_wires = joined-all (IsWirePrinted design.source.count) (net_rows design.source.cells design.source.netlist design.source.count design.source.times) 0 (length design.source.netlist.nets)
        (λ net low high. net_printed net)

pub printed_rows : PrintedRows
printed_rows name design small = record { wires = all_wires design small; paths = all_paths design }
