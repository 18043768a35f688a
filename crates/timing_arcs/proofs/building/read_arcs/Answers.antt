use Rattle.std.proofs.Common.{rules, ◌≡◌, ◌<◌, ◌≤◌, ◌+◌, ◌-◌, [], length, take, drop, slice_get, subst, sym, ap, ◌∙◌, arith}
use Rattle.std.specs.List.{flat_map}
use Rattle.liberty_groups.specs.Tables.{tree_of}
use Rattle.timing_arcs.specs.PinModel.{PinEntry, IsPin}
use Rattle.timing_arcs.specs.PinTable.{entries_in}
use Rattle.timing_arcs.specs.DelayGroups.{arcs_in, delays_in}
use Rattle.timing_arcs.specs.CellFaults.{delay_questions, IsRefusal}
use Rattle.timing_arcs.specs.LibraryBasis.{AreAdded}
use Rattle.timing_arcs.specs.CopiedArcs.{AreArcsTo}
use Rattle.timing_arcs.proofs.Refusals.{refused_part}
use Rattle.timing_arcs.proofs.PlaceLemmas.{got_below}
use Rattle.timing_arcs.proofs.AddingLemmas.{nothing_added, added_part, added_all, parts_in_parts}
use Rattle.timing_arcs.proofs.ModelLemmas.{arcs_of_all}
use Rattle.timing_arcs.proofs.CopiedLemmas.{arcs_behind}
use Rattle.liberty_tables.proofs.Fronts.{some_is, zip_length}
use Rattle.timing_arcs.proofs.building.read_arcs.Goals as goal

pub loop-to-init : goal.loop-to-init
loop-to-init c = record {
  added = subst (AreAdded (tree_of c.args.cell.now.tree) c.args.cell.now.names [] [] []) (sym c.new-arcs.ensures.items) (nothing_added (tree_of c.args.cell.now.tree) c.args.cell.now.names []);
  last = λ none. absurd (omega (arith, none));
}

pub returns-in-Err-clause-refused : goal.returns-in-Err-clause-refused
returns-in-Err-clause-refused c =
    let entries = entries_in c.args.cell.now.tree c.args.cell.now.names c.args.cell.now.groups in
    let its = c.pin_count-to-end.ensures.reading in
    let count = c.pin_count-to-end.ensures.count in
    let long = zip_length (IsPin (tree_of c.args.cell.now.tree)) entries c.args.cell.now.pins its.pins in
    let test = c.loop-to-test.true in
    let below : c.loop-to.to < length entries = omega (arith, long, count, test) in
    let entry = got_below entries c.loop-to.to below in
    let asks = λ (x : PinEntry). flat_map (delay_questions entries) (delays_in x) in
    subst (λ l. IsRefusal (tree_of c.args.cell.now.tree) l c.in-Err.fault) (parts_in_parts (delay_questions entries) delays_in entries)
    (refused_part asks entries c.loop-to.to entry.0 entry.1 c.loop-to.invariant.added.sound (c.in-Err.ensures.refused entry.0 entry.1))

pub loop-to-preserved : goal.loop-to-preserved
loop-to-preserved c =
    let library = tree_of c.args.cell.now.tree in
    let names = c.args.cell.now.names in
    let entries = entries_in c.args.cell.now.tree names c.args.cell.now.groups in
    let its = c.pin_count-to-end.ensures.reading in
    let count = c.pin_count-to-end.ensures.count in
    let long = zip_length (IsPin library) entries c.args.cell.now.pins its.pins in
    let test = c.loop-to-test.true in
    let below : c.loop-to.to < length entries = omega (arith, long, count, test) in
    let entry = got_below entries c.loop-to.to below in
    let of = λ (x : PinEntry). flat_map (arcs_in entries) (delays_in x) in
    let added = c.in-Ok.ensures.ok entry.0 entry.1 in
    let place : c.loop-to.to + 1 - 1 ≡ c.loop-to.to = omega arith in
    let start : length c.loop-to.arcs.items ≡ c.len-next.result = search rules in
    record {
      added = added_part library names of (λ (x : PinEntry). flat_map (delay_questions entries) (delays_in x)) entries c.loop-to.to entry.0
          [] c.loop-to.arcs.items c.add_next_arcs.new.arcs.items entry.1 c.loop-to.invariant.added added;
      last = λ some other e.
          subst (λ from. AreArcsTo library names entries other (drop from c.add_next_arcs.new.arcs.items)) start
          (subst (λ (x : PinEntry). AreArcsTo library names entries x (drop (length c.loop-to.arcs.items) c.add_next_arcs.new.arcs.items))
          (some_is entry.0 other (sym entry.1 ∙ ap (slice_get entries) (sym place) ∙ e))
          (arcs_behind library names entries entry.0 (flat_map of (take c.loop-to.to entries)) c.loop-to.arcs.items c.add_next_arcs.new.arcs.items (c.loop-to.invariant.added.arcs [] tt) added));
    }

pub returns-clause-ok : goal.returns-clause-ok
returns-clause-ok c =
    let entries = entries_in c.args.cell.now.tree c.args.cell.now.names c.args.cell.now.groups in
    let its = c.pin_count-to-end.ensures.reading in
    let count = c.pin_count-to-end.ensures.count in
    let long = zip_length (IsPin (tree_of c.args.cell.now.tree)) entries c.args.cell.now.pins its.pins in
    let ends = c.loop-to-test.false in
    let past : length entries ≤ c.loop-to.to = omega (arith, long, count, ends) in
    arcs_of_all (tree_of c.args.cell.now.tree) c.args.cell.now.names entries c.loop-to.arcs.items
    (added_all (tree_of c.args.cell.now.tree) c.args.cell.now.names (λ (x : PinEntry). flat_map (arcs_in entries) (delays_in x)) (λ (x : PinEntry). flat_map (delay_questions entries) (delays_in x)) entries c.loop-to.to [] c.loop-to.arcs.items past c.loop-to.invariant.added)
