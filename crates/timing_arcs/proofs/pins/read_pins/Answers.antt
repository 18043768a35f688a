use Rattle.std.proofs.Common.{rules, ◌≡◌, ◌+◌, ◌++◌, ◌∷◌, [], ◌≤◌, length, take, All, subst, sym, arith}
use Rattle.std.specs.List.{flat_map, AllZip}
use Rattle.liberty_groups.specs.Tables.{tree_of}
use Rattle.timing_arcs.specs.PinModel.{IsPin}
use Rattle.timing_arcs.specs.PinReadings.{IsReadingOf}
use Rattle.timing_arcs.specs.PinTable.{entries_in, entry_at}
use Rattle.timing_arcs.specs.CellFaults.{pin_questions, IsSound, IsRefusal}
use Rattle.liberty_tables.proofs.Fronts.{zip_at, all_taken}
use Rattle.timing_arcs.proofs.PinLemmas.{entry_here, entries_length}
use Rattle.timing_arcs.proofs.Refusals.{refused_part, sound_part, handed_on}
use Rattle.timing_arcs.proofs.pins.read_pins.Goals as goal

pub returns-in_err-reading-clause-refused : goal.returns-in_err-reading-clause-refused
returns-in_err-reading-clause-refused c =
    let tree = c.args.tree.now in
    let entries = entries_in tree c.args.table.now.names c.args.table.now.groups.items in
    let here = entry_here tree c.args.table.now.names c.args.table.now.groups.items c.loop-place.place c.name-name.result.now c.group.result c.name-name.ensures c.group.ensures in
    handed_on c.from_residual.result c.in_err-reading.field-0.0 (IsRefusal (tree_of tree) (flat_map pin_questions entries)) c.from_residual.ensures.1
    (refused_part pin_questions entries c.loop-place.place (entry_at tree c.name-name.result.now c.group.result) here c.loop-place.invariant.sound (c.in_err-reading.ensures.refused c.name-name.result.now))

pub loop-place-preserved : goal.loop-place-preserved
loop-place-preserved c =
    let tree = c.args.tree.now in
    let entries = entries_in tree c.args.table.now.names c.args.table.now.groups.items in
    let here = entry_here tree c.args.table.now.names c.args.table.now.groups.items c.loop-place.place c.name-name.result.now c.group.result c.name-name.ensures c.group.ensures in
    let reading = c.in_ok-reading.ensures.ok in
    let pin = c.in_ok-pin.ensures tree c.group.result reading in
    let pushed : c.push.new.self.items ≡ c.loop-place.pins.items ++ c.in_ok-pin.pin ∷ [] = search rules in
    record {
      pins = subst (λ l. AllZip (IsPin (tree_of tree)) (take (c.loop-place.place + 1) entries) l) (sym pushed)
          (zip_at (IsPin (tree_of tree)) entries c.loop-place.pins.items c.loop-place.place (entry_at tree c.name-name.result.now c.group.result) c.in_ok-pin.pin here c.loop-place.invariant.pins pin);
      sound = sound_part pin_questions entries c.loop-place.place (entry_at tree c.name-name.result.now c.group.result) here c.loop-place.invariant.sound (reading.sound c.name-name.result.now);
      last = subst (λ id. IsReadingOf tree id c.in_ok-reading.reading) (sym reading.group) reading;
    }

pub returns-clause-ok : goal.returns-clause-ok
returns-clause-ok c =
    let tree = c.args.tree.now in
    let entries = entries_in tree c.args.table.now.names c.args.table.now.groups.items in
    let long = entries_length tree c.args.table.now.names c.args.table.now.groups.items c.requires.even in
    let past : length entries ≤ c.loop-place.place = omega (arith, long, c.loop-place-test.false) in
    subst (λ l. AllZip (IsPin (tree_of tree)) l c.loop-place.pins.items) (all_taken entries c.loop-place.place past) c.loop-place.invariant.pins

pub returns-clause-sound : goal.returns-clause-sound
returns-clause-sound c =
    let tree = c.args.tree.now in
    let entries = entries_in tree c.args.table.now.names c.args.table.now.groups.items in
    let long = entries_length tree c.args.table.now.names c.args.table.now.groups.items c.requires.even in
    let past : length entries ≤ c.loop-place.place = omega (arith, long, c.loop-place-test.false) in
    subst (λ l. All (IsSound (tree_of tree)) (flat_map pin_questions l)) (all_taken entries c.loop-place.place past) c.loop-place.invariant.sound
