use Rattle.std.proofs.Common.{sym, ◌∙◌}
use Rattle.liberty_groups.specs.Tables.{tree_of}
use Rattle.liberty_tables.proofs.Fronts.{zip_length}
use Rattle.timing_arcs.specs.PinModel.{IsPin}
use Rattle.timing_arcs.specs.PinTable.{entries_in}
use Rattle.timing_arcs.proofs.PinLemmas.{entries_length}
use Rattle.timing_arcs.proofs.cell_reading.CellReading.new.Goals as goal

pub invariant_of-result : goal.invariant_of-result
invariant_of-result c =
    let names = c.args.table.now.names in
    let ids = c.args.table.now.groups.items in
    let zipped = zip_length (IsPin (tree_of c.args.tree.now)) (entries_in c.args.tree.now names ids) c.args.pins.now c.requires.pins in (
      c.requires.basis,
      record {
        known = c.requires.basis.known;
        even = c.requires.even;
        counted = sym (entries_length c.args.tree.now names ids c.requires.even) ∙ zipped;
        within = c.requires.within;
        pins = c.requires.pins;
      },
    )
