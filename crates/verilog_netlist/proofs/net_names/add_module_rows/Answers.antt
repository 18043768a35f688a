-- What one entry more says of the names.
use Rattle.std.proofs.Common.{◌≡◌, ◌++◌, ℕ, List, take, map, length, sym, ap, ◌∙◌}
use Rattle.std.proofs.lemmas.List.{take_more, length-map}
use Rattle.verilog_netlist.specs.NameRows.{Facts, keys_of, view_row, facts_in}
use Rattle.verilog_netlist.specs.PartPlaces.{no_entry, entry_at}
use Rattle.verilog_netlist.specs.declared.entries.Entry.{Entry}
use Rattle.verilog_netlist.proofs.Naming.{entry_noted}
use Rattle.verilog_netlist.proofs.net_names.add_module_rows.Goals as goal

pub loop-entry-preserved : goal.loop-entry-preserved
loop-entry-preserved c =
    let bytes : List ℕ = c.args.bytes.now in
    let entries : List Entry = c.args.entries.now in
    let n : ℕ = c.loop-entry.entry-index in
    let before : List Facts = map view_row c.args.rows.now.items in
    let from : length before ≡ c.len-from.result = length-map c.args.rows.now.items view_row ∙ sym c.args.rows.now.ok.0 ∙ sym c.len-from.ensures in
    let e : Entry = entry_at entries n in
    entry_noted bytes (take n entries) (keys_of c.args.texts.now.keys) c.requires before c.len-from.result from e (map view_row c.loop-entry.rows.items) (map view_row c.note-guess.new.rows.items) c.loop-entry.invariant c.note-guess.ensures
    ∙ ap (λ (l : List Entry). before ++ map (facts_in bytes l) (keys_of c.args.texts.now.keys)) (sym (take_more entries n no_entry c.loop-entry-test.true))
