-- The row of the name, if it has one.
use Rattle.std.proofs.Common.{◌≡◌, ℕ, List, map, set, sym, subst, arith, ◌+◌, ◌<◌, ◌≤◌, length}
use Rattle.std.specs.List.{position_or_len}
use Rattle.std.specs.Str.{bytes_eq}
use Rattle.std.proofs.lemmas.List.{length-map}
use Rattle.token_texts.specs.Spans.{text_at}
use Rattle.verilog_netlist.specs.NameRows.{keys_of, view_row, NotesEntry}
use Rattle.verilog_netlist.specs.declared.entries.Entry.{Entry}
use Rattle.verilog_netlist.specs.declared.name_text.NameText.{NameText}
use Rattle.verilog_netlist.proofs.Naming.{found_some, found_none, row_noted, none_noted}
use Rattle.verilog_netlist.proofs.net_names.note.Goals as goal

pub returns-in-Some : goal.returns-in-Some
returns-in-Some c =
    let bytes : List ℕ = c.args.bytes.now in
    let texts : List (List ℕ) = keys_of c.args.texts.now.keys in
    let number : ℕ = c.in-Some.number in
    let found = found_some c.of.result.now c.args.texts.now.keys c.find_text.result c.find_text.ensures number c.in-Some.is in
    let place = subst (λ (t : List ℕ). (position_or_len (bytes_eq t) texts < length texts) × (number ≡ position_or_len (bytes_eq t) texts)) c.of.ensures found in
    let within : c.args.from + number < length c.args.rows.now.items = let n = place.1 in let l = place.0 in let m = length-map c.args.texts.now.keys (λ (k : NameText). k.bytes.now) in let r = c.requires.rows in omega arith in
    subst (λ (e : Entry). NotesEntry bytes texts c.args.from e (map view_row c.args.rows.now.items) (map view_row (set c.args.rows.now.items (c.args.from + number) c.noted.result))) (sym c.in-Declared.is)
    (row_noted texts c.args.from (text_at bytes c.in-Declared.name) (record { by = c.in-Declared.by; range = c.in-Declared.range }) c.args.rows.now.items number c.index-row.result.now c.noted.result within place c.index-row.ensures c.noted.ensures)

pub returns-in_default-find_text : goal.returns-in_default-find_text
returns-in_default-find_text c =
    let bytes : List ℕ = c.args.bytes.now in
    let texts : List (List ℕ) = keys_of c.args.texts.now.keys in
    let none = found_none c.of.result.now c.args.texts.now.keys c.find_text.result c.find_text.ensures c.in_default-find_text.is in
    let past = subst (λ (t : List ℕ). length texts ≤ position_or_len (bytes_eq t) texts) c.of.ensures none in
    subst (λ (e : Entry). NotesEntry bytes texts c.args.from e (map view_row c.args.rows.now.items) (map view_row c.args.rows.now.items)) (sym c.in-Declared.is)
    (none_noted texts c.args.from (text_at bytes c.in-Declared.name) (record { by = c.in-Declared.by; range = c.in-Declared.range }) c.args.rows.now.items past)
