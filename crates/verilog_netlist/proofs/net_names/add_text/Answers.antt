-- A name that is put in.
use Rattle.std.proofs.Common.{sym, ap, ◌∙◌}
use Rattle.std.specs.Str.{bytes_eq}
use Rattle.indexmap.specs.IndexSet.{insert_key, insert_all}
use Rattle.token_texts.specs.Spans.{text_at}
use Rattle.verilog_netlist.specs.NameRows.{keys_of}
use Rattle.verilog_netlist.proofs.Naming.{text_inserted, texts_yes}
use Rattle.verilog_netlist.proofs.net_names.add_text.Goals as goal

pub returns-in-Ok : goal.returns-in-Ok
returns-in-Ok c =
    let text = c.of.ensures ∙ ap (text_at c.args.bytes.now) c.name.ensures in
    text_inserted c.args.texts.now.keys c.insert.new.self.keys (record { bytes = c.of.result }) c.in-Ok.ensures.keys
    ∙ ap (insert_key bytes_eq (keys_of c.args.texts.now.keys)) text
    ∙ sym (ap (insert_all bytes_eq (keys_of c.args.texts.now.keys)) (texts_yes c.args.bytes.now c.args.group c.args.entry (sym c.is_in.ensures ∙ c.if-is_in.true)))
