-- The name that an entry joins.
use Rattle.std.proofs.Common.{◌≡◌, ℕ, List, sym, ap, ◌∙◌}
use Rattle.std.specs.List.{position_or_len}
use Rattle.std.specs.Str.{bytes_eq}
use Rattle.indexmap.specs.IndexSet.{insert_key}
use Rattle.token_texts.specs.Spans.{text_at}
use Rattle.verilog_netlist.specs.Namespaces.{name_of}
use Rattle.verilog_netlist.specs.NameRows.{keys_of, text_number}
use Rattle.verilog_netlist.proofs.Naming.{joined_yes, number_joined}
use Rattle.verilog_netlist.proofs.net_names.join_text.Goals as goal

pub returns-then-is_in-clause-texts : goal.returns-then-is_in-clause-texts
returns-then-is_in-clause-texts c =
    let text = c.of.ensures ∙ ap (text_at c.args.bytes.now) c.name.ensures in
    c.in_ok-number.ensures.texts
    ∙ ap (insert_key bytes_eq (keys_of c.args.texts.now.keys)) text
    ∙ sym (joined_yes c.args.bytes.now (keys_of c.args.texts.now.keys) c.args.entry (sym c.is_in.ensures ∙ c.if-is_in.true))

pub returns-then-is_in-clause-number : goal.returns-then-is_in-clause-number
returns-then-is_in-clause-number c =
    let texts : List (List ℕ) = keys_of c.args.texts.now.keys in
    let text = c.of.ensures ∙ ap (text_at c.args.bytes.now) c.name.ensures in
    let after : keys_of c.number_text.new.texts.keys ≡ insert_key bytes_eq texts (text_at c.args.bytes.now (name_of c.args.entry)) =
    c.in_ok-number.ensures.texts ∙ ap (insert_key bytes_eq texts) text in
    c.in_ok-number.ensures.number
    ∙ ap (λ (t : List ℕ). position_or_len (bytes_eq t) texts) text
    ∙ number_joined c.args.bytes.now texts c.args.entry (sym c.is_in.ensures ∙ c.if-is_in.true)
    ∙ ap (λ (l : List (List ℕ)). text_number c.args.bytes.now l c.args.entry) (sym after)
