-- A port goes among the ports, and any other name into the table.
use Rattle.std.proofs.Common.{ℕ, List, sym, ap, ◌∙◌}
use Rattle.std.specs.List.{list_any}
use Rattle.std.specs.Str.{bytes_eq}
use Rattle.indexmap.specs.IndexSet.{insert_key}
use Rattle.token_texts.specs.Spans.{text_at}
use Rattle.verilog_netlist.specs.Namespaces.{name_of}
use Rattle.verilog_netlist.specs.NameKeys.{keys_in, key_of, holds, with_key}
use Rattle.verilog_netlist.proofs.Repeating.{held_port, added_port, held_other, added_other}
use Rattle.verilog_netlist.proofs.repeats.NamesSoFar.add.Goals as goal

pub returns-then-is_ports-clause-held : goal.returns-then-is_ports-clause-held
returns-then-is_ports-clause-held c =
    let text = c.of-name.ensures ∙ ap (text_at c.args.bytes.now) c.name.ensures in
    held_port c.args.among c.in-Some.among c.in-Some.is c.args.scopes (text_at c.args.bytes.now (name_of c.args.entry)) (keys_in c.args.self.now.keys.keys) c.args.self.now.ports
    (sym c.is_ports.ensures ∙ c.if-is_ports.true) c.in_ok-is_held.is_held (c.in_ok-is_held.ensures.held ∙ ap (λ (t : List ℕ). list_any (bytes_eq t) c.args.self.now.ports) text)

pub returns-then-is_ports-clause-names : goal.returns-then-is_ports-clause-names
returns-then-is_ports-clause-names c key =
    let text = c.of-name.ensures ∙ ap (text_at c.args.bytes.now) c.name.ensures in
    added_port c.args.among c.in-Some.among c.in-Some.is c.args.scopes (text_at c.args.bytes.now (name_of c.args.entry)) (keys_in c.args.self.now.keys.keys) c.args.self.now.ports
    (sym c.is_ports.ensures ∙ c.if-is_ports.true) c.add.new.self (c.in_ok-is_held.ensures.names ∙ ap (insert_key bytes_eq c.args.self.now.ports) text) key

pub returns-clause-held : goal.returns-clause-held
returns-clause-held c =
    let text = c.of-name.ensures ∙ ap (text_at c.args.bytes.now) c.name.ensures in
    held_other c.args.among c.in-Some.among c.in-Some.is c.args.scopes (text_at c.args.bytes.now (name_of c.args.entry)) (keys_in c.args.self.now.keys.keys) c.args.self.now.ports
    (sym c.is_ports.ensures ∙ c.if-is_ports.false) c.in_ok-is_held-2.is_held
    (c.in_ok-is_held-2.ensures.held ∙ ap (λ (t : List ℕ). holds (keys_in c.args.self.now.keys.keys) (key_of c.in-Some.among c.args.scopes t)) text)

pub returns-clause-names : goal.returns-clause-names
returns-clause-names c key =
    let text = c.of-name.ensures ∙ ap (text_at c.args.bytes.now) c.name.ensures in
    added_other c.args.among c.in-Some.among c.in-Some.is c.args.scopes (text_at c.args.bytes.now (name_of c.args.entry)) (keys_in c.args.self.now.keys.keys) c.args.self.now.ports
    (sym c.is_ports.ensures ∙ c.if-is_ports.false) (keys_in c.add_key.new.keys.keys)
    (λ k. c.in_ok-is_held-2.ensures.keys k ∙ ap (λ (t : List ℕ). with_key (holds (keys_in c.args.self.now.keys.keys)) (key_of c.in-Some.among c.args.scopes t) k) text) key
