-- What is asked for, as a key.
use Rattle.std.proofs.Common.{◌≡◌, ℕ, List, not, sym, ap, ap₂, ◌∙◌, Option}
use Rattle.token_texts.specs.Spans.{text_at}
use Rattle.verilog_netlist.specs.Namespaces.{name_of}
use Rattle.verilog_netlist.specs.NameKeys.{Key, key_in, keys_in, key_of, holds, is_lacking}
use Rattle.verilog_netlist.specs.declared.namespaces.Names.{Names}
use Rattle.verilog_netlist.specs.declared.repeats.NameKey.{NameKey}
use Rattle.verilog_netlist.proofs.Repeating.{any_key}
use Rattle.verilog_netlist.proofs.repeats.NamesSoFar.lacks.Goals as goal

pub returns-in-Some : goal.returns-in-Some
returns-in-Some c =
    let key : NameKey = record { code = c.code_of.result; scope = c.of.result; name = record { bytes = c.of-in-Some.result } } in
    let text : List ℕ = text_at c.args.bytes.now (name_of c.args.entry) in
    let same : key_in key ≡ key_of c.in-Some.among c.args.scopes text =
    ap₂ (λ (a s : ℕ). record { code = a; scope = s; name = c.of-in-Some.result.now }) c.code_of.ensures c.of.ensures
    ∙ ap (λ (t : List ℕ). key_of c.in-Some.among c.args.scopes t) (c.of-in-Some.ensures ∙ ap (text_at c.args.bytes.now) c.name.ensures) in
    ap not (c.contains.ensures ∙ any_key key c.args.self.now.keys.keys ∙ ap (λ (k : Key). holds (keys_in c.args.self.now.keys.keys) k) same)
    ∙ sym (ap (λ (a : Option Names). is_lacking a c.args.scopes text (keys_in c.args.self.now.keys.keys)) (sym c.needed_names.ensures ∙ c.in-Some.is))
