-- A key that is put in, and whether it was there.
use Rattle.std.proofs.Common.{◌≡◌, ℕ, ap, ap₂, ◌∙◌}
use Rattle.verilog_netlist.specs.NameKeys.{Key, key_in, keys_in, key_of, holds, with_key}
use Rattle.verilog_netlist.specs.declared.repeats.NameKey.{NameKey}
use Rattle.verilog_netlist.proofs.Repeating.{is_new, inserted}
use Rattle.verilog_netlist.proofs.repeats.add_key.Goals as goal

pub returns-in-Ok-clause-held : goal.returns-in-Ok-clause-held
returns-in-Ok-clause-held c =
    let key : NameKey = record { code = c.code_of.result; scope = c.of.result; name = record { bytes = c.args.name } } in
    let same : key_in key ≡ key_of c.args.among c.args.scopes c.args.name.now =
    ap₂ (λ (a s : ℕ). record { code = a; scope = s; name = c.args.name.now }) c.code_of.ensures c.of.ensures in
    is_new key c.args.keys.now.keys c.in-Ok.is_new c.in-Ok.ensures.added ∙ ap (λ (k : Key). holds (keys_in c.args.keys.now.keys) k) same

pub returns-in-Ok-clause-keys : goal.returns-in-Ok-clause-keys
returns-in-Ok-clause-keys c asked =
    let key : NameKey = record { code = c.code_of.result; scope = c.of.result; name = record { bytes = c.args.name } } in
    let same : key_in key ≡ key_of c.args.among c.args.scopes c.args.name.now =
    ap₂ (λ (a s : ℕ). record { code = a; scope = s; name = c.args.name.now }) c.code_of.ensures c.of.ensures in
    inserted c.args.keys.now.keys key c.insert_full.new.self.keys c.in-Ok.ensures.keys asked
    ∙ ap (λ (k : Key). with_key (holds (keys_in c.args.keys.now.keys)) k asked) same
