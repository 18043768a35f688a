-- A name without a row gets one, and one that has a row keeps it.
use Rattle.std.proofs.Common.{◌≡◌, sym, ap, ◌∙◌, subst}
use Rattle.indexmap.specs.IndexMap.{insert_entry}
use Rattle.indexmap.proofs.CallerLemmas.{insert_entry-new}
use Rattle.verilog_netlist.specs.NameKeys.{Key, key_in, same_key}
use Rattle.verilog_netlist.specs.DeclaredNames.{Rows, declared_key, AddsRow}
use Rattle.verilog_netlist.specs.declared.repeats.NameKey.{NameKey}
use Rattle.verilog_netlist.proofs.Ranging.{adds_new, adds_none, put_back}
use Rattle.verilog_netlist.proofs.declared.DeclaredNames.add.Goals as goal

pub returns-in_default-before-clause-rows : goal.returns-in_default-before-clause-rows
returns-in_default-before-clause-rows c =
    let key : NameKey = c.declared_key-key.result in
    let none = sym c.in-Ok.ensures.old ∙ c.in_default-before.is in
    let new = insert_entry-new (λ (one other : NameKey). same_key (key_in one) (key_in other)) c.args.self.now.rows key c.args.declaration none in
    subst (λ (k : Key). AddsRow c.args.self.now.rows.entries c.insert.new.self.entries k c.args.declaration) c.declared_key-key.ensures
    (adds_new c.args.self.now.rows.entries c.insert.new.self.entries key c.args.declaration (c.in-Ok.ensures.entries ∙ new))

pub returns-in-Ok-insert-clause-rows : goal.returns-in-Ok-insert-clause-rows
returns-in-Ok-insert-clause-rows c =
    let key : NameKey = c.declared_key-key.result in
    let eq = λ (one other : NameKey). same_key (key_in one) (key_in other) in
    let old : Rows = c.args.self.now.rows.entries in
    let found = sym c.in-Ok.ensures.old ∙ c.in-Some.is in
    let same : c.insert-2.new.self.entries ≡ old =
    c.in-Ok-insert.ensures.entries ∙ ap (λ (rows : Rows). insert_entry eq rows key c.in-Some.first) c.in-Ok.ensures.entries ∙ put_back eq key c.args.declaration c.in-Some.first old found in
    subst (λ (rows : Rows). AddsRow old rows (declared_key c.args.scope c.args.name.now) c.args.declaration) (sym same)
    (subst (λ (k : Key). AddsRow old old k c.args.declaration) c.declared_key-key.ensures (adds_none old (key_in key) c.in-Some.first c.args.declaration found))
