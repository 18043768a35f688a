-- A port among the few, one more of them, or one of the others.
use Rattle.std.proofs.Common.{◌≡◌, ℕ, List, ◌++◌, refl, sym, ap, ◌∙◌, subst}
use Rattle.std.specs.List.{list_any}
use Rattle.std.specs.Str.{bytes_eq}
use Rattle.indexmap.specs.IndexSet.{insert_key}
use Rattle.verilog_netlist.specs.NameRows.{keys_of}
use Rattle.verilog_netlist.specs.declared.name_text.NameText.{NameText}
use Rattle.verilog_netlist.proofs.Ports.{among, listed, pushed, put}
use Rattle.verilog_netlist.proofs.port_names.PortNames.add.Goals as goal

pub returns-then-is_listed-clause-held : goal.returns-then-is_listed-clause-held
returns-then-is_listed-clause-held c =
    let name : NameText = record { bytes = c.args.name } in
    (listed c.self.inside.few.items c.self.inside.others.keys name (sym (c.is_listed.ensures ∙ ap (λ (l : List NameText). among l c.args.name.now) c.as_slice.ensures.value) ∙ c.if-is_listed.true)).0
    ∙ ap (list_any (bytes_eq c.args.name.now)) c.self.view_is

pub returns-then-is_listed-clause-names : goal.returns-then-is_listed-clause-names
returns-then-is_listed-clause-names c =
    let name : NameText = record { bytes = c.args.name } in
    subst (λ (old : List (List ℕ)). old ≡ insert_key bytes_eq old c.args.name.now) c.self.view_is
    (listed c.self.inside.few.items c.self.inside.others.keys name (sym (c.is_listed.ensures ∙ ap (λ (l : List NameText). among l c.args.name.now) c.as_slice.ensures.value) ∙ c.if-is_listed.true)).1

pub returns-then-is_empty-clause-held : goal.returns-then-is_empty-clause-held
returns-then-is_empty-clause-held c =
    let name : NameText = record { bytes = c.args.name } in
    (pushed c.self.inside.few.items c.self.inside.others.keys name (sym (c.is_listed.ensures ∙ ap (λ (l : List NameText). among l c.args.name.now) c.as_slice.ensures.value) ∙ c.if-is_listed.false) (c.if-is_empty.ensures.0 refl)).0
    ∙ ap (list_any (bytes_eq c.args.name.now)) c.self.view_is

pub returns-then-is_empty-clause-names : goal.returns-then-is_empty-clause-names
returns-then-is_empty-clause-names c =
    let name : NameText = record { bytes = c.args.name } in
    ap (λ (l : List NameText). keys_of (l ++ c.self.inside.others.keys)) c.in_ok-push.ensures.ok
    ∙ (pushed c.self.inside.few.items c.self.inside.others.keys name (sym (c.is_listed.ensures ∙ ap (λ (l : List NameText). among l c.args.name.now) c.as_slice.ensures.value) ∙ c.if-is_listed.false) (c.if-is_empty.ensures.0 refl)).1
    ∙ ap (λ (old : List (List ℕ)). insert_key bytes_eq old c.args.name.now) c.self.view_is

pub returns-clause-held : goal.returns-clause-held
returns-clause-held c =
    let name : NameText = record { bytes = c.args.name } in
    (put c.self.inside.few.items c.self.inside.others.keys name c.insert.new.self.keys c.in-Ok.is_new
    (sym (c.is_listed.ensures ∙ ap (λ (l : List NameText). among l c.args.name.now) c.as_slice.ensures.value) ∙ c.if-is_listed.false) c.in-Ok.ensures.added c.in-Ok.ensures.keys).0
    ∙ ap (list_any (bytes_eq c.args.name.now)) c.self.view_is

pub returns-clause-names : goal.returns-clause-names
returns-clause-names c =
    let name : NameText = record { bytes = c.args.name } in
    (put c.self.inside.few.items c.self.inside.others.keys name c.insert.new.self.keys c.in-Ok.is_new
    (sym (c.is_listed.ensures ∙ ap (λ (l : List NameText). among l c.args.name.now) c.as_slice.ensures.value) ∙ c.if-is_listed.false) c.in-Ok.ensures.added c.in-Ok.ensures.keys).1
    ∙ ap (λ (old : List (List ℕ)). insert_key bytes_eq old c.args.name.now) c.self.view_is
