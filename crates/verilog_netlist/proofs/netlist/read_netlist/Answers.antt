-- What was read, and its first fault.
use Rattle.std.proofs.Common.{ℕ, List, Some, sym, ap, ◌∙◌, subst}
use Rattle.std.proofs.lemmas.Option.{slice_get-get_or}
use Rattle.token_texts.specs.Spans.{text_at}
use Rattle.verilog_netlist.specs.Faults.{FindsFault}
use Rattle.verilog_netlist.specs.Netlist.{IsNamed}
use Rattle.verilog_netlist.specs.declared.entries.Entry.{Entry}
use Rattle.token_texts.specs.declared.spans.Span.{Span}
use Rattle.verilog_netlist.proofs.Refusing.{is_first, first_within, not_faultless, refuses}
use Rattle.verilog_netlist.proofs.netlist.read_netlist.Goals as goal

pub returns-in-Err-clause-only : goal.returns-in-Err-clause-only
returns-in-Err-clause-only c entries says = c.in-Err.ensures.only entries says.0

pub returns-in-None-clause-only : goal.returns-in-None-clause-only
returns-in-None-clause-only c entries says = c.in-Ok.ensures.only entries says.0

pub returns-in-Some-clause-refused : goal.returns-in-Some-clause-refused
returns-in-Some-clause-refused c =
    let bytes : List ℕ = c.args.bytes.now in
    let entries : List Entry = c.in-Ok.entries.items in
    let finds = subst (λ (l : List Entry). FindsFault bytes l c.in-Ok-first_fault.found) c.as_slice.ensures.value c.in-Ok-first_fault.ensures in
    let first = is_first bytes entries c.in-Ok-first_fault.found c.in-Some.first c.in-Some.is finds in
    let within = first_within bytes entries c.in-Ok-first_fault.found c.in-Some.first c.in-Some.is finds in
    let stands = slice_get-get_or entries c.in-Some.first.place c.index.result.now within ∙ ap (λ (e : Entry). Some e) (sym c.index.ensures) in
    refuses bytes entries c.in-Some.first c.index.result.now c.in-Ok.ensures.ok first stands c.named.result
    (subst (λ (s : Span). IsNamed c.in-Some.first.fault (text_at bytes s) c.named.result) c.name-at.ensures c.named.ensures)

pub returns-in-Some-clause-only : goal.returns-in-Some-clause-only
returns-in-Some-clause-only c entries says =
    let bytes : List ℕ = c.args.bytes.now in
    let finds = subst (λ (l : List Entry). FindsFault bytes l c.in-Ok-first_fault.found) (c.as_slice.ensures.value ∙ c.in-Ok.ensures.only entries says.0) c.in-Ok-first_fault.ensures in
    absurd (not_faultless bytes entries c.in-Ok-first_fault.found c.in-Some.first c.in-Some.is finds says.1)
