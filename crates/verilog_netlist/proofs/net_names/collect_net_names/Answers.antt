-- One module more.
use Rattle.std.proofs.Common.{◌≡◌, ◌<◌, ◌≤◌, ◌+◌, ◌-◌, ℕ, List, length, ap₂, ◌∙◌, subst, arith}
use Rattle.verilog_netlist.specs.PartPlaces.{stretch}
use Rattle.verilog_netlist.specs.NameRows.{start_at, own_at, AddsNames, HoldsNetNames}
use Rattle.verilog_netlist.specs.declared.entries.Entry.{Entry}
use Rattle.verilog_netlist.proofs.Placing.{some_rows}
use Rattle.verilog_netlist.proofs.NetNaming.{no_names, names_next}
use Rattle.verilog_netlist.proofs.net_names.collect_net_names.Goals as goal

pub loop-m-init : goal.loop-m-init
loop-m-init c =
    no_names c.args.bytes.now c.args.entries.now c.args.places.now c.in_ok-names.names c.in_ok-names.ensures.starts c.in_ok-names.ensures.rows
    (c.in_ok-names.ensures.numbers ∙ c.first_place-first.ensures (some_rows c.args.entries.now c.args.places.now c.requires))

pub loop-m-preserved : goal.loop-m-preserved
loop-m-preserved c =
    let entries : List Entry = c.args.entries.now in
    let m : ℕ = c.loop-m.m in
    let part = c.module-extent.ensures.part entries c.requires in
    let own : c.between-own.result.now ≡ own_at entries c.args.places.now m =
    c.between-own.ensures ∙ ap₂ (λ (a b : ℕ). stretch entries (a + 1) b) c.module-extent.ensures.start c.module-extent.ensures.end in
    let head : start_at c.args.places.now m < start_at c.args.places.now (m + 1) = let h = part.head in let s = c.module-extent.ensures.start in let e = c.module-extent.ensures.end in omega arith in
    let within : start_at c.args.places.now (m + 1) ≤ length entries = let h = part.within in let e = c.module-extent.ensures.end in omega arith in
    names_next c.args.bytes.now entries c.args.places.now m c.loop-m.names c.add_module.new.self c.loop-m.invariant
    (subst (λ (l : List Entry). AddsNames c.args.bytes.now l c.loop-m.names c.add_module.new.self) own c.in_ok-add_module.ensures) head within

pub returns : goal.returns
returns c =
    let end : c.loop-m.m ≡ length c.args.places.now.modules.items - 1 = let past = c.loop-m-test.false in let few = c.loop-m.auto.m-end in let n = c.module_count-m-end.ensures in omega arith in
    subst (λ (n : ℕ). HoldsNetNames c.args.bytes.now c.args.entries.now c.args.places.now n c.loop-m.names) end c.loop-m.invariant
