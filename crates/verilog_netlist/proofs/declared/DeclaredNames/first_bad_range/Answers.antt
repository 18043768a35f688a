-- One entry more, and whether it is bad.
use Rattle.std.proofs.Common.{ℕ, ◌+◌, List, get_or, sym, ap, ◌∙◌, subst, true≢false, arith}
use Rattle.verilog_netlist.specs.Ranges.{is_bad_entry, IsBadRange}
use Rattle.verilog_netlist.specs.DeclaredNames.{declared_key, row_at}
use Rattle.verilog_netlist.specs.declared.entries.Entry.{Entry}
use Rattle.verilog_netlist.specs.declared.namespaces.Names.TheVariants as names
use Rattle.verilog_netlist.specs.declared.repeats.Scopes.{Scopes}
use Rattle.verilog_netlist.proofs.Finding.{not_here_too}
use Rattle.verilog_netlist.proofs.Repeating.{Counts, count_on, scope_is, no_entry, stands_at, itself_at, within_list}
use Rattle.verilog_netlist.proofs.Ranging.{decides_bad}
use Rattle.verilog_netlist.proofs.declared.DeclaredNames.first_bad_range.Goals as goal

pub returns-then-is_bad : goal.returns-then-is_bad
returns-then-is_bad c =
    let bytes : List ℕ = c.args.bytes.now in
    let entries : List Entry = c.args.entries.now in
    let place : ℕ = c.loop-place.place in
    let e : Entry = get_or entries place no_entry in
    let here = itself_at entries place c.loop-place-test.true in
    let in_module = ap (λ (s : Scopes). s.modules) c.from-scopes.ensures ∙ scope_is entries place c.loop-place.scopes c.loop-place.invariant.0 e c.loop-place-test.true here names.Wires in
    let f = λ (name : List ℕ). row_at c.args.self.now.rows.entries (declared_key c.from-scopes.result.modules name) in
    let tells = decides_bad bytes entries place e c.args.self.now.rows.entries c.requires.rows c.from-scopes.result.modules c.loop-place-test.true in_module (stands_at entries place c.loop-place-test.true) in
    let is = ap (λ (l : List Entry). is_bad_entry bytes f l e) (sym c.split_at.ensures.back) ∙ sym c.is_bad-is_bad.ensures ∙ c.if-is_bad.true in
    (tells.0 is, c.loop-place.invariant.1)

pub loop-place-preserved : goal.loop-place-preserved
loop-place-preserved c =
    let bytes : List ℕ = c.args.bytes.now in
    let entries : List Entry = c.args.entries.now in
    let place : ℕ = c.loop-place.place in
    let e : Entry = get_or entries place no_entry in
    let here = itself_at entries place c.loop-place-test.true in
    let counts = c.loop-place.invariant.0 in
    let in_module = ap (λ (s : Scopes). s.modules) c.from-scopes.ensures ∙ scope_is entries place c.loop-place.scopes counts e c.loop-place-test.true here names.Wires in
    let f = λ (name : List ℕ). row_at c.args.self.now.rows.entries (declared_key c.from-scopes.result.modules name) in
    let tells = decides_bad bytes entries place e c.args.self.now.rows.entries c.requires.rows c.from-scopes.result.modules c.loop-place-test.true in_module (stands_at entries place c.loop-place-test.true) in
    let is = ap (λ (l : List Entry). is_bad_entry bytes f l e) (sym c.split_at.ensures.back) ∙ sym c.is_bad-is_bad.ensures ∙ c.if-is_bad.false in (
      subst (λ (s : Scopes). Counts entries (place + 1) s) (sym c.from-scopes.ensures) (count_on entries place c.loop-place.scopes counts e c.loop-place-test.true here),
      not_here_too (IsBadRange bytes entries) place c.loop-place.invariant.1 (λ r. true≢false (sym (tells.1 r) ∙ is)),
    )

pub returns : goal.returns
returns c place r = c.loop-place.invariant.1 place (let within = within_list c.args.entries.now place r.entry r.stands in let past = c.loop-place-test.false in omega arith) r
