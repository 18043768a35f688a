-- One entry more, and a netlist without a range.
use Rattle.std.proofs.Common.{◌≡◌, ℕ, ◌+◌, List, get_or, length, sym, ap, ◌∙◌, subst, arith}
use Rattle.verilog_netlist.specs.DeclaredNames.{HoldsDeclared, BoundsWidths}
use Rattle.verilog_netlist.specs.NameKeys.{keys_in}
use Rattle.verilog_netlist.specs.declared.entries.Entry.{Entry}
use Rattle.verilog_netlist.specs.declared.namespaces.Names.TheVariants as names
use Rattle.verilog_netlist.specs.declared.repeats.Scopes.{Scopes}
use Rattle.verilog_netlist.proofs.Repeating.{Counts, count_on, scope_is, no_entry, stands_at, itself_at}
use Rattle.verilog_netlist.proofs.Ranging.{declared_next, bounds_next, nothing_ranged}
use Rattle.verilog_netlist.proofs.declared.DeclaredNames.add_all.Goals as goal

pub loop-place-preserved : goal.loop-place-preserved
loop-place-preserved c =
    let entries : List Entry = c.args.entries.now in
    let place : ℕ = c.loop-place.place in
    let e : Entry = get_or entries place no_entry in
    let here = itself_at entries place c.loop-place-test.true in
    let keys = keys_in c.args.ranged.now.keys in
    let counts = c.loop-place.invariant.0 in
    let in_module = ap (λ (s : Scopes). s.modules) c.from-scopes.ensures ∙ scope_is entries place c.loop-place.scopes counts e c.loop-place-test.true here names.Wires in (
      subst (λ (s : Scopes). Counts entries (place + 1) s) (sym c.from-scopes.ensures) (count_on entries place c.loop-place.scopes counts e c.loop-place-test.true here),
      declared_next c.args.bytes.now entries keys place c.loop-place.self.rows.entries c.add_entry.new.self.rows.entries c.from-scopes.result.modules e in_module
          (stands_at entries place c.loop-place-test.true) c.loop-place.invariant.1 c.in_ok-add_entry.ensures.rows,
      subst (λ (n : ℕ). BoundsWidths c.args.bytes.now c.add_entry.new.self.rows.entries n) (sym c.in_ok-add_entry.ensures.widest)
          (bounds_next c.args.bytes.now keys c.from-scopes.result.modules e c.loop-place.self.rows.entries c.add_entry.new.self.rows.entries c.loop-place.self.widest c.in_ok-add_entry.ensures.rows c.loop-place.invariant.2),
    )

pub returns-clause-rows : goal.returns-clause-rows
returns-clause-rows c =
    let entries : List Entry = c.args.entries.now in
    let keys = keys_in c.args.ranged.now.keys in
    let all : c.loop-place.place ≡ length entries = let past = c.loop-place-test.false in omega arith in
    record {
      keys = keys;
      covers = c.requires.ranged;
      holds = subst (λ (n : ℕ). HoldsDeclared c.args.bytes.now entries keys n c.loop-place.self.rows.entries) all c.loop-place.invariant.1;
    }

pub returns-then-many-eq0-clause-rows : goal.returns-then-many-eq0-clause-rows
returns-then-many-eq0-clause-rows c =
    let none : length c.args.ranged.now.keys ≡ 0 = let many = c.len-many.ensures.len in let zero = c.if-many-eq0.true in omega arith in
    nothing_ranged c.args.bytes.now c.args.entries.now c.args.ranged.now.keys _ none c.requires.rows c.requires.ranged
