-- One name more, and whether it lacks its pair.
use Rattle.std.proofs.Common.{ℕ, ◌+◌, List, get_or, refl, sym, ◌∙◌, subst, true≢false, arith}
use Rattle.verilog_netlist.specs.Directions.{IsUnpaired}
use Rattle.verilog_netlist.specs.NameKeys.{Key, keys_in}
use Rattle.verilog_netlist.specs.declared.entries.Entry.{Entry}
use Rattle.verilog_netlist.specs.declared.repeats.Scopes.{Scopes}
use Rattle.verilog_netlist.proofs.Finding.{not_here_too}
use Rattle.verilog_netlist.proofs.Repeating.{Counts, count_on, no_entry, stands_at, itself_at, within_list}
use Rattle.verilog_netlist.proofs.Pairing.{decides_unpaired, lacks_as}
use Rattle.verilog_netlist.proofs.repeats.NamesSoFar.first_unpaired.Goals as goal

pub returns-then-is_unpaired : goal.returns-then-is_unpaired
returns-then-is_unpaired c =
    let bytes : List ℕ = c.args.bytes.now in
    let entries : List Entry = c.args.entries.now in
    let place : ℕ = c.loop-place.place in
    let keys : List Key = keys_in c.args.self.now.keys.keys in
    let e : Entry = get_or entries place no_entry in
    let lacks = lacks_as refl c.from-scopes.ensures refl keys c.lacks-is_unpaired.result c.lacks-is_unpaired.ensures in
    let tells = decides_unpaired bytes entries place keys c.loop-place.scopes c.loop-place.invariant.0 c.requires.keys e (stands_at entries place c.loop-place-test.true) c.loop-place-test.true (itself_at entries place c.loop-place-test.true) in
    (tells.0 (sym lacks ∙ c.if-is_unpaired.true), c.loop-place.invariant.1)

pub loop-place-preserved : goal.loop-place-preserved
loop-place-preserved c =
    let bytes : List ℕ = c.args.bytes.now in
    let entries : List Entry = c.args.entries.now in
    let place : ℕ = c.loop-place.place in
    let keys : List Key = keys_in c.args.self.now.keys.keys in
    let e : Entry = get_or entries place no_entry in
    let here = itself_at entries place c.loop-place-test.true in
    let lacks = lacks_as refl c.from-scopes.ensures refl keys c.lacks-is_unpaired.result c.lacks-is_unpaired.ensures in
    let tells = decides_unpaired bytes entries place keys c.loop-place.scopes c.loop-place.invariant.0 c.requires.keys e (stands_at entries place c.loop-place-test.true) c.loop-place-test.true here in (
      subst (λ (s : Scopes). Counts entries (place + 1) s) (sym c.from-scopes.ensures) (count_on entries place c.loop-place.scopes c.loop-place.invariant.0 e c.loop-place-test.true here),
      not_here_too (IsUnpaired bytes entries) place c.loop-place.invariant.1 (λ p. true≢false (sym (tells.1 p) ∙ sym lacks ∙ c.if-is_unpaired.false)),
    )

pub returns : goal.returns
returns c place p = c.loop-place.invariant.1 place (let within = within_list c.args.entries.now place p.one p.one_stands in let past = c.loop-place-test.false in omega arith) p
