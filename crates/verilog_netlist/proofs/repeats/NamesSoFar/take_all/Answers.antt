-- One name more, and whether it was there.
use Rattle.std.proofs.Common.{◌≡◌, ℕ, List, get_or, sym, ap, ◌∙◌, subst, ◌+◌, Bool, Option, length, arith, Decides}
use Rattle.token_texts.specs.Spans.{text_at}
use Rattle.verilog_netlist.specs.Namespaces.{name_of, IsRepeated}
use Rattle.verilog_netlist.specs.DeclaredNames.{CoversRanged}
use Rattle.verilog_netlist.specs.NameKeys.{Key, keys_in, counted, keeps, ports_from, is_either_held, with_both, HoldsNames}
use Rattle.verilog_netlist.specs.declared.entries.Entry.{Entry}
use Rattle.verilog_netlist.specs.declared.namespaces.Names.TheVariants as names
use Rattle.verilog_netlist.specs.declared.repeats.NamesSoFar.{NamesSoFar}
use Rattle.verilog_netlist.specs.declared.repeats.Scopes.{Scopes}
use Rattle.verilog_netlist.proofs.Finding.{IsFirstBelow, first_next, first_of_all}
use Rattle.verilog_netlist.proofs.Repeating.{Collected, come_to, all_names, decides_repeated, goes_on, scope_is, no_entry, stands_at, itself_at, within_list}
use Rattle.verilog_netlist.proofs.Ranging.{covers_next}
use Rattle.verilog_netlist.proofs.repeats.NamesSoFar.take_all.Goals as goal

pub loop-place-preserved : goal.loop-place-preserved
loop-place-preserved c =
    let bytes : List ℕ = c.args.bytes.now in
    let entries : List Entry = c.args.entries.now in
    let place : ℕ = c.loop-place.place in
    let before : NamesSoFar = c.loop-place.self in
    let after : NamesSoFar = c.take.new.self in
    let scopes : Scopes = c.from-scopes.result in
    let e : Entry = get_or entries place no_entry in
    let name : List ℕ = text_at bytes (name_of e) in
    let now : Scopes = counted c.loop-place.scopes e in
    let has = λ (s : Scopes) (key : Key). keeps s.instances (keys_in after.keys.keys) after.ports key in
    let come = λ (s : Scopes) (key : Key). keeps s.instances (keys_in before.keys.keys) (ports_from e before.ports) key in
    let stands = stands_at entries place c.loop-place-test.true in
    let here = itself_at entries place c.loop-place-test.true in
    let is_held : Bool = c.in_ok-is_held.is_held in
    let same : scopes ≡ now = c.from-scopes.ensures in
    let first = come_to bytes entries place (keys_in before.keys.keys) before.ports c.loop-place.scopes c.loop-place.invariant.0 e in
    let added = λ (key : Key). subst (λ (s : Scopes). has s key ≡ with_both e s name (come s) key) same (c.in_ok-is_held.ensures.names key) in
    let held = subst (λ (s : Scopes). is_held ≡ is_either_held e s name (come s)) same c.in_ok-is_held.ensures.held in
    let seen = goes_on bytes entries place c.loop-place.scopes c.loop-place.invariant.0.counts e stands c.loop-place-test.true here (come now) first (has now) added in
    let tells = decides_repeated bytes entries place c.loop-place.scopes c.loop-place.invariant.0.counts e stands c.loop-place-test.true here (come now) first in
    let found = first_next (IsRepeated bytes entries) place c.loop-place.repeated is_held c.loop-place.invariant.1
    (subst (λ (b : Bool). Decides b (IsRepeated bytes entries place)) (sym held) tells) in
    let in_module = ap (λ (s : Scopes). s.modules) same ∙ scope_is entries place c.loop-place.scopes c.loop-place.invariant.0.counts e c.loop-place-test.true here names.Wires in (
      subst (λ (s : Scopes). Collected bytes entries (place + 1) (has s) s) (sym same) seen,
      subst (λ (f : Option ℕ). IsFirstBelow (IsRepeated bytes entries) (place + 1) f) (sym c.first_or-repeated.ensures) found,
      covers_next bytes entries place scopes.modules e (keys_in c.loop-place.ranged.keys) (keys_in c.add_ranged.new.ranged.keys) in_module stands c.in_ok-add_ranged.ensures c.loop-place.invariant.2,
    )

pub returns-clause-repeated : goal.returns-clause-repeated
returns-clause-repeated c =
    first_of_all (IsRepeated c.args.bytes.now c.args.entries.now) c.loop-place.place c.loop-place.repeated c.loop-place.invariant.1
    (λ place r. let within = within_list c.args.entries.now place r.again r.again_stands in let past = c.loop-place-test.false in omega arith)

pub returns-clause-ranged : goal.returns-clause-ranged
returns-clause-ranged c =
    let all : c.loop-place.place ≡ length c.args.entries.now = let past = c.loop-place-test.false in omega arith in
    subst (λ (n : ℕ). CoversRanged c.args.bytes.now c.args.entries.now n (keys_in c.loop-place.ranged.keys)) all c.loop-place.invariant.2

pub returns-clause-keys : goal.returns-clause-keys
returns-clause-keys c =
    let names : NamesSoFar = c.loop-place.self in
    let all : c.loop-place.place ≡ length c.args.entries.now = let past = c.loop-place-test.false in omega arith in
    subst (λ (n : ℕ). HoldsNames c.args.bytes.now c.args.entries.now n (keys_in names.keys.keys)) all
    (all_names c.args.bytes.now c.args.entries.now c.loop-place.place (keys_in names.keys.keys) names.ports c.loop-place.scopes c.loop-place.invariant.0)
