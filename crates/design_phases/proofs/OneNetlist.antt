-- The phase that reads a netlist has one answer.
use Rattle.std.proofs.Common.{◌≡◌, ◌⊎◌, inl, inr, ℕ, List, Option, Some, None, Ok, Err, refl, sym, ap, ap₂, ◌∙◌, subst}
use Rattle.std.specs.Prelude.{slice_get}
use Rattle.token_texts.specs.Spans.{text_at}
use Rattle.verilog_netlist.specs.Netlist.{IsNameFault, HasItsWord}
use Rattle.verilog_netlist.specs.Netlists.{LeavesNetlist}
use Rattle.verilog_netlist.specs.Namespaces.{name_of}
use Rattle.verilog_netlist.specs.NetModules.{NetModule, modules_of}
use Rattle.verilog_netlist.specs.Faults.{HasFault, IsFirstFault}
use Rattle.verilog_netlist.specs.Parsed.{AreModulesOf}
use Rattle.verilog_netlist.specs.Tokens.{Lexeme, AreTokens}
use Rattle.verilog_netlist.specs.declared.entries.Entry.{Entry}
use Rattle.verilog_netlist.specs.declared.faults.FirstFault.{FirstFault}
use Rattle.verilog_netlist.specs.declared.faults.NameFault.{NameFault}
use Rattle.verilog_netlist.specs.declared.faults.NameFault.TheVariants as fault
use Rattle.verilog_netlist.specs.declared.netlist.VerilogEnd.TheVariants as end
use Rattle.verilog_netlist.proofs.Faulting.{one_first}
use Rattle.verilog_netlist.proofs.SoFar.{one_netlist, one_dead_token}
use Rattle.refusals.specs.declared.refusal.Refusal.{Refusal}
use Rattle.refusals.specs.declared.refusal.Refusal.TheVariants.{NetlistSyntax, NotStructural, RepeatedName, PortDirection, BadRange}
use Rattle.design_phases.specs.NetlistPhase.{ParsesNetlist, is_netlist, no_netlist, no_structure, repeated_name, port_direction, bad_range, OneNetlist}
use Rattle.refusals.proofs.Places.{some_is}

one_parsed : (bytes : List ℕ) (one other : List NetModule) → AreModulesOf bytes one → AreModulesOf bytes other → one ≡ other
one_parsed bytes one other r s = r.are ∙ ap (modules_of bytes) (one_netlist bytes r.entries s.entries r.says.0 s.says.0) ∙ sym s.are

-- ---- a token that leaves the grammar

-- with its word, where it is one that begins what is no structure
abbrev dead_refusal : Option (List ℕ) → ℕ → Refusal
dead_refusal None token = NetlistSyntax token
dead_refusal (Some word) token = NotStructural word token

abbrev HasTheWord : List ℕ → Option (List ℕ) → ℕ → Type 0
HasTheWord bytes None token = HasItsWord bytes (end.Syntax token)
HasTheWord bytes (Some word) token = HasItsWord bytes (end.NotStructural word token)

record IsDead (bytes : List ℕ) (refusal : Refusal) : Type 0 where
  token : ℕ
  word : Option (List ℕ)
  leaves : LeavesNetlist bytes token
  has : HasTheWord bytes word token
  is : refusal ≡ dead_refusal word token

one_word : (bytes : List ℕ) (token : ℕ) (tokens : List Lexeme) → AreTokens bytes tokens → (one other : Option (List ℕ)) → HasTheWord bytes one token → HasTheWord bytes other token → one ≡ other
one_word bytes token tokens are None None r s = refl
one_word bytes token tokens are None (Some word) r s = let a = s tokens are in absurd (r tokens are a.0 a.1 a.2)
one_word bytes token tokens are (Some word) None r s = let a = r tokens are in absurd (s tokens are a.0 a.1 a.2)
one_word bytes token tokens are (Some word) (Some more) r s =
    let a = r tokens are in
    let b = s tokens are in
    let same : a.0 ≡ b.0 = some_is a.0 b.0 (sym a.1 ∙ b.1) in
    ap (λ w. Some w) (a.3 ∙ ap (λ (l : Lexeme). text_at bytes l.at) same ∙ sym b.3)

one_death : (bytes : List ℕ) (one other : Refusal) → IsDead bytes one → IsDead bytes other → one ≡ other
one_death bytes one other r s =
    let same : s.token ≡ r.token = one_dead_token bytes s.token r.token s.leaves r.leaves in
    let word : r.word ≡ s.word = one_word bytes r.token r.leaves.texts r.leaves.parted r.word s.word r.has (subst (λ n. HasTheWord bytes s.word n) same s.has) in
    r.is ∙ ap₂ dead_refusal word (sym same) ∙ sym s.is

-- ---- a name at fault

abbrev named_refusal : NameFault → List ℕ → Refusal
named_refusal fault.Repeated name = RepeatedName name
named_refusal fault.PortDirection name = PortDirection name
named_refusal fault.BadRange name = BadRange name

record IsNamed (bytes : List ℕ) (refusal : Refusal) : Type 0 where
  of : NameFault
  name : List ℕ
  holds : IsNameFault bytes of name
  is : refusal ≡ named_refusal of name

abbrev fault_at : NameFault → ℕ → FirstFault
fault_at of place = record { fault = of; place = place }

one_named : (bytes : List ℕ) (of more : NameFault) (name other : List ℕ) → IsNameFault bytes of name → IsNameFault bytes more other → named_refusal of name ≡ named_refusal more other
one_named bytes of more name other r s =
    let entries : s.entries ≡ r.entries = one_netlist bytes s.entries r.entries s.says r.says in
    let first : fault_at of r.place ≡ fault_at more s.place =
    one_first bytes r.entries (fault_at of r.place) (fault_at more s.place) r.first (subst (λ (e : List Entry). IsFirstFault bytes e (fault_at more s.place)) entries s.first) in
    let faults : of ≡ more = ap (λ (f : FirstFault). f.fault) first in
    let place : r.place ≡ s.place = ap (λ (f : FirstFault). f.place) first in
    let there : slice_get r.entries r.place ≡ Some s.entry = ap₂ (λ (e : List Entry) n. slice_get e n) (sym entries) place ∙ s.stands in
    let entry : r.entry ≡ s.entry = some_is r.entry s.entry (sym r.stands ∙ there) in
    ap₂ named_refusal faults (r.is_name ∙ ap (λ (e : Entry). text_at bytes (name_of e)) entry ∙ sym s.is_name)

-- ---- a refusal is one of the two, and no modules stand beside it

refused_as : (bytes : List ℕ) (refusal : Refusal) → ParsesNetlist bytes (Err refusal) → IsDead bytes refusal ⊎ IsNamed bytes refusal
refused_as bytes refusal (no_netlist token leaves has) = inl (record { token = token; word = None; leaves = leaves; has = has; is = refl })
refused_as bytes refusal (no_structure word token leaves has) = inl (record { token = token; word = Some word; leaves = leaves; has = has; is = refl })
refused_as bytes refusal (repeated_name name holds) = inr (record { of = fault.Repeated; name = name; holds = holds; is = refl })
refused_as bytes refusal (port_direction name holds) = inr (record { of = fault.PortDirection; name = name; holds = holds; is = refl })
refused_as bytes refusal (bad_range name holds) = inr (record { of = fault.BadRange; name = name; holds = holds; is = refl })

one_refused : (bytes : List ℕ) (one other : Refusal) → IsDead bytes one ⊎ IsNamed bytes one → IsDead bytes other ⊎ IsNamed bytes other → one ≡ other
one_refused bytes one other (inl r) (inl s) = one_death bytes one other r s
one_refused bytes one other (inl r) (inr s) = absurd (r.leaves.nothing s.holds.entries s.holds.says)
one_refused bytes one other (inr r) (inl s) = absurd (s.leaves.nothing r.holds.entries r.holds.says)
one_refused bytes one other (inr r) (inr s) = r.is ∙ one_named bytes r.of s.of r.name s.name r.holds s.holds ∙ sym s.is

no_modules : (bytes : List ℕ) (modules : List NetModule) (refusal : Refusal) → AreModulesOf bytes modules → IsDead bytes refusal ⊎ IsNamed bytes refusal → ⊥
no_modules bytes modules refusal r (inl s) = s.leaves.nothing r.entries r.says.0
no_modules bytes modules refusal r (inr s) =
    let entries : s.holds.entries ≡ r.entries = one_netlist bytes s.holds.entries r.entries s.holds.says r.says.0 in
    r.says.1 s.of s.holds.place (subst (λ (e : List Entry). HasFault bytes e s.of s.holds.place) entries s.holds.first.is)

parsed : (bytes : List ℕ) (modules : List NetModule) → ParsesNetlist bytes (Ok modules) → AreModulesOf bytes modules
parsed bytes modules (is_netlist _ are) = are

pub one_netlist_lem : OneNetlist
one_netlist_lem bytes (Ok one) (Ok other) r s = ap (λ m. Ok m) (one_parsed bytes one other (parsed bytes one r) (parsed bytes other s))
one_netlist_lem bytes (Ok one) (Err other) r s = absurd (no_modules bytes one other (parsed bytes one r) (refused_as bytes other s))
one_netlist_lem bytes (Err one) (Ok other) r s = absurd (no_modules bytes other one (parsed bytes other s) (refused_as bytes one r))
one_netlist_lem bytes (Err one) (Err other) r s = ap (λ f. Err f) (one_refused bytes one other (refused_as bytes one r) (refused_as bytes other s))
