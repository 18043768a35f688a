-- The names of the modules of a netlist differ.
use Rattle.std.proofs.Common.{◌≡◌, ℕ, zero, suc, ◌<◌, Bool, true, false, cond, List, [], ◌∷◌, length, map, slice_get, Some, refl, sym, ap, ◌∙◌, subst, arith, true≢false}
use Rattle.std.proofs.lemmas.List.{length-map}
use Rattle.std.proofs.lemmas.Option.{get_or_from_slice_get}
use Rattle.token_texts.specs.Spans.{text_at}
use Rattle.verilog_netlist.specs.Faults.{IsFaultless}
use Rattle.verilog_netlist.specs.Namespaces.{name_of, begins_module, IsAmong}
use Rattle.verilog_netlist.specs.Namespaces.IsAmong.{by_own}
use Rattle.verilog_netlist.specs.NetModules.{NetModule, module_of, modules_of, module_at, no_module}
use Rattle.verilog_netlist.specs.Parsed.{AreModulesOf}
use Rattle.verilog_netlist.specs.Parts.{Part, until, parts}
use Rattle.verilog_netlist.specs.declared.entries.Entry.{Entry}
use Rattle.verilog_netlist.specs.declared.entries.Entry.TheVariants.{Module}
use Rattle.verilog_netlist.specs.declared.faults.NameFault.TheVariants as fault
use Rattle.verilog_netlist.specs.declared.namespaces.Names.TheVariants as names
use Rattle.hierarchy.specs.UseLaws.{NamesDiffer}
use Rattle.refusals.proofs.Places.{got_below, get_map, some_is}

-- where a part begins
record Begins (begins : Entry → Bool) (entries : List Entry) (part : Part) : Type 0 where
  place : ℕ
  stands : slice_get entries place ≡ Some part.head
  it_begins : begins part.head ≡ true

-- and where two of them do
record BeginInTurn (begins : Entry → Bool) (entries : List Entry) (one other : Part) : Type 0 where
  first : Begins begins entries one
  later : Begins begins entries other
  order : first.place < later.place

module _ (begins : Entry → Bool) where
  abbrev part_of : Entry → List Entry → Part
  part_of entry entries = record { head = entry; behind = until begins entries }

  abbrev parts_if : Bool → Entry → List Entry → List Part
  parts_if b entry entries = cond b (part_of entry entries ∷ parts begins entries) (parts begins entries)

  abbrev behind : (entry : Entry) (entries : List Entry) (part : Part) → Begins begins entries part → Begins begins (entry ∷ entries) part
  behind entry entries part begun = record { place = suc begun.place; stands = begun.stands; it_begins = begun.it_begins }

  abbrev here : (entry : Entry) (entries : List Entry) (part : Part) → begins entry ≡ true → part_of entry entries ≡ part → Begins begins (entry ∷ entries) part
  here entry entries part h same = record {
    place = 0;
    stands = ap (λ (p : Part). Some p.head) same;
    it_begins = ap (λ (p : Part). begins p.head) (sym same) ∙ h;
  }

  begins_at : (entries : List Entry) (k : ℕ) (part : Part) → slice_get (parts begins entries) k ≡ Some part → Begins begins entries part
  begins_at [] k part e = cc
  begins_at (entry ∷ entries) k part e = by (λ n f. begins_at entries n part f) (begins entry) refl k e
    where
      by : ((n : ℕ) → slice_get (parts begins entries) n ≡ Some part → Begins begins entries part) → (b : Bool) → begins entry ≡ b → (n : ℕ)
          → slice_get (parts begins (entry ∷ entries)) n ≡ Some part → Begins begins (entry ∷ entries) part
      by older true h zero e = here entry entries part h (some_is (part_of entry entries) part (sym (ap (λ b. slice_get (parts_if b entry entries) 0) h) ∙ e))
      by older true h (suc n) e = behind entry entries part (older n (sym (ap (λ b. slice_get (parts_if b entry entries) (suc n)) h) ∙ e))
      by older false h n e = behind entry entries part (older n (sym (ap (λ b. slice_get (parts_if b entry entries) n) h) ∙ e))

  later : (entry : Entry) (entries : List Entry) (one other : Part) → BeginInTurn begins entries one other → BeginInTurn begins (entry ∷ entries) one other
  later entry entries one other turn = record {
    first = behind entry entries one turn.first;
    later = behind entry entries other turn.later;
    order = let o = turn.order in omega (arith, o);
  }

  in_turn : (entries : List Entry) (i j : ℕ) (one other : Part) → i < j → slice_get (parts begins entries) i ≡ Some one → slice_get (parts begins entries) j ≡ Some other
      → BeginInTurn begins entries one other
  in_turn [] i j one other less e f = cc
  in_turn (entry ∷ entries) i j one other less e f = by (λ m n lt e f. in_turn entries m n one other lt e f) (begins entry) refl i j less e f
    where
      by : ((m n : ℕ) → m < n → slice_get (parts begins entries) m ≡ Some one → slice_get (parts begins entries) n ≡ Some other → BeginInTurn begins entries one other)
          → (b : Bool) → begins entry ≡ b → (m n : ℕ) → m < n → slice_get (parts begins (entry ∷ entries)) m ≡ Some one → slice_get (parts begins (entry ∷ entries)) n ≡ Some other
          → BeginInTurn begins (entry ∷ entries) one other
      by older b h m zero lt e f = absurd (omega (arith, lt))
      by older true h zero (suc n) lt e f = record {
        first = here entry entries one h (some_is (part_of entry entries) one (sym (ap (λ b. slice_get (parts_if b entry entries) 0) h) ∙ e));
        later = behind entry entries other (begins_at entries n other (sym (ap (λ b. slice_get (parts_if b entry entries) (suc n)) h) ∙ f));
        order = omega arith;
      }
      by older true h (suc m) (suc n) lt e f = later entry entries one other (older m n (omega (arith, lt))
          (sym (ap (λ b. slice_get (parts_if b entry entries) (suc m)) h) ∙ e) (sym (ap (λ b. slice_get (parts_if b entry entries) (suc n)) h) ∙ f))
      by older false h m (suc n) lt e f = later entry entries one other (older m (suc n) lt
          (sym (ap (λ b. slice_get (parts_if b entry entries) m) h) ∙ e) (sym (ap (λ b. slice_get (parts_if b entry entries) (suc n)) h) ∙ f))

among_modules : (e : Entry) → begins_module e ≡ true → IsAmong names.Modules e
among_modules (Module name) is = by_own refl
among_modules _ is = absurd (true≢false (sym is))

abbrev module_text : List ℕ → Part → List ℕ
module_text bytes part = text_at bytes (name_of part.head)

-- two modules of one name would be a fault
apart : (bytes : List ℕ) (entries : List Entry) (one other : Part) → IsFaultless bytes entries → BeginInTurn begins_module entries one other → module_text bytes one ≡ module_text bytes other → ⊥
apart bytes entries one other faultless turn same = faultless fault.Repeated turn.later.place (record {
  among = names.Modules;
  before = turn.first.place;
  one = one.head;
  again = other.head;
  below = turn.order;
  one_stands = turn.first.stands;
  again_stands = turn.later.stands;
  one_among = among_modules one.head turn.first.it_begins;
  again_among = among_modules other.head turn.later.it_begins;
  one_scope = refl;
  one_text = same;
})

name_of_module : (bytes : List ℕ) (own : List Part) (m : ℕ) (part : Part) → slice_get own m ≡ Some part → (module_at (map (module_of bytes) own) m).name ≡ module_text bytes part
name_of_module bytes own m part e = ap (λ (n : NetModule). n.name) (get_or_from_slice_get (map (module_of bytes) own) m (module_of bytes part) no_module (get_map (module_of bytes) own m part e))

differ : (bytes : List ℕ) (entries : List Entry) → IsFaultless bytes entries → NamesDiffer (modules_of bytes entries)
differ bytes entries faultless i j less below same =
    let own : List Part = parts begins_module entries in
    let counted : length (modules_of bytes entries) ≡ length own = length-map own (module_of bytes) in
    let one = got_below own i (omega (arith, less, below, counted)) in
    let other = got_below own j (omega (arith, below, counted)) in
    apart bytes entries one.0 other.0 faultless (in_turn begins_module entries i j one.0 other.0 less one.1 other.1)
    (sym (name_of_module bytes own i one.0 one.1) ∙ same ∙ name_of_module bytes own j other.0 other.1)

pub names_differ : (bytes : List ℕ) (modules : List NetModule) → AreModulesOf bytes modules → NamesDiffer modules
names_differ bytes modules are = subst NamesDiffer (sym are.are) (differ bytes are.entries are.says.1)
