-- The names of a netlist's modules have a byte, and their ranges are within the limits.
use Rattle.std.proofs.Common.{◌≡◌, ◌≢◌, ℕ, ◌+◌, Bool, true, false, not, ◌||◌, nat_lt, List, [], ◌∷◌, ◌++◌, if◌then◌else◌, filter, drop, get_or, Option, Some, None, All, refl, sym, ap, subst, true≢false}
use Rattle.std.proofs.lemmas.Bool.{ltb-false}
use Rattle.std.proofs.lemmas.Option.{slice_get-get_or}
use Rattle.std.specs.Option.{option_or}
use Rattle.std.specs.List.{list_any, prefix_len}
use Rattle.std.specs.Str.{bytes_eq}
use Rattle.std.proofs.lemmas.List.Elements.{All-nil, All-cons, All-head, All-tail, All-append, All-push, All-map, All-take, All-filter, All-weaker}
use Rattle.indexmap.specs.IndexSet.{insert_all, insert_key}
use Rattle.token_texts.specs.Spans.{text_at}
use Rattle.verilog_netlist.specs.Namespaces.{name_of, begins_module, begins_instance}
use Rattle.verilog_netlist.specs.Parts.{Part, parts, until, begins_connection}
use Rattle.verilog_netlist.specs.Faults.{IsFaultless}
use Rattle.verilog_netlist.specs.Ranges.{largest_bound, most_bits, width_of, has_large_bound, is_past, differs_from, is_bad_entry, declared_range, declared_by}
use Rattle.verilog_netlist.specs.ModuleNames.{first_said, declaration_of, is_in, texts_of, texts_in, name_in, names_in}
use Rattle.verilog_netlist.specs.NetModules.{NetModule, connection_of, instance_of, module_of}
use Rattle.verilog_netlist.specs.Parsed.{AreModulesOf}
use Rattle.verilog_netlist.specs.ModuleNames.{NetName}
use Rattle.verilog_netlist.specs.declared.declared.Declaration.{Declaration}
use Rattle.verilog_netlist.specs.declared.entries.Range.{Range}
use Rattle.verilog_netlist.specs.declared.entries.Entry.{Entry}
use Rattle.verilog_netlist.specs.declared.entries.Entry.TheVariants as entry
use Rattle.verilog_netlist.specs.declared.faults.NameFault.TheVariants as fault
use Rattle.verilog_netlist.specs.declared.net_names.Group.{Group}
use Rattle.verilog_netlist.specs.declared.net_names.Group.TheVariants as group
use Rattle.verilog_netlist.specs.SoundModules.{HasNames, IsPortNamed, IsWithinLimits, HasFewBitsEach}
use Rattle.verilog_netlist.proofs.EntryNames.{IsNamed, entries_are_named}

-- what holds of each entry holds of each entry of a part
module _ (P : Entry → Type 0) (begins : Entry → Bool) where
  record HoldsIn (part : Part) : Type 0 where
    head : P part.head
    behind : All P part.behind

  until_holds : (entries : List Entry) → All P entries → All P (until begins entries)
  until_holds entries all = All-take P (prefix_len (λ entry. not (begins entry)) entries) entries all

  parts_hold : (entries : List Entry) → All P entries → All HoldsIn (parts begins entries)
  parts_hold [] all = All-nil HoldsIn
  parts_hold (entry ∷ entries) all =
      let rest = All-tail P entry entries all in by (begins entry) (All-head P entry entries all) rest (parts_hold entries rest)
    where
      by : (is : Bool) → P entry → All P entries → All HoldsIn (parts begins entries)
          → All HoldsIn (if is then (record { head = entry; behind = until begins entries }) ∷ parts begins entries else parts begins entries)
      by true own rest more = All-cons HoldsIn (record { head = entry; behind = until begins entries }) (parts begins entries)
          (record { head = own; behind = until_holds entries rest }) more
      by false own rest more = more

-- what holds of each text holds of each text of the set of them
module _ (P : List ℕ → Type 0) where
  key_holds : (texts : List (List ℕ)) (text : List ℕ) → All P texts → P text → All P (insert_key bytes_eq texts text)
  key_holds texts text all own = by (list_any (bytes_eq text) texts)
    where
      by : (held : Bool) → All P (if held then texts else texts ++ text ∷ [])
      by true = all
      by false = All-push P texts text all own

  pub all_hold : (texts more : List (List ℕ)) → All P texts → All P more → All P (insert_all bytes_eq texts more)
  all_hold texts [] all rest = all
  all_hold texts (text ∷ more) all rest =
      all_hold (insert_key bytes_eq texts text) more (key_holds texts text all (All-head P text more rest)) (All-tail P text more rest)

module _ (bytes : List ℕ) where
  abbrev IsNotEmpty : List ℕ → Type 0
  IsNotEmpty text = text ≢ []

  group_named : (of : Group) (entries : List Entry) → All (IsNamed bytes) entries → All IsNotEmpty (texts_of bytes of entries)
  group_named of entries all =
      All-map IsNotEmpty (λ entry. text_at bytes (name_of entry)) (filter (is_in of) entries)
      (All-filter (is_in of) (IsNamed bytes) entries all)

  texts_named : (entries : List Entry) → All (IsNamed bytes) entries → All IsNotEmpty (texts_in bytes entries)
  texts_named entries all =
      let headers = texts_of bytes group.Headers entries in
      let wires = texts_of bytes group.Wires entries in
      let joined = texts_of bytes group.Joined entries in
      all_hold IsNotEmpty [] (headers ++ (wires ++ joined)) (All-nil IsNotEmpty)
      (All-append IsNotEmpty headers (wires ++ joined) (group_named group.Headers entries all)
      (All-append IsNotEmpty wires joined (group_named group.Wires entries all) (group_named group.Joined entries all)))

  ports_named : (names : List NetName) (part : Part) → HoldsIn (IsNamed bytes) begins_instance part
      → All IsPortNamed (instance_of bytes names part).connections
  ports_named names part holds =
      let own = parts begins_connection part.behind in
      All-map IsPortNamed (connection_of bytes names) own
      (All-weaker (HoldsIn (IsNamed bytes) begins_connection) (λ own. text_at bytes (name_of own.head) ≢ []) (λ own is. is.head) own
      (parts_hold (IsNamed bytes) begins_connection part.behind holds.behind))

  module_named : (part : Part) → HoldsIn (IsNamed bytes) begins_module part → HasNames (module_of bytes part)
  module_named part holds =
      let texts = texts_in bytes part.behind in
      let own = parts begins_instance part.behind in
      record {
        name = holds.head;
        names = All-map (λ name. name.text ≢ []) (name_in bytes part.behind) texts (texts_named part.behind holds.behind);
        instances = All-map (λ instance. instance.name ≢ []) (instance_of bytes (names_in bytes part.behind)) own
            (All-weaker (HoldsIn (IsNamed bytes) begins_instance) (λ own. text_at bytes (name_of own.head) ≢ []) (λ own is. is.head) own
            (parts_hold (IsNamed bytes) begins_instance part.behind holds.behind));
        ports = All-map (λ instance. All IsPortNamed instance.connections) (instance_of bytes (names_in bytes part.behind)) own
            (All-weaker (HoldsIn (IsNamed bytes) begins_instance)
            (λ own. All IsPortNamed (instance_of bytes (names_in bytes part.behind) own).connections)
            (ports_named (names_in bytes part.behind)) own (parts_hold (IsNamed bytes) begins_instance part.behind holds.behind));
      }

  pub modules_named : (modules : List NetModule) → AreModulesOf bytes modules → All HasNames modules
  modules_named modules are =
      let all = parts begins_module are.entries in
      subst (All HasNames) (sym are.are)
      (All-map HasNames (module_of bytes) all
      (All-weaker (HoldsIn (IsNamed bytes) begins_module) (λ part. HasNames (module_of bytes part)) module_named all
      (parts_hold (IsNamed bytes) begins_module are.entries (entries_are_named bytes are.entries are.says.0))))

-- ---- ranges

-- a range that is not past the limits
few_bits : (bounds : Option Range) → is_past bounds ≡ false → IsWithinLimits bounds
few_bits None fine = tt
few_bits (Some range) fine =
    let small = either_false (has_large_bound range) (nat_lt most_bits (width_of range)) fine in
    let bounds = either_false (nat_lt largest_bound range.left) (nat_lt largest_bound range.right) small.0 in
    (ltb-false largest_bound range.left bounds.0, ltb-false largest_bound range.right bounds.1, ltb-false most_bits (width_of range) small.1)
  where
    either_false : (a b : Bool) → (a || b) ≡ false → (a ≡ false) × (b ≡ false)
    either_false true b is = absurd (true≢false is)
    either_false false b is = (refl, is)

-- the range of an entry that declares a name is within the limits
abbrev HasFewBits : Entry → Type 0
HasFewBits (entry.Declared by name bounds) = IsWithinLimits bounds
HasFewBits other = Unit {0}

module _ (bytes : List ℕ) where
  entry_has_few : (find : List ℕ → Option Declaration) (behind : List Entry) (said : Entry) → (is_bad_entry bytes find behind said ≡ true → ⊥) → HasFewBits said
  entry_has_few find behind (entry.Declared how name bounds) never = few_bits bounds (by (is_past bounds) refl)
    where
      by : (past : Bool) → is_past bounds ≡ past → is_past bounds ≡ false
      by true is = absurd (never (ap (λ (b : Bool). b || differs_from (find (text_at bytes name)) (record { by = how; range = bounds })) is))
      by false is = is
  entry_has_few find behind (entry.Module name) never = tt
  entry_has_few find behind (entry.Header name) never = tt
  entry_has_few find behind (entry.Instance cell name) never = tt
  entry_has_few find behind (entry.Port name) never = tt
  entry_has_few find behind (entry.Whole name) never = tt
  entry_has_few find behind (entry.Bit name place) never = tt
  entry_has_few find behind (entry.Part name select) never = tt
  entry_has_few find behind (entry.Constant token) never = tt

  entries_have_few : (entries : List Entry) → IsFaultless bytes entries → All HasFewBits entries
  entries_have_few entries faultless = λ place d below.
      entry_has_few (declared_by bytes entries place) (drop (place + 1) entries) (get_or entries place d)
      (λ bad. faultless fault.BadRange place (record { entry = get_or entries place d; stands = slice_get-get_or entries place d below; bad = bad }))

  range_has_few : (text : List ℕ) (entries : List Entry) → All HasFewBits entries → IsWithinLimits (declared_range (first_said (declaration_of bytes text) entries))
  range_has_few text [] all = tt
  range_has_few text (said ∷ entries) all = by said (All-head HasFewBits said entries all) (range_has_few text entries (All-tail HasFewBits said entries all))
    where
      later : Option Declaration
      later = first_said (declaration_of bytes text) entries

      by : (said : Entry) → HasFewBits said → IsWithinLimits (declared_range later) → IsWithinLimits (declared_range (option_or (declaration_of bytes text said) later))
      by (entry.Declared how name bounds) own rest = chosen (bytes_eq (text_at bytes name) text)
        where
          chosen : (same : Bool) → IsWithinLimits (declared_range (option_or (if same then Some (record { by = how; range = bounds }) else None) later))
          chosen true = own
          chosen false = rest
      by (entry.Module name) own rest = rest
      by (entry.Header name) own rest = rest
      by (entry.Instance cell name) own rest = rest
      by (entry.Port name) own rest = rest
      by (entry.Whole name) own rest = rest
      by (entry.Bit name place) own rest = rest
      by (entry.Part name select) own rest = rest
      by (entry.Constant token) own rest = rest

  module_has_few : (part : Part) → HoldsIn HasFewBits begins_module part → HasFewBitsEach (module_of bytes part)
  module_has_few part holds =
      All-map (λ name. IsWithinLimits name.range) (name_in bytes part.behind) (texts_in bytes part.behind)
      (λ k d below. range_has_few (get_or (texts_in bytes part.behind) k d) part.behind holds.behind)

  pub modules_have_few : (modules : List NetModule) → AreModulesOf bytes modules → All HasFewBitsEach modules
  modules_have_few modules are =
      let all = parts begins_module are.entries in
      subst (All HasFewBitsEach) (sym are.are)
      (All-map HasFewBitsEach (module_of bytes) all
      (All-weaker (HoldsIn HasFewBits begins_module) (λ part. HasFewBitsEach (module_of bytes part)) module_has_few all
      (parts_hold HasFewBits begins_module are.entries (entries_have_few are.entries are.says.1))))
