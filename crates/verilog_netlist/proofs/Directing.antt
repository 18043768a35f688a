-- The names with a direction are those of the header, so they stand first.
use Rattle.std.proofs.Common.{◌≡◌, ◌≢◌, ℕ, zero, suc, ◌+◌, ◌-◌, ◌<◌, ◌≤◌, Bool, true, false, List, [], ◌∷◌, ◌++◌, ◌||◌, map, filter, length, drop, get_or, Option, Some, None, All, refl, sym, ap, ◌∙◌, subst, arith, if◌then◌else◌, inl, inr, true≢false}
use Rattle.std.specs.Prelude.{slice_get}
use Rattle.std.specs.List.{list_any}
use Rattle.std.specs.Option.{option_or}
use Rattle.std.specs.Str.{bytes_eq}
use Rattle.std.proofs.lemmas.List.{length-map, get_or-map, get_or-take, get_or-drop, length-take, length-drop, length-append, get_or_append_left, get_or_default, get_or_push}
use Rattle.std.proofs.lemmas.List.Elements.{All-nil}
use Rattle.std.proofs.lemmas.List.Folds.{list_any-append}
use Rattle.std.proofs.lemmas.Option.{none-some, same_Some, slice_get_within, slice_get-get_or, get_or_from_slice_get}
use Rattle.std.proofs.lemmas.Slice.Eq.{bytes_eq-Decides}
use Rattle.indexmap.specs.IndexSet.{insert_key, insert_all}
use Rattle.token_texts.specs.Spans.{text_at}
use Rattle.verilog_netlist.specs.Namespaces.{name_of, IsAmong, by_own, in_header, begins_module, own_names, header_names}
use Rattle.verilog_netlist.specs.Directions.{StandsAmong}
use Rattle.verilog_netlist.specs.Faults.{IsFaultless}
use Rattle.verilog_netlist.specs.PartPlaces.{no_entry, entry_at, begun, stretch}
use Rattle.verilog_netlist.specs.ModuleNames.{NetName, no_name, is_in, direction_by, way_of, first_said, direction_of, name_in, texts_of, texts_in}
use Rattle.verilog_netlist.specs.NetModules.{module_at}
use Rattle.verilog_netlist.specs.ModuleTables.{modules_in, names_at, AreTables}
use Rattle.verilog_netlist.specs.SoundModules.{HasPortsFirst}
use Rattle.verilog_netlist.specs.declared.entries.Direction.{Direction}
use Rattle.verilog_netlist.specs.declared.entries.Direction.TheVariants as direction
use Rattle.verilog_netlist.specs.declared.entries.Decl.{Decl}
use Rattle.verilog_netlist.specs.declared.entries.Decl.TheVariants as decl
use Rattle.verilog_netlist.specs.declared.entries.Entry.{Entry}
use Rattle.verilog_netlist.specs.declared.entries.Entry.TheVariants as entry
use Rattle.verilog_netlist.specs.declared.faults.NameFault.TheVariants as fault
use Rattle.verilog_netlist.specs.declared.namespaces.Names.{Names}
use Rattle.verilog_netlist.specs.declared.namespaces.Names.TheVariants as names
use Rattle.verilog_netlist.specs.declared.net_names.Group.{Group}
use Rattle.verilog_netlist.specs.declared.net_names.Group.TheVariants as group
use Rattle.verilog_netlist.specs.declared.net_names.Way.{Way}
use Rattle.verilog_netlist.specs.declared.net_names.Way.TheVariants as way
use Rattle.verilog_netlist.specs.declared.tables.Tables.{Tables}
use Rattle.verilog_netlist.proofs.PartsFound.{begun_on, begun_yes, le_or_lt}
use Rattle.verilog_netlist.proofs.Joining.{kept, put_in_all, named_there}
use Rattle.verilog_netlist.proofs.NamedModules.{all_hold}
use Rattle.verilog_netlist.proofs.Sounding.{any_at, same_module}
use Rattle.verilog_netlist.proofs.TableReading.{extent_of, module_there, module_counts, names_are}

-- ---- a set of texts of which those of a list came first

module _ (front : List (List ℕ)) where
  abbrev IsFront : List ℕ → Type 0
  IsFront text = list_any (bytes_eq text) front ≡ true

  record Fronted (texts : List (List ℕ)) : Type 0 where
    held : (text : List ℕ) → IsFront text → list_any (bytes_eq text) texts ≡ true
    first : (i j : ℕ) → i < j → j < length texts → IsFront (get_or texts j []) → IsFront (get_or texts i [])

  fronted_key : (texts : List (List ℕ)) (text : List ℕ) → Fronted texts → Fronted (insert_key bytes_eq texts text)
  fronted_key texts text so_far = by (list_any (bytes_eq text) texts) refl
    where
      by : (has : Bool) → list_any (bytes_eq text) texts ≡ has → Fronted (if has then texts else texts ++ text ∷ [])
      by true is = so_far
      by false is = record {
        held = λ other front. (list_any-append (bytes_eq other) texts (text ∷ []) ∙ ap (λ (b : Bool). b || list_any (bytes_eq other) (text ∷ [])) (so_far.held other front));
        first = λ i j less below front. elim (le_or_lt (length texts) j) [
          | inr inside ↦ subst IsFront (sym (get_or_append_left texts (text ∷ []) [] i (omega arith)))
              (so_far.first i j less inside (subst IsFront (get_or_append_left texts (text ∷ []) [] j inside) front))
          | inl last ↦ absurd (let l = length-append texts (text ∷ []) in let at : j ≡ length texts = omega arith in
              true≢false (sym (so_far.held text (subst IsFront (ap (λ (n : ℕ). get_or (texts ++ text ∷ []) n []) at ∙ get_or_push texts text [] (length texts) refl) front)) ∙ is))
        ];
      }

  fronted_all : (texts more : List (List ℕ)) → Fronted texts → Fronted (insert_all bytes_eq texts more)
  fronted_all texts [] so_far = so_far
  fronted_all texts (text ∷ more) so_far = fronted_all (insert_key bytes_eq texts text) more (fronted_key texts text so_far)

  each_front : All IsFront front
  each_front = λ k d below. any_at (bytes_eq (get_or front k d)) front k below ((bytes_eq-Decides (get_or front k d) (get_or front k [])).1 (get_or_default front k d [] below))

  fronted_start : Fronted (insert_all bytes_eq [] front)
  fronted_start = record {
    held = λ text front_is. put_in_all [] front text front_is;
    first = λ i j less below front_is. all_hold IsFront [] front (All-nil IsFront) each_front i [] (omega arith);
  }

insert_parts : (texts xs ys : List (List ℕ)) → insert_all bytes_eq texts (xs ++ ys) ≡ insert_all bytes_eq (insert_all bytes_eq texts xs) ys
insert_parts texts [] ys = refl
insert_parts texts (x ∷ xs) ys = insert_parts (insert_key bytes_eq texts x) xs ys

-- ---- what entries say of a direction

module _ (bytes : List ℕ) (text : List ℕ) where
  abbrev says : Entry → Option Direction
  says = direction_of bytes text

  none_said : (entries : List Entry) → first_said says entries ≡ None → (k : ℕ) → k < length entries → says (entry_at entries k) ≡ None
  none_said [] none k below = absurd (omega arith)
  none_said (said ∷ entries) none k below = by (says said) refl none (none_said entries) k below
    where
      by : (own : Option Direction) → says said ≡ own → option_or own (first_said says entries) ≡ None
          → (first_said says entries ≡ None → (k : ℕ) → k < length entries → says (entry_at entries k) ≡ None)
          → (k : ℕ) → k < length (said ∷ entries) → says (entry_at (said ∷ entries) k) ≡ None
      by (Some way) is none more k below = absurd (let never = none in cc)
      by None is none more zero below = is
      by None is none more (suc k) below = more none k (omega arith)

  one_said : (entries : List Entry) → (first_said says entries ≡ None → ⊥) → (k : ℕ) × (k < length entries) × (says (entry_at entries k) ≡ None → ⊥)
  one_said [] some = absurd (some refl)
  one_said (said ∷ entries) some = by (says said) refl (one_said entries)
    where
      by : (own : Option Direction) → says said ≡ own → ((first_said says entries ≡ None → ⊥) → (k : ℕ) × (k < length entries) × (says (entry_at entries k) ≡ None → ⊥))
          → (k : ℕ) × (k < length (said ∷ entries)) × (says (entry_at (said ∷ entries) k) ≡ None → ⊥)
      by (Some way) is more = (0, omega arith, λ none. let never : Some way ≡ None = sym is ∙ none in cc)
      by None is more =
          let rest = more (λ none. some (ap (λ (o : Option Direction). option_or o (first_said says entries)) is ∙ none)) in
          let below = rest.1 in (suc rest.0, omega arith, rest.2)

  -- an entry that declares a direction of a name of this text says one
  among_says : (one : Entry) → IsAmong names.Directions one → text_at bytes (name_of one) ≡ text → says one ≡ None → ⊥
  among_says (entry.Declared decl.Wire name bounds) (by_own is) same none = cc
  among_says (entry.Declared (decl.InHeader way) name bounds) (by_own is) same none =
      let never = ap (λ (b : Bool). if b then Some way else None) (sym ((bytes_eq-Decides (text_at bytes name) text).1 same)) ∙ none in cc
  among_says (entry.Declared (decl.Port way) name bounds) (by_own is) same none =
      let never = ap (λ (b : Bool). if b then Some way else None) (sym ((bytes_eq-Decides (text_at bytes name) text).1 same)) ∙ none in cc
  among_says (entry.Declared (decl.InHeader way) name bounds) (in_header is) same none = cc
  among_says (entry.Declared decl.Wire name bounds) (in_header is) same none = cc
  among_says (entry.Declared (decl.Port way) name bounds) (in_header is) same none = cc
  among_says (entry.Module name) (by_own is) same none = cc
  among_says (entry.Header name) (by_own is) same none = cc
  among_says (entry.Instance cell name) (by_own is) same none = cc
  among_says (entry.Port name) (by_own is) same none = cc
  among_says (entry.Whole name) (by_own is) same none = cc
  among_says (entry.Bit name place) (by_own is) same none = cc
  among_says (entry.Part name bounds) (by_own is) same none = cc
  among_says (entry.Constant token) (by_own is) same none = cc
  among_says (entry.Module name) (in_header is) same none = cc
  among_says (entry.Header name) (in_header is) same none = cc
  among_says (entry.Instance cell name) (in_header is) same none = cc
  among_says (entry.Port name) (in_header is) same none = cc
  among_says (entry.Whole name) (in_header is) same none = cc
  among_says (entry.Bit name place) (in_header is) same none = cc
  among_says (entry.Part name bounds) (in_header is) same none = cc
  among_says (entry.Constant token) (in_header is) same none = cc

  -- and an entry that says one declares it
  says_among : (one : Entry) → (says one ≡ None → ⊥) → IsAmong names.Directions one × (text_at bytes (name_of one) ≡ text)
  says_among (entry.Declared how name bounds) some = by how (bytes_eq (text_at bytes name) text) refl some
    where
      by : (how : Decl) (same : Bool) → bytes_eq (text_at bytes name) text ≡ same → ((if same then direction_by how else None) ≡ None → ⊥)
          → IsAmong names.Directions (entry.Declared how name bounds) × (text_at bytes name ≡ text)
      by decl.Wire true is some = absurd (some refl)
      by (decl.InHeader way) true is some = (by_own refl, (bytes_eq-Decides (text_at bytes name) text).0 is)
      by (decl.Port way) true is some = (by_own refl, (bytes_eq-Decides (text_at bytes name) text).0 is)
      by how false is some = absurd (some refl)
  says_among (entry.Module name) some = absurd (some refl)
  says_among (entry.Header name) some = absurd (some refl)
  says_among (entry.Instance cell name) some = absurd (some refl)
  says_among (entry.Port name) some = absurd (some refl)
  says_among (entry.Whole name) some = absurd (some refl)
  says_among (entry.Bit name place) some = absurd (some refl)
  says_among (entry.Part name bounds) some = absurd (some refl)
  says_among (entry.Constant token) some = absurd (some refl)

header_among : (one : Entry) → is_in group.Headers one ≡ true → IsAmong names.Headers one
header_among (entry.Header name) is = by_own refl
header_among (entry.Declared (decl.InHeader way) name bounds) is = in_header refl
header_among _ is = absurd (true≢false (sym is))

among_header : (one : Entry) → IsAmong names.Headers one → is_in group.Headers one ≡ true
among_header (entry.Header name) is = refl
among_header (entry.Declared (decl.InHeader way) name bounds) is = refl
among_header (entry.Declared decl.Wire name bounds) (by_own is) = cc
among_header (entry.Declared decl.Wire name bounds) (in_header is) = cc
among_header (entry.Declared (decl.Port way) name bounds) (by_own is) = cc
among_header (entry.Declared (decl.Port way) name bounds) (in_header is) = cc
among_header (entry.Module name) (by_own is) = cc
among_header (entry.Module name) (in_header is) = cc
among_header (entry.Instance cell name) (by_own is) = cc
among_header (entry.Instance cell name) (in_header is) = cc
among_header (entry.Port name) (by_own is) = cc
among_header (entry.Port name) (in_header is) = cc
among_header (entry.Whole name) (by_own is) = cc
among_header (entry.Whole name) (in_header is) = cc
among_header (entry.Bit name place) (by_own is) = cc
among_header (entry.Bit name place) (in_header is) = cc
among_header (entry.Part name bounds) (by_own is) = cc
among_header (entry.Part name bounds) (in_header is) = cc
among_header (entry.Constant token) (by_own is) = cc
among_header (entry.Constant token) (in_header is) = cc

-- a text of a group is that of an entry
from_group : (of : Group) (bytes : List ℕ) (text : List ℕ) (l : List Entry) → list_any (bytes_eq text) (texts_of bytes of l) ≡ true
    → (k : ℕ) × (k < length l) × (is_in of (entry_at l k) ≡ true) × (text_at bytes (name_of (entry_at l k)) ≡ text)
from_group of bytes text [] is = absurd (true≢false (sym is))
from_group of bytes text (e ∷ l) is = by (is_in of e) refl is (from_group of bytes text l)
  where
    Stands : List Entry → Type 0
    Stands all = (k : ℕ) × (k < length all) × (is_in of (entry_at all k) ≡ true) × (text_at bytes (name_of (entry_at all k)) ≡ text)

    later : (list_any (bytes_eq text) (texts_of bytes of l) ≡ true → Stands l) → list_any (bytes_eq text) (texts_of bytes of l) ≡ true → Stands (e ∷ l)
    later more is = let rest = more is in let below = rest.1 in (suc rest.0, omega arith, rest.2, rest.3)

    here : (list_any (bytes_eq text) (texts_of bytes of l) ≡ true → Stands l) → is_in of e ≡ true → (b : Bool) → bytes_eq text (text_at bytes (name_of e)) ≡ b → (b || list_any (bytes_eq text) (texts_of bytes of l)) ≡ true → Stands (e ∷ l)
    here more is_one true same is = (0, omega arith, is_one, sym ((bytes_eq-Decides text (text_at bytes (name_of e))).0 same))
    here more is_one false differ is = later more is

    by : (b : Bool) → is_in of e ≡ b → list_any (bytes_eq text) (map (λ (x : Entry). text_at bytes (name_of x)) (if b then e ∷ filter (is_in of) l else filter (is_in of) l)) ≡ true → (list_any (bytes_eq text) (texts_of bytes of l) ≡ true → Stands l) → Stands (e ∷ l)
    by true is_one is more = here more is_one (bytes_eq text (text_at bytes (name_of e))) refl is
    by false differs is more = later more is

inner_none : (said : Option Direction) → way_of said ≡ way.Inner → said ≡ None
inner_none None is = refl
inner_none (Some direction.In) is = cc
inner_none (Some direction.Out) is = cc

-- ---- a module

module _ (t : Tables) (h : AreTables t) (faultless : IsFaultless t.bytes.now t.entries.items) (m : ℕ) (below : m < length (modules_in t)) where
  abbrev bytes : List ℕ
  bytes = t.bytes.now

  abbrev entries : List Entry
  entries = t.entries.items

  abbrev s : ℕ
  s = (extent_of t h m).place

  abbrev e : ℕ
  e = (extent_of t h m).end

  abbrev own : List Entry
  own = stretch entries (s + 1) e

  abbrev headers : List (List ℕ)
  headers = texts_of bytes group.Headers own

  order : (s < e) × (e ≤ length entries)
  order = let o = (module_there t h m below).extent in (o.head, o.within)

  length_own : length own ≡ e - (s + 1)
  length_own = length-take (e - (s + 1)) (drop (s + 1) entries) ∙ (let d = length-drop (s + 1) entries in let w = order.1 in omega arith)

  at_own : (place : ℕ) → s < place → place < e → entry_at own (place - (s + 1)) ≡ entry_at entries place
  at_own place low high = get_or-take (e - (s + 1)) (drop (s + 1) entries) (place - (s + 1)) no_entry (omega arith) ∙ get_or-drop (s + 1) entries (place - (s + 1)) no_entry ∙ ap (entry_at entries) (omega arith)

  -- an entry in the scope of this module that begins none stands in it
  inside : (q : ℕ) → q < length entries → begins_module (entry_at entries q) ≡ false → begun begins_module entries (q + 1) ≡ m + 1 → (s < q) × (q < e)
  inside q within plain same = (low, high)
    where
      low : s < q
      low = elim (le_or_lt q s) [
        | inr more ↦ more
        | inl few ↦ elim (le_or_lt s q) [
          | inr less ↦ absurd (let a = begun_on begins_module entries (q + 1) s (omega arith) in let b = (module_counts t h m below).before in omega arith)
          | inl also ↦ absurd (let at : s ≡ q = omega arith in true≢false (sym (module_counts t h m below).begins ∙ ap (λ (k : ℕ). begins_module (entry_at entries k)) at ∙ plain))
        ]
      ]

      high : q < e
      high = elim (le_or_lt e q) [
        | inr less ↦ less
        | inl past ↦ absurd (
            let counts = module_counts t h m below in
            let y = begun_yes begins_module entries e (omega arith) (counts.next (omega arith)) in
            let a = begun_on begins_module entries (e + 1) (q + 1) (omega arith) in
            let c = counts.past in
            omega arith)
      ]

  -- an entry that another stands for, in the scope of a place of this module
  own_place : (q place : ℕ) (one : Entry) → s < place → place < e → slice_get entries q ≡ Some one → begins_module one ≡ false
      → begun begins_module entries (q + 1) ≡ begun begins_module entries (place + 1)
      → (k : ℕ) × (k < length own) × (entry_at own k ≡ one)
  own_place q place one low high stands plain same =
      let within = slice_get_within entries q one stands in
      let is : entry_at entries q ≡ one = get_or_from_slice_get entries q one no_entry stands in
      let there = inside q within (ap begins_module is ∙ plain) (same ∙ same_module t h m below place low high) in
      let l = length_own in let a = there.0 in let b = there.1 in
      (q - (s + 1), omega arith, at_own q a b ∙ is)

  -- only a module's own name begins one
  begins_none : (among : Names) → (among ≡ names.Modules → ⊥) → (one : Entry) → IsAmong among one → begins_module one ≡ false
  begins_none among other (entry.Module name) (by_own is) = absurd (other (sym (same_Some names.Modules among is)))
  begins_none among other (entry.Module name) (in_header is) = absurd (none-some among is)
  begins_none among other (entry.Header name) is = refl
  begins_none among other (entry.Declared how name bounds) is = refl
  begins_none among other (entry.Instance cell name) is = refl
  begins_none among other (entry.Port name) is = refl
  begins_none among other (entry.Whole name) is = refl
  begins_none among other (entry.Bit name place) is = refl
  begins_none among other (entry.Part name bounds) is = refl
  begins_none among other (entry.Constant token) is = refl

  module _ (text : List ℕ) where
    abbrev said : Option Direction
    said = first_said (direction_of bytes text) own

    -- the place of an entry of this module
    module _ (k : ℕ) (few : k < length own) where
      abbrev place : ℕ
      place = s + 1 + k

      place_low : s < place
      place_low = omega arith

      place_high : place < e
      place_high = let l = length_own in let o = order.0 in omega arith

      place_is : entry_at own k ≡ entry_at entries place
      place_is = ap (entry_at own) (let a : k ≡ place - (s + 1) = omega arith in a) ∙ at_own place place_low place_high

      place_stands : slice_get entries place ≡ Some (entry_at entries place)
      place_stands = slice_get-get_or entries place no_entry (let w = order.1 in let b = place_high in omega arith)

    -- a name of the header has a direction
    headed : (k : ℕ) → k < length own → is_in group.Headers (entry_at own k) ≡ true → text_at bytes (name_of (entry_at own k)) ≡ text → said ≡ None → ⊥
    headed k few is same none =
        let at = place k few in
        let here = place_is k few in
        faultless fault.PortDirection at (record {
          among = names.Headers;
          other = names.Directions;
          one = entry_at entries at;
          one_stands = place_stands k few;
          one_among = subst (IsAmong names.Headers) here (header_among (entry_at own k) is);
          pair = refl;
          lacks = λ stands. (
              let found = own_place stands.at at stands.one (place_low k few) (place_high k few) stands.one_stands (begins_none names.Directions (λ is. cc) stands.one stands.one_among) stands.one_scope in
              among_says bytes text stands.one stands.one_among (stands.one_text ∙ ap (λ (x : Entry). text_at bytes (name_of x)) (sym here) ∙ same)
              (sym (ap (direction_of bytes text) found.2) ∙ none_said bytes text own none found.0 found.1));
        })

    -- a name with a direction is one of the header
    directed : (said ≡ None → ⊥) → list_any (bytes_eq text) headers ≡ false → ⊥
    directed some none =
        let found = one_said bytes text own some in
        let k = found.0 in
        let few = found.1 in
        let at = place k few in
        let here = place_is k few in
        let own_says = says_among bytes text (entry_at own k) found.2 in
        faultless fault.PortDirection at (record {
          among = names.Directions;
          other = names.Headers;
          one = entry_at entries at;
          one_stands = place_stands k few;
          one_among = subst (IsAmong names.Directions) here own_says.0;
          pair = refl;
          lacks = λ stands. (
              let other = own_place stands.at at stands.one (place_low k few) (place_high k few) stands.one_stands (begins_none names.Headers (λ is. cc) stands.one stands.one_among) stands.one_scope in
              let same : text_at bytes (name_of (entry_at own other.0)) ≡ text = ap (λ (x : Entry). text_at bytes (name_of x)) other.2 ∙ stands.one_text ∙ ap (λ (x : Entry). text_at bytes (name_of x)) (sym here) ∙ own_says.1 in
              true≢false (sym (subst (λ (x : List ℕ). list_any (bytes_eq x) headers ≡ true) same
              (named_there group.Headers bytes own other.0 other.1 (ap (is_in group.Headers) other.2 ∙ among_header stands.one stands.one_among))) ∙ none));
        })

  abbrev texts : List (List ℕ)
  texts = texts_in bytes own

  abbrev others : List (List ℕ)
  others = texts_of bytes group.Wires own ++ texts_of bytes group.Joined own

  fronted : Fronted headers texts
  fronted = subst (Fronted headers) (sym (insert_parts [] headers others)) (fronted_all headers (insert_all bytes_eq [] headers) others (fronted_start headers))

  way_is : (i : ℕ) → i < length texts → (get_or (names_at t m) i no_name).way ≡ way_of (said (get_or texts i []))
  way_is i few = ap (λ (l : List NetName). (get_or l i no_name).way) (names_are t h m (extent_of t h m) (module_there t h m below))
      ∙ ap (λ (n : NetName). n.way) (get_or-map (name_in bytes own) texts i [] no_name few)

  pub ports_first : HasPortsFirst (module_at (modules_in t) m)
  ports_first i j less few ported inner =
      let size = ap length (names_are t h m (extent_of t h m) (module_there t h m below)) ∙ length-map texts (name_in bytes own) in
      let j_few : j < length texts = omega arith in
      let i_few : i < length texts = omega arith in
      let ours : said (get_or texts i []) ≡ None = inner_none (said (get_or texts i [])) (sym (way_is i i_few) ∙ inner) in
      by (list_any (bytes_eq (get_or texts j [])) headers) refl j_few ours
    where
      by : (b : Bool) → list_any (bytes_eq (get_or texts j [])) headers ≡ b → j < length texts → said (get_or texts i []) ≡ None → ⊥
      by true front j_few ours =
          let found = from_group group.Headers bytes (get_or texts i []) own (fronted.first i j less j_few front) in
          headed (get_or texts i []) found.0 found.1 found.2 found.3 ours
      by false none j_few ours =
          directed (get_or texts j []) (λ is. ported (way_is j j_few ∙ ap way_of is)) none
