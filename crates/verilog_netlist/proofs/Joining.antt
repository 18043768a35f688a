-- What is joined to a port is within the range of its name.
use Rattle.std.proofs.Common.{◌≡◌, ℕ, zero, suc, ◌+◌, ◌-◌, ◌<◌, ◌≤◌, Bool, true, false, not, ◌||◌, ◌&&◌, ◌==◌, nat_lt, List, [], ◌∷◌, ◌++◌, length, map, filter, drop, get_or, slice_get, Option, Some, None, refl, sym, ap, ap₂, ◌∙◌, subst, arith, cond, if◌then◌else◌, true≢false}
use Rattle.std.specs.List.{list_any, position_or_len}
use Rattle.std.specs.Str.{bytes_eq}
use Rattle.std.specs.Option.{option_or}
use Rattle.std.proofs.lemmas.Bool.{ltb-false, ne_eqb, eq-eqb}
use Rattle.std.proofs.lemmas.List.{length-map, get_or-map, get_or-take, get_or-drop, length-take, length-drop}
use Rattle.std.proofs.lemmas.List.Folds.{list_any-append}
use Rattle.std.proofs.lemmas.Option.{same_Some, slice_get_within, slice_get-get_or}
use Rattle.std.proofs.lemmas.Slice.Eq.{bytes_eq-Decides}
use Rattle.indexmap.specs.IndexSet.{insert_key, insert_all}
use Rattle.token_texts.specs.Spans.{text_at}
use Rattle.verilog_netlist.specs.Namespaces.{name_of, begins_module}
use Rattle.verilog_netlist.specs.Faults.{IsFaultless}
use Rattle.verilog_netlist.specs.Ranges.{largest_bound, width_of, whole_width, has_large_bound, is_outside, runs_against, is_bad_bit, is_bad_part, is_bad_entry, declared_range, declares, or_first, first_declared, declared_by}
use Rattle.verilog_netlist.specs.PartPlaces.{no_entry, entry_at, begun, stretch}
use Rattle.verilog_netlist.specs.ModuleNames.{NetName, no_name, is_in, first_said, declaration_of, name_in, texts_of, texts_in, number_of, range_of}
use Rattle.verilog_netlist.specs.NetModules.{module_at, instance_at, runs_at, from_left, run_of}
use Rattle.verilog_netlist.specs.ModuleTables.{modules_in, names_at, run_at, AreTables}
use Rattle.verilog_netlist.specs.SoundModules.{AreWithin}
use Rattle.verilog_netlist.specs.declared.declared.Declaration.{Declaration}
use Rattle.verilog_netlist.specs.declared.entries.Range.{Range}
use Rattle.verilog_netlist.specs.declared.entries.Entry.{Entry}
use Rattle.verilog_netlist.specs.declared.entries.Entry.TheVariants.{Module, Header, Declared, Instance, Port, Whole, Bit, Part, Constant}
use Rattle.verilog_netlist.specs.declared.faults.NameFault.TheVariants as fault
use Rattle.verilog_netlist.specs.declared.net_names.Group.{Group}
use Rattle.verilog_netlist.specs.declared.net_names.Group.TheVariants as group
use Rattle.verilog_netlist.specs.declared.runs.Run.{Run}
use Rattle.verilog_netlist.specs.declared.tables.Tables.{Tables}
use Rattle.verilog_netlist.proofs.PartsFound.{begun_on, begun_yes}
use Rattle.verilog_netlist.proofs.Naming.{said_push}
use Rattle.verilog_netlist.proofs.TableReading.{extent_of, module_there, module_counts, names_are, position_named, stretch_more, stretch_none, runs_counted, run_found, joined_extent, ends_within, is_joined}
use Rattle.verilog_netlist.proofs.Sounding.{or_later, same_module, instance_there, connection_there}

-- what is in is found
either : (a b : Bool) → a ≡ true → (a || b) ≡ true
either true b is = refl
either false b is = absurd (true≢false (sym is))

false_first : (a b : Bool) → (a || b) ≡ false → a ≡ false
false_first true b is = absurd (true≢false is)
false_first false b is = refl

false_later : (a b : Bool) → (a || b) ≡ false → b ≡ false
false_later true b is = absurd (true≢false is)
false_later false b is = is

pub kept : (p : List ℕ → Bool) (texts : List (List ℕ)) (other : List ℕ) → list_any p texts ≡ true → list_any p (insert_key bytes_eq texts other) ≡ true
kept p texts other is = by (list_any (bytes_eq other) texts) refl
  where
    by : (held : Bool) → list_any (bytes_eq other) texts ≡ held → list_any p (if list_any (bytes_eq other) texts then texts else texts ++ other ∷ []) ≡ true
    by true h = ap (λ (b : Bool). list_any p (if b then texts else texts ++ other ∷ [])) h ∙ is
    by false h = ap (λ (b : Bool). list_any p (if b then texts else texts ++ other ∷ [])) h ∙ list_any-append p texts (other ∷ []) ∙ either (list_any p texts) (list_any p (other ∷ [])) is

kept_all : (p : List ℕ → Bool) (texts more : List (List ℕ)) → list_any p texts ≡ true → list_any p (insert_all bytes_eq texts more) ≡ true
kept_all p texts [] is = is
kept_all p texts (other ∷ more) is = kept_all p (insert_key bytes_eq texts other) more (kept p texts other is)

put_in : (texts : List (List ℕ)) (text : List ℕ) → list_any (bytes_eq text) (insert_key bytes_eq texts text) ≡ true
put_in texts text = by (list_any (bytes_eq text) texts) refl
  where
    by : (held : Bool) → list_any (bytes_eq text) texts ≡ held → list_any (bytes_eq text) (if list_any (bytes_eq text) texts then texts else texts ++ text ∷ []) ≡ true
    by true h = ap (λ (b : Bool). list_any (bytes_eq text) (if b then texts else texts ++ text ∷ [])) h ∙ h
    by false h = ap (λ (b : Bool). list_any (bytes_eq text) (if b then texts else texts ++ text ∷ [])) h ∙ list_any-append (bytes_eq text) texts (text ∷ [])
        ∙ or_later (list_any (bytes_eq text) texts) (list_any (bytes_eq text) (text ∷ [])) (either (bytes_eq text text) false ((bytes_eq-Decides text text).1 refl))

pub put_in_all : (texts more : List (List ℕ)) (text : List ℕ) → list_any (bytes_eq text) more ≡ true → list_any (bytes_eq text) (insert_all bytes_eq texts more) ≡ true
put_in_all texts [] text is = absurd (true≢false (sym is))
put_in_all texts (other ∷ more) text is = by (bytes_eq text other) refl (put_in_all (insert_key bytes_eq texts other) more text)
  where
    by : (b : Bool) → bytes_eq text other ≡ b → (list_any (bytes_eq text) more ≡ true → list_any (bytes_eq text) (insert_all bytes_eq (insert_key bytes_eq texts other) more) ≡ true)
        → list_any (bytes_eq text) (insert_all bytes_eq texts (other ∷ more)) ≡ true
    by true h later = kept_all (bytes_eq text) (insert_key bytes_eq texts other) more
        (subst (λ (t : List ℕ). list_any (bytes_eq text) (insert_key bytes_eq texts t) ≡ true) ((bytes_eq-Decides text other).0 h) (put_in texts text))
    by false h later = later (sym (ap (λ (b : Bool). b || list_any (bytes_eq text) more) h) ∙ is)

-- the first that is found
first_found : (p : List ℕ → Bool) (texts : List (List ℕ)) → list_any p texts ≡ true → (position_or_len p texts < length texts) × (p (get_or texts (position_or_len p texts) []) ≡ true)
first_found p [] is = absurd (true≢false (sym is))
first_found p (text ∷ texts) is = by (p text) refl (first_found p texts)
  where
    at : (b : Bool) → p text ≡ b → position_or_len p (text ∷ texts) ≡ cond (not b) (1 + position_or_len p texts) 0
    at b h = ap (λ (t : Bool). cond (not t) (1 + position_or_len p texts) 0) h

    by : (b : Bool) → p text ≡ b → (list_any p texts ≡ true → (position_or_len p texts < length texts) × (p (get_or texts (position_or_len p texts) []) ≡ true))
        → (position_or_len p (text ∷ texts) < length (text ∷ texts)) × (p (get_or (text ∷ texts) (position_or_len p (text ∷ texts)) []) ≡ true)
    by true h more = ((let a = at true h in omega arith), ap (λ (n : ℕ). p (get_or (text ∷ texts) n [])) (at true h) ∙ h)
    by false h more =
        let m = more (sym (ap (λ (b : Bool). b || list_any p texts) h) ∙ is) in
        let a : position_or_len p (text ∷ texts) ≡ suc (position_or_len p texts) = at false h ∙ omega arith in
        ((let b = m.0 in omega arith), ap (λ (n : ℕ). p (get_or (text ∷ texts) n [])) a ∙ m.1)

-- the name of an entry of a group
pub named_there : (of : Group) (bytes : List ℕ) (l : List Entry) (j : ℕ) → j < length l → is_in of (entry_at l j) ≡ true
    → list_any (bytes_eq (text_at bytes (name_of (entry_at l j)))) (texts_of bytes of l) ≡ true
named_there of bytes [] j below is = absurd (omega arith)
named_there of bytes (e ∷ l) zero below is =
    ap (λ (b : Bool). list_any (bytes_eq (text_at bytes (name_of e))) (map (λ (x : Entry). text_at bytes (name_of x)) (if b then e ∷ filter (is_in of) l else filter (is_in of) l))) is
    ∙ either (bytes_eq (text_at bytes (name_of e)) (text_at bytes (name_of e))) (list_any (bytes_eq (text_at bytes (name_of e))) (texts_of bytes of l)) ((bytes_eq-Decides (text_at bytes (name_of e)) (text_at bytes (name_of e))).1 refl)
named_there of bytes (e ∷ l) (suc j) below is = by (is_in of e) refl (named_there of bytes l j (omega arith) is)
  where
    text : List ℕ
    text = text_at bytes (name_of (entry_at l j))

    all : (b : Bool) → is_in of e ≡ b → list_any (bytes_eq text) (texts_of bytes of (e ∷ l)) ≡ list_any (bytes_eq text) (map (λ (x : Entry). text_at bytes (name_of x)) (if b then e ∷ filter (is_in of) l else filter (is_in of) l))
    all b h = ap (λ (t : Bool). list_any (bytes_eq text) (map (λ (x : Entry). text_at bytes (name_of x)) (if t then e ∷ filter (is_in of) l else filter (is_in of) l))) h

    by : (b : Bool) → is_in of e ≡ b → list_any (bytes_eq text) (texts_of bytes of l) ≡ true → list_any (bytes_eq text) (texts_of bytes of (e ∷ l)) ≡ true
    by true h more = all true h ∙ or_later (bytes_eq text (text_at bytes (name_of e))) (list_any (bytes_eq text) (texts_of bytes of l)) more
    by false h more = all false h ∙ more

-- the first declaration of a name in a module is the first among the module's entries
none_elsewhere : (bytes : List ℕ) (asked here : ℕ) (text : List ℕ) (e : Option Entry) → (asked == here) ≡ false → declares bytes asked text here e ≡ None
none_elsewhere bytes asked here text (Some (Declared by span bounds)) h = ap (λ (b : Bool). if b && bytes_eq text (text_at bytes span) then Some (record { by = by; range = bounds }) else None) h
none_elsewhere bytes asked here text None h = refl
none_elsewhere bytes asked here text (Some (Module name)) h = refl
none_elsewhere bytes asked here text (Some (Header name)) h = refl
none_elsewhere bytes asked here text (Some (Instance cell name)) h = refl
none_elsewhere bytes asked here text (Some (Port name)) h = refl
none_elsewhere bytes asked here text (Some (Whole name)) h = refl
none_elsewhere bytes asked here text (Some (Bit name place)) h = refl
none_elsewhere bytes asked here text (Some (Part name bounds)) h = refl
none_elsewhere bytes asked here text (Some (Constant token)) h = refl

none_by_module : (bytes : List ℕ) (asked here : ℕ) (text : List ℕ) (e : Entry) → begins_module e ≡ true → declares bytes asked text here (Some e) ≡ None
none_by_module bytes asked here text (Module name) is = refl
none_by_module bytes asked here text _ is = absurd (true≢false (sym is))

turned : (one other : List ℕ) → bytes_eq one other ≡ bytes_eq other one
turned one other = by (bytes_eq one other) (bytes_eq other one) refl refl
  where
    by : (a b : Bool) → bytes_eq one other ≡ a → bytes_eq other one ≡ b → bytes_eq one other ≡ bytes_eq other one
    by true b h k = h ∙ sym ((bytes_eq-Decides other one).1 (sym ((bytes_eq-Decides one other).0 h)))
    by false true h k = absurd (true≢false (sym ((bytes_eq-Decides one other).1 (sym ((bytes_eq-Decides other one).0 k))) ∙ h))
    by false false h k = h ∙ sym k

said_here : (bytes : List ℕ) (asked here : ℕ) (text : List ℕ) (e : Entry) → (asked == here) ≡ true → declares bytes asked text here (Some e) ≡ declaration_of bytes text e
said_here bytes asked here text (Declared by span bounds) h =
    ap₂ (λ (a b : Bool). if a && b then Some (record { by = by; range = bounds }) else None) h (turned text (text_at bytes span))
said_here bytes asked here text (Module name) h = refl
said_here bytes asked here text (Header name) h = refl
said_here bytes asked here text (Instance cell name) h = refl
said_here bytes asked here text (Port name) h = refl
said_here bytes asked here text (Whole name) h = refl
said_here bytes asked here text (Bit name place) h = refl
said_here bytes asked here text (Part name bounds) h = refl
said_here bytes asked here text (Constant token) h = refl

or_is : (found later : Option Declaration) → or_first found later ≡ option_or found later
or_is None later = refl
or_is (Some first) later = refl

first_none : (found : Option Declaration) → or_first found None ≡ found
first_none None = refl
first_none (Some first) = refl

-- bits within a range
module _ (range : Range) where
  inside_up : (place : ℕ) → nat_lt range.left range.right ≡ true → is_outside range place ≡ false → (range.left ≤ place) × (place ≤ range.right)
  inside_up place up ok =
      let o = sym (ap (λ (b : Bool). if b then nat_lt place range.left || nat_lt range.right place else nat_lt place range.right || nat_lt range.left place) up) ∙ ok in
      (ltb-false place range.left (false_first (nat_lt place range.left) (nat_lt range.right place) o), ltb-false range.right place (false_later (nat_lt place range.left) (nat_lt range.right place) o))

  inside_down : (place : ℕ) → nat_lt range.left range.right ≡ false → is_outside range place ≡ false → (range.right ≤ place) × (place ≤ range.left)
  inside_down place down ok =
      let o = sym (ap (λ (b : Bool). if b then nat_lt place range.left || nat_lt range.right place else nat_lt place range.right || nat_lt range.left place) down) ∙ ok in
      (ltb-false place range.right (false_first (nat_lt place range.right) (nat_lt range.left place) o), ltb-false range.left place (false_later (nat_lt place range.right) (nat_lt range.left place) o))

  width_is : (b : Bool) → nat_lt range.left range.right ≡ b → width_of range ≡ (if b then range.right - range.left else range.left - range.right) + 1
  width_is b h = ap (λ (t : Bool). (if t then range.right - range.left else range.left - range.right) + 1) h

  left_is : (place : ℕ) (b : Bool) → nat_lt range.left range.right ≡ b → from_left (Some range) place ≡ (if b then place - range.left else range.left - place)
  left_is place b h = ap (λ (t : Bool). if t then place - range.left else range.left - place) h

bit_near : (found : Option Range) (place : ℕ) → is_bad_bit found place ≡ false → from_left found place + 1 ≤ whole_width found
bit_near None place ok = absurd (true≢false ok)
bit_near (Some range) place ok = by (nat_lt range.left range.right) refl
  where
    by : (b : Bool) → nat_lt range.left range.right ≡ b → from_left (Some range) place + 1 ≤ width_of range
    by true h = let i = inside_up range place h (false_later (nat_lt largest_bound place) (is_outside range place) ok) in let w = width_is range true h in let f = left_is range place true h in let a = i.0 in let c = i.1 in omega arith
    by false h = let i = inside_down range place h (false_later (nat_lt largest_bound place) (is_outside range place) ok) in let w = width_is range false h in let f = left_is range place false h in let a = i.0 in let c = i.1 in omega arith

part_near : (found : Option Range) (select : Range) → is_bad_part found select ≡ false → from_left found select.left + width_of select ≤ whole_width found
part_near None select ok = absurd (true≢false ok)
part_near (Some range) select ok = by (nat_lt range.left range.right) (nat_lt select.left select.right) refl refl
  where
    large : Bool
    large = has_large_bound select

    outside : Bool
    outside = large || is_outside range select.left

    both : outside || is_outside range select.right ≡ false
    both = false_first (outside || is_outside range select.right) (runs_against range select) ok

    left_ok : is_outside range select.left ≡ false
    left_ok = false_later large (is_outside range select.left) (false_first outside (is_outside range select.right) both)

    right_ok : is_outside range select.right ≡ false
    right_ok = false_later outside (is_outside range select.right) both

    along : (b : Bool) → nat_lt range.left range.right ≡ b → (if b then nat_lt select.right select.left else nat_lt select.left select.right) ≡ false
    along b h = sym (ap (λ (t : Bool). if t then nat_lt select.right select.left else nat_lt select.left select.right) h) ∙ false_later (outside || is_outside range select.right) (runs_against range select) ok

    by : (b d : Bool) → nat_lt range.left range.right ≡ b → nat_lt select.left select.right ≡ d → from_left (Some range) select.left + width_of select ≤ width_of range
    by true true h k =
        let i = inside_up range select.left h left_ok in let j = inside_up range select.right h right_ok in
        let w = width_is range true h in let v = width_is select true k in let f = left_is range select.left true h in
        let o = ltb-false select.right select.left (along true h) in
        let a = i.0 in let c = i.1 in let d = j.0 in let e = j.1 in omega arith
    by true false h k =
        let i = inside_up range select.left h left_ok in let j = inside_up range select.right h right_ok in
        let w = width_is range true h in let v = width_is select false k in let f = left_is range select.left true h in
        let o = ltb-false select.right select.left (along true h) in
        let a = i.0 in let c = i.1 in let d = j.0 in let e = j.1 in omega arith
    by false true h k = absurd (true≢false (sym k ∙ along false h))
    by false false h k =
        let i = inside_down range select.left h left_ok in let j = inside_down range select.right h right_ok in
        let w = width_is range false h in let v = width_is select false k in let f = left_is range select.left false h in
        let o = ltb-false select.left select.right (along false h) in
        let a = i.0 in let c = i.1 in let d = j.0 in let e = j.1 in omega arith

module _ (t : Tables) (h : AreTables t) (m : ℕ) (below : m < length (modules_in t)) where
  abbrev bytes : List ℕ
  bytes = t.bytes.now

  abbrev entries : List Entry
  entries = t.entries.items

  abbrev s : ℕ
  s = (extent_of t h m).place

  abbrev e : ℕ
  e = (extent_of t h m).end

  abbrev own : List Entry
  own = stretch entries (s + 1) e

  order : (s < e) × (e ≤ length entries)
  order = let o = (module_there t h m below).extent in (o.head, o.within)

  named : names_at t m ≡ map (name_in bytes own) (texts_in bytes own)
  named = names_are t h m (extent_of t h m) (module_there t h m below)

  -- as many modules as have begun up to each place of this one
  module _ (text : List ℕ) where
    abbrev declared : ℕ → Option Declaration
    declared n = first_declared bytes entries (m + 1) text n

    abbrev here : ℕ → ℕ
    here n = begun begins_module entries (n + 1)

    before : (n : ℕ) → n ≤ s → declared n ≡ None
    before zero few = refl
    before (suc n) few = ap₂ or_first (before n (omega arith))
        (none_elsewhere bytes (m + 1) (here n) text (slice_get entries n) (ne_eqb (m + 1) (here n) (λ same. absurd (let a = begun_on begins_module entries (n + 1) s (omega arith) in let c = (module_counts t h m below).before in omega arith))))

    at_head : declared (suc s) ≡ None
    at_head = ap₂ or_first (before s (omega arith))
        (ap (declares bytes (m + 1) text (here s)) (slice_get-get_or entries s no_entry (let o = order.0 in let w = order.1 in omega arith))
        ∙ none_by_module bytes (m + 1) (here s) text (entry_at entries s) (module_counts t h m below).begins)

    inside : (d : ℕ) → s + 1 + d ≤ e → declared (s + 1 + d) ≡ first_said (declaration_of bytes text) (stretch entries (s + 1) (s + 1 + d))
    inside zero few =
        ap declared (let a : s + 1 + 0 ≡ suc s = omega arith in a) ∙ at_head
        ∙ sym (ap (first_said (declaration_of bytes text)) (stretch_none entries (s + 1) (s + 1 + 0) (omega arith)))
    inside (suc d) few =
        let q : ℕ = s + 1 + d in
        let w = order.1 in
        ap declared (let a : s + 1 + suc d ≡ suc q = omega arith in a)
        ∙ or_is (declared q) (declares bytes (m + 1) text (here q) (slice_get entries q))
        ∙ ap₂ option_or (inside d (omega arith))
        (ap (declares bytes (m + 1) text (here q)) (slice_get-get_or entries q no_entry (omega arith))
        ∙ said_here bytes (m + 1) (here q) text (entry_at entries q) (eq-eqb (m + 1) (here q) (sym (same_module t h m below q (omega arith) (omega arith)))))
        ∙ sym (said_push (declaration_of bytes text) (stretch entries (s + 1) q) (entry_at entries q))
        ∙ sym (ap (first_said (declaration_of bytes text)) (stretch_more entries (s + 1) q (omega arith) (omega arith)))
        ∙ ap (λ (n : ℕ). first_said (declaration_of bytes text) (stretch entries (s + 1) n)) (let a : q + 1 ≡ s + 1 + suc d = omega arith in a)

    past : (d : ℕ) → e + d ≤ length entries → declared (e + d) ≡ declared e
    past zero few = ap declared (let a : e + 0 ≡ e = omega arith in a)
    past (suc d) few =
        let q : ℕ = e + d in
        ap declared (let a : e + suc d ≡ suc q = omega arith in a)
        ∙ ap (or_first (declared q)) (last q (omega arith) (omega arith))
        ∙ first_none (declared q) ∙ past d (omega arith)
      where
        last : (q : ℕ) → e ≤ q → q < length entries → declares bytes (m + 1) text (here q) (slice_get entries q) ≡ None
        last q low high = none_elsewhere bytes (m + 1) (here q) text (slice_get entries q) (ne_eqb (m + 1) (here q) (λ same. absurd (
            let n = module_counts t h m below in
            let y = begun_yes begins_module entries e (omega arith) (n.next (omega arith)) in
            let a = begun_on begins_module entries (e + 1) (q + 1) (omega arith) in
            let c = n.past in
            omega arith)))

    first_is : declared (length entries) ≡ first_said (declaration_of bytes text) own
    first_is =
        let o = order.0 in let w = order.1 in
        ap declared (let a : length entries ≡ e + (length entries - e) = omega arith in a) ∙ past (length entries - e) (omega arith)
        ∙ ap declared (let a : e ≡ s + 1 + (e - (s + 1)) = omega arith in a) ∙ inside (e - (s + 1)) (omega arith)
        ∙ ap (λ (n : ℕ). first_said (declaration_of bytes text) (stretch entries (s + 1) n)) (let a : s + 1 + (e - (s + 1)) ≡ e = omega arith in a)

  module _ (place : ℕ) (low : s < place) (high : place < e) where
    abbrev this : Entry
    this = entry_at entries place

    length_own : length own ≡ e - (s + 1)
    length_own = length-take (e - (s + 1)) (drop (s + 1) entries) ∙ (let d = length-drop (s + 1) entries in let w = order.1 in omega arith)

    at_own : entry_at own (place - (s + 1)) ≡ entry_at entries place
    at_own = get_or-take (e - (s + 1)) (drop (s + 1) entries) (place - (s + 1)) no_entry (omega arith) ∙ get_or-drop (s + 1) entries (place - (s + 1)) no_entry ∙ ap (entry_at entries) (omega arith)

    module _ (joins : is_in group.Joined (entry_at entries place) ≡ true) where
      abbrev text : List ℕ
      text = text_at bytes (name_of (entry_at entries place))

      abbrev texts : List (List ℕ)
      texts = texts_in bytes own

      joined : list_any (bytes_eq text) (texts_of bytes group.Joined own) ≡ true
      joined = subst (λ (x : Entry). list_any (bytes_eq (text_at bytes (name_of x))) (texts_of bytes group.Joined own) ≡ true) at_own
          (named_there group.Joined bytes own (place - (s + 1)) (let l = length_own in omega arith) (ap (is_in group.Joined) at_own ∙ joins))

      held : list_any (bytes_eq text) texts ≡ true
      held = put_in_all [] (texts_of bytes group.Headers own ++ (texts_of bytes group.Wires own ++ texts_of bytes group.Joined own)) text
          (list_any-append (bytes_eq text) (texts_of bytes group.Headers own) (texts_of bytes group.Wires own ++ texts_of bytes group.Joined own)
          ∙ or_later (list_any (bytes_eq text) (texts_of bytes group.Headers own)) (list_any (bytes_eq text) (texts_of bytes group.Wires own ++ texts_of bytes group.Joined own))
          (list_any-append (bytes_eq text) (texts_of bytes group.Wires own) (texts_of bytes group.Joined own)
          ∙ or_later (list_any (bytes_eq text) (texts_of bytes group.Wires own)) (list_any (bytes_eq text) (texts_of bytes group.Joined own)) joined))

      number_is : number_of (names_at t m) text ≡ position_or_len (bytes_eq text) texts
      number_is = ap (λ (l : List NetName). number_of l text) named ∙ position_named t h m below own text texts

      name_below : number_of (names_at t m) text < length (names_at t m)
      name_below =
          let f = (first_found (bytes_eq text) texts held).0 in let n = number_is in
          let l = ap length named ∙ length-map texts (name_in bytes own) in omega arith

      range_is : range_of (names_at t m) (number_of (names_at t m) text) ≡ declared_range (declared_by bytes entries place text)
      range_is =
          let f = first_found (bytes_eq text) texts held in
          let at : ℕ = position_or_len (bytes_eq text) texts in
          ap₂ range_of named number_is
          ∙ ap (λ (n : NetName). n.range) (get_or-map (name_in bytes own) texts at [] no_name f.0)
          ∙ ap (λ (x : List ℕ). declared_range (first_said (declaration_of bytes x) own)) (sym ((bytes_eq-Decides text (get_or texts at [])).0 f.1))
          ∙ ap declared_range (sym (first_is text))
          ∙ ap (λ (n : ℕ). declared_range (first_declared bytes entries n text (length entries))) (sym (same_module t h m below place low high))

    module _ (faultless : IsFaultless bytes entries) where
      abbrev bad : Entry → Bool
      bad = is_bad_entry bytes (declared_by bytes entries place) (drop (place + 1) entries)

      not_bad : bad (entry_at entries place) ≡ false
      not_bad = by (bad (entry_at entries place)) refl
        where
          by : (b : Bool) → bad (entry_at entries place) ≡ b → bad (entry_at entries place) ≡ false
          by true is = absurd (faultless fault.BadRange place (record { entry = entry_at entries place; stands = slice_get-get_or entries place no_entry (let w = order.1 in omega arith); bad = is }))
          by false is = is

      below_at : (x : Entry) → entry_at entries place ≡ x → is_in group.Joined x ≡ true → number_of (names_at t m) (text_at bytes (name_of x)) < length (names_at t m)
      below_at x is joins = subst (λ (y : Entry). number_of (names_at t m) (text_at bytes (name_of y)) < length (names_at t m)) is (name_below (ap (is_in group.Joined) is ∙ joins))

      range_at : (x : Entry) → entry_at entries place ≡ x → is_in group.Joined x ≡ true
          → range_of (names_at t m) (number_of (names_at t m) (text_at bytes (name_of x))) ≡ declared_range (declared_by bytes entries place (text_at bytes (name_of x)))
      range_at x is joins = subst (λ (y : Entry). range_of (names_at t m) (number_of (names_at t m) (text_at bytes (name_of y))) ≡ declared_range (declared_by bytes entries place (text_at bytes (name_of y)))) is
          (range_is (ap (is_in group.Joined) is ∙ joins))

      pub run_within : AreWithin (names_at t m) (run_at t m place).first (run_at t m place).count
      run_within = by (entry_at entries place) refl
        where
          by : (x : Entry) → entry_at entries place ≡ x → AreWithin (names_at t m) (run_of bytes (names_at t m) x).first (run_of bytes (names_at t m) x).count
          by (Whole name) is = (below_at (Whole name) is refl, (omega arith))
          by (Bit name bit) is = (
            below_at (Bit name bit) is refl,
            subst (λ (o : Option Range). from_left o bit + 1 ≤ whole_width o) (sym (range_at (Bit name bit) is refl))
                (bit_near (declared_range (declared_by bytes entries place (text_at bytes name))) bit (sym (ap bad is) ∙ not_bad)),
          )
          by (Part name select) is = (
            below_at (Part name select) is refl,
            subst (λ (o : Option Range). from_left o select.left + width_of select ≤ whole_width o) (sym (range_at (Part name select) is refl))
                (part_near (declared_range (declared_by bytes entries place (text_at bytes name))) select (sym (ap bad is) ∙ not_bad)),
          )
          by (Constant token) is = tt
          by (Module name) is = tt
          by (Header name) is = tt
          by (Declared how name bounds) is = tt
          by (Instance cell name) is = tt
          by (Port name) is = tt

  -- the runs of a connection
  pub runs_within : IsFaultless bytes entries → (k c r : ℕ) (run : Run) → k < length (module_at (modules_in t) m).instances → c < length (instance_at (modules_in t) m k).connections
      → slice_get (runs_at (modules_in t) m k c) r ≡ Some run → AreWithin (names_at t m) run.first run.count
  runs_within faultless k c r run few within is =
      let y = instance_there t h m below k few in
      let z = connection_there t h m below k y c within in
      let few = slice_get_within (runs_at (modules_in t) m k c) r run is in
      let x = joined_extent t m k c z.extent z.at in
      let joined = is_joined t m k c z.extent z.at in
      let n = runs_counted t m k c x joined in
      let near = ends_within t m k c z.extent z.at in
      let same : run ≡ run_at t m (z.extent.place + 1 + r) = same_Some run (run_at t m (z.extent.place + 1 + r)) (sym is ∙ run_found t m k c x joined r few) in
      subst (λ (x : Run). AreWithin (names_at t m) x.first x.count) (sym same)
      (run_within (z.extent.place + 1 + r) (let a = y.low in let b = z.low in omega arith) (let a = y.high in let b = z.high in omega arith) faultless)
