-- The tables of a netlist's modules, read.
use Rattle.std.proofs.Common.{◌≡◌, ℕ, zero, suc, ◌+◌, ◌-◌, ◌<◌, ◌≤◌, Bool, true, List, [], ◌∷◌, ◌++◌, length, take, drop, get_or, slice_get, map, Some, refl, sym, ap, ap₂, ◌∙◌, arith, not, cond, if◌then◌else◌, add-one, drop-cons, append-nil}
use Rattle.std.specs.List.{flat_map, position_or_len, prefix_len}
use Rattle.std.specs.Option.{option_map}
use Rattle.std.specs.Str.{bytes_eq}
use Rattle.std.specs.Prelude.{count_by}
use Rattle.std.proofs.lemmas.List.{length-map, take_all, get_or_default, get_or-drop, take_more, drop-take, get_or-take, length-append, length-drop, length-take}
use Rattle.std.proofs.lemmas.List.{take-take}
use Rattle.std.proofs.lemmas.List.Concat.{flat_map-append}
use Rattle.std.proofs.lemmas.List.Sums.{prefix_len-le-length}
use Rattle.std.proofs.lemmas.Option.{slice_get-map, slice_get-get_or, get_or_from_slice_get}
use Rattle.token_texts.specs.Spans.{text_at}
use Rattle.verilog_netlist.specs.Namespaces.{name_of, begins_module, begins_instance}
use Rattle.verilog_netlist.specs.Parts.{Part, parts, begins_connection, is_expression}
use Rattle.verilog_netlist.specs.PartPlaces.{no_entry, entry_at, begun, places_below, instance_row, stretch, IsPartAt, IsModuleExtent, IsInstanceExtent}
use Rattle.verilog_netlist.specs.ModuleNames.{NetName, name_in, names_in, texts_in, number_of}
use Rattle.verilog_netlist.specs.NameRows.{view_row, name_from, facts_in, rows_of, start_at, own_at, no_row}
use Rattle.verilog_netlist.specs.NetModules.{NetModule, NetInstance, NetConnection, no_module, no_instance, no_connection, bit_after, bits_from, bits_in, run_of, joined_bits, runs_at, module_of, instance_of, connection_of, module_at, instance_at, connection_at}
use Rattle.verilog_netlist.specs.ModuleTables.{modules_in, name_row, part_at, names_at, run_at, bits_between, AreTables, IsModuleAt, IsInstanceAt, IsConnectionAt, IsJoinedAt, IsNumberAt}
use Rattle.verilog_netlist.specs.declared.entries.Entry.{Entry}
use Rattle.verilog_netlist.specs.declared.net_names.NameRow.{NameRow}
use Rattle.verilog_netlist.specs.declared.places.ModuleExtent.{ModuleExtent}
use Rattle.verilog_netlist.specs.declared.places.InstanceExtent.{InstanceExtent}
use Rattle.verilog_netlist.specs.declared.places.ConnectionExtent.{ConnectionExtent}
use Rattle.verilog_netlist.specs.declared.runs.Bit.{Bit}
use Rattle.verilog_netlist.specs.declared.runs.Bit.TheVariants.{Tied, Wire}
use Rattle.verilog_netlist.specs.declared.runs.Run.{Run}
use Rattle.verilog_netlist.specs.declared.tables.Tables.{Tables}
use Rattle.verilog_netlist.proofs.PartsFound.{length_parts, length_places, count_split, begun_on}
use Rattle.verilog_netlist.proofs.Placing.{rows, module_found, module_extent, module_begun, module_ended, module_next}

map_map : {X Y Z : Type 0} (f : Y → Z) (g : X → Y) (l : List X) → map f (map g l) ≡ map (λ x. f (g x)) l
map_map f g [] = refl
map_map f g (x ∷ l) = ap (λ t. f (g x) ∷ t) (map_map f g l)

-- what is made of a part
made : {X : Type 0} (make : Part → X) (none : X) (ps : List Part) (k : ℕ) (part : Part) → slice_get ps k ≡ Some part → get_or (map make ps) k none ≡ make part
made make none ps k part is = get_or_from_slice_get (map make ps) k (make part) none (slice_get-map make ps k ∙ ap (option_map make) is)

counted : (begins : Entry → Bool) (entries : List Entry) (a b : ℕ) → a ≤ b → begun begins entries a + length (parts begins (stretch entries a b)) ≡ begun begins entries b
counted begins entries a b order =
    ap (λ (n : ℕ). begun begins entries a + n) (length_parts begins (stretch entries a b)) ∙ sym (count_split begins entries a (b - a) b (omega arith))

-- the bits of the runs of expressions are those of the expressions
bits_joined : (bytes : List ℕ) (names : List NetName) (l : List Entry) → bits_in (map (run_of bytes names) l) ≡ flat_map (joined_bits bytes names) l
bits_joined bytes names [] = refl
bits_joined bytes names (e ∷ l) = ap (λ (rest : List Bit). joined_bits bytes names e ++ rest) (bits_joined bytes names l)

module _ (t : Tables) (h : AreTables t) where
  abbrev bytes : List ℕ
  bytes = t.bytes.now

  abbrev entries : List Entry
  entries = t.entries.items

  pub length_modules : length (modules_in t) + 1 ≡ length t.places.modules.items
  length_modules =
      let a = length-map (parts begins_module entries) (module_of bytes) in
      let b = length_parts begins_module entries in
      let c = length_places begins_module entries (length entries) (omega arith) in
      let d : begun begins_module entries (length entries) ≡ count_by begins_module entries = ap (count_by begins_module) (take_all (length entries) entries (omega arith)) in
      let r = rows entries t.places h.places in
      omega arith

  module _ (m : ℕ) (x : ModuleExtent) (part : IsPartAt entries begins_module entries m x.place x.end) (hx : IsModuleExtent entries x) (start : x.place ≡ start_at t.places m) (end : x.end ≡ start_at t.places (m + 1)) where
    value : module_at (modules_in t) m ≡ module_of bytes (part_at t x.place x.end)
    value = made (module_of bytes) no_module (parts begins_module entries) m (part_at t x.place x.end) part.is

    instances_counted : x.first_instance + length (module_at (modules_in t) m).instances ≡ x.instances_end
    instances_counted =
        ap₂ (λ (a n : ℕ). a + n) hx.first (ap (λ (o : NetModule). length o.instances) value ∙ length-map (parts begins_instance (stretch entries (x.place + 1) x.end)) (instance_of bytes (names_in bytes (stretch entries (x.place + 1) x.end))))
        ∙ counted begins_instance entries (x.place + 1) x.end (let a = hx.head in omega arith) ∙ sym hx.last

    pub is_module : IsModuleAt t m x
    is_module = record {
      value = value;
      extent = hx;
      count = instances_counted;
      known = (
          let a = hx.last in
          let b = begun_on begins_instance entries x.end (length entries) hx.within in
          let c = ap length h.places.instances in
          let d = length-map (places_below begins_instance entries (length entries)) (instance_row entries) in
          let e = length_places begins_instance entries (length entries) (omega arith) in
          omega arith);
      start = start;
      end = end;
    }

  -- the extent of a module, as the rows have it
  abbrev pub extent_of : ℕ → ModuleExtent
  extent_of m =
      let row = get_or t.places.modules.items m no_row in
      let next = get_or t.places.modules.items (m + 1) no_row in
      record { place = row.place; end = next.place; first_instance = row.instances; instances_end = next.instances; connections_end = next.connections }

  pub module_there : (m : ℕ) → m < length (modules_in t) → IsModuleAt t m (extent_of m)
  module_there m below =
      let within : m + 1 < length t.places.modules.items = let l = length_modules in omega arith in
      let row = get_or t.places.modules.items m no_row in
      let next = get_or t.places.modules.items (m + 1) no_row in
      let here = get_or_default t.places.modules.items m no_row row (omega arith) in
      let there = get_or_default t.places.modules.items (m + 1) no_row next within in
      is_module m (extent_of m) (module_found entries t.places h.places m row next within here there) (module_extent entries t.places h.places m row next within here there) refl refl

  -- the counts of modules at the place of a module and at its end
  pub record ModuleCounts (m : ℕ) : Type 0 where
    pub begins : begins_module (entry_at entries (extent_of m).place) ≡ true
    pub before : begun begins_module entries (extent_of m).place ≡ m
    pub past : begun begins_module entries (extent_of m).end ≡ m + 1
    pub next : (extent_of m).end < length entries → begins_module (entry_at entries (extent_of m).end) ≡ true

  pub module_counts : (m : ℕ) → m < length (modules_in t) → ModuleCounts m
  module_counts m below =
      let within : m + 1 < length t.places.modules.items = let l = length_modules in omega arith in
      let row = get_or t.places.modules.items m no_row in
      let next = get_or t.places.modules.items (m + 1) no_row in
      let here = get_or_default t.places.modules.items m no_row row (omega arith) in
      let there = get_or_default t.places.modules.items (m + 1) no_row next within in
      record {
        begins = (module_found entries t.places h.places m row next within here there).begins_it;
        before = module_begun entries t.places h.places m row next within here there;
        past = module_ended entries t.places h.places m row next within here there;
        next = module_next entries t.places h.places m row next within here there;
      }

  module _ (m : ℕ) (x : ModuleExtent) (at : IsModuleAt t m x) where
    pub names_are : names_at t m ≡ names_in bytes (stretch entries (x.place + 1) x.end)
    names_are = ap (λ (o : NetModule). o.names) at.value

    module _ (k : ℕ) (y : InstanceExtent) (part : IsPartAt entries begins_instance (stretch entries (x.place + 1) x.end) k y.place y.end) (hy : IsInstanceExtent entries y) (inside : (x.place < y.place) × (y.end ≤ x.end)) where
      instance_value : instance_at (modules_in t) m k ≡ instance_of bytes (names_at t m) (part_at t y.place y.end)
      instance_value =
          ap (λ (o : NetModule). get_or o.instances k no_instance) at.value
          ∙ made (instance_of bytes (names_in bytes (stretch entries (x.place + 1) x.end))) no_instance (parts begins_instance (stretch entries (x.place + 1) x.end)) k (part_at t y.place y.end) part.is
          ∙ ap (λ (n : List NetName). instance_of bytes n (part_at t y.place y.end)) (sym names_are)

      connections_counted : y.first_connection + length (instance_at (modules_in t) m k).connections ≡ y.connections_end
      connections_counted =
          ap₂ (λ (a n : ℕ). a + n) hy.first (ap (λ (o : NetInstance). length o.connections) instance_value ∙ length-map (parts begins_connection (stretch entries (y.place + 1) y.end)) (connection_of bytes (names_at t m)))
          ∙ counted begins_connection entries (y.place + 1) y.end (let a = hy.head in omega arith) ∙ sym hy.last

      pub is_instance : IsInstanceAt t m k y
      is_instance = record {
        value = instance_value;
        extent = hy;
        count = connections_counted;
        known = (
            let a = hy.last in
            let b = begun_on begins_connection entries y.end (length entries) hy.within in
            let c = ap length h.places.connections in
            let e = length_places begins_connection entries (length entries) (omega arith) in
            omega arith);
        start = (let a = inside.0 in let s = at.start in omega arith);
        end = (let a = inside.1 in let s = at.end in omega arith);
      }

  module _ (m k : ℕ) (y : InstanceExtent) (at : IsInstanceAt t m k y) (c : ℕ) (z : ConnectionExtent) (part : IsPartAt entries begins_connection (stretch entries (y.place + 1) y.end) c z.place z.end) (inside : (y.place < z.place) × (z.end ≤ y.end)) where
    connection_value : connection_at (modules_in t) m k c ≡ connection_of bytes (names_at t m) (part_at t z.place z.end)
    connection_value = ap (λ (o : NetInstance). get_or o.connections c no_connection) at.value
        ∙ made (connection_of bytes (names_at t m)) no_connection (parts begins_connection (stretch entries (y.place + 1) y.end)) c (part_at t z.place z.end) part.is

    pub is_connection : IsConnectionAt t m k c z
    is_connection = record {
      value = connection_value;
      head = part.head;
      within = part.within;
      start = (let a = inside.0 in let s = at.start in omega arith);
      end = (let a = inside.1 in let s = at.end in omega arith);
    }

  -- the rows of a module stand for its names
  pub rows_are : (m : ℕ) → m < length (modules_in t) → (x : ModuleExtent) → IsModuleAt t m x → map name_row (rows_of t.names.starts.items t.names.rows.items m) ≡ names_at t m
  rows_are m within x at =
      sym (map_map name_from view_row (rows_of t.names.starts.items t.names.rows.items m))
      ∙ ap (map name_from) (h.names.rows m (let l = length_modules in omega arith))
      ∙ map_map name_from (facts_in bytes (own_at entries t.places m)) (texts_in bytes (own_at entries t.places m))
      ∙ ap₂ (λ (a b : ℕ). names_in bytes (stretch entries (a + 1) b)) (sym at.start) (sym at.end)
      ∙ sym (names_are m x at)

  pub starts_within : (m : ℕ) → m < length (modules_in t) → m + 1 < length t.names.starts.items
  starts_within m below = let l = length_modules in let s = h.names.starts in omega arith

  module _ (m : ℕ) (below : m < length (modules_in t)) where
    -- the rows of a module, as two of the starts cut them out
    module _ (from end : ℕ) (from_at : from ≡ get_or t.names.starts.items m from) (end_at : end ≡ get_or t.names.starts.items (m + 1) end) where
      from_is : from ≡ get_or t.names.starts.items m 0
      from_is = from_at ∙ get_or_default t.names.starts.items m from 0 (let w = starts_within m below in omega arith)

      end_is : end ≡ get_or t.names.starts.items (m + 1) 0
      end_is = end_at ∙ get_or_default t.names.starts.items (m + 1) end 0 (starts_within m below)

      pub rows_order : (from ≤ end) × (end ≤ length t.names.rows.items)
      rows_order =
          let o = h.names.order m (let l = length_modules in omega arith) in
          let a = o.0 in let b = o.1 in let f = from_is in let e = end_is in
          ((omega arith), (omega arith))

      pub rows_cut : map name_row (drop from (take end t.names.rows.items)) ≡ names_at t m
      rows_cut =
          ap (λ (l : List NameRow). map name_row l)
          (ap (λ (n : ℕ). drop from (take n t.names.rows.items)) (let e : end ≡ from + (end - from) = let o = rows_order.0 in omega arith in e) ∙ drop-take from (end - from) t.names.rows.items
          ∙ ap₂ (λ (a b : ℕ). take (b - a) (drop a t.names.rows.items)) from_is end_is)
          ∙ rows_are m below (extent_of m) (module_there m below)

    pub within_entries : start_at t.places (m + 1) ≤ length entries
    within_entries = (module_there m below).extent.within

    pub within_numbers : start_at t.places (m + 1) ≤ length t.names.numbers.items
    within_numbers = h.names.behind m (let l = length_modules in omega arith)

    pub position_named : (own : List Entry) (text : List ℕ) (texts : List (List ℕ)) → position_or_len (λ (name : NetName). bytes_eq text name.text) (map (name_in bytes own) texts) ≡ position_or_len (bytes_eq text) texts
    position_named own text [] = refl
    position_named own text (other ∷ texts) = ap (λ (n : ℕ). cond (not (bytes_eq text other)) (1 + n) 0) (position_named own text texts)

    pub number_found : (place number : ℕ) → start_at t.places m < place → place < start_at t.places (m + 1) → number ≡ get_or t.names.numbers.items place number → IsNumberAt t m place number
    number_found place number low high is joins =
        let own : List Entry = own_at entries t.places m in
        let text : List ℕ = text_at bytes (name_of (entry_at entries place)) in
        is ∙ get_or_default t.names.numbers.items place number 0 (let w = within_numbers in omega arith)
        ∙ h.names.numbers m place (let l = length_modules in omega arith) low high
        ∙ ap (λ (b : Bool). if b then position_or_len (bytes_eq text) (texts_in bytes own) else 0) joins
        ∙ sym (position_named own text (texts_in bytes own))
        ∙ ap (λ (names : List NetName). number_of names text) (sym (names_are m (extent_of m) (module_there m below)))

-- the bits of stretches
pub slice_get_before : {X : Type 0} (xs ys : List X) (n : ℕ) → n < length xs → slice_get (xs ++ ys) n ≡ slice_get xs n
slice_get_before [] ys n below = absurd (omega arith)
slice_get_before (x ∷ xs) ys zero below = refl
slice_get_before (x ∷ xs) ys (suc n) below = slice_get_before xs ys n (omega arith)

pub slice_get_behind : {X : Type 0} (xs ys : List X) (n d : ℕ) → n ≡ length xs + d → slice_get (xs ++ ys) n ≡ slice_get ys d
slice_get_behind [] ys n d is = ap (slice_get ys) (omega arith)
slice_get_behind (x ∷ xs) ys zero d is = absurd (omega arith)
slice_get_behind (x ∷ xs) ys (suc n) d is = slice_get_behind xs ys n d (omega arith)

pub length_run : (first : Bit) (n : ℕ) → length (bits_from first n) ≡ n
length_run first zero = refl
length_run first (suc n) = ap suc (length_run (bit_after first 1) n)

after_none : (first : Bit) → first ≡ bit_after first 0
after_none Tied = refl
after_none (Wire name bit) = ap (Wire name) (omega arith)

after_one : (first : Bit) (n : ℕ) → bit_after (bit_after first 1) n ≡ bit_after first (suc n)
after_one Tied n = refl
after_one (Wire name bit) n = ap (Wire name) (omega arith)

pub bit_of_run : (first : Bit) (n b : ℕ) → b < n → slice_get (bits_from first n) b ≡ Some (bit_after first b)
bit_of_run first zero b below = absurd (omega arith)
bit_of_run first (suc n) zero below = ap (λ (x : Bit). Some x) (after_none first)
bit_of_run first (suc n) (suc b) below = bit_of_run (bit_after first 1) n b (omega arith) ∙ ap (λ (x : Bit). Some x) (after_one first b)

module _ (l : List Entry) where
  pub stretch_more : (from place : ℕ) → from ≤ place → place < length l → stretch l from (place + 1) ≡ stretch l from place ++ entry_at l place ∷ []
  stretch_more from place order below =
      ap (λ (n : ℕ). take n (drop from l)) (let e : place + 1 - from ≡ place - from + 1 = omega arith in e)
      ∙ take_more (drop from l) (place - from) no_entry (let d = length-drop from l in omega arith)
      ∙ ap (λ (e : Entry). take (place - from) (drop from l) ++ e ∷ []) (get_or-drop from l (place - from) no_entry ∙ ap (entry_at l) (omega arith))

  pub stretch_first : (place end : ℕ) → place < end → place < length l → stretch l place end ≡ entry_at l place ∷ stretch l (place + 1) end
  stretch_first place end order below =
      ap₂ (λ (n : ℕ) (xs : List Entry). take n xs) (let e : end - place ≡ suc (end - (place + 1)) = omega arith in e) (drop-cons l place no_entry below)
      ∙ ap (λ (n : ℕ). entry_at l place ∷ take (end - (place + 1)) (drop n l)) (sym (add-one place))

  pub stretch_none : (from end : ℕ) → end ≤ from → stretch l from end ≡ []
  stretch_none from end past = ap (λ (n : ℕ). take n (drop from l)) (let e : end - from ≡ 0 = omega arith in e)

module _ (t : Tables) (m : ℕ) where
  module _ (place : ℕ) (run : Run) (is : run ≡ run_at t m place) where
    run_bits : joined_bits t.bytes.now (names_at t m) (entry_at t.entries.items place) ≡ bits_from run.first run.count
    run_bits = ap (λ (r : Run). bits_from r.first r.count) (sym is)

    run_length : length (joined_bits t.bytes.now (names_at t m) (entry_at t.entries.items place)) ≡ run.count
    run_length = ap length run_bits ∙ length_run run.first run.count

    pub count_more : (from : ℕ) → from ≤ place → place < length t.entries.items → length (bits_between t m from (place + 1)) ≡ length (bits_between t m from place) + run.count
    count_more from order below =
        ap (λ (l : List Entry). length (flat_map (joined_bits t.bytes.now (names_at t m)) l)) (stretch_more t.entries.items from place order below)
        ∙ ap length (flat_map-append (joined_bits t.bytes.now (names_at t m)) (stretch t.entries.items from place) (entry_at t.entries.items place ∷ []))
        ∙ length-append (bits_between t m from place) (joined_bits t.bytes.now (names_at t m) (entry_at t.entries.items place) ++ [])
        ∙ ap (λ (n : ℕ). length (bits_between t m from place) + n) (ap length (append-nil (joined_bits t.bytes.now (names_at t m) (entry_at t.entries.items place))) ∙ run_length)

    split : (end : ℕ) → place < end → place < length t.entries.items
        → bits_between t m place end ≡ joined_bits t.bytes.now (names_at t m) (entry_at t.entries.items place) ++ bits_between t m (place + 1) end
    split end order below = ap (flat_map (joined_bits t.bytes.now (names_at t m))) (stretch_first t.entries.items place end order below)

    pub bit_here : (end rest : ℕ) → place < end → place < length t.entries.items → rest < run.count → slice_get (bits_between t m place end) rest ≡ Some (bit_after run.first rest)
    bit_here end rest order below here =
        ap (λ (l : List Bit). slice_get l rest) (split end order below)
        ∙ slice_get_before (joined_bits t.bytes.now (names_at t m) (entry_at t.entries.items place)) (bits_between t m (place + 1) end) rest (let l = run_length in omega arith)
        ∙ ap (λ (l : List Bit). slice_get l rest) run_bits ∙ bit_of_run run.first run.count rest here

    pub bit_later : (end rest : ℕ) → place < end → place < length t.entries.items → run.count ≤ rest → slice_get (bits_between t m (place + 1) end) (rest - run.count) ≡ slice_get (bits_between t m place end) rest
    bit_later end rest order below past =
        sym (slice_get_behind (joined_bits t.bytes.now (names_at t m) (entry_at t.entries.items place)) (bits_between t m (place + 1) end) rest (rest - run.count) (let l = run_length in omega arith))
        ∙ ap (λ (l : List Bit). slice_get l rest) (sym (split end order below))

-- what is joined to the port of a connection stands in front of the declarations behind its instance
module _ (t : Tables) (m k c : ℕ) (z : ConnectionExtent) (at : IsConnectionAt t m k c z) where
  abbrev behind : List Entry
  behind = stretch t.entries.items (z.place + 1) z.end

  abbrev pub joined_extent : ConnectionExtent
  joined_extent = record { place = z.place; end = z.place + 1 + prefix_len is_expression behind }

  pub ends_within : joined_extent.end ≤ z.end
  ends_within =
      let some = prefix_len-le-length is_expression behind in
      let few = length-take (z.end - (z.place + 1)) (drop (z.place + 1) t.entries.items) in
      let head = at.head in
      omega arith

  in_front : take (prefix_len is_expression behind) behind ≡ stretch t.entries.items (z.place + 1) joined_extent.end
  in_front =
      take-take (prefix_len is_expression behind) (z.end - (z.place + 1)) (drop (z.place + 1) t.entries.items) (let e = ends_within in omega arith)
      ∙ ap (λ (n : ℕ). take n (drop (z.place + 1) t.entries.items)) (let e : prefix_len is_expression behind ≡ joined_extent.end - (z.place + 1) = omega arith in e)

  runs_in_front : runs_at (modules_in t) m k c ≡ map (run_of t.bytes.now (names_at t m)) (stretch t.entries.items (z.place + 1) joined_extent.end)
  runs_in_front = ap (λ (o : NetConnection). o.runs) at.value ∙ ap (map (run_of t.bytes.now (names_at t m))) in_front

  pub is_joined : IsJoinedAt t m k c joined_extent
  is_joined = record {
    runs = runs_in_front;
    bits = ap bits_in runs_in_front ∙ bits_joined t.bytes.now (names_at t m) (stretch t.entries.items (z.place + 1) joined_extent.end);
    head = omega arith;
    within = (let e = ends_within in let w = at.within in omega arith);
    start = at.start;
    end = (let e = ends_within in let w = at.end in omega arith);
  }

-- the runs of a connection
module _ (t : Tables) (m k c : ℕ) (z : ConnectionExtent) (at : IsJoinedAt t m k c z) where
  length_joined : length (stretch t.entries.items (z.place + 1) z.end) ≡ z.end - (z.place + 1)
  length_joined = length-take (z.end - (z.place + 1)) (drop (z.place + 1) t.entries.items) ∙ (let d = length-drop (z.place + 1) t.entries.items in let w = at.within in omega arith)

  pub runs_counted : length (runs_at (modules_in t) m k c) ≡ z.end - (z.place + 1)
  runs_counted = ap length at.runs ∙ length-map (stretch t.entries.items (z.place + 1) z.end) (run_of t.bytes.now (names_at t m)) ∙ length_joined

  pub run_found : (r : ℕ) → r < length (runs_at (modules_in t) m k c) → slice_get (runs_at (modules_in t) m k c) r ≡ Some (run_at t m (z.place + 1 + r))
  run_found r below =
      let few : r < z.end - (z.place + 1) = let n = runs_counted in omega arith in
      ap (λ (l : List Run). slice_get l r) at.runs
      ∙ slice_get-map (run_of t.bytes.now (names_at t m)) (stretch t.entries.items (z.place + 1) z.end) r
      ∙ ap (option_map (run_of t.bytes.now (names_at t m)))
      (slice_get-get_or (stretch t.entries.items (z.place + 1) z.end) r no_entry (let l = length_joined in omega arith)
      ∙ ap (λ (e : Entry). Some e) (get_or-take (z.end - (z.place + 1)) (drop (z.place + 1) t.entries.items) r no_entry few ∙ get_or-drop (z.place + 1) t.entries.items r no_entry))
