-- The names of modules as they are kept.
use Rattle.std.specs.Prelude.{◌≡◌, ℕ, ◌+◌, ◌-◌, ◌<◌, ◌≤◌, false, ⊤, nat_lt, if◌then◌else◌, List, [], ◌∷◌, ◌++◌, length, map, take, drop, set, get_or, Option, Some, None}
use Rattle.std.specs.List.{list_any, position_or_len}
use Rattle.std.specs.Str.{bytes_eq}
use Rattle.std.specs.Option.{option_or}
use Rattle.token_texts.specs.Spans.{text_at}
use Rattle.verilog_netlist.specs.Namespaces.{name_of}
use Rattle.verilog_netlist.specs.PartPlaces.{entry_at, stretch}
use Rattle.verilog_netlist.specs.Ranges.{declared_range}
use Rattle.verilog_netlist.specs.ModuleNames.{NetName, direction_by, way_of, first_said, declaration_of, direction_of, is_in, number_of, texts_of, texts_in}
use Rattle.verilog_netlist.specs.declared.declared.Declaration.{Declaration}
use Rattle.verilog_netlist.specs.declared.entries.Direction.{Direction}
use Rattle.verilog_netlist.specs.declared.entries.Entry.{Entry}
use Rattle.verilog_netlist.specs.declared.entries.Entry.TheVariants.{Declared}
use Rattle.verilog_netlist.specs.declared.name_text.NameText.{NameText}
use Rattle.verilog_netlist.specs.declared.net_names.Group.TheVariants as group
use Rattle.verilog_netlist.specs.declared.net_names.NameRow.{NameRow}
use Rattle.verilog_netlist.specs.declared.net_names.NetNames.{NetNames}
use Rattle.verilog_netlist.specs.declared.places.ModuleRow.{ModuleRow}
use Rattle.verilog_netlist.specs.declared.places.Places.{Places}

abbrev pub keys_of : List NameText → List (List ℕ)
keys_of keys = map (λ key. key.bytes.now) keys

-- no text stands twice
abbrev pub AllDiffer : List (List ℕ) → Type 0
AllDiffer [] = ⊤
AllDiffer (text ∷ texts) = (list_any (bytes_eq text) texts ≡ false) × AllDiffer texts

-- what is known of a name
pub record Facts : Type 0 where
  pub text : List ℕ
  pub direction : Option Direction
  pub first : Option Declaration

abbrev pub view_row : NameRow → Facts
view_row row = record { text = row.text.now; direction = row.direction; first = row.first }

abbrev pub fresh : List ℕ → Facts
fresh text = record { text = text; direction = None; first = None }

abbrev pub noted : Facts → Declaration → Facts
noted facts declaration = record {
  text = facts.text;
  direction = option_or facts.direction (direction_by declaration.by);
  first = option_or facts.first (Some declaration);
}

-- what these entries say of a name
abbrev pub facts_in : List ℕ → List Entry → List ℕ → Facts
facts_in bytes entries text = record {
  text = text;
  direction = first_said (direction_of bytes text) entries;
  first = first_said (declaration_of bytes text) entries;
}

abbrev pub name_from : Facts → NetName
name_from facts = record { text = facts.text; way = way_of facts.direction; range = declared_range facts.first }

-- the number of the name that is joined by an entry; 0 where none is
abbrev pub number_in : List ℕ → List NetName → Entry → ℕ
number_in bytes names entry = if is_in group.Joined entry then number_of names (text_at bytes (name_of entry)) else 0

-- the rows of a module
abbrev pub rows_of : List ℕ → List NameRow → ℕ → List NameRow
rows_of starts rows m = take (get_or starts (m + 1) 0 - get_or starts m 0) (drop (get_or starts m 0) rows)

-- the number of the name that an entry joins, among these names; 0 where it joins none
abbrev pub text_number : List ℕ → List (List ℕ) → Entry → ℕ
text_number bytes texts entry = if is_in group.Joined entry then position_or_len (bytes_eq (text_at bytes (name_of entry))) texts else 0

-- the names that these entries join, in the order in which they stand
abbrev pub joined_texts : List ℕ → List Entry → List (List ℕ)
joined_texts bytes entries = texts_of bytes group.Joined entries

abbrev pub no_facts : Facts
no_facts = fresh []

-- what is known of this name with a declaration more, where the facts of these names stand from `from` on
abbrev pub noted_at : List (List ℕ) → ℕ → List ℕ → Declaration → List Facts → List Facts
noted_at texts from text declaration old =
    let place = position_or_len (bytes_eq text) texts in
    if nat_lt place (length texts) then set old (from + place) (noted (get_or old (from + place) no_facts) declaration) else old

abbrev pub NotesEntry : List ℕ → List (List ℕ) → ℕ → Entry → List Facts → List Facts → Type 0
NotesEntry bytes texts from (Declared by name bounds) old new = new
    ≡ noted_at texts from (text_at bytes name) (record { by = by; range = bounds }) old
NotesEntry bytes texts from _ old new = new ≡ old

-- the names of a module more
pub record AddsNames (bytes : List ℕ) (entries : List Entry) (old new : NetNames) : Type 0 where
  pub starts : new.starts.items ≡ old.starts.items ++ length new.rows.items ∷ []
  pub rows : map view_row new.rows.items ≡ map view_row old.rows.items ++ map (facts_in bytes entries) (texts_in bytes entries)
  pub numbers : new.numbers.items ≡ (old.numbers.items ++ 0 ∷ []) ++ map (text_number bytes (texts_in bytes entries)) entries

abbrev pub no_row : ModuleRow
no_row = record { place = 0; instances = 0; connections = 0 }

-- where a module begins
abbrev pub start_at : Places → ℕ → ℕ
start_at p m = (get_or p.modules.items m no_row).place

-- what stands in a module behind its name
abbrev pub own_at : List Entry → Places → ℕ → List Entry
own_at entries p m = stretch entries (start_at p m + 1) (start_at p (m + 1))

module _ (bytes : List ℕ) (entries : List Entry) (p : Places) where
  -- the names of the first n modules
  pub record HoldsNetNames (n : ℕ) (names : NetNames) : Type 0 where
    pub starts : length names.starts.items ≡ n + 1
    pub last : get_or names.starts.items n 0 ≡ length names.rows.items
    pub order : (m : ℕ) → m < n → (get_or names.starts.items m 0 ≤ get_or names.starts.items (m + 1) 0)
        × (get_or names.starts.items (m + 1) 0 ≤ length names.rows.items)
    pub rows : (m : ℕ) → m < n → map view_row (rows_of names.starts.items names.rows.items m)
        ≡ map (facts_in bytes (own_at entries p m)) (texts_in bytes (own_at entries p m))
    pub numbered : length names.numbers.items ≡ start_at p n
    pub behind : (m : ℕ) → m < n → start_at p (m + 1) ≤ length names.numbers.items
    pub numbers : (m at : ℕ) → m < n → start_at p m < at → at < start_at p (m + 1)
        → get_or names.numbers.items at 0 ≡ text_number bytes (texts_in bytes (own_at entries p m)) (entry_at entries at)

  -- the names of all modules
  abbrev pub AreNetNames : NetNames → Type 0
  AreNetNames names = HoldsNetNames (length p.modules.items - 1) names
