-- The first declarations of names, and bad ranges by them.
use Rattle.std.proofs.Common.{subst, ◌≡◌, ℕ, zero, suc, ◌+◌, ◌<◌, ◌≤◌, max, Bool, true, false, not, ◌&&◌, ◌||◌, inl, inr, ◌==◌, nat_lt, List, [], ◌∷◌, ◌++◌, length, drop, get_or, slice_get, Option, Some, None, refl, sym, ap, ap₂, ◌∙◌, arith, cond, if◌then◌else◌, true≢false, Decides, is_some, add-one, drop-cons}
use Rattle.std.proofs.Math.Nat.{le-max_left, le-max_right}
use Rattle.std.specs.Prelude.{⊤}
use Rattle.std.proofs.lemmas.Bool.{lt-ltb, le-ltb, eq-eqb}
use Rattle.std.proofs.lemmas.Slice.Eq.{bytes_eq-Decides}
use Rattle.std.proofs.lemmas.List.{drop_all}
use Rattle.std.specs.Map.{lookup}
use Rattle.std.specs.Str.{bytes_eq}
use Rattle.indexmap.specs.IndexMap.{insert_entry}
use Rattle.token_texts.specs.Spans.{text_at}
use Rattle.verilog_netlist.specs.Ranges.{most_bits, and_more, bits_of, joined_width, is_bad_entry, declares, or_first, first_declared, module_at, declared_by, IsBadRange, declared_range, is_bad_declaration, is_bad_bit, is_bad_part, whole_bits, is_wire, one_range, differs_from, is_past}
use Rattle.verilog_netlist.specs.NameKeys.{Key, key_in, keys_in, same_key, holds}
use Rattle.verilog_netlist.specs.DeclaredNames.{Rows, declared_key, row_at, found_in, kept, widened, AddsRow, AddsRanged, AddsDeclared, CoversRanged, HoldsDeclared, HoldsRanged, BoundsWidths, IsAtMost}
use Rattle.verilog_netlist.specs.declared.declared.Declaration.{Declaration}
use Rattle.token_texts.specs.declared.spans.Span.{Span}
use Rattle.verilog_netlist.specs.declared.entries.Decl.{Decl}
use Rattle.verilog_netlist.specs.declared.entries.Range.{Range}
use Rattle.verilog_netlist.specs.declared.entries.Entry.{Entry}
use Rattle.verilog_netlist.specs.declared.entries.Entry.TheVariants.{Module, Header, Declared, Instance, Port, Whole, Bit, Part, Constant}
use Rattle.verilog_netlist.specs.declared.repeats.NameKey.{NameKey}
use Rattle.verilog_netlist.proofs.PartsFound.{le_or_lt}
use Rattle.verilog_netlist.proofs.Repeating.{same_key-Decides, no_entry}
use Rattle.std.proofs.lemmas.Option.{none-some, same_Some}

row_behind : (rows : Rows) (key : NameKey) (declaration : Declaration) (other : Key)
    → row_at (rows ++ (key, declaration) ∷ []) other ≡ or_first (row_at rows other) (if same_key other (key_in key) then Some declaration else None)
row_behind [] key declaration other = by (same_key other (key_in key)) refl
  where
    by : (b : Bool) → same_key other (key_in key) ≡ b → row_at ((key, declaration) ∷ []) other ≡ (if same_key other (key_in key) then Some declaration else None)
    by true e = ap (λ (t : Bool). cond t (Some declaration) None) e ∙ sym (ap (λ (t : Bool). if t then Some declaration else None) e)
    by false e = ap (λ (t : Bool). cond t (Some declaration) None) e ∙ sym (ap (λ (t : Bool). if t then Some declaration else None) e)
row_behind (row ∷ rows) key declaration other = by (same_key other (key_in row.0)) (row_behind rows key declaration other) refl
  where
    last : Option Declaration
    last = if same_key other (key_in key) then Some declaration else None

    by : (b : Bool) → row_at (rows ++ (key, declaration) ∷ []) other ≡ or_first (row_at rows other) last → same_key other (key_in row.0) ≡ b → row_at (row ∷ (rows ++ (key, declaration) ∷ [])) other ≡ or_first (row_at (row ∷ rows) other) last
    by true more e = ap (λ (t : Bool). cond t (Some row.1) (row_at (rows ++ (key, declaration) ∷ []) other)) e ∙ sym (ap (λ (t : Bool). or_first (cond t (Some row.1) (row_at rows other)) last) e)
    by false more e = ap (λ (t : Bool). cond t (Some row.1) (row_at (rows ++ (key, declaration) ∷ []) other)) e ∙ more ∙ sym (ap (λ (t : Bool). or_first (cond t (Some row.1) (row_at rows other)) last) e)

-- a key without a row gets one
pub adds_new : (old new : Rows) (key : NameKey) (declaration : Declaration) → new ≡ old ++ (key, declaration) ∷ [] → AddsRow old new (key_in key) declaration
adds_new old new key declaration is other = ap (λ (rows : Rows). row_at rows other) is ∙ row_behind old key declaration other

-- a row that is put back
module _ (eq : NameKey → NameKey → Bool) (key : NameKey) (declaration first : Declaration) where
  pub put_back : (rows : Rows) → lookup (eq key) rows ≡ Some first → insert_entry eq (insert_entry eq rows key declaration) key first ≡ rows
  put_back [] h = absurd (none-some _ h)
  put_back (row ∷ rows) h = by (eq key row.0) refl (put_back rows)
    where
      by : (b : Bool) → eq key row.0 ≡ b → (lookup (eq key) rows ≡ Some first → insert_entry eq (insert_entry eq rows key declaration) key first ≡ rows)
          → insert_entry eq (insert_entry eq (row ∷ rows) key declaration) key first ≡ row ∷ rows
      by true e rest =
          ap (λ (t : Bool). insert_entry eq (if t then (row.0, declaration) ∷ rows else row ∷ insert_entry eq rows key declaration) key first) e
          ∙ ap (λ (t : Bool). if t then (row.0, first) ∷ rows else (row.0, declaration) ∷ insert_entry eq rows key first) e
          ∙ ap (λ (d : Declaration). (row.0, d) ∷ rows)
          (sym (same_Some _ _ (sym (ap (λ (t : Bool). cond t (Some row.1) (lookup (eq key) rows)) e) ∙ h)))
      by false e rest =
          ap (λ (t : Bool). insert_entry eq (if t then (row.0, declaration) ∷ rows else row ∷ insert_entry eq rows key declaration) key first) e
          ∙ ap (λ (t : Bool). if t then (row.0, first) ∷ insert_entry eq rows key declaration else row ∷ insert_entry eq (insert_entry eq rows key declaration) key first) e
          ∙ ap (λ (l : Rows). row ∷ l) (rest (sym (ap (λ (t : Bool). cond t (Some row.1) (lookup (eq key) rows)) e) ∙ h))

-- a key with a row keeps it
pub adds_none : (rows : Rows) (key : Key) (there declaration : Declaration) → row_at rows key ≡ Some there → AddsRow rows rows key declaration
adds_none rows key there declaration is other = by (same_key other key) refl
  where
    none_else : (found : Option Declaration) → found ≡ or_first found None
    none_else None = refl
    none_else (Some first) = refl

    by : (b : Bool) → same_key other key ≡ b → row_at rows other ≡ or_first (row_at rows other) (if same_key other key then Some declaration else None)
    by true e =
        let found : row_at rows other ≡ Some there = ap (row_at rows) ((same_key-Decides other key).0 e) ∙ is in
        found ∙ sym (ap (λ (f : Option Declaration). or_first f (if same_key other key then Some declaration else None)) found)
    by false e = none_else (row_at rows other) ∙ sym (ap (λ (t : Bool). or_first (row_at rows other) (if t then Some declaration else None)) e)

-- two ways of finding that find the same ranges: the bits and the faults by them are the same
module _ (bytes : List ℕ) (f g : List ℕ → Option Declaration) (same : (name : List ℕ) → declared_range (f name) ≡ declared_range (g name)) where
  bits_same : (e : Entry) → bits_of bytes f e ≡ bits_of bytes g e
  bits_same (Whole name) = ap (λ (r : Option Range). Some (whole_bits bytes r)) (same (text_at bytes name))
  bits_same (Bit name place) = refl
  bits_same (Part name select) = refl
  bits_same (Constant token) = refl
  bits_same (Module name) = refl
  bits_same (Header name) = refl
  bits_same (Declared by name bounds) = refl
  bits_same (Instance cell name) = refl
  bits_same (Port name) = refl

  joined_same : (entries : List Entry) → joined_width bytes f entries ≡ joined_width bytes g entries
  joined_same [] = refl
  joined_same (e ∷ entries) = ap₂ (λ (b : Option ℕ) (more : ℕ). and_more bytes f b more) (bits_same e) (joined_same entries)

  abbrev pub SameDeclaration : Entry → Type 0
  SameDeclaration (Declared by name bounds) =
      is_bad_declaration (f (text_at bytes name)) (record { by = by; range = bounds }) ≡ is_bad_declaration (g (text_at bytes name)) (record { by = by; range = bounds })
  SameDeclaration _ = ⊤

  pub bad_same : (behind : List Entry) (e : Entry) → SameDeclaration e → is_bad_entry bytes f behind e ≡ is_bad_entry bytes g behind e
  bad_same behind (Declared by name bounds) declared = declared
  bad_same behind (Port name) declared = ap (λ (n : ℕ). nat_lt most_bits n) (joined_same behind)
  bad_same behind (Bit name place) declared = ap (λ (r : Option Range). is_bad_bit r place) (same (text_at bytes name))
  bad_same behind (Part name select) declared = ap (λ (r : Option Range). is_bad_part r select) (same (text_at bytes name))
  bad_same behind (Constant token) declared = refl
  bad_same behind (Whole name) declared = refl
  bad_same behind (Module name) declared = refl
  bad_same behind (Header name) declared = refl
  bad_same behind (Instance cell name) declared = refl

pub is_none : {X : Type 0} (found : Option X) → is_some found ≡ false → found ≡ None
is_none None h = refl
is_none (Some x) h = absurd (true≢false h)

-- one entry more
pub first_step : (bytes : List ℕ) (entries : List Entry) (asked : ℕ) (name : List ℕ) (n : ℕ)
    → first_declared bytes entries asked name (n + 1) ≡ or_first (first_declared bytes entries asked name n) (declares bytes asked name (module_at entries n) (slice_get entries n))
first_step bytes entries asked name n = ap (first_declared bytes entries asked name) (add-one n)

or_none : (found : Option Declaration) → or_first found None ≡ found
or_none None = refl
or_none (Some first) = refl

none_kept : (keys : List Key) (asked : ℕ) (name : List ℕ) → kept keys asked name None ≡ None
none_kept keys asked name = by (holds keys (declared_key asked name))
  where
    none : Option Declaration
    none = None

    by : (b : Bool) → (if b then none else None) ≡ None
    by true = refl
    by false = refl

-- what is kept of the first of two
kept_or : (keys : List Key) (asked : ℕ) (name : List ℕ) (one two : Option Declaration) → or_first (kept keys asked name one) (kept keys asked name two) ≡ kept keys asked name (or_first one two)
kept_or keys asked name one two = by (holds keys (declared_key asked name)) refl
  where
    by : (b : Bool) → holds keys (declared_key asked name) ≡ b → or_first (kept keys asked name one) (kept keys asked name two) ≡ kept keys asked name (or_first one two)
    by true h = ap (λ (b : Bool). or_first (if b then one else None) (if b then two else None)) h ∙ sym (ap (λ (b : Bool). if b then or_first one two else None) h)
    by false h = ap (λ (b : Bool). or_first (if b then one else None) (if b then two else None)) h ∙ sym (ap (λ (b : Bool). if b then or_first one two else None) h)

-- what an entry declares is kept where its own key is held, and not elsewhere
module _ (bytes : List ℕ) (keys : List Key) (asked here : ℕ) (name text : List ℕ) (declaration : Declaration) where
  abbrev declared : Option Declaration
  declared = if same_key (declared_key asked name) (declared_key here text) then Some declaration else None

  pub kept_here : holds keys (declared_key here text) ≡ true → declared ≡ kept keys asked name declared
  kept_here held = by (same_key (declared_key asked name) (declared_key here text)) refl
    where
      by : (b : Bool) → same_key (declared_key asked name) (declared_key here text) ≡ b → declared ≡ kept keys asked name declared
      by true is = sym (ap (λ (b : Bool). if b then declared else None) (ap (holds keys) ((same_key-Decides (declared_key asked name) (declared_key here text)).0 is) ∙ held))
      by false is =
          let none : declared ≡ None = ap (λ (b : Bool). if b then Some declaration else None) is in
          none ∙ sym (ap (kept keys asked name) none ∙ none_kept keys asked name)

  pub kept_none : holds keys (declared_key here text) ≡ false → kept keys asked name declared ≡ None
  kept_none missing = by (same_key (declared_key asked name) (declared_key here text)) refl
    where
      by : (b : Bool) → same_key (declared_key asked name) (declared_key here text) ≡ b → kept keys asked name declared ≡ None
      by true is = ap (λ (b : Bool). if b then declared else None) (ap (holds keys) ((same_key-Decides (declared_key asked name) (declared_key here text)).0 is) ∙ missing)
      by false is = ap (kept keys asked name) (ap (λ (b : Bool). if b then Some declaration else None) is) ∙ none_kept keys asked name

-- a declaration of a name that is kept, and of one that is not
pub adds_kept : (bytes : List ℕ) (keys : List Key) (here : ℕ) (by : Decl) (span : Span) (bounds : Option Range) (old new : Rows) → holds keys (declared_key here (text_at bytes span)) ≡ true
    → AddsRow old new (declared_key here (text_at bytes span)) (record { by = by; range = bounds }) → AddsDeclared bytes keys here (Declared by span bounds) old new
adds_kept bytes keys here by span bounds old new held adds asked name =
    adds (declared_key asked name) ∙ ap (or_first (found_in old asked name)) (kept_here bytes keys asked here name (text_at bytes span) (record { by = by; range = bounds }) held)

pub adds_nothing : (bytes : List ℕ) (keys : List Key) (here : ℕ) (by : Decl) (span : Span) (bounds : Option Range) (rows : Rows) → holds keys (declared_key here (text_at bytes span)) ≡ false
    → AddsDeclared bytes keys here (Declared by span bounds) rows rows
adds_nothing bytes keys here by span bounds rows missing asked name =
    sym (or_none (found_in rows asked name)) ∙ sym (ap (or_first (found_in rows asked name)) (kept_none bytes keys asked here name (text_at bytes span) (record { by = by; range = bounds }) missing))

pub declared_next : (bytes : List ℕ) (entries : List Entry) (keys : List Key) (n : ℕ) (old new : Rows) (here : ℕ) (e : Entry) → here ≡ module_at entries n → slice_get entries n ≡ Some e
    → HoldsDeclared bytes entries keys n old → AddsDeclared bytes keys here e old new → HoldsDeclared bytes entries keys (n + 1) new
declared_next bytes entries keys n old new here e in_module stands holds adds asked name =
    adds asked name
    ∙ ap (λ (found : Option Declaration). or_first found (kept keys asked name (declares bytes asked name here (Some e)))) (holds asked name)
    ∙ kept_or keys asked name (first_declared bytes entries asked name n) (declares bytes asked name here (Some e))
    ∙ ap (kept keys asked name)
    (ap₂ (λ (m : ℕ) (x : Option Entry). or_first (first_declared bytes entries asked name n) (declares bytes asked name m x)) in_module (sym stands)
    ∙ sym (first_step bytes entries asked name n))

-- where no name is declared with a range none is kept
pub nothing_ranged : (bytes : List ℕ) (entries : List Entry) (ranged : List NameKey) (rows : Rows) → length ranged ≡ 0 → rows ≡ []
    → CoversRanged bytes entries (length entries) (keys_in ranged) → HoldsRanged bytes entries rows
nothing_ranged bytes entries [] rows none empty covers = record {
  keys = [];
  covers = covers;
  holds = subst (HoldsDeclared bytes entries [] (length entries)) (sym empty) (λ asked name. refl);
}
nothing_ranged bytes entries (key ∷ ranged) rows none empty covers = absurd (omega arith)

-- no key at first, and a key of each name with a range
pub covers_none : (bytes : List ℕ) (entries : List Entry) (keys : List Key) → CoversRanged bytes entries 0 keys
covers_none bytes entries keys asked name place declaration below = absurd (omega arith)

module _ (bytes : List ℕ) (entries : List Entry) (n : ℕ) (here : ℕ) (e : Entry) (old new : List Key) (in_module : here ≡ module_at entries n) (stands : slice_get entries n ≡ Some e)
    (adds : AddsRanged bytes here e old new) (h : CoversRanged bytes entries n old) where
  none_before : (e : Entry) → AddsRanged bytes here e old new → (key : Key) → holds new key ≡ false → holds old key ≡ false
  none_before (Declared by span (Some bounds)) more key missing = first_false (holds old key) (same_key key (declared_key here (text_at bytes span))) (sym (more key) ∙ missing)
    where
      first_false : (p q : Bool) → (p || q) ≡ false → p ≡ false
      first_false true q is = is
      first_false false q is = refl
  none_before (Declared by span None) same key missing = ap (λ (l : List Key). holds l key) (sym same) ∙ missing
  none_before (Whole name) same key missing = ap (λ (l : List Key). holds l key) (sym same) ∙ missing
  none_before (Bit name place) same key missing = ap (λ (l : List Key). holds l key) (sym same) ∙ missing
  none_before (Part name select) same key missing = ap (λ (l : List Key). holds l key) (sym same) ∙ missing
  none_before (Constant token) same key missing = ap (λ (l : List Key). holds l key) (sym same) ∙ missing
  none_before (Module name) same key missing = ap (λ (l : List Key). holds l key) (sym same) ∙ missing
  none_before (Header name) same key missing = ap (λ (l : List Key). holds l key) (sym same) ∙ missing
  none_before (Instance cell name) same key missing = ap (λ (l : List Key). holds l key) (sym same) ∙ missing
  none_before (Port name) same key missing = ap (λ (l : List Key). holds l key) (sym same) ∙ missing

  module _ (asked : ℕ) (name : List ℕ) (declaration : Declaration) (missing : holds new (declared_key asked name) ≡ false) where
    none_ranged : (e : Entry) → AddsRanged bytes here e old new → declares bytes asked name here (Some e) ≡ Some declaration → declaration.range ≡ None
    none_ranged (Declared by span (Some bounds)) more is = by_key (same_key (declared_key asked name) (declared_key here (text_at bytes span))) refl
      where
        by_key : (b : Bool) → same_key (declared_key asked name) (declared_key here (text_at bytes span)) ≡ b → declaration.range ≡ None
        by_key true same = absurd (true≢false (sym (or_later (holds old (declared_key asked name)) (same_key (declared_key asked name) (declared_key here (text_at bytes span))) same)
            ∙ sym (more (declared_key asked name)) ∙ missing))
          where
            or_later : (p q : Bool) → q ≡ true → (p || q) ≡ true
            or_later true q is = refl
            or_later false q is = is
        by_key false same = absurd (is_none_some (sym (ap (λ (b : Bool). if b then Some (record { by = by; range = Some bounds }) else None) same) ∙ is))
          where
            is_none_some : None ≡ Some declaration → ⊥
            is_none_some none = none-some _ none
    none_ranged (Declared by span None) more is = by_key (same_key (declared_key asked name) (declared_key here (text_at bytes span))) refl
      where
        by_key : (b : Bool) → same_key (declared_key asked name) (declared_key here (text_at bytes span)) ≡ b → declaration.range ≡ None
        by_key true same =
            let this : Some (record { by = by; range = None }) ≡ Some declaration = sym (ap (λ (b : Bool). if b then Some (record { by = by; range = None }) else None) same) ∙ is in
            sym (range_in this)
          where
            range_in : Some (record { by = by; range = None }) ≡ Some declaration → None ≡ declaration.range
            range_in this = ap (λ (x : Option Declaration). declared_range x) this
        by_key false same = absurd (is_none_some (sym (ap (λ (b : Bool). if b then Some (record { by = by; range = None }) else None) same) ∙ is))
          where
            is_none_some : None ≡ Some declaration → ⊥
            is_none_some none = none-some _ none
    none_ranged (Whole name) more is = absurd (none-some _ is)
    none_ranged (Bit name place) more is = absurd (none-some _ is)
    none_ranged (Part name select) more is = absurd (none-some _ is)
    none_ranged (Constant token) more is = absurd (none-some _ is)
    none_ranged (Module name) more is = absurd (none-some _ is)
    none_ranged (Header name) more is = absurd (none-some _ is)
    none_ranged (Instance cell name) more is = absurd (none-some _ is)
    none_ranged (Port name) more is = absurd (none-some _ is)

  pub covers_next : CoversRanged bytes entries (n + 1) new
  covers_next asked name place declaration below is missing = elim (le_or_lt n place) [
    | inr less ↦ h asked name place declaration less is (none_before e adds (declared_key asked name) missing)
    | inl more ↦
        let here_too : n ≡ place = omega arith in
        none_ranged asked name declaration missing e adds
        (ap₂ (λ (m : ℕ) (x : Option Entry). declares bytes asked name m x) (in_module ∙ ap (module_at entries) here_too) (sym stands ∙ ap (slice_get entries) here_too) ∙ is)
  ]

-- no name has more bits than the widest of the declared ones
width_now : (bytes : List ℕ) (d : Declaration) (widest : ℕ) (now : Bool) → 1 ≤ widest → whole_bits bytes (declared_range (if now then Some d else None)) ≤ max widest (whole_bits bytes d.range)
width_now bytes d widest true one = le-max_right widest (whole_bits bytes d.range)
width_now bytes d widest false one = let more = le-max_left widest (whole_bits bytes d.range) in omega arith

width_here : (bytes : List ℕ) (asked : ℕ) (name : List ℕ) (here : ℕ) (e : Entry) (widest : ℕ) → 1 ≤ widest
    → whole_bits bytes (declared_range (declares bytes asked name here (Some e))) ≤ widened bytes e widest
width_here bytes asked name here (Declared by span bounds) widest one =
    width_now bytes (record { by = by; range = bounds }) widest ((asked == here) && bytes_eq name (text_at bytes span)) one
width_here bytes asked name here _ widest one = one

width_kept : (bytes : List ℕ) (keys : List Key) (asked : ℕ) (name : List ℕ) (found : Option Declaration) (widest : ℕ) → 1 ≤ widest → whole_bits bytes (declared_range found) ≤ widest
    → whole_bits bytes (declared_range (kept keys asked name found)) ≤ widest
width_kept bytes keys asked name found widest one few = by (holds keys (declared_key asked name))
  where
    by : (b : Bool) → whole_bits bytes (declared_range (if b then found else None)) ≤ widest
    by true = few
    by false = one

wider : (bytes : List ℕ) (e : Entry) (widest : ℕ) → widest ≤ widened bytes e widest
wider bytes (Declared by span bounds) widest = le-max_left widest (whole_bits bytes bounds)
wider bytes _ widest = omega arith

pub bounds_first : (bytes : List ℕ) → BoundsWidths bytes [] 1
bounds_first bytes asked name = omega arith

pub bounds_next : (bytes : List ℕ) (keys : List Key) (here : ℕ) (e : Entry) (old new : Rows) (widest : ℕ) → AddsDeclared bytes keys here e old new → BoundsWidths bytes old widest → BoundsWidths bytes new (widened bytes e widest)
bounds_next bytes keys here e old new widest adds bounds asked name =
    subst (λ (d : Option Declaration). whole_bits bytes (declared_range d) ≤ widened bytes e widest) (sym (adds asked name)) (by (found_in old asked name) (bounds asked name))
  where
    by : (d : Option Declaration) → whole_bits bytes (declared_range d) ≤ widest → whole_bits bytes (declared_range (or_first d (kept keys asked name (declares bytes asked name here (Some e))))) ≤ widened bytes e widest
    by None one = width_kept bytes keys asked name (declares bytes asked name here (Some e)) (widened bytes e widest) (let more = wider bytes e widest in omega arith) (width_here bytes asked name here e widest one)
    by (Some first) few = let more = wider bytes e widest in omega arith

-- the bits of the expressions before this place, all of them expressions, and those from it on
module _ (bytes : List ℕ) (f : List ℕ → Option Declaration) (entries : List Entry) where
  pub record WidthSoFar (width index : ℕ) : Type 0 where
    pub whole : width + joined_width bytes f (drop index entries) ≡ joined_width bytes f entries
    pub few : width ≤ most_bits

  pub width_first : WidthSoFar 0 0
  width_first = record { whole = omega arith; few = omega arith }

  module _ (width index : ℕ) (h : WidthSoFar width index) where
    here_and_more : (bits : Option ℕ) → index < length entries → bits ≡ bits_of bytes f (get_or entries index no_entry)
        → joined_width bytes f (drop index entries) ≡ and_more bytes f bits (joined_width bytes f (drop (index + 1) entries))
    here_and_more bits within is =
        ap (joined_width bytes f) (drop-cons entries index no_entry within)
        ∙ ap₂ (λ (b : Option ℕ) (n : ℕ). and_more bytes f b (joined_width bytes f (drop n entries))) (sym is) (sym (add-one index))

    -- no expression stands here
    pub width_ends : index < length entries → None ≡ bits_of bytes f (get_or entries index no_entry) → false ≡ nat_lt most_bits (joined_width bytes f entries)
    width_ends within is =
        sym (le-ltb most_bits (joined_width bytes f entries) (let whole = h.whole in let few = h.few in let here = here_and_more None within is in omega arith))

    module _ (bits : ℕ) (within : index < length entries) (is : Some bits ≡ bits_of bytes f (get_or entries index no_entry)) where
      pub width_wide : most_bits < width + bits → true ≡ nat_lt most_bits (joined_width bytes f entries)
      width_wide wide =
          sym (lt-ltb most_bits (joined_width bytes f entries) (let whole = h.whole in let here = here_and_more (Some bits) within is in omega arith))

      pub width_next : width + bits ≤ most_bits → WidthSoFar (width + bits) (index + 1)
      width_next few = record { whole = (let whole = h.whole in let here = here_and_more (Some bits) within is in omega arith); few = few }

    pub width_all : length entries ≤ index → false ≡ nat_lt most_bits (joined_width bytes f entries)
    width_all past =
        sym (le-ltb most_bits (joined_width bytes f entries) (let whole = h.whole in let few = h.few in let none = ap (joined_width bytes f) (drop_all index entries past) in omega arith))

-- expressions that have at most so many bits before this place
module _ (bytes : List ℕ) (entries : List Entry) (rows : Rows) where
  abbrev by_rows : ℕ → List ℕ → Option Declaration
  by_rows asked name = found_in rows asked name

  pub record BoundSoFar (width index : ℕ) : Type 0 where
    pub whole : (asked : ℕ) → joined_width bytes (by_rows asked) entries ≤ width + joined_width bytes (by_rows asked) (drop index entries)
    pub few : width ≤ most_bits

  pub bound_first : BoundSoFar 0 0
  bound_first = record { whole = λ asked. omega arith; few = omega arith }

  at_most : (most bits : Option ℕ) (f : List ℕ → Option Declaration) (more : ℕ) (n : ℕ) → most ≡ Some n → IsAtMost bits most → and_more bytes f bits more ≤ n + more
  at_most (Some most) (Some bits) f more n is below = let same : most ≡ n = same_Some _ _ is in omega arith
  at_most (Some most) None f more n is below = absurd below
  at_most None bits f more n is below = absurd (none-some _ is)

  none_more : (bits : Option ℕ) (f : List ℕ → Option Declaration) (more : ℕ) → IsAtMost bits None → and_more bytes f bits more ≡ 0
  none_more None f more below = refl
  none_more (Some bits) f more below = absurd below

  module _ (width index : ℕ) (h : BoundSoFar width index) (within : index < length entries) (d : Entry) (most : Option ℕ)
      (bound : (asked : ℕ) → IsAtMost (bits_of bytes (by_rows asked) (get_or entries index d)) most) where
    from_here : (asked : ℕ) → joined_width bytes (by_rows asked) (drop index entries)
        ≡ and_more bytes (by_rows asked) (bits_of bytes (by_rows asked) (get_or entries index d)) (joined_width bytes (by_rows asked) (drop (index + 1) entries))
    from_here asked =
        ap (joined_width bytes (by_rows asked)) (drop-cons entries index d within)
        ∙ ap (λ (n : ℕ). and_more bytes (by_rows asked) (bits_of bytes (by_rows asked) (get_or entries index d)) (joined_width bytes (by_rows asked) (drop n entries))) (sym (add-one index))

    -- no expression stands here
    pub bound_ends : most ≡ None → (asked : ℕ) → nat_lt most_bits (joined_width bytes (by_rows asked) entries) ≡ false
    bound_ends is asked =
        let bits : Option ℕ = bits_of bytes (by_rows asked) (get_or entries index d) in
        let more : ℕ = joined_width bytes (by_rows asked) (drop (index + 1) entries) in
        let none = none_more bits (by_rows asked) more (subst (λ (m : Option ℕ). IsAtMost bits m) is (bound asked)) in
        le-ltb most_bits (joined_width bytes (by_rows asked) entries) (let whole = h.whole asked in let few = h.few in let here = from_here asked in omega arith)

    pub bound_next : (n : ℕ) → most ≡ Some n → width + n ≤ most_bits → BoundSoFar (width + n) (index + 1)
    bound_next n is few = record {
      whole = λ asked.
          let bits : Option ℕ = bits_of bytes (by_rows asked) (get_or entries index d) in
          let more : ℕ = joined_width bytes (by_rows asked) (drop (index + 1) entries) in
          let whole = h.whole asked in let here = from_here asked in let below = at_most most bits (by_rows asked) more n is (bound asked) in omega arith;
      few = few;
    }

  pub bound_all : (width index : ℕ) → BoundSoFar width index → length entries ≤ index → (asked : ℕ) → nat_lt most_bits (joined_width bytes (by_rows asked) entries) ≡ false
  bound_all width index h past asked =
      le-ltb most_bits (joined_width bytes (by_rows asked) entries)
      (let whole = h.whole asked in let few = h.few in let none = ap (joined_width bytes (by_rows asked)) (drop_all index entries past) in omega arith)

differ_none : (one : Option Declaration) (this : Declaration) → declared_range one ≡ None → this.range ≡ None → differs_from one this ≡ false
differ_none None this none same = refl
differ_none (Some first) this none same =
    ap (λ (b : Bool). not b && not (if is_wire first.by then is_wire this.by else not (is_wire this.by))) (ap₂ one_range none same)

-- what the rows say of the names of a module
module _ (bytes : List ℕ) (entries : List Entry) (rows : Rows) (h : HoldsRanged bytes entries rows) (here : ℕ) where
  abbrev all : List ℕ → Option Declaration
  all name = first_declared bytes entries here name (length entries)

  no_range : (name : List ℕ) → holds h.keys (declared_key here name) ≡ false → (n : ℕ) → n ≤ length entries → declared_range (first_declared bytes entries here name n) ≡ None
  no_range name missing zero few = refl
  no_range name missing (suc n) few =
      by (first_declared bytes entries here name n) (no_range name missing n (omega arith)) (declares bytes here name (module_at entries n) (slice_get entries n))
      (λ declaration is. h.covers here name n declaration (omega arith) is missing)
    where
      by : (one : Option Declaration) → declared_range one ≡ None → (two : Option Declaration) → ((declaration : Declaration) → two ≡ Some declaration → declaration.range ≡ None)
          → declared_range (or_first one two) ≡ None
      by (Some first) none two covers = none
      by None none None covers = refl
      by None none (Some later) covers = covers later refl

  found_kept : (name : List ℕ) (b : Bool) → holds h.keys (declared_key here name) ≡ b → found_in rows here name ≡ (if b then all name else None)
  found_kept name b is = h.holds here name ∙ ap (λ (t : Bool). if t then all name else None) is

  pub ranges_same : (name : List ℕ) → declared_range (found_in rows here name) ≡ declared_range (all name)
  ranges_same name = by (holds h.keys (declared_key here name)) refl
    where
      by : (b : Bool) → holds h.keys (declared_key here name) ≡ b → declared_range (found_in rows here name) ≡ declared_range (all name)
      by true is = ap declared_range (found_kept name true is)
      by false is = ap declared_range (found_kept name false is) ∙ sym (no_range name is (length entries) (omega arith))

  pub declaration_same : (place : ℕ) (e : Entry) → place < length entries → here ≡ module_at entries place → slice_get entries place ≡ Some e → SameDeclaration bytes (found_in rows here) all ranges_same e
  declaration_same place (Declared how span bounds) below in_module stands = by (holds h.keys (declared_key here (text_at bytes span))) refl
    where
      text : List ℕ
      text = text_at bytes span

      this : Declaration
      this = record { by = how; range = bounds }

      itself : declares bytes here text (module_at entries place) (slice_get entries place) ≡ Some this
      itself =
          ap₂ (λ (m : ℕ) (x : Option Entry). declares bytes here text m x) (sym in_module) stands
          ∙ ap₂ (λ (p q : Bool). if p && q then Some this else None) (eq-eqb here here refl) ((bytes_eq-Decides text text).1 refl)

      by : (b : Bool) → holds h.keys (declared_key here (text_at bytes span)) ≡ b → is_bad_declaration (found_in rows here text) this ≡ is_bad_declaration (all text) this
      by true is = ap (λ (d : Option Declaration). is_bad_declaration d this) (found_kept text true is)
      by false is =
          ap (λ (d : Option Declaration). is_bad_declaration d this) (found_kept text false is)
          ∙ ap (λ (b : Bool). is_past bounds || b) (sym (differ_none (all text) this (no_range text is (length entries) (omega arith)) (h.covers here text place this below itself is)))
  declaration_same place (Whole name) below in_module stands = tt
  declaration_same place (Bit name bit) below in_module stands = tt
  declaration_same place (Part name select) below in_module stands = tt
  declaration_same place (Constant token) below in_module stands = tt
  declaration_same place (Module name) below in_module stands = tt
  declaration_same place (Header name) below in_module stands = tt
  declaration_same place (Instance cell name) below in_module stands = tt
  declaration_same place (Port name) below in_module stands = tt

-- a fault here
module _ (bytes : List ℕ) (entries : List Entry) (n : ℕ) (e : Entry) (rows : Rows) (h : HoldsRanged bytes entries rows) (here : ℕ) (below : n < length entries) (in_module : here ≡ module_at entries n)
    (stands : slice_get entries n ≡ Some e) where
  bad_is : is_bad_entry bytes (found_in rows here) (drop (n + 1) entries) e ≡ is_bad_entry bytes (declared_by bytes entries n) (drop (n + 1) entries) e
  bad_is =
      bad_same bytes (found_in rows here) (λ name. first_declared bytes entries here name (length entries)) (ranges_same bytes entries rows h here) (drop (n + 1) entries) e
      (declaration_same bytes entries rows h here n e below in_module stands)
      ∙ ap (λ (m : ℕ). is_bad_entry bytes (λ name. first_declared bytes entries m name (length entries)) (drop (n + 1) entries) e) in_module

  pub decides_bad : Decides (is_bad_entry bytes (found_in rows here) (drop (n + 1) entries) e) (IsBadRange bytes entries n)
  decides_bad = (
    (λ is. record { entry = e; stands = stands; bad = sym bad_is ∙ is }),
    (λ r. let entry_is : r.entry ≡ e = same_Some _ _ (sym r.stands ∙ stands) in
        bad_is ∙ ap (λ (x : Entry). is_bad_entry bytes (declared_by bytes entries n) (drop (n + 1) entries) x) (sym entry_is) ∙ r.bad),
  )
