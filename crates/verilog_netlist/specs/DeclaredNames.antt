-- The names that are declared with a range as they are kept, each with its first declaration.
use Rattle.std.specs.Prelude.{◌≡◌, ℕ, ◌<◌, ◌≤◌, false, max, if◌then◌else◌, List, length, slice_get, Option, Some, None, ⊤}
use Rattle.std.specs.Map.{lookup}
use Rattle.token_texts.specs.Spans.{text_at}
use Rattle.verilog_netlist.specs.Ranges.{declares, or_first, first_declared, module_at, declared_range, whole_bits}
use Rattle.verilog_netlist.specs.NameKeys.{code_of, Key, key_in, same_key, holds, with_key}
use Rattle.verilog_netlist.specs.declared.declared.Declaration.{Declaration}
use Rattle.verilog_netlist.specs.declared.entries.Entry.{Entry}
use Rattle.verilog_netlist.specs.declared.entries.Entry.TheVariants.{Declared}
use Rattle.verilog_netlist.specs.declared.namespaces.Names.TheVariants as names
use Rattle.verilog_netlist.specs.declared.repeats.NameKey.{NameKey}

abbrev pub Rows : Type 0
Rows = List (NameKey × Declaration)

-- a declared name, by whatever it is declared
abbrev pub declared_key : ℕ → List ℕ → Key
declared_key asked name = record { code = code_of names.Wires; scope = asked; name = name }

abbrev pub row_at : Rows → Key → Option Declaration
row_at rows key = lookup (λ other. same_key key (key_in other)) rows

-- the first declaration of a name in the module that is asked for
abbrev pub found_in : Rows → ℕ → List ℕ → Option Declaration
found_in rows asked name = row_at rows (declared_key asked name)

-- a row more, unless the key has one
abbrev pub AddsRow : Rows → Rows → Key → Declaration → Type 0
AddsRow old new key declaration =
    (other : Key) → row_at new other ≡ or_first (row_at old other) (if same_key other key then Some declaration else None)

-- the keys with that of a name which this entry of the module `here` declares with a range
abbrev pub AddsRanged : List ℕ → ℕ → Entry → List Key → List Key → Type 0
AddsRanged bytes here (Declared by name (Some bounds)) old new =
    (key : Key) → holds new key ≡ with_key (holds old) (declared_key here (text_at bytes name)) key
AddsRanged bytes here _ old new = new ≡ old

-- what is found of a name is kept, if the keys have that of the name
abbrev pub kept : List Key → ℕ → List ℕ → Option Declaration → Option Declaration
kept keys asked name found = if holds keys (declared_key asked name) then found else None

-- what this entry declares in the module `here`
abbrev pub AddsDeclared : List ℕ → List Key → ℕ → Entry → Rows → Rows → Type 0
AddsDeclared bytes keys here entry old new = (asked : ℕ) (name : List ℕ)
    → found_in new asked name ≡ or_first (found_in old asked name) (kept keys asked name (declares bytes asked name here (Some entry)))

module _ (bytes : List ℕ) (entries : List Entry) where
  -- a name that one of so many entries declares with a range has its key among these
  abbrev pub CoversRanged : ℕ → List Key → Type 0
  CoversRanged n keys = (asked : ℕ) (name : List ℕ) (place : ℕ) (declaration : Declaration) → place < n
      → declares bytes asked name (module_at entries place) (slice_get entries place) ≡ Some declaration
      → holds keys (declared_key asked name) ≡ false → declaration.range ≡ None

  -- the first declarations among so many entries, of the names of these keys
  abbrev pub HoldsDeclared : List Key → ℕ → Rows → Type 0
  HoldsDeclared keys n rows =
      (asked : ℕ) (name : List ℕ) → found_in rows asked name ≡ kept keys asked name (first_declared bytes entries asked name n)

  -- the first declarations of all names that are declared with a range
  pub record HoldsRanged (rows : Rows) : Type 0 where
    pub keys : List Key
    pub covers : CoversRanged (length entries) keys
    pub holds : HoldsDeclared keys (length entries) rows

-- no name has more bits than this, in whatever module, and no undeclared one
abbrev pub BoundsWidths : List ℕ → Rows → ℕ → Type 0
BoundsWidths bytes rows widest = (asked : ℕ) (name : List ℕ) → whole_bits bytes (declared_range (found_in rows asked name)) ≤ widest

-- the most bits of a name, with what this entry declares
abbrev pub widened : List ℕ → Entry → ℕ → ℕ
widened bytes (Declared by name bounds) widest = max widest (whole_bits bytes bounds)
widened bytes _ widest = widest

-- some bits are at most so many, and no expression is none
abbrev pub IsAtMost : Option ℕ → Option ℕ → Type 0
IsAtMost None None = ⊤
IsAtMost (Some bits) (Some most) = bits ≤ most
IsAtMost _ _ = ⊥
