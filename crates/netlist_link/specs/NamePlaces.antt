-- The places of the names of modules among the bits of their names.
use Rattle.std.specs.Prelude.{◌≡◌, ℕ, ◌+◌, ◌<◌, ◌≤◌, List, [], ◌∷◌, ◌++◌, length, take, flat_map, sum_by, slice_index}
use Rattle.verilog_netlist.specs.ModuleNames.{NetName}
use Rattle.verilog_netlist.specs.NetModules.{NetModule, module_at}
use Rattle.verilog_netlist.specs.Ranges.{whole_width}
use Rattle.hierarchy.specs.Walks.{joined_from}
use Rattle.netlist_link.specs.declared.flat_bits.NamePlaces.{NamePlaces}

-- how many bits the first so many names have
abbrev pub bits_before : List NetName → ℕ → ℕ
bits_before names i = sum_by (λ name. whole_width name.range) (take i names)

-- the bits before each name, and behind them those of all names
abbrev pub places_of_names : List NetName → List ℕ
places_of_names names = joined_from (λ i. bits_before names i ∷ []) 0 (length names + 1)

abbrev pub places_of_module : NetModule → List ℕ
places_of_module found = places_of_names found.names

-- the places of the names of the first so many modules stand one module after another
pub record HoldPlaces (modules : List NetModule) (many : ℕ) (places : NamePlaces) : Type 0 where
  pub bits_are : places.bits.items ≡ flat_map places_of_module (take many modules)
  pub starts_len : length places.starts.items ≡ many
  pub starts_are : (m : ℕ) → m < many → slice_index places.starts.items m ≡ length (flat_map places_of_module (take m modules))

abbrev pub AreNamePlaces : List NetModule → NamePlaces → Type 0
AreNamePlaces modules = HoldPlaces modules (length modules)

-- the first so many names of a module have their places behind those before, and have so many bits
pub record AddsNames (names : List NetName) (old now : NamePlaces) (i before : ℕ) : Type 0 where
  pub bits_are : now.bits.items ≡ old.bits.items ++ joined_from (λ k. bits_before names k ∷ []) 0 i
  pub starts_are : now.starts.items ≡ old.starts.items ++ length old.bits.items ∷ []
  pub before_is : before ≡ bits_before names i

-- a name of a module, or the end of its names
pub record HasPlace (places : NamePlaces) (m name : ℕ) : Type 0 where
  pub modules : List NetModule
  pub are : AreNamePlaces modules places
  pub below : m < length modules
  pub within : name ≤ length (module_at modules m).names
