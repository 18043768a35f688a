-- Ports of modules and pins of cells by their names, as they are kept.
use Rattle.std.specs.Prelude.{[], ◌≡◌, ℕ, ◌<◌, true, List, length, get_or, Option, Some, None}
use Rattle.std.specs.Borrow.{Bor}
use Rattle.std.specs.Map.{lookup}
use Rattle.std.specs.Str.{bytes_eq}
use Rattle.verilog_netlist.specs.ModuleNames.{NetName, no_name}
use Rattle.netlist_link.specs.FlatBits.{is_port}
use Rattle.netlist_link.specs.declared.port_numbers.PortNumbers.{PortNumbers}

-- which number has a name
abbrev pub Naming : Type 1
Naming = ℕ → List ℕ → Type 0

-- one of the first so many numbers that has this name, or none of them
abbrev pub IsFoundBy : Naming → ℕ → List ℕ → Option ℕ → Type 0
IsFoundBy has n name (Some i) = (i < n) × has i name
IsFoundBy has n name None = (i : ℕ) → i < n → has i name → ⊥

-- what is found among the first so many numbers
abbrev pub HoldsNamed : Naming → ℕ → List (Bor (List ℕ) × ℕ) → Type 0
HoldsNamed has n numbers = (name : Bor (List ℕ)) → IsFoundBy has n name.now (lookup (λ other. bytes_eq name.now other.now) numbers)

-- a port of a module, by its number among the names
pub record IsPortNamed (names : List NetName) (i : ℕ) (name : List ℕ) : Type 0 where
  pub port : is_port (get_or names i no_name) ≡ true
  pub text : (get_or names i no_name).text ≡ name

-- a pin of a cell, by its number
pub record IsPinNamed (names : List (List ℕ)) (j : ℕ) (name : List ℕ) : Type 0 where
  pub text : get_or names j [] ≡ name

-- the table finds the ports among these names
abbrev pub ArePortNumbers : List NetName → PortNumbers → Type 0
ArePortNumbers names table = HoldsNamed (IsPortNamed names) (length names) table.numbers.entries

-- the table finds the pins of these names
abbrev pub ArePinNumbers : List (List ℕ) → PortNumbers → Type 0
ArePinNumbers names table = HoldsNamed (IsPinNamed names) (length names) table.numbers.entries
