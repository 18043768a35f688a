-- The modules of a netlist by their names.
use Rattle.std.specs.Prelude.{◌≡◌, ℕ, ◌<◌, List, length, Option, Some, None}
use Rattle.std.specs.Borrow.{Bor}
use Rattle.std.specs.Map.{lookup}
use Rattle.std.specs.Str.{bytes_eq}
use Rattle.verilog_netlist.specs.NetModules.{NetModule, module_at}

-- a module of this name among the first n, or none
abbrev pub IsFound : List NetModule → ℕ → List ℕ → Option ℕ → Type 0
IsFound modules n name (Some m) = (m < n) × ((module_at modules m).name ≡ name)
IsFound modules n name None = (m : ℕ) → m < n → (module_at modules m).name ≡ name → ⊥

-- what is found among the first n modules
abbrev pub HoldsNumbers : List NetModule → ℕ → List (Bor (List ℕ) × ℕ) → Type 0
HoldsNumbers modules n numbers = (name : Bor (List ℕ)) → IsFound modules n name.now (lookup (λ other. bytes_eq name.now other.now) numbers)

abbrev pub AreNumbers : List NetModule → List (Bor (List ℕ) × ℕ) → Type 0
AreNumbers modules numbers = HoldsNumbers modules (length modules) numbers
