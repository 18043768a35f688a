-- The module of a name is one, where the names of modules differ.
use Rattle.std.proofs.Common.{◌≡◌, ℕ, ◌<◌, ◌≤◌, ⊎_elim, List, length, Bool, true, false, refl, sym, ◌∙◌, arith}
use Rattle.std.specs.Str.{bytes_eq}
use Rattle.std.proofs.lemmas.Slice.Eq.{bytes_eq-Decides}
use Rattle.std.proofs.lemmas.List.Sums.{position_or_len_is, passes_at_first}
use Rattle.std.proofs.lemmas.Bool.{cases_lt}
use Rattle.verilog_netlist.specs.NetModules.{NetModule, module_at, no_module}
use Rattle.verilog_netlist.specs.SoundModules.{Differ}
use Rattle.hierarchy.specs.Hierarchy.{module_named}

not_true : (b : Bool) → (b ≡ true → ⊥) → b ≡ false
not_true true h = absurd (h refl)
not_true false h = refl

pub named_at : (modules : List NetModule) (m : ℕ) (name : List ℕ) → Differ (length modules) (λ k. (module_at modules k).name)
    → m < length modules → (module_at modules m).name ≡ name → m ≡ module_named modules name
named_at modules m name differ within named =
    let test = λ (x : NetModule). bytes_eq name x.name in
    sym (position_or_len_is test modules m no_module (omega arith)
    (λ k before. not_true (bytes_eq name (module_at modules k).name)
    (λ e. differ k m before within (sym ((bytes_eq-Decides name (module_at modules k).name).0 e) ∙ sym named)))
    (λ _. (bytes_eq-Decides name (module_at modules m).name).1 (sym named)))

pub named_none : (modules : List NetModule) (name : List ℕ)
    → ((m : ℕ) → m < length modules → (module_at modules m).name ≡ name → ⊥) → length modules ≤ module_named modules name
named_none modules name none =
    let test = λ (x : NetModule). bytes_eq name x.name in
    let n = module_named modules name in
    ⊎_elim (λ lt. absurd (none n lt (sym ((bytes_eq-Decides name (module_at modules n).name).0 (passes_at_first test modules no_module lt)))))
    (λ le. le) (cases_lt n (length modules))
