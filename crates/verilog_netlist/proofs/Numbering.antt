-- The modules by their names, one module more.
use Rattle.std.proofs.Common.{◌≡◌, ℕ, ◌+◌, ◌<◌, Bool, true, false, inl, inr, List, length, IfSome, IfNone, Option, Some, None, refl, sym, ap, ◌∙◌, subst, arith, cond, true≢false, Bor}
use Rattle.std.specs.Map.{lookup}
use Rattle.std.specs.Str.{bytes_eq}
use Rattle.std.proofs.lemmas.Slice.Eq.{bytes_eq-Decides}
use Rattle.verilog_netlist.specs.NetModules.{NetModule, module_at}
use Rattle.verilog_netlist.specs.ModuleNumbers.{IsFound, HoldsNumbers, AreNumbers}
use Rattle.verilog_netlist.proofs.PartsFound.{le_or_lt}

found_on : (modules : List NetModule) (n : ℕ) (name : List ℕ) (found : Option ℕ) → ((module_at modules n).name ≡ name → ⊥) → IsFound modules n name found → IsFound modules (n + 1) name found
found_on modules n name (Some m) never h = ((let b = h.0 in omega arith), h.1)
found_on modules n name None never h = λ m below is. elim (le_or_lt n m) [
  | inr less ↦ h m less is
  | inl more ↦ let same : m ≡ n = omega arith in never (subst (λ (k : ℕ). (module_at modules k).name ≡ name) same is)
]

pub numbers_next : (modules : List NetModule) (n : ℕ) (key : Bor (List ℕ)) (old new : List (Bor (List ℕ) × ℕ)) → key.now ≡ (module_at modules n).name → HoldsNumbers modules n old
    → ((q : Bor (List ℕ)) → lookup (λ other. bytes_eq q.now other.now) new ≡ cond (bytes_eq key.now q.now) (Some n) (lookup (λ other. bytes_eq q.now other.now) old))
    → HoldsNumbers modules (n + 1) new
numbers_next modules n key old new is holds updates q = by (bytes_eq key.now q.now) refl
  where
    before : Option ℕ
    before = lookup (λ other. bytes_eq q.now other.now) old

    by : (b : Bool) → bytes_eq key.now q.now ≡ b → IsFound modules (n + 1) q.now (lookup (λ other. bytes_eq q.now other.now) new)
    by true h = subst (IsFound modules (n + 1) q.now) (sym (updates q ∙ ap (λ (b : Bool). cond b (Some n) (lookup (λ other. bytes_eq q.now other.now) old)) h))
        ((omega arith), sym is ∙ (bytes_eq-Decides key.now q.now).0 h)
    by false h = subst (IsFound modules (n + 1) q.now) (sym (updates q ∙ ap (λ (b : Bool). cond b (Some n) (lookup (λ other. bytes_eq q.now other.now) old)) h))
        (found_on modules n q.now (lookup (λ other. bytes_eq q.now other.now) old) (λ same. true≢false (sym ((bytes_eq-Decides key.now q.now).1 (is ∙ same)) ∙ h)) (holds q))

module _ (modules : List NetModule) (name : Bor (List ℕ)) (numbers : List (Bor (List ℕ) × ℕ)) (holds : AreNumbers modules numbers) (found : Option ℕ) (is : found ≡ lookup (λ other. bytes_eq name.now other.now) numbers) where
  what : IsFound modules (length modules) name.now found
  what = subst (IsFound modules (length modules) name.now) (sym is) (holds name)

  pub found_some : IfSome found (λ m. (m < length modules) × ((module_at modules m).name ≡ name.now))
  found_some = by found what
    where
      by : (f : Option ℕ) → IsFound modules (length modules) name.now f → IfSome f (λ m. (m < length modules) × ((module_at modules m).name ≡ name.now))
      by (Some m) h = h
      by None h = tt

  pub found_none : IfNone found ((m : ℕ) → m < length modules → (module_at modules m).name ≡ name.now → ⊥)
  found_none = by found what
    where
      by : (f : Option ℕ) → IsFound modules (length modules) name.now f → IfNone f ((m : ℕ) → m < length modules → (module_at modules m).name ≡ name.now → ⊥)
      by (Some m) h = tt
      by None h = h
