-- Numbers by their names, one number more.
use Rattle.std.proofs.Common.{◌≡◌, ℕ, ◌+◌, Bool, true, false, inl, inr, List, Option, Some, None, refl, sym, ap, ◌∙◌, subst, arith, cond, true≢false, Bor}
use Rattle.std.specs.Map.{lookup}
use Rattle.std.specs.Str.{bytes_eq}
use Rattle.std.proofs.lemmas.Bool.{cases_lt}
use Rattle.std.proofs.lemmas.Slice.Eq.{bytes_eq-Decides}
use Rattle.netlist_link.specs.PortTables.{Naming, IsFoundBy, HoldsNamed}

module _ (has : Naming) (n : ℕ) where
  found_on : (name : List ℕ) (found : Option ℕ) → (has n name → ⊥) → IsFoundBy has n name found → IsFoundBy has (n + 1) name found
  found_on name (Some i) never h = ((let below = h.0 in omega arith), h.1)
  found_on name None never h = λ i below is. elim (cases_lt i n) [
    | inl less ↦ h i less is
    | inr more ↦ (let same : i ≡ n = omega arith in never (subst (λ (k : ℕ). has k name) same is))
  ]

  -- a number without a name
  pub nameless_next : (numbers : List (Bor (List ℕ) × ℕ)) → ((name : List ℕ) → has n name → ⊥) → HoldsNamed has n numbers → HoldsNamed has (n + 1) numbers
  nameless_next numbers never holds q = found_on q.now (lookup (λ other. bytes_eq q.now other.now) numbers) (never q.now) (holds q)

  -- a number with its name, which it has alone
  pub named_next : (key : Bor (List ℕ)) (old new : List (Bor (List ℕ) × ℕ)) → has n key.now → ((name : List ℕ) → has n name → key.now ≡ name)
      → HoldsNamed has n old
      → ((q : Bor (List ℕ)) → lookup (λ other. bytes_eq q.now other.now) new ≡ cond (bytes_eq key.now q.now) (Some n) (lookup (λ other. bytes_eq q.now other.now) old))
      → HoldsNamed has (n + 1) new
  named_next key old new is alone holds updates q = by (bytes_eq key.now q.now) refl
    where
      by : (b : Bool) → bytes_eq key.now q.now ≡ b → IsFoundBy has (n + 1) q.now (lookup (λ other. bytes_eq q.now other.now) new)
      by true h = subst (IsFoundBy has (n + 1) q.now) (sym (updates q ∙ ap (λ (b : Bool). cond b (Some n) (lookup (λ other. bytes_eq q.now other.now) old)) h))
          ((omega arith), subst (has n) ((bytes_eq-Decides key.now q.now).0 h) is)
      by false h = subst (IsFoundBy has (n + 1) q.now) (sym (updates q ∙ ap (λ (b : Bool). cond b (Some n) (lookup (λ other. bytes_eq q.now other.now) old)) h))
          (found_on q.now (lookup (λ other. bytes_eq q.now other.now) old)
          (λ its. true≢false (sym ((bytes_eq-Decides key.now q.now).1 (alone q.now its)) ∙ h)) (holds q))
