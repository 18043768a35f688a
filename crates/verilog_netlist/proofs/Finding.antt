-- Looking for the first place of which something holds.
use Rattle.std.proofs.Common.{ℕ, ◌+◌, ◌<◌, Bool, true, false, inl, inr, Option, Some, None, refl, sym, subst, arith, true≢false, Decides}
use Rattle.std.proofs.lemmas.Bool.{cases_eq}
use Rattle.verilog_netlist.specs.Firsts.{IsFirst, first_or}

module _ (P : ℕ → Type 0) where
  -- the first of the places before this one, or none of them
  abbrev pub IsFirstBelow : ℕ → Option ℕ → Type 0
  IsFirstBelow index None = (place : ℕ) → place < index → P place → ⊥
  IsFirstBelow index (Some place) = P place × ((before : ℕ) → before < place → P before → ⊥)

  pub none_below : IsFirstBelow 0 None
  none_below place below holds = absurd (omega arith)

  pub not_here_too : (index : ℕ) → IsFirstBelow index None → (P index → ⊥) → IsFirstBelow (index + 1) None
  not_here_too index none here place below holds = elim (cases_eq place index) [
    | inl at ↦ here (subst P at holds)
    | inr other ↦ none place (omega arith) holds
  ]

  pub first_next : (index : ℕ) (found : Option ℕ) (here : Bool) → IsFirstBelow index found → Decides here (P index) → IsFirstBelow (index + 1) (first_or found index here)
  first_next index (Some before) here found tells = found
  first_next index None true found tells = (tells.0 refl, found)
  first_next index None false found tells = not_here_too index found (λ p. true≢false (sym (tells.1 p)))

  pub first_of_all : (index : ℕ) (found : Option ℕ) → IsFirstBelow index found → ((place : ℕ) → P place → place < index) → IsFirst P found
  first_of_all index (Some place) found within = found
  first_of_all index None found within = λ place p. found place (within place p) p
