-- Trails along lower modules.
use Rattle.std.proofs.Common.{◌≡◌, ℕ, ◌<◌, List, [], ◌∷◌, ◌++◌, length, refl, sym, ap, ◌∙◌, subst, arith}
use Rattle.hierarchy.specs.Lowers.{lowers_at, lower_at, end_of, IsTrail, Leads, IsRound}

module _ (lowers : List (List ℕ)) where
  pub end-append : (m : ℕ) (last first : List ℕ) → end_of lowers m (last ++ first) ≡ end_of lowers (end_of lowers m first) last
  end-append m [] first = refl
  end-append m (j ∷ last) first = ap (λ a. lower_at lowers a j) (end-append m last first)

  pub trail-append : (m : ℕ) (last first : List ℕ) → IsTrail lowers m first → IsTrail lowers (end_of lowers m first) last
      → IsTrail lowers m (last ++ first)
  trail-append m [] first f l = f
  trail-append m (j ∷ last) first f l =
      (trail-append m last first f l.0, subst (λ a. j < length (lowers_at lowers a)) (sym (end-append m last first)) l.1)

  pub leads_here : (m : ℕ) → Leads lowers m m
  leads_here m = record { trail = []; is_trail = tt; ends = refl }

  pub leads_on : (a b j : ℕ) → Leads lowers a b → j < length (lowers_at lowers b) → Leads lowers a (lower_at lowers b j)
  leads_on a b j h lt = record {
    trail = j ∷ h.trail;
    is_trail = (h.is_trail, subst (λ m. j < length (lowers_at lowers m)) (sym h.ends) lt);
    ends = ap (λ m. lower_at lowers m j) h.ends;
  }

  pub leads_round : (a b j : ℕ) → Leads lowers a b → j < length (lowers_at lowers b) → lower_at lowers b j ≡ a → IsRound lowers a
  leads_round a b j h lt back = record {
    trail = j ∷ h.trail;
    some = omega arith;
    is_trail = (h.is_trail, subst (λ m. j < length (lowers_at lowers m)) (sym h.ends) lt);
    ends = ap (λ m. lower_at lowers m j) h.ends ∙ back;
  }
