-- States that are known at one corner are known at another, where nothing is stuck.
use Rattle.std.proofs.Common.{◌≡◌, ℕ, ◌∙◌, ◌||◌, Bool, true, false, ap₂, sym, refl, List, [], ◌∷◌, map, Option, Some, None}
use Rattle.std.proofs.lemmas.Bool.{false≢true}
use Rattle.cell_models.specs.declared.edge.Edge.{Edge}
use Rattle.slew_states.specs.Laws.{Agree}
use Rattle.slew_states.specs.PinState.{behind, join, joined, known_or_stuck}
use Rattle.slew_states.specs.declared.states.PinState.{PinState}
use Rattle.slew_states.specs.declared.states.PinState.TheVariants.{Absent, Known, Stuck}
use Rattle.slew_order.proofs.StuckStates.{joined_stuck}

abbrev pub is_known : PinState → Bool
is_known Absent = false
is_known (Known slew) = true
is_known Stuck = false

pub slew_of : (state : PinState) → is_known state ≡ true → (slew : ℕ) × (state ≡ Known slew)
slew_of Absent known = absurd (false≢true known)
slew_of (Known slew) known = (slew, refl)
slew_of Stuck known = absurd (false≢true known)

pub agree_known : (one other : PinState) → Agree one other → (one ≡ Stuck → ⊥) → (other ≡ Stuck → ⊥) → is_known one ≡ is_known other
agree_known Absent Absent agree free also = refl
agree_known Absent (Known slew) agree free also = absurd agree
agree_known Absent Stuck agree free also = absurd (also refl)
agree_known (Known slew) Absent agree free also = absurd agree
agree_known (Known slew) (Known other) agree free also = refl
agree_known (Known slew) Stuck agree free also = absurd (also refl)
agree_known Stuck other agree free also = absurd (free refl)

made_known : (made : Option ℕ) → (known_or_stuck made ≡ Stuck → ⊥) → is_known (known_or_stuck made) ≡ true
made_known None free = absurd (free refl)
made_known (Some slew) free = refl

pub behind_known : (look : ℕ → Option ℕ) (state : PinState) → (behind look state ≡ Stuck → ⊥) → is_known (behind look state) ≡ is_known state
behind_known look Absent free = refl
behind_known look (Known slew) free = made_known (look slew) free
behind_known look Stuck free = refl

join_known : (one other : PinState) → (one ≡ Stuck → ⊥) → (other ≡ Stuck → ⊥) → is_known (join one other) ≡ (is_known one || is_known other)
join_known Absent other free also = refl
join_known (Known slew) Absent free also = refl
join_known (Known slew) (Known other) free also = refl
join_known (Known slew) Stuck free also = absurd (also refl)
join_known Stuck other free also = absurd (free refl)

joined_free : (state : Edge → PinState) → ((edge : Edge) → state edge ≡ Stuck → ⊥) → (edges : List Edge) → joined (map state edges) ≡ Stuck → ⊥
joined_free state free edges is = let found = joined_stuck state edges is in free found.0 found.1

pub joined_known : (one other : Edge → PinState) → ((edge : Edge) → one edge ≡ Stuck → ⊥) → ((edge : Edge) → other edge ≡ Stuck → ⊥)
    → ((edge : Edge) → is_known (one edge) ≡ is_known (other edge)) → (edges : List Edge) → is_known (joined (map one edges)) ≡ is_known (joined (map other edges))
joined_known one other free also same [] = refl
joined_known one other free also same (edge ∷ edges) =
    join_known (one edge) (joined (map one edges)) (free edge) (joined_free one free edges)
    ∙ ap₂ (λ a b. a || b) (same edge) (joined_known one other free also same edges)
    ∙ sym (join_known (other edge) (joined (map other edges)) (also edge) (joined_free other also edges))
