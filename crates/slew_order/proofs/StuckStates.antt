-- What is stuck comes from something that is stuck, or from something that is refused.
use Rattle.std.proofs.Common.{◌≡◌, ◌⊎◌, ℕ, suc, ◌+◌, ◌<◌, Bool, true, false, if◌then◌else◌, refl, subst, List, [], ◌∷◌, length, map, Option, Some, None, inl, inr, arith}
use Rattle.cell_models.specs.declared.edge.Edge.{Edge}
use Rattle.slew_states.specs.Arcs.{arc_at, has_edge, is_net}
use Rattle.slew_states.specs.PinState.{Look, Wire, arc_state, behind, by_driver, join, joined, known_or_stuck, over_arcs, pin_state, worst}
use Rattle.slew_states.specs.declared.arcs.Driver.{Driver}
use Rattle.slew_states.specs.declared.arcs.Driver.TheVariants.{Nothing, Port, Pin}
use Rattle.slew_states.specs.declared.arcs.FlatArc.{FlatArc}
use Rattle.slew_states.specs.declared.states.PinState.{PinState}
use Rattle.slew_states.specs.declared.states.PinState.TheVariants.{Absent, Known, Stuck}

absent_free : Absent ≡ Stuck → ⊥
absent_free is = cc

known_free : (slew : ℕ) → Known slew ≡ Stuck → ⊥
known_free slew is = cc

pub join_stuck : (one other : PinState) → join one other ≡ Stuck → (one ≡ Stuck) ⊎ (other ≡ Stuck)
join_stuck Absent other is = inr is
join_stuck (Known slew) Absent is = absurd (known_free slew is)
join_stuck (Known slew) (Known also) is = absurd (known_free _ is)
join_stuck (Known slew) Stuck is = inr refl
join_stuck Stuck other is = inl refl

pub joined_stuck : (state : Edge → PinState) (edges : List Edge) → joined (map state edges) ≡ Stuck → (edge : Edge) × (state edge ≡ Stuck)
joined_stuck state [] is = absurd (absent_free is)
joined_stuck state (edge ∷ edges) is = elim (join_stuck (state edge) (joined (map state edges)) is) [
  | inl here ↦ (edge, here)
  | inr later ↦ joined_stuck state edges later
]

none_made : (made : Option ℕ) → known_or_stuck made ≡ Stuck → made ≡ None
none_made None is = refl
none_made (Some slew) is = absurd (known_free slew is)

pub behind_stuck : (look : ℕ → Option ℕ) (state : PinState) → behind look state ≡ Stuck → (state ≡ Stuck) ⊎ ((slew : ℕ) × (state ≡ Known slew) × (look slew ≡ None))
behind_stuck look Absent is = absurd (absent_free is)
behind_stuck look (Known slew) is = inr (slew, refl, none_made (look slew) is)
behind_stuck look Stuck is = inl refl

pub pin_stuck : (wire : Wire) (before : ℕ → Edge → PinState) (arc : ℕ) (source : Option ℕ) (edge : Edge) → pin_state wire before arc source edge ≡ Stuck
    → (net : ℕ) × (source ≡ Some net) × (behind (wire arc) (before net edge) ≡ Stuck)
pin_stuck wire before arc None edge is = absurd (absent_free is)
pin_stuck wire before arc (Some net) edge is = (net, refl, is)

pub driver_stuck : (driver : Driver) (slew : ℕ) (state : PinState) → by_driver driver slew state ≡ Stuck → state ≡ Stuck
driver_stuck Nothing slew state is = absurd (absent_free is)
driver_stuck Port slew state is = absurd (known_free slew is)
driver_stuck Pin slew state is = is

if_stuck : (b : Bool) (state : PinState) → (if b then state else Absent) ≡ Stuck → (b ≡ true) × (state ≡ Stuck)
if_stuck true state is = (refl, is)
if_stuck false state is = absurd (absent_free is)

-- an arc of a list, of which the first has this number, makes a net stuck at an edge
pub record IsStuckBy (look : Look) (wire : Wire) (before : ℕ → Edge → PinState) (from : ℕ) (arcs : List FlatArc) (net : ℕ) (edge : Edge) : Type 0 where
  pub arc : ℕ
  pub within : arc < length arcs
  pub to : is_net (arc_at arcs arc).target net ≡ true
  pub has : has_edge (arc_at arcs arc) edge ≡ true
  pub stuck : behind (look (from + arc) edge) (worst wire before (from + arc) (arc_at arcs arc) edge) ≡ Stuck

pub over_stuck : (look : Look) (wire : Wire) (before : ℕ → Edge → PinState) (from : ℕ) (arcs : List FlatArc) (net : ℕ) (edge : Edge)
    → over_arcs look wire before from arcs net edge ≡ Stuck → IsStuckBy look wire before from arcs net edge
over_stuck look wire before from [] net edge is = absurd (absent_free is)
over_stuck look wire before from (this ∷ arcs) net edge is =
    elim (join_stuck (if is_net this.target net then arc_state look wire before from this edge else Absent) (over_arcs look wire before (suc from) arcs net edge) is) [
      | inl here ↦ (
          let ends = if_stuck (is_net this.target net) (arc_state look wire before from this edge) here in
          let has = if_stuck (has_edge this edge) (behind (look from edge) (worst wire before from this edge)) ends.1 in
          let at : from ≡ from + 0 = omega arith in
          record { arc = 0; within = omega arith; to = ends.0; has = has.0; stuck = subst (λ k. behind (look k edge) (worst wire before k this edge) ≡ Stuck) at has.1 })
      | inr later ↦ (
          let found = over_stuck look wire before (suc from) arcs net edge later in
          let at : suc from + found.arc ≡ from + suc found.arc = omega arith in
          record {
            arc = suc found.arc;
            within = (let low = found.within in omega (arith, low));
            to = found.to;
            has = found.has;
            stuck = subst (λ k. behind (look k edge) (worst wire before k (arc_at arcs found.arc) edge) ≡ Stuck) at found.stuck;
          })
    ]
