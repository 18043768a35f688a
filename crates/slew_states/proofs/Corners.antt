-- The states of two corners agree.
use Rattle.std.proofs.Common.{ℕ, zero, suc, Bool, true, false, if◌then◌else◌, List, [], ◌∷◌, map, Option, None, Some}
use Rattle.cell_models.specs.declared.edge.Edge.{Edge}
use Rattle.slew_states.specs.declared.arcs.FlatArc.{FlatArc}
use Rattle.slew_states.specs.declared.arcs.Driver.{Driver}
use Rattle.slew_states.specs.declared.arcs.Driver.TheVariants.{Nothing, Port, Pin}
use Rattle.slew_states.specs.declared.states.PinState.{PinState}
use Rattle.slew_states.specs.declared.states.PinState.TheVariants.{Absent, Known, Stuck}
use Rattle.slew_states.specs.Arcs.{driver_at, has_edge, is_net}
use Rattle.slew_states.specs.InputEdges.{input_edges}
use Rattle.slew_states.specs.PinState.{Look, Wire, join, joined, known_or_stuck, behind, pin_state, worst, arc_state, over_arcs, by_driver, state}
use Rattle.slew_states.specs.Laws.{Agree, CornersAgree}

agree_stuck : (a : PinState) → Agree a Stuck
agree_stuck Absent = tt
agree_stuck (Known s) = tt
agree_stuck Stuck = tt

agree_join : (a b c d : PinState) → Agree a b → Agree c d → Agree (join a c) (join b d)
agree_join Absent Absent c d first second = second
agree_join Absent (Known t) c d first second = absurd first
agree_join Absent Stuck c d first second = agree_stuck c
agree_join (Known s) Absent c d first second = absurd first
agree_join (Known s) (Known t) Absent Absent first second = tt
agree_join (Known s) (Known t) Absent (Known v) first second = absurd second
agree_join (Known s) (Known t) Absent Stuck first second = tt
agree_join (Known s) (Known t) (Known u) Absent first second = absurd second
agree_join (Known s) (Known t) (Known u) (Known v) first second = tt
agree_join (Known s) (Known t) (Known u) Stuck first second = tt
agree_join (Known s) (Known t) Stuck d first second = tt
agree_join (Known s) Stuck c d first second = agree_stuck (join (Known s) c)
agree_join Stuck b c d first second = tt

agree_known : (a b : Option ℕ) → Agree (known_or_stuck a) (known_or_stuck b)
agree_known None b = tt
agree_known (Some s) None = tt
agree_known (Some s) (Some t) = tt

agree_behind : (f g : ℕ → Option ℕ) (a b : PinState) → Agree a b → Agree (behind f a) (behind g b)
agree_behind f g Absent Absent first = tt
agree_behind f g Absent (Known t) first = absurd first
agree_behind f g Absent Stuck first = tt
agree_behind f g (Known s) Absent first = absurd first
agree_behind f g (Known s) (Known t) first = agree_known (f s) (g t)
agree_behind f g (Known s) Stuck first = agree_stuck (known_or_stuck (f s))
agree_behind f g Stuck b first = tt

agree_pin : (wire wire' : Wire) (f g : ℕ → Edge → PinState) → ((net : ℕ) (edge : Edge) → Agree (f net edge) (g net edge)) → (arc : ℕ) (source : Option ℕ) (edge : Edge) → Agree (pin_state wire f arc source edge) (pin_state wire' g arc source edge)
agree_pin wire wire' f g agree arc None edge = tt
agree_pin wire wire' f g agree arc (Some net) edge = agree_behind (wire arc) (wire' arc) (f net edge) (g net edge) (agree net edge)

agree_joined : (f g : Edge → PinState) → ((edge : Edge) → Agree (f edge) (g edge)) → (edges : List Edge) → Agree (joined (map f edges)) (joined (map g edges))
agree_joined f g agree [] = tt
agree_joined f g agree (edge ∷ edges) = agree_join (f edge) (g edge) (joined (map f edges)) (joined (map g edges)) (agree edge) (agree_joined f g agree edges)

agree_if : (b : Bool) (a c : PinState) → Agree a c → Agree (if b then a else Absent) (if b then c else Absent)
agree_if true a c first = first
agree_if false a c first = tt

agree_arc : (look : Look) (wire : Wire) (look' : Look) (wire' : Wire) (f g : ℕ → Edge → PinState) → ((net : ℕ) (edge : Edge) → Agree (f net edge) (g net edge)) → (arc : ℕ) (this : FlatArc) (edge : Edge)
    → Agree (arc_state look wire f arc this edge) (arc_state look' wire' g arc this edge)
agree_arc look wire look' wire' f g agree arc this edge = agree_if (has_edge this edge) (behind (look arc edge) (worst wire f arc this edge)) (behind (look' arc edge) (worst wire' g arc this edge))
    (agree_behind (look arc edge) (look' arc edge) (worst wire f arc this edge) (worst wire' g arc this edge)
    (agree_joined (pin_state wire f arc this.source) (pin_state wire' g arc this.source) (agree_pin wire wire' f g agree arc this.source) (input_edges this.kind edge)))

agree_over : (look : Look) (wire : Wire) (look' : Look) (wire' : Wire) (f g : ℕ → Edge → PinState) → ((net : ℕ) (edge : Edge) → Agree (f net edge) (g net edge)) → (arc : ℕ) (arcs : List FlatArc) (net : ℕ) (edge : Edge)
    → Agree (over_arcs look wire f arc arcs net edge) (over_arcs look' wire' g arc arcs net edge)
agree_over look wire look' wire' f g agree arc [] net edge = tt
agree_over look wire look' wire' f g agree arc (this ∷ arcs) net edge =
    agree_join (if is_net this.target net then arc_state look wire f arc this edge else Absent) (if is_net this.target net then arc_state look' wire' g arc this edge else Absent)
    (over_arcs look wire f (suc arc) arcs net edge) (over_arcs look' wire' g (suc arc) arcs net edge)
    (agree_if (is_net this.target net) (arc_state look wire f arc this edge) (arc_state look' wire' g arc this edge) (agree_arc look wire look' wire' f g agree arc this edge))
    (agree_over look wire look' wire' f g agree (suc arc) arcs net edge)

agree_driver : (driver : Driver) (slew : ℕ) (a b : PinState) → Agree a b → Agree (by_driver driver slew a) (by_driver driver slew b)
agree_driver Nothing slew a b first = tt
agree_driver Port slew a b first = tt
agree_driver Pin slew a b first = first

pub corners_agree : (look : Look) (wire : Wire) (look' : Look) (wire' : Wire) (arcs : List FlatArc) (drivers : List Driver) (slew : ℕ) → CornersAgree look wire look' wire' arcs drivers slew
unfolding state
corners_agree look wire look' wire' arcs drivers slew zero net edge = agree_driver (driver_at drivers net) slew Stuck Stuck tt
corners_agree look wire look' wire' arcs drivers slew (suc depth) net edge =
    agree_driver (driver_at drivers net) slew (over_arcs look wire (state look wire arcs drivers slew depth) 0 arcs net edge) (over_arcs look' wire' (state look' wire' arcs drivers slew depth) 0 arcs net edge)
    (agree_over look wire look' wire' (state look wire arcs drivers slew depth) (state look' wire' arcs drivers slew depth) (corners_agree look wire look' wire' arcs drivers slew depth) 0 arcs net edge)
