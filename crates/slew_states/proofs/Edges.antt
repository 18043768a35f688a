-- The pairs of arcs and edges.
use Rattle.std.proofs.Common.{◌≡◌, ℕ, ◌+◌, ◌<◌, ◌≤◌, true, List, [], ◌∷◌, ◌++◌, length, take, drop, Option, None, Some, is_some, refl, sym, ap, ◌∙◌, arith}
use Rattle.std.proofs.lemmas.Bool.{false≢true}
use Rattle.std.proofs.lemmas.List.{take_more, take-append-drop}
use Rattle.slew_states.specs.declared.arcs.FlatArc.{FlatArc}
use Rattle.slew_states.specs.Arcs.{no_arc, arc_at}
use Rattle.slew_states.specs.Settled.{edges_of, arc_edges}

edges-append : (xs ys : List FlatArc) → arc_edges (xs ++ ys) ≡ arc_edges xs + arc_edges ys
edges-append [] ys = omega arith
edges-append (x ∷ xs) ys = let rest = edges-append xs ys in omega (arith, rest)

pub edges_more : (arcs : List FlatArc) (many : ℕ) → many < length arcs → arc_edges (take (many + 1) arcs) ≡ arc_edges (take many arcs) + edges_of (arc_at arcs many)
edges_more arcs many below = let one = ap arc_edges (take_more arcs many no_arc below) ∙ edges-append (take many arcs) (arc_at arcs many ∷ []) in omega (arith, one)

pub edges_part : (arcs : List FlatArc) (many : ℕ) → arc_edges (take many arcs) ≤ arc_edges arcs
edges_part arcs many = let parts = ap arc_edges (sym (take-append-drop many arcs)) ∙ edges-append (take many arcs) (drop many arcs) in omega (arith, parts)

pub some_net : (net : Option ℕ) → is_some net ≡ true → (m : ℕ) × (net ≡ Some m)
some_net None is = absurd (false≢true is)
some_net (Some m) is = (m, refl)
