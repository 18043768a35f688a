-- Walks gone backwards, and cycles that are turned.
use Rattle.std.proofs.Common.{◌≡◌, ℕ, ◌+◌, ◌<◌, ◌≤◌, zero, suc, if◌then◌else◌, not, List, [], ◌∷◌, ◌++◌, length, get_or, set, drop, take, reverse, slice_index, count_by, replicate, Option, None, Some, is_some, sym, refl, ap, ◌∙◌, subst, inl, inr, arith, All, length-append, length-set, get_or-set_same, get_or-set_other}
use Rattle.std.proofs.lemmas.List.Sums.{sum_by-set}
use Rattle.std.proofs.lemmas.List.Elements.{All-append, All-drop, All-take}
use Rattle.graph_order.specs.Fans.{links_to}
use Rattle.graph_order.specs.Progress.{wait_of, AreStuck}
use Rattle.std.proofs.lemmas.Bool.{cases_eq}
use Rattle.std.proofs.lemmas.List.{reverse-append, drop-append-le, take-append-drop, length-reverse, length-drop, get_or-replicate, length-replicate, drop_at, drop_more}
use Rattle.graph_order.specs.Orders.{IsWalk, IsCycle, IsCycleFromLeast}
use Rattle.graph_order.specs.Trails.{LeadsBack, IsBackCycle}

pub walk-append : (sources targets : List ℕ) (a : ℕ) (first : List ℕ) (b : ℕ) (second : List ℕ) (c : ℕ) → IsWalk sources targets a first b → IsWalk sources targets b second c → IsWalk sources targets a (first ++ second) c
walk-append sources targets a [] b second c start rest = subst (λ x. IsWalk sources targets x second c) (sym start) rest
walk-append sources targets a (link ∷ first) b second c start rest = (start.0, start.1, walk-append sources targets (slice_index targets link) first b second c start.2 rest)

-- the node between two parts of a walk
pub walk_parts : (sources targets : List ℕ) (a : ℕ) (first second : List ℕ) (c : ℕ) → IsWalk sources targets a (first ++ second) c → (b : ℕ) × IsWalk sources targets a first b × IsWalk sources targets b second c
walk_parts sources targets a [] second c walks = (a, refl, walks)
walk_parts sources targets a (link ∷ first) second c walks = let rest = walk_parts sources targets (slice_index targets link) first second c walks.2 in (rest.0, (walks.0, walks.1, rest.1), rest.2)

pub back-append : (sources targets : List ℕ) (b : ℕ) (first : List ℕ) (m : ℕ) (second : List ℕ) (a : ℕ) → LeadsBack sources targets b first m → LeadsBack sources targets m second a → LeadsBack sources targets b (first ++ second) a
back-append sources targets b [] m second a start rest = subst (λ x. LeadsBack sources targets x second a) (sym start) rest
back-append sources targets b (link ∷ first) m second a start rest = (start.0, start.1, back-append sources targets (slice_index sources link) first m second a start.2 rest)

-- links that lead back are a walk in the other order
pub walk-reverse : (sources targets : List ℕ) (b : ℕ) (trail : List ℕ) (a : ℕ) → LeadsBack sources targets b trail a → IsWalk sources targets a (reverse trail) b
walk-reverse sources targets b [] a back = sym back
walk-reverse sources targets b (link ∷ trail) a back =
    subst (λ w. IsWalk sources targets a w b) (sym (reverse-append (link ∷ []) trail))
    (walk-append sources targets a (reverse trail) (slice_index sources link) (link ∷ []) b (walk-reverse sources targets (slice_index sources link) trail a back.2) (back.0, refl, back.1))

-- links gone back one by one: each node that was come to leads back by those since
pub record IsTrail (nodes : ℕ) (sources targets : List ℕ) (waits places : List (Option ℕ)) (trail : List ℕ) (link : ℕ) : Type 0 where
  pub places_len : length places ≡ nodes
  pub link_in : link < length sources
  pub source_waits : 0 < wait_of waits (slice_index sources link)
  pub back : (node place : ℕ) → node < nodes → wait_of places node ≡ suc place → (place < length trail) × LeadsBack sources targets node (drop place trail) (slice_index targets link)

pub trail_start : (nodes : ℕ) (sources targets : List ℕ) (waits places : List (Option ℕ)) (link : ℕ) → places ≡ replicate nodes None → link < length sources → 0 < wait_of waits (slice_index sources link) → IsTrail nodes sources targets waits places [] link
trail_start nodes sources targets waits places link is link_in some = record {
  places_len = ap length is ∙ length-replicate nodes None;
  link_in = link_in;
  source_waits = some;
  back = λ node place node_in at. absurd (let none = ap (λ p. wait_of p node) is ∙ ap links_to (get_or-replicate nodes node None None node_in) in omega (arith, none, at));
}

-- a link further back
pub trail_more : (nodes : ℕ) (sources targets : List ℕ) (waits places : List (Option ℕ)) (trail trail' : List ℕ) (link next : ℕ) → slice_index targets link < nodes → slice_index sources link < nodes → length targets ≡ length sources → AreStuck nodes sources targets waits
    → wait_of waits (slice_index sources link) ≡ suc next → trail' ≡ trail ++ link ∷ [] → IsTrail nodes sources targets waits places trail link → IsTrail nodes sources targets waits (set places (slice_index targets link) (Some (length trail))) trail' next
trail_more nodes sources targets waits places trail trail' link next target_in source_in same stuck waited trail_is held =
    let step = stuck (slice_index sources link) next source_in waited in
    let one : LeadsBack sources targets (slice_index targets link) (link ∷ []) (slice_index targets next) = (held.link_in, refl, sym step.1) in
    let size : length (trail ++ link ∷ []) ≡ length trail + 1 = length-append trail (link ∷ []) in
    subst (λ t. IsTrail nodes sources targets waits (set places (slice_index targets link) (Some (length trail))) t next) (sym trail_is) (record {
      places_len = length-set places (slice_index targets link) (Some (length trail)) ∙ held.places_len;
      link_in = let low = step.0 in omega (arith, low, same);
      source_waits = step.2;
      back = λ node place node_in at. elim (cases_eq node (slice_index targets link)) [
        | inl is ↦ (let now : wait_of (set places (slice_index targets link) (Some (length trail))) node ≡ suc (length trail) = ap (wait_of (set places (slice_index targets link) (Some (length trail)))) is ∙
            ap links_to (get_or-set_same places (slice_index targets link) (Some (length trail)) None (let l = held.places_len in omega (arith, l, target_in))) in
            let p : length trail ≡ place = omega (arith, now, at) in (
              omega (arith, p, size),
              subst (λ k. LeadsBack sources targets node (drop k (trail ++ link ∷ [])) (slice_index targets next)) p
                  (subst (λ t. LeadsBack sources targets node t (slice_index targets next)) (sym (drop_at trail (link ∷ []) (length trail) refl))
                  (subst (λ x. LeadsBack sources targets x (link ∷ []) (slice_index targets next)) (sym is) one)),
            ))
        | inr ne ↦ (let old = held.back node place node_in (ap links_to (sym (get_or-set_other places (slice_index targets link) node (Some (length trail)) None ne)) ∙ at) in
            let low = old.0 in (
              omega (arith, low, size),
              subst (λ t. LeadsBack sources targets node t (slice_index targets next)) (sym (drop-append-le place trail (link ∷ []) (omega (arith, low))))
                  (back-append sources targets node (drop place trail) (slice_index targets link) (link ∷ []) (slice_index targets next) old.1 one),
            ))
      ];
    })

-- a node is come to again
pub trail_end : (nodes : ℕ) (sources targets : List ℕ) (waits places : List (Option ℕ)) (trail : List ℕ) (link place : ℕ) → slice_index targets link < nodes → wait_of places (slice_index targets link) ≡ suc place → IsTrail nodes sources targets waits places trail link
    → IsBackCycle sources targets (slice_index targets link) (drop place trail)
trail_end nodes sources targets waits places trail link place target_in at held =
    let back = held.back (slice_index targets link) place target_in at in
    let low = back.0 in let size = length-drop place trail in (omega (arith, low, size), back.1)

-- one place fewer is free
pub fewer_free : (places : List (Option ℕ)) (node place : ℕ) → node < length places → get_or places node None ≡ None → count_by (λ o. not (is_some o)) (set places node (Some place)) < count_by (λ o. not (is_some o)) places
fewer_free places node place node_in free =
    let changed = sum_by-set (λ o. if not (is_some o) then 1 else 0) places node (Some place) None node_in in
    let one_of : Option ℕ → ℕ = λ o. if not (is_some o) then 1 else 0 in
    let was : one_of (get_or places node None) ≡ 1 = ap one_of free in
    omega (arith, changed, was)

-- a cycle that begins at another of its links
pub cycle-turned : (sources targets : List ℕ) (node : ℕ) (cycle : List ℕ) (place : ℕ) → place < length cycle → IsCycle sources targets node cycle → IsCycle sources targets (slice_index sources (slice_index cycle place)) (drop place cycle ++ take place cycle)
cycle-turned sources targets node cycle place below goes =
    let parts = walk_parts sources targets node (take place cycle) (drop place cycle) node (subst (λ w. IsWalk sources targets node w node) (sym (take-append-drop place cycle)) goes.1) in
    let first = subst (λ w. IsWalk sources targets parts.0 w node) (drop_more cycle place 0 below) parts.2 in
    let size = length-append (drop place cycle) (take place cycle) in let dropped = length-drop place cycle in
    subst (λ x. IsCycle sources targets x (drop place cycle ++ take place cycle)) (sym first.1)
    (omega (arith, size, dropped, below), walk-append sources targets parts.0 (drop place cycle) node (take place cycle) parts.0 parts.2 parts.1)

-- a walk has links of the graph alone
pub walk_links : (sources targets : List ℕ) (a : ℕ) (walk : List ℕ) (b k d : ℕ) → IsWalk sources targets a walk b → k < length walk → get_or walk k d < length sources
walk_links sources targets a [] b k d walks below = absurd (omega (arith, below))
walk_links sources targets a (link ∷ walk) b zero d walks below = walks.0
walk_links sources targets a (link ∷ walk) b (suc k) d walks below = walk_links sources targets (slice_index targets link) walk b k d walks.2 (omega (arith, below))

pub back_cycle_walk : (sources targets : List ℕ) (node : ℕ) (trail : List ℕ) → IsBackCycle sources targets node trail → IsCycle sources targets node (reverse trail)
back_cycle_walk sources targets node trail back = let some = back.0 in let size = length-reverse trail in (omega (arith, some, size), walk-reverse sources targets node trail node back.1)

-- the cycle from the link that begins at its least node
pub least_first : (sources targets : List ℕ) (node : ℕ) (trail cycle made : List ℕ) (place : ℕ) → IsBackCycle sources targets node trail → cycle ≡ reverse trail → place < length cycle
    → All (λ link. slice_index sources (slice_index cycle place) ≤ slice_index sources link) cycle → made ≡ drop place cycle ++ take place cycle → IsCycleFromLeast sources targets made
least_first sources targets node trail cycle made place back cycle_is below least made_is =
    let least_of : ℕ → Type 0 = λ link. slice_index sources (slice_index cycle place) ≤ slice_index sources link in
    let goes = subst (IsCycle sources targets node) (sym cycle_is) (back_cycle_walk sources targets node trail back) in
    subst (IsCycleFromLeast sources targets) (sym made_is) (
      slice_index sources (slice_index cycle place),
      cycle-turned sources targets node cycle place below goes,
      All-append least_of (drop place cycle) (take place cycle) (All-drop least_of place cycle least) (All-take least_of place cycle least),
    )
