-- The depths of modules, and what follows of paths.
use Rattle.std.proofs.Common.{◌≡◌, ℕ, zero, suc, ◌+◌, ◌<◌, ◌≤◌, ⊎_elim, List, [], ◌∷◌, ◌++◌, length, sym, ap, ◌∙◌, subst, arith, length-append}
use Rattle.std.proofs.lemmas.List.{get_or-map, length-map}
use Rattle.verilog_netlist.specs.NetModules.{NetModule}
use Rattle.hierarchy.specs.Hierarchy.{module_on}
use Rattle.hierarchy.specs.Walks.{most_depth}
use Rattle.hierarchy.specs.Uses.{ContainsItself, IsTooDeep}
use Rattle.hierarchy.specs.Lowers.{AreLowers, lowers_at, lower_at, end_of, IsTrail, IsRound}
use Rattle.hierarchy.specs.Orders.{StandsBefore, IsLowerFirst}
use Rattle.hierarchy.specs.Passes.{value_at, below_of, IsPassed, IsDepth}
use Rattle.hierarchy.proofs.Searching.{stands_later}
use Rattle.hierarchy.proofs.Trails.{trail-append}
use Rattle.hierarchy.proofs.Paths.{path_of, trail_of, on-append, path-inner, path-outer, on-within}

module _ (lowers : List (List ℕ)) (order depths : List ℕ) (sorted : IsLowerFirst lowers order)
    (passed : IsPassed lowers order IsDepth depths (length order)) where
  -- the module stands in the order
  abbrev pub Stands : ℕ → Type 0
  Stands m = StandsBefore order (length order) m

  depth_is : (m : ℕ) → Stands m → IsDepth m (below_of lowers depths m) (value_at depths m)
  depth_is m h = subst (λ x. IsDepth x (below_of lowers depths x) (value_at depths x)) h.is (passed.each h.at h.before)

  pub lower_stands : (m j : ℕ) → Stands m → j < length (lowers_at lowers m) → Stands (lower_at lowers m j)
  lower_stands m j h lt =
      let below = sorted.below h.at j h.before (subst (λ x. j < length (lowers_at lowers x)) (sym h.is) lt) in
      stands_later order h.at (length order) (lower_at lowers m j) (omega (arith, h.before))
      (subst (λ x. StandsBefore order h.at (lower_at lowers x j)) h.is below)

  pub depth_falls : (m j : ℕ) → Stands m → j < length (lowers_at lowers m) → value_at depths (lower_at lowers m j) < value_at depths m
  depth_falls m j h lt =
      let d = depth_is m h in
      let row = lowers_at lowers m in
      let at = get_or-map (value_at depths) row j 0 0 lt in
      let few : j < length (below_of lowers depths m) = omega (arith, length-map row (value_at depths)) in
      omega (arith, d.is_most.above j few, d.is)

  pub depth_some : (m : ℕ) → Stands m → 0 < value_at depths m
  depth_some m h = let d = depth_is m h in omega (arith, d.is)

  -- depths fall along a trail
  pub depth_along : (m : ℕ) (trail : List ℕ) → Stands m → IsTrail lowers m trail
      → Stands (end_of lowers m trail) × (value_at depths (end_of lowers m trail) + length trail ≤ value_at depths m)
  depth_along m [] h t = (h, omega arith)
  depth_along m (j ∷ before) h t =
      let outer = depth_along m before h t.0 in
      (lower_stands (end_of lowers m before) j outer.0 t.1, omega (arith, outer.1, depth_falls (end_of lowers m before) j outer.0 t.1))

  pub no_round : (m : ℕ) → Stands m → IsRound lowers m → ⊥
  no_round m h round =
      let along = depth_along m round.trail h round.is_trail in
      let same = ap (value_at depths) round.ends in
      omega (arith, along.1, round.some)

  -- a trail as long as the depth
  pub record IsDeepest (m : ℕ) : Type 0 where
    pub trail : List ℕ
    pub is_trail : IsTrail lowers m trail
    pub len : suc (length trail) ≡ value_at depths m

  pub deepest : (n m : ℕ) → Stands m → value_at depths m ≤ n → IsDeepest m
  deepest zero m h le = absurd (omega (arith, depth_some m h))
  deepest (suc n) m h le =
      let d = depth_is m h in
      let row = lowers_at lowers m in
      ⊎_elim (λ none. record { trail = []; is_trail = tt; len = omega (arith, d.is) })
      (λ found.
      let lt : found.0 < length row = omega (arith, length-map row (value_at depths), found.1) in
      let at = get_or-map (value_at depths) row found.0 0 0 lt in
      let x = lower_at lowers m found.0 in
      let below = deepest n x (lower_stands m found.0 h lt) (omega (arith, depth_falls m found.0 h lt)) in
      record {
        trail = below.trail ++ found.0 ∷ [];
        is_trail = trail-append lowers m below.trail (found.0 ∷ []) (tt, lt) below.is_trail;
        len = omega (arith, length-append below.trail (found.0 ∷ []), below.len, found.2, d.is);
      })
      d.is_most.some

  module _ (modules : List NetModule) (are : AreLowers modules lowers) (top : ℕ) (within : top < length modules) (has_top : Stands top) where
    pub finite : (m : ℕ) → ContainsItself modules top m → ⊥
    finite m h =
        let outer = trail_of modules lowers are top h.outer within (path-outer modules top h.inner h.outer h.path) in
        let at : end_of lowers top outer.trail ≡ m = outer.ends ∙ h.first in
        let stands : Stands m = subst Stands at (depth_along top outer.trail has_top outer.is_trail).0 in
        let inner_path = path-inner modules top h.inner h.outer h.path in
        let start = module_on modules top h.outer in
        let start_within = on-within modules top h.outer within (path-outer modules top h.inner h.outer h.path) in
        let inner = trail_of modules lowers are start h.inner start_within inner_path in
        let again : end_of lowers start inner.trail ≡ m = inner.ends ∙ sym (on-append modules top h.inner h.outer) ∙ h.again in
        no_round m stands (record {
          trail = inner.trail;
          some = omega (arith, inner.len, h.some);
          is_trail = subst (λ x. IsTrail lowers x inner.trail) h.first inner.is_trail;
          ends = ap (λ x. end_of lowers x inner.trail) (sym h.first) ∙ again;
        })

    pub shallow : value_at depths top ≤ most_depth → IsTooDeep modules top → ⊥
    shallow le h =
        let trail = trail_of modules lowers are top h.path within h.is_path in
        let along = depth_along top trail.trail has_top trail.is_trail in
        omega (arith, along.1, depth_some (end_of lowers top trail.trail) along.0, trail.len, h.deep)

    pub deep : most_depth < value_at depths top → IsTooDeep modules top
    deep lt =
        let d = deepest (value_at depths top) top has_top (omega arith) in
        let path = path_of modules lowers are top d.trail within d.is_trail in
        record { path = path.path; is_path = path.is_path; deep = omega (arith, path.len, d.len) }
