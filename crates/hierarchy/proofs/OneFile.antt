-- A file of one module: the walk through it meets the instances of this module, which are all of cells.
use Rattle.std.proofs.Common.{◌≡◌, ℕ, zero, suc, ◌+◌, ◌<◌, ◌≤◌, ◌^◌, Bool, true, false, if◌then◌else◌, List, [], ◌∷◌, ◌++◌, length, get_or, refl, sym, ap, ◌∙◌, arith}
use Rattle.std.specs.List.{Contains}
use Rattle.std.specs.Str.{bytes_eq}
use Rattle.std.proofs.lemmas.Bool.{ltb-true}
use Rattle.indexmap.specs.IndexSet.{insert_key}
use Rattle.verilog_netlist.specs.NetModules.{NetModule, instance_at}
use Rattle.hierarchy.specs.Hierarchy.{lower_of, is_hierarchy, instance_count}
use Rattle.hierarchy.specs.Uses.{IsWalkable, cells_used}
use Rattle.hierarchy.specs.WalkTables.{no_met}
use Rattle.hierarchy.specs.Walks.{Met, joined_from, met_at, walk, whole_walk}
use Rattle.hierarchy.proofs.Meeting.{cells_by, cells_few, cells_all, cells_more, interned}
use Rattle.hierarchy.proofs.Numbered.{numbered_count, numbered_at}

module _ (modules : List NetModule) (one : length modules ≡ 1) (top : ℕ) (within : top < length modules) (walkable : IsWalkable modules top) where
  abbrev many : ℕ
  many = instance_count modules top

  abbrev own_met : ℕ → Met
  own_met k = record { path = []; instance = k }

  -- an instance of the module itself would make it contain itself
  none_below : (k : ℕ) → k < many → is_hierarchy modules top k ≡ false
  none_below k here = by (is_hierarchy modules top k) refl
    where
      by : (b : Bool) → is_hierarchy modules top k ≡ b → b ≡ false
      by false is = refl
      by true is =
          let below = ltb-true (lower_of modules top k) (length modules) is in
          absurd (walkable.finite top (record {
            outer = [];
            inner = k ∷ [];
            some = omega arith;
            path = (tt, (here, below));
            first = refl;
            again = omega (arith, below, one, within);
          }))

  -- nothing is met below the instances
  own_from : (below : List ℕ → ℕ → List Met) (from n : ℕ) → from + n ≡ many
      → joined_from (met_at modules below [] top) from n ≡ joined_from (λ k. own_met k ∷ []) from n
  own_from below from zero all = refl
  own_from below from (suc n) all =
      let rest = joined_from (met_at modules below [] top) (suc from) n in
      ap (λ (b : Bool). own_met from ∷ ((if b then below (from ∷ []) (lower_of modules top from) else []) ++ rest)) (none_below from (omega (arith, all)))
      ∙ ap (λ (mets : List Met). own_met from ∷ mets) (own_from below (suc from) n (omega (arith, all)))

  own_walk : (levels : ℕ) → walk modules (suc levels) [] top ≡ joined_from (λ k. own_met k ∷ []) 0 many
  unfolding walk
  own_walk levels = own_from (walk modules levels) 0 many (omega arith)

  walk_is : whole_walk modules top ≡ joined_from (λ k. own_met k ∷ []) 0 many
  walk_is = own_walk 63

  walk_count : length (whole_walk modules top) ≡ many
  walk_count = ap length walk_is ∙ numbered_count own_met 0 many

  -- there is room for the names of the cells
  pub own_few : (k : ℕ) (names : List (List ℕ)) → k < many → names ≡ cells_by modules top k → length names < 2 ^ 30
  own_few k names here are = omega (arith, cells_few modules top k, ap length are, here, walk_count, walkable.instances)

  -- the cells after an instance
  pub own_more : (k : ℕ) (names after : List (List ℕ)) → k < many → names ≡ cells_by modules top k
      → (Contains names (instance_at modules top k).cell → after ≡ names)
      → (¬ Contains names (instance_at modules top k).cell → after ≡ names ++ (instance_at modules top k).cell ∷ [])
      → after ≡ cells_by modules top (k + 1)
  own_more k names after here before kept added =
      let at : get_or (whole_walk modules top) k no_met ≡ own_met k =
      ap (λ (mets : List Met). get_or mets k no_met) walk_is ∙ numbered_at own_met many k no_met here in
      interned names after (instance_at modules top k).cell kept added
      ∙ ap (λ ns. insert_key bytes_eq ns (instance_at modules top k).cell) before
      ∙ sym (cells_more modules top k (own_met k) no_met (omega (arith, here, walk_count)) at (none_below k here))

  -- the cells of all instances
  pub own_all : (k : ℕ) (names : List (List ℕ)) → many ≤ k → names ≡ cells_by modules top k → names ≡ cells_used modules top
  own_all k names all are = are ∙ cells_all modules top k (omega (arith, all, walk_count))
