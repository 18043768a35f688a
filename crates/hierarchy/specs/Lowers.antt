-- The modules of which each module has instances, and walks along them.
use Rattle.std.specs.Prelude.{◌≡◌, ℕ, ◌<◌, List, [], ◌∷◌, length, get_or, if◌then◌else◌, ⊤}
use Rattle.verilog_netlist.specs.NetModules.{NetModule}
use Rattle.hierarchy.specs.Hierarchy.{lower_of, is_hierarchy, instance_count}
use Rattle.hierarchy.specs.Walks.{joined_from}

module _ (modules : List NetModule) where
  -- the module of an instance, where it is of one
  abbrev pub lower_item : ℕ → ℕ → List ℕ
  lower_item m k = if is_hierarchy modules m k then lower_of modules m k ∷ [] else []

  -- the modules of the instances of a module, one for each that is of a module
  abbrev pub lowers_of : ℕ → List ℕ
  lowers_of m = joined_from (lower_item m) 0 (instance_count modules m)

  -- those of each module
  pub record AreLowers (lowers : List (List ℕ)) : Type 0 where
    pub size : length lowers ≡ length modules
    pub each : (m : ℕ) → m < length modules → get_or lowers m [] ≡ lowers_of m

module _ (lowers : List (List ℕ)) where
  abbrev pub lowers_at : ℕ → List ℕ
  lowers_at m = get_or lowers m []

  abbrev pub lower_at : ℕ → ℕ → ℕ
  lower_at m j = get_or (lowers_at m) j 0

  -- each of them is a module
  pub record AreBelow : Type 0 where
    pub below : (m j : ℕ) → m < length lowers → j < length (lowers_at m) → lower_at m j < length lowers

  -- a trail names lower modules by their places, from the last back to the first; the module at its end:
  abbrev pub end_of : ℕ → List ℕ → ℕ
  end_of m [] = m
  end_of m (j ∷ before) = lower_at (end_of m before) j

  abbrev pub IsTrail : ℕ → List ℕ → Type 0
  IsTrail m [] = ⊤
  IsTrail m (j ∷ before) = IsTrail m before × (j < length (lowers_at (end_of m before)))

  -- a trail leads from one module to another
  pub record Leads (from to : ℕ) : Type 0 where
    pub trail : List ℕ
    pub is_trail : IsTrail from trail
    pub ends : end_of from trail ≡ to

  -- a trail leads from a module back to it
  pub record IsRound (m : ℕ) : Type 0 where
    pub trail : List ℕ
    pub some : 0 < length trail
    pub is_trail : IsTrail m trail
    pub ends : end_of m trail ≡ m
