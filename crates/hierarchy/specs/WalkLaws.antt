-- Laws of walks: what is met stands in modules that are visited, and what is visited is at the end of a path.
use Rattle.std.proofs.Common.{length, ◌≡◌, ℕ, zero, suc, ◌+◌, ◌<◌, ◌≤◌, Bool, true, false, if◌then◌else◌, List, [], ◌∷◌, Option, Some, None, refl, arith}
use Rattle.std.specs.Prelude.{All}
use Rattle.std.specs.List.{filter_map}
use Rattle.std.proofs.lemmas.Bool.{ltb-true}
use Rattle.std.proofs.lemmas.List.Elements.{All-nil, All-cons, All-append, All-head, All-tail}
use Rattle.verilog_netlist.specs.NetModules.{NetModule}
use Rattle.hierarchy.specs.Hierarchy.{lower_of, is_hierarchy, instance_count, module_on, IsPath, HasLower}
use Rattle.hierarchy.specs.Walks.{Met, joined_from, met_at, walk, whole_walk, most_depth, is_module, entered, visits}

pub joined-all : {X : Type 0} (P : X → Type 0) (lists : ℕ → List X) (from count : ℕ)
    → ((k : ℕ) → from ≤ k → k < from + count → All P (lists k)) → All P (joined_from lists from count)
joined-all P lists from zero each = All-nil P
joined-all P lists from (suc count) each =
    All-append P (lists from) (joined_from lists (suc from) count) (each from (omega arith) (omega arith))
    (joined-all P lists (suc from) count (λ k low high. each k (omega arith) (omega arith)))

module _ (modules : List NetModule) (top : ℕ) where
  -- an instance that is met stands in a module at the end of a path
  pub record StandsIn (met : Met) : Type 0 where
    pub path : IsPath modules top met.path
    pub within : met.instance < instance_count modules (module_on modules top met.path)

  walk-stands : (levels : ℕ) (path : List ℕ) → IsPath modules top path
      → All StandsIn (walk modules levels path (module_on modules top path))
  unfolding walk
  walk-stands zero path is_path = All-nil StandsIn
  walk-stands (suc levels) path is_path =
      joined-all StandsIn (met_at modules (walk modules levels) path (module_on modules top path)) 0
      (instance_count modules (module_on modules top path))
      (λ k low high. met k (omega arith) (λ lower. walk-stands levels (k ∷ path) (is_path, lower)))
    where
      met : (k : ℕ) → k < instance_count modules (module_on modules top path)
          → (HasLower modules top (module_on modules top path) k
          → All StandsIn (walk modules levels (k ∷ path) (module_on modules top (k ∷ path))))
          → All StandsIn (met_at modules (walk modules levels) path (module_on modules top path) k)
      met k within below = All-cons StandsIn (record { path = path; instance = k })
          (behind (is_hierarchy modules (module_on modules top path) k))
          (record { path = is_path; within = within }) (by (is_hierarchy modules (module_on modules top path) k) refl)
        where
          behind : Bool → List Met
          behind is = if is then walk modules levels (k ∷ path) (lower_of modules (module_on modules top path) k) else []

          by : (is : Bool) → is_hierarchy modules (module_on modules top path) k ≡ is → All StandsIn (behind is)
          by true is = below (within, ltb-true (lower_of modules (module_on modules top path) k) (length modules) is)
          by false is = All-nil StandsIn

  -- all that a walk meets stands in visited modules
  pub met-stand : All StandsIn (whole_walk modules top)
  met-stand = walk-stands most_depth [] tt

  entered-all : (mets : List Met) → All StandsIn mets → All (IsPath modules top) (filter_map (entered modules top) mets)
  entered-all [] all = All-nil (IsPath modules top)
  entered-all (met ∷ mets) all =
      by (is_module modules top met) refl (All-head StandsIn met mets all) (entered-all mets (All-tail StandsIn met mets all))
    where
      into : Bool → Option (List ℕ)
      into is = if is then Some (met.instance ∷ met.path) else None

      by : (is : Bool) → is_module modules top met ≡ is → StandsIn met → All (IsPath modules top) (filter_map (entered modules top) mets)
          → All (IsPath modules top) (filter_map (entered modules top) (met ∷ mets))
      by true is stands rest = rw is (All-cons (IsPath modules top) (met.instance ∷ met.path) (filter_map (entered modules top) mets) (
        stands.path,
        (
          stands.within,
          ltb-true (lower_of modules (module_on modules top met.path) met.instance) (length modules) is,
        ),
      ) rest)
      by false is stands rest = rw is rest

  -- each visited module is at the end of a path
  pub visits-are-paths : All (IsPath modules top) (visits modules top)
  visits-are-paths = All-cons (IsPath modules top) [] (filter_map (entered modules top) (whole_walk modules top)) tt
      (entered-all (whole_walk modules top) met-stand)
