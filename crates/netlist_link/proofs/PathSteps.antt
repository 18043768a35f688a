-- The paths of visited modules, one after another.
use Rattle.std.proofs.Common.{inl, inr, ◌≡◌, ℕ, ◌+◌, ◌<◌, List, [], ◌∷◌, ◌++◌, length, map, take, get_or, refl, sym, ap, subst, ◌∙◌, arith, append_assoc, add-one}
use Rattle.std.proofs.lemmas.Option.{slice_get-get_or}
use Rattle.std.proofs.lemmas.List.{get_or_past, get_or-map, map-append, get_or-take, length-take-le}
use Rattle.std.proofs.Math.Seq.{take-suc}
use Rattle.std.proofs.lemmas.Bool.{cases_lt}
use Rattle.edge_io.specs.Bytes.{slash}
use Rattle.name_table.specs.SdfNames.{part}
use Rattle.verilog_netlist.specs.NetModules.{NetModule, no_module, instance_at}
use Rattle.hierarchy.specs.Hierarchy.{instance_count, module_on, IsPath, HasLower}
use Rattle.hierarchy.specs.Walks.{visits}
use Rattle.hierarchy.specs.WalkLaws.{visits-are-paths}
use Rattle.hierarchy.specs.WalkTables.{WalkTables, path_at, IsVisit, AreTablesOfWalk}
use Rattle.netlist_link.specs.FlatNames.{path_text, path_sdf}
use Rattle.netlist_link.specs.PathTables.{no_visit, visit_at, around_at, name_at_visit}

module _ (modules : List NetModule) (top : ℕ) (tables : WalkTables) (is : AreTablesOfWalk modules top tables) where
  pub visit_is : (v : ℕ) → v < length tables.visits → IsVisit modules top v (visit_at tables v)
  visit_is v below = is.each_visit v (visit_at tables v) (slice_get-get_or tables.visits v no_visit below)

  pub visit_path : (v : ℕ) → v < length tables.visits → IsPath modules top (path_at modules top v)
  visit_path v below = let count = is.visits_count in visits-are-paths modules top v [] (omega arith)

  -- the parent is visited before
  pub parent_before : (v : ℕ) → 0 < v → v < length tables.visits → (visit_at tables v).parent < v
  parent_before v some below = ((visit_is v below).around some).0

  pub path_is : (v : ℕ) → 0 < v → v < length tables.visits
      → path_at modules top v ≡ (visit_at tables v).instance ∷ path_at modules top (visit_at tables v).parent
  path_is v some below = ((visit_is v below).around some).1

  pub around_is : (v : ℕ) → 0 < v → v < length tables.visits → (around_at tables v).«module» ≡ module_on modules top (path_at modules top (visit_at tables v).parent)
  around_is v some below = let before = parent_before v some below in (visit_is (visit_at tables v).parent (omega arith)).here

  -- the instance of a visited module stands in the module around it
  pub lower_here : (v : ℕ) → 0 < v → v < length tables.visits
      → HasLower modules top (around_at tables v).«module» (visit_at tables v).instance
  lower_here v some below =
      subst (λ (m : ℕ). HasLower modules top m (visit_at tables v).instance) (sym (around_is v some below))
      (subst (IsPath modules top) (path_is v some below) (visit_path v below)).1

  module _ (of : List ℕ → List ℕ) (spelled : List ℕ → List ℕ) (none : of [] ≡ [])
      (step : (k : ℕ) (outer : List ℕ) → of (k ∷ outer) ≡ of outer ++ (spelled (instance_at modules (module_on modules top outer) k).name ++ slash ∷ [])) where
    -- the text of the path of one visit more
    pub path_step : (v : ℕ) (texts : List (List ℕ)) → 0 < v → v < length tables.visits → texts ≡ map of (take v (visits modules top))
        → texts ++ (get_or texts (visit_at tables v).parent [] ++ (spelled (name_at_visit modules tables v) ++ slash ∷ [])) ∷ []
        ≡ map of (take (v + 1) (visits modules top))
    path_step v texts some below so_far =
        let count = is.visits_count in
        let before = parent_before v some below in
        let all = visits modules top in
        let parent = (visit_at tables v).parent in
        let path = path_at modules top v in
        let at_parent : get_or texts parent [] ≡ of (path_at modules top parent) =
        ap (λ (l : List (List ℕ)). get_or l parent []) so_far
        ∙ get_or-map of (take v all) parent [] [] (let len = length-take-le v all (omega arith) in omega arith)
        ∙ ap of (get_or-take v all parent [] before) in
        let named : of path ≡ get_or texts parent [] ++ (spelled (name_at_visit modules tables v) ++ slash ∷ []) =
        ap of (path_is v some below) ∙ step (visit_at tables v).instance (path_at modules top parent)
        ∙ ap (λ (m : ℕ). of (path_at modules top parent) ++ (spelled (instance_at modules m (visit_at tables v).instance).name ++ slash ∷ []))
        (sym (around_is v some below))
        ∙ ap (λ (l : List ℕ). l ++ (spelled (name_at_visit modules tables v) ++ slash ∷ [])) (sym at_parent) in
        let taken : take (v + 1) all ≡ take v all ++ path ∷ [] =
        ap (λ (n : ℕ). take n all) (add-one v) ∙ take-suc all v [] (omega arith) in
        ap (λ (l : List (List ℕ)). l ++ (get_or texts parent [] ++ (spelled (name_at_visit modules tables v) ++ slash ∷ [])) ∷ []) so_far
        ∙ ap (λ (l : List ℕ). map of (take v all) ++ l ∷ []) (sym named)
        ∙ sym (ap (map of) taken ∙ map-append of (take v all) (path ∷ []))

module _ (modules : List NetModule) where
  -- a module that has an instance is a module of the file
  pub module_within : (m k : ℕ) → k < instance_count modules m → m < length modules
  module_within m k below = elim (cases_lt m (length modules)) [
    | inl less ↦ less
    | inr past ↦ (let none : instance_count modules m ≡ 0 = ap (λ (found : NetModule). length found.instances) (get_or_past modules m no_module past) in absurd (omega (arith, none, below)))
  ]

module _ (modules : List NetModule) (top : ℕ) where
  pub path_text_step : (k : ℕ) (outer : List ℕ) → path_text modules top (k ∷ outer)
      ≡ path_text modules top outer ++ ((instance_at modules (module_on modules top outer) k).name ++ slash ∷ [])
  unfolding path_text
  path_text_step k outer = append_assoc (path_text modules top outer) (instance_at modules (module_on modules top outer) k).name (slash ∷ [])

  pub path_sdf_step : (k : ℕ) (outer : List ℕ) → path_sdf modules top (k ∷ outer)
      ≡ path_sdf modules top outer ++ (part (instance_at modules (module_on modules top outer) k).name ++ slash ∷ [])
  unfolding path_sdf
  path_sdf_step k outer = append_assoc (path_sdf modules top outer) (part (instance_at modules (module_on modules top outer) k).name) (slash ∷ [])

  pub path_text_none : path_text modules top [] ≡ []
  unfolding path_text
  path_text_none = refl

  pub path_sdf_none : path_sdf modules top [] ≡ []
  unfolding path_sdf
  path_sdf_none = refl
