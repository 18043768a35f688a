-- Each cell that the walk meets is among those that the design uses.
use Rattle.std.proofs.Common.{◌≡◌, ℕ, zero, suc, ◌<◌, Bool, true, false, not, if◌then◌else◌, List, [], ◌∷◌, ◌++◌, length, map, get_or, refl, sym, ap, ◌∙◌, subst, arith}
use Rattle.std.specs.Prelude.{All, Contains, filter}
use Rattle.std.specs.List.{list_any}
use Rattle.std.specs.Str.{bytes_eq}
use Rattle.std.proofs.lemmas.Bool.{false≢true}
use Rattle.std.proofs.lemmas.List.{length_push, get_or_append_left}
use Rattle.std.proofs.lemmas.List.Elements.{All-nil, All-cons, All-head, All-tail, All-contains, Contains-push}
use Rattle.std.proofs.lemmas.List.Folds.{Any-from_list_any}
use Rattle.std.proofs.lemmas.Slice.Eq.{bytes_eq-Decides}
use Rattle.indexmap.specs.IndexSet.{insert_key, insert_all}
use Rattle.cell_models.specs.NamedSets.{NamedCells, set_names}
use Rattle.verilog_netlist.specs.NetModules.{NetModule}
use Rattle.hierarchy.specs.Walks.{Met, whole_walk, is_module, met_instance, cells_met}
use Rattle.hierarchy.specs.WalkTables.{no_met}
use Rattle.hierarchy.specs.Uses.{cells_used}

module _ (P : List ℕ → Type 0) where
  -- what holds of all names after one more is inserted holds of those before
  front : (names : List (List ℕ)) (name : List ℕ) → All P (insert_key bytes_eq names name) → All P names
  front names name = by (list_any (bytes_eq name) names)
    where
      by : (is : Bool) → All P (if is then names else names ++ name ∷ []) → All P names
      by true all = all
      by false all = λ k d below. subst P (get_or_append_left names (name ∷ []) d k below)
          (all k d (omega (arith, below, length_push names name)))

  -- and of the one that is inserted
  last : (names : List (List ℕ)) (name : List ℕ) → All P (insert_key bytes_eq names name) → P name
  last names name = by (list_any (bytes_eq name) names) refl
    where
      by : (is : Bool) → list_any (bytes_eq name) names ≡ is → All P (if is then names else names ++ name ∷ []) → P name
      by true found all = at (Any-from_list_any (bytes_eq name) names found)
        where
          at : (k : ℕ) × (other : List ℕ) × (k < length names) × (get_or names k other ≡ other) × (bytes_eq name other ≡ true) → P name
          at (k, other, below, here, same) = subst P (here ∙ sym ((bytes_eq-Decides name other).0 same)) (all k other below)
      by false found all = All-contains P (names ++ name ∷ []) name all (Contains-push names name)

  -- what holds of all names that are left holds of all that were inserted
  kept : (names more : List (List ℕ)) → All P (insert_all bytes_eq names more) → All P names
  kept names [] all = all
  kept names (name ∷ more) all = front names name (kept (insert_key bytes_eq names name) more all)

  inserted : (names more : List (List ℕ)) → All P (insert_all bytes_eq names more) → All P more
  inserted names [] all = All-nil P
  inserted names (name ∷ more) all = All-cons P name more (last names name (kept (insert_key bytes_eq names name) more all))
      (inserted (insert_key bytes_eq names name) more all)

-- what holds of all that a filter keeps holds of each that passes
module _ (P : List ℕ → Type 0) (name : Met → List ℕ) (test : Met → Bool) where
  abbrev Passing : List Met → Type 0
  Passing mets = (i : ℕ) → i < length mets → test (get_or mets i no_met) ≡ true → P (name (get_or mets i no_met))

  passing_step : (met : Met) (mets : List Met) (is : Bool) → test met ≡ is
      → All P (map name (if is then met ∷ filter test mets else filter test mets)) → (All P (map name (filter test mets)) → Passing mets)
      → Passing (met ∷ mets)
  passing_step met mets true is all rest zero below passes = All-head P (name met) (map name (filter test mets)) all
  passing_step met mets false is all rest zero below passes = absurd (false≢true (sym is ∙ passes))
  passing_step met mets true is all rest (suc i) below passes =
      rest (All-tail P (name met) (map name (filter test mets)) all) i (omega (arith, below)) passes
  passing_step met mets false is all rest (suc i) below passes = rest all i (omega (arith, below)) passes

  passing : (mets : List Met) → All P (map name (filter test mets)) → Passing mets
  passing [] all = λ i below passes. absurd (omega (arith, below))
  passing (met ∷ mets) all = passing_step met mets (test met) refl all (passing mets)

module _ (modules : List NetModule) (top : ℕ) (cells : List NamedCells) where
  pub cells_known : All (λ cell. Contains (set_names cells) cell) (cells_used modules top) → (i : ℕ) → i < length (whole_walk modules top)
      → is_module modules top (get_or (whole_walk modules top) i no_met) ≡ false
      → Contains (set_names cells) (met_instance modules top (get_or (whole_walk modules top) i no_met)).cell
  cells_known all i below of_cell = passing (λ cell. Contains (set_names cells) cell) (λ met. (met_instance modules top met).cell)
      (λ met. not (is_module modules top met)) (whole_walk modules top)
      (inserted (λ cell. Contains (set_names cells) cell) [] (map (λ met. (met_instance modules top met).cell) (cells_met modules top)) all)
      i below (ap not of_cell)
