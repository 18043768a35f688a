-- The cells that a walk meets.
use Rattle.std.proofs.Common.{◌≡◌, ℕ, zero, suc, ◌+◌, ◌<◌, ◌≤◌, List, [], ◌∷◌, ◌++◌, length, get_or, take, map, refl, sym, ap, ◌∙◌, subst, arith, Bool, true, false, not, if◌then◌else◌, All, Option, Some, None, is_some, true≢false}
use Rattle.std.specs.List.{filter, list_any, Contains}
use Rattle.std.specs.Str.{bytes_eq}
use Rattle.std.specs.Cmp.{decided}
use Rattle.std.proofs.lemmas.Map.Views.{list_any-from_Contains, Contains-from_any}
use Rattle.std.proofs.lemmas.Option.{slice_get-get_or}
use Rattle.std.proofs.lemmas.Bool.{ltb-true}
use Rattle.std.proofs.lemmas.List.{take_more, append-nil, length_push, map-append, take_all, length-map, length-take}
use Rattle.std.proofs.lemmas.List.Elements.{All-nil, All-cons, All-append, filter-append}
use Rattle.std.proofs.lemmas.List.Sums.{fold_push, length-filter, count_by-le-length}
use Rattle.std.proofs.lemmas.Slice.Eq.{bytes_eq-Decides}
use Rattle.indexmap.specs.IndexSet.{insert_all, insert_key}
use Rattle.verilog_netlist.specs.NetModules.{NetModule, module_at, instance_at}
use Rattle.hierarchy.specs.Uses.{cells_used}
use Rattle.hierarchy.specs.WalkTables.{WalkTables, AreTablesOfWalk, IsMet, IsLowerVisit, no_met}
use Rattle.hierarchy.specs.declared.walking.Visit.{Visit}
use Rattle.hierarchy.specs.declared.walking.MetInstance.{MetInstance}
use Rattle.hierarchy.specs.Hierarchy.{lower_of, is_hierarchy, instance_count, module_on}
use Rattle.hierarchy.specs.Walks.{Met, joined_from, most_depth, walk, met_at, whole_walk, is_module, met_instance}

-- a fact of each item of lists that are joined
all_joined : {X : Type 0} (P : X → Type 0) (lists : ℕ → List X) (from n : ℕ) → ((k : ℕ) → from ≤ k → k < from + n → All P (lists k))
    → All P (joined_from lists from n)
all_joined P lists from zero each = All-nil P
all_joined P lists from (suc n) each =
    All-append P (lists from) (joined_from lists (suc from) n) (each from (omega arith) (omega arith))
    (all_joined P lists (suc from) n (λ k low high. each k (omega arith) (omega arith)))

module _ (modules : List NetModule) (top : ℕ) where
  -- an instance that is met stands in a module
  pub record IsPlaced (met : Met) : Type 0 where
    pub within : module_on modules top met.path < length modules
    pub here : met.instance < instance_count modules (module_on modules top met.path)

  walk-placed : (levels : ℕ) (path : List ℕ) (m : ℕ) → module_on modules top path ≡ m → m < length modules → All IsPlaced (walk modules levels path m)
  unfolding walk
  walk-placed zero path m on within = All-nil IsPlaced
  walk-placed (suc levels) path m on within =
      all_joined IsPlaced (met_at modules (walk modules levels) path m) 0 (instance_count modules m) (λ k low high.
      below (record { path = path; instance = k }) (lower_of modules m k) (walk modules levels (k ∷ path) (lower_of modules m k))
      (record {
        within = subst (λ x. x < length modules) (sym on) within;
        here = subst (λ x. k < instance_count modules x) (sym on) (omega arith);
      })
      (λ lt. walk-placed levels (k ∷ path) (lower_of modules m k) (ap (λ x. lower_of modules x k) on) lt)
      (is_hierarchy modules m k) (λ e. ltb-true (lower_of modules m k) (length modules) e))
    where
      below : (met : Met) (lower : ℕ) (rest : List Met) → IsPlaced met → (lower < length modules → All IsPlaced rest)
          → (b : Bool) → (b ≡ true → lower < length modules) → All IsPlaced (met ∷ (if b then rest else []))
      below met lower rest is all true lt = All-cons IsPlaced met rest is (all (lt refl))
      below met lower rest is all false lt = All-cons IsPlaced met [] is (All-nil IsPlaced)

  pub all_placed : top < length modules → All IsPlaced (whole_walk modules top)
  all_placed within = walk-placed most_depth [] top refl within

  abbrev cell_test : Met → Bool
  cell_test met = not (is_module modules top met)

  abbrev cell_name : Met → List ℕ
  cell_name met = (met_instance modules top met).cell

  -- the cells of so many instances that are met
  abbrev pub cells_by : ℕ → List (List ℕ)
  cells_by n = insert_all bytes_eq [] (map cell_name (filter cell_test (take n (whole_walk modules top))))

  more_met : (n : ℕ) (met d : Met) → n < length (whole_walk modules top) → get_or (whole_walk modules top) n d ≡ met
      → filter cell_test (take (n + 1) (whole_walk modules top))
      ≡ filter cell_test (take n (whole_walk modules top)) ++ filter cell_test (met ∷ [])
  more_met n met d lt at =
      ap (filter cell_test) (take_more (whole_walk modules top) n d lt ∙ ap (λ x. take n (whole_walk modules top) ++ x ∷ []) at)
      ∙ filter-append cell_test (take n (whole_walk modules top)) (met ∷ [])

  pub cells_more : (n : ℕ) (met d : Met) → n < length (whole_walk modules top) → get_or (whole_walk modules top) n d ≡ met
      → is_module modules top met ≡ false → cells_by (n + 1) ≡ insert_key bytes_eq (cells_by n) (cell_name met)
  cells_more n met d lt at cell =
      let one : filter cell_test (met ∷ []) ≡ met ∷ [] = ap (λ b. if (not b) then met ∷ [] else []) cell in
      let before = filter cell_test (take n (whole_walk modules top)) in
      let items : map cell_name (filter cell_test (take (n + 1) (whole_walk modules top))) ≡ map cell_name before ++ cell_name met ∷ [] =
      ap (map cell_name) (more_met n met d lt at ∙ ap (λ xs. before ++ xs) one) ∙ map-append cell_name before (met ∷ []) in
      ap (insert_all bytes_eq []) items ∙ fold_push (insert_key bytes_eq) [] (map cell_name before) (cell_name met)

  pub cells_same : (n : ℕ) (met d : Met) → n < length (whole_walk modules top) → get_or (whole_walk modules top) n d ≡ met
      → is_module modules top met ≡ true → cells_by (n + 1) ≡ cells_by n
  cells_same n met d lt at hierarchy =
      let none : filter cell_test (met ∷ []) ≡ [] = ap (λ b. if (not b) then met ∷ [] else []) hierarchy in
      let before = filter cell_test (take n (whole_walk modules top)) in
      ap (λ xs. insert_all bytes_eq [] (map cell_name xs)) (more_met n met d lt at ∙ ap (λ xs. before ++ xs) none ∙ append-nil before)

inserted_few : (ks xs : List (List ℕ)) → length (insert_all bytes_eq ks xs) ≤ length ks + length xs
inserted_few ks [] = omega arith
inserted_few ks (x ∷ xs) =
    let rest = inserted_few (insert_key bytes_eq ks x) xs in
    let one = by (list_any (bytes_eq x) ks) in
    omega arith
  where
    by : (b : Bool) → length (if b then ks else ks ++ x ∷ []) ≤ suc (length ks)
    by true = omega arith
    by false = omega (arith, length_push ks x)

pub cells_few : (modules : List NetModule) (top n : ℕ) → length (cells_by modules top n) ≤ n
cells_few modules top n =
    let taken = take n (whole_walk modules top) in
    let cells = filter (cell_test modules top) taken in
    let a = inserted_few [] (map (cell_name modules top) cells) in
    let b = length-map cells (cell_name modules top) in
    let c = length-filter (cell_test modules top) taken in
    let d = count_by-le-length (cell_test modules top) taken in
    let e = length-take n (whole_walk modules top) in
    omega arith

pub cells_all : (modules : List NetModule) (top n : ℕ) → length (whole_walk modules top) ≤ n → cells_by modules top n ≡ cells_used modules top
cells_all modules top n le =
    ap (λ xs. insert_all bytes_eq [] (map (cell_name modules top) (filter (cell_test modules top) xs))) (take_all n (whole_walk modules top) le)

-- what a table of names does is what a set of keys does
pub interned : (names after : List (List ℕ)) (name : List ℕ) → (Contains names name → after ≡ names) → (¬ Contains names name → after ≡ names ++ name ∷ [])
    → after ≡ insert_key bytes_eq names name
interned names after name kept added = by (list_any (bytes_eq name) names) refl
  where
    by : (b : Bool) → list_any (bytes_eq name) names ≡ b → after ≡ (if b then names else names ++ name ∷ [])
    by true e = kept (Contains-from_any {eq = bytes_eq} (λ x y. (bytes_eq-Decides x y).0) name names e)
    by false e = added (λ h. true≢false (sym (list_any-from_Contains {eq = bytes_eq} (decided bytes_eq bytes_eq-Decides) name names h) ∙ e))

-- what is kept of the walk, at a place
module _ (modules : List NetModule) (top : ℕ) (tables : WalkTables) (are : AreTablesOfWalk modules top tables) (vs : List Visit) (ms : List MetInstance)
    (same_visits : vs ≡ tables.visits) (same_met : ms ≡ tables.met) (i : ℕ) (lt : i < length ms) (d : MetInstance) (e : Visit) where
  abbrev here : Met
  here = get_or (whole_walk modules top) i no_met

  abbrev kept : MetInstance
  kept = get_or ms i d

  lt' : i < length tables.met
  lt' = subst (λ xs. i < length xs) same_met lt

  is_met : IsMet modules top here kept
  is_met = subst (λ xs. IsMet modules top here (get_or xs i d)) (sym same_met)
      (are.each_met i (get_or tables.met i d) (slice_get-get_or tables.met i d lt'))

  pub met_within : i < length (whole_walk modules top)
  met_within = let n = are.met_count in omega (arith, lt')

  pub met_visit : (get_or ms i d).visit < length vs
  met_visit = let n = are.visits_count in let m = ap length same_visits in omega (arith, is_met.visit)

  pub visit_module : (get_or vs (get_or ms i d).visit e).module ≡ module_on modules top here.path
  visit_module =
      let v = kept.visit in
      let few : v < length tables.visits = subst (λ xs. v < length xs) same_visits met_visit in
      let is = are.each_visit v (get_or tables.visits v e) (slice_get-get_or tables.visits v e few) in
      ap (λ xs. (get_or xs v e).module) same_visits ∙ is.here ∙ ap (module_on modules top) is_met.path

  placed : top < length modules → IsPlaced modules top here
  placed within = all_placed modules top within i no_met met_within

  pub module_within : top < length modules → (get_or vs (get_or ms i d).visit e).module < length modules
  module_within within = subst (λ m. m < length modules) (sym visit_module) (placed within).within

  pub instance_within : top < length modules
      → (get_or ms i d).instance < length (module_at modules (get_or vs (get_or ms i d).visit e).module).instances
  instance_within within =
      subst (λ k. k < instance_count modules (get_or vs (get_or ms i d).visit e).module) (sym is_met.instance)
      (subst (λ m. here.instance < instance_count modules m) (sym visit_module) (placed within).here)

  pub cell_is : (instance_at modules (get_or vs (get_or ms i d).visit e).module (get_or ms i d).instance).cell ≡ cell_name modules top here
  cell_is = ap (λ m. (instance_at modules m (get_or ms i d).instance).cell) visit_module
      ∙ ap (λ k. (instance_at modules (module_on modules top here.path) k).cell) is_met.instance

  pub cell_here : is_some (get_or ms i d).lower ≡ false → is_module modules top here ≡ false
  cell_here none = by (get_or ms i d).lower is_met.lower none
    where
      by : (lower : Option ℕ) → IsLowerVisit modules top here lower → is_some lower ≡ false → is_module modules top here ≡ false
      by None h n = h
      by (Some v) h n = absurd (true≢false n)

  pub module_here : is_some (get_or ms i d).lower ≡ true → is_module modules top here ≡ true
  module_here some = by (get_or ms i d).lower is_met.lower some
    where
      by : (lower : Option ℕ) → IsLowerVisit modules top here lower → is_some lower ≡ true → is_module modules top here ≡ true
      by None h n = absurd (true≢false (sym n))
      by (Some v) h n = h.2

  -- the cells after a cell, and after a module
  pub cells_after : (names after : List (List ℕ)) (name : List ℕ) → names ≡ cells_by modules top i
      → is_some (get_or ms i d).lower ≡ false
      → name ≡ (instance_at modules (get_or vs (get_or ms i d).visit e).module (get_or ms i d).instance).cell
      → (Contains names name → after ≡ names) → (¬ Contains names name → after ≡ names ++ name ∷ [])
      → after ≡ cells_by modules top (i + 1)
  cells_after names after name before none is kept added =
      interned names after name kept added
      ∙ ap (insert_key bytes_eq names) (is ∙ cell_is)
      ∙ ap (λ ns. insert_key bytes_eq ns (cell_name modules top here)) before
      ∙ sym (cells_more modules top i here no_met met_within refl (cell_here none))

  pub cells_stay : (names after : List (List ℕ)) → names ≡ cells_by modules top i → is_some (get_or ms i d).lower ≡ true → after ≡ names
      → after ≡ cells_by modules top (i + 1)
  cells_stay names after before some same = same ∙ before ∙ sym (cells_same modules top i here no_met met_within refl (module_here some))
