-- What a walk meets in all, counted module by module.
use Rattle.std.proofs.Common.{◌≡◌, ℕ, zero, suc, ◌+◌, ◌<◌, ◌≤◌, List, [], ◌∷◌, ◌++◌, length, get_or, min, refl, sym, ap, ◌∙◌, subst, arith, Bool, true, false, if◌then◌else◌, Some, None, sum_by}
use Rattle.std.specs.List.{filter_map, cons_option}
use Rattle.std.proofs.lemmas.List.{get_or_at, length_push, append_assoc}
use Rattle.std.proofs.lemmas.List.Sums.{sum_by-cons, sum_by-append, sum-map}
use Rattle.verilog_netlist.specs.NetModules.{NetModule, NetInstance, module_at, instance_at, no_instance}
use Rattle.hierarchy.specs.Hierarchy.{lower_of, is_hierarchy, instance_count, module_on}
use Rattle.hierarchy.specs.Walks.{Met, joined_from, most_depth, walk, met_at, whole_walk, is_module, met_instance, entered}
use Rattle.hierarchy.specs.Uses.{name_bits, instances_visited, bits_visited, connections_visited}
use Rattle.hierarchy.specs.Lowers.{lower_item, lowers_of, AreLowers, lowers_at, lower_at}
use Rattle.hierarchy.specs.Orders.{StandsBefore, IsLowerFirst}
use Rattle.hierarchy.specs.Passes.{value_at, below_of, IsPassed, IsDepth, IsTotal, own_of, cap}
use Rattle.hierarchy.specs.declared.uses.Count.{Count}
use Rattle.hierarchy.specs.declared.uses.Count.TheVariants.{Depth, Instances, Names, Pins}
use Rattle.hierarchy.proofs.Joining.{sum-joined}
use Rattle.hierarchy.proofs.Heights.{lower_stands, depth_falls, depth_some}

-- what modules have so many levels deep, where each has this much itself
pub grown : List NetModule → (ℕ → ℕ) → ℕ → ℕ → ℕ
grown modules own zero m = 0
grown modules own (suc levels) m = own m + sum_by (grown modules own levels) (lowers_of modules m)

-- the numbers from one on
abbrev numbers : ℕ → ℕ → List ℕ
numbers from n = joined_from (λ k. k ∷ []) from n

sum_items : {X : Type 0} (f : X → ℕ) (d : X) (first xs : List X) → sum_by (λ k. f (get_or (first ++ xs) k d)) (numbers (length first) (length xs)) ≡ sum_by f xs
sum_items f d first [] = refl
sum_items f d first (x ∷ xs) =
    let g = λ (k : ℕ). f (get_or (first ++ x ∷ xs) k d) in
    let at : g (length first) ≡ f x = ap f (get_or_at first x xs d (length first) refl) in
    let again = sum_items f d (first ++ x ∷ []) xs in
    let same : (first ++ x ∷ []) ++ xs ≡ first ++ x ∷ xs = append_assoc first (x ∷ []) xs in
    let len : length (first ++ x ∷ []) ≡ suc (length first) = omega (arith, length_push first x) in
    let moved : sum_by g (numbers (suc (length first)) (length xs)) ≡ sum_by f xs =
    ap (λ n. sum_by g (numbers n (length xs))) (sym len)
    ∙ ap (λ ys. sum_by (λ k. f (get_or ys k d)) (numbers (length (first ++ x ∷ [])) (length xs))) (sym same) ∙ again in
    let split = sum_by-append g (length first ∷ []) (numbers (suc (length first)) (length xs)) in
    let cons = sum_by-cons f x xs in
    omega arith

length_is_sum : {X : Type 0} (xs : List X) → length xs ≡ sum_by (λ x. 1) xs
length_is_sum [] = refl
length_is_sum (x ∷ xs) = let a = sum_by-cons (λ (x : _). 1) x xs in let b = length_is_sum xs in omega arith

module _ (modules : List NetModule) (top : ℕ) where
  -- a sum over what the walk meets, where each instance has its part by its module and its number
  pub walk-sum : (f : Met → ℕ) (part : ℕ → ℕ → ℕ) (own : ℕ → ℕ)
      → ((met : Met) → f met ≡ part (module_on modules top met.path) met.instance)
      → ((m : ℕ) → sum_by (part m) (numbers 0 (instance_count modules m)) ≡ own m)
      → (levels : ℕ) (path : List ℕ) (m : ℕ) → module_on modules top path ≡ m
      → sum_by f (walk modules levels path m) ≡ grown modules own levels m
  unfolding walk grown
  walk-sum f part own each all zero path m on = refl
  walk-sum f part own each all (suc levels) path m on =
      let again = λ (k : ℕ). walk-sum f part own each all levels (k ∷ path) (lower_of modules m k) (ap (λ x. lower_of modules x k) on) in
      let here = λ (k : ℕ). each (record { path = path; instance = k }) ∙ ap (λ x. part x k) on in
      let one = λ (k : ℕ) (low : 0 ≤ k) (high : k < 0 + instance_count modules m).
      part-sum f (grown modules own levels) (record { path = path; instance = k }) (part m k) (lower_of modules m k)
      (walk modules levels (k ∷ path) (lower_of modules m k)) (here k) (again k) (is_hierarchy modules m k) in
      sum-joined f (grown modules own levels) (part m) (met_at modules (walk modules levels) path m) (lower_item modules m) 0
      (instance_count modules m) one
      ∙ ap (λ n. n + sum_by (grown modules own levels) (lowers_of modules m)) (all m)
    where
      part-sum : (f : Met → ℕ) (g : ℕ → ℕ) (met : Met) (own x : ℕ) (below : List Met) → f met ≡ own → sum_by f below ≡ g x
          → (b : Bool) → sum_by f (met ∷ (if b then below else [])) ≡ own + sum_by g (if b then x ∷ [] else [])
      part-sum f g met own x below is rest true =
          let a = sum_by-cons f met below in let b = sum_by-cons g x [] in omega arith
      part-sum f g met own x below is rest false = let a = sum_by-cons f met [] in omega arith

sum_two : {X : Type 0} (f g h : X → ℕ) → ((x : X) → f x + g x ≡ h x) → (xs : List X) → sum_by f xs + sum_by g xs ≡ sum_by h xs
sum_two f g h each [] = refl
sum_two f g h each (x ∷ xs) =
    let a = sum_by-cons f x xs in let b = sum_by-cons g x xs in let c = sum_by-cons h x xs in
    let here = each x in let rest = sum_two f g h each xs in
    omega arith

sum_none : {X : Type 0} (f : X → ℕ) → ((x : X) → f x ≡ 0) → (xs : List X) → sum_by f xs ≡ 0
sum_none f each [] = refl
sum_none f each (x ∷ xs) = let a = sum_by-cons f x xs in let here = each x in let rest = sum_none f each xs in omega arith

joined_none : {X : Type 0} (from n : ℕ) → joined_from {X = X} (λ k. []) from n ≡ []
joined_none from zero = refl
joined_none from (suc n) = joined_none (suc from) n

module _ (modules : List NetModule) where
  -- the bits of the module that an instance is of
  abbrev part_bits : ℕ → ℕ → ℕ
  part_bits m k = if is_hierarchy modules m k then name_bits modules (lower_of modules m k) else 0

  abbrev below_bits : ℕ → ℕ
  below_bits m = sum_by (part_bits m) (numbers 0 (instance_count modules m))

  below_bits_is : (m : ℕ) → below_bits m ≡ sum_by (name_bits modules) (lowers_of modules m)
  below_bits_is m =
      let n = instance_count modules m in
      let none = joined_none {X = ℕ} 0 n in
      let each = λ (k : ℕ) (low : 0 ≤ k) (high : k < 0 + n).
      item-bits (lower_of modules m k) (is_hierarchy modules m k) in
      let joined = sum-joined (name_bits modules) (name_bits modules) (part_bits m) (lower_item modules m) (λ k. []) 0 n each in
      let zero_sum : sum_by (name_bits modules) (joined_from (λ k. []) 0 n) ≡ 0 = ap (sum_by (name_bits modules)) none in
      omega arith
    where
      item-bits : (x : ℕ) (b : Bool) → sum_by (name_bits modules) (if b then x ∷ [] else []) ≡ (if b then name_bits modules x else 0) + 0
      item-bits x true = let a = sum_by-cons (name_bits modules) x [] in omega arith
      item-bits x false = refl

  bits_grown : (levels m : ℕ) → name_bits modules m + grown modules below_bits levels m ≡ grown modules (name_bits modules) (suc levels) m
  unfolding grown
  bits_grown zero m =
      let none = sum_none (grown modules (name_bits modules) zero) (λ x. refl) (lowers_of modules m) in
      omega arith
  bits_grown (suc levels) m =
      let own = below_bits_is m in
      let two = sum_two (name_bits modules) (grown modules below_bits levels) (grown modules (name_bits modules) (suc levels))
      (λ x. bits_grown levels x) (lowers_of modules m) in
      omega arith

  module _ (top : ℕ) where
    abbrev met_bits : Met → ℕ
    met_bits met = if is_module modules top met then name_bits modules (module_on modules top (met.instance ∷ met.path)) else 0

    visited-bits : (xs : List Met) → sum_by (λ path. name_bits modules (module_on modules top path)) (filter_map (entered modules top) xs) ≡ sum_by met_bits xs
    visited-bits [] = refl
    visited-bits (met ∷ xs) =
        let rest = visited-bits xs in
        by (is_module modules top met) (met.instance ∷ met.path) (filter_map (entered modules top) xs) rest
        ∙ sym (sum_by-cons met_bits met xs)
      where
        by : (b : Bool) (path : List ℕ) (others : List (List ℕ))
            → sum_by (λ path. name_bits modules (module_on modules top path)) others ≡ sum_by met_bits xs
            → sum_by (λ path. name_bits modules (module_on modules top path)) (cons_option (if b then Some path else None) others)
            ≡ (if b then name_bits modules (module_on modules top path) else 0) + sum_by met_bits xs
        by true path others rest =
            let a = sum_by-cons (λ path. name_bits modules (module_on modules top path)) path others in omega arith
        by false path others rest = omega arith

    pub bits_are : bits_visited modules top ≡ grown modules (own_of modules Names) (suc most_depth) top
    bits_are =
        let g = λ (path : List ℕ). name_bits modules (module_on modules top path) in
        let split = sum_by-cons g [] (filter_map (entered modules top) (whole_walk modules top)) in
        let below = visited-bits (whole_walk modules top) in
        let walked = walk-sum modules top met_bits part_bits below_bits (λ met. refl) (λ m. refl) most_depth [] top refl in
        let all = bits_grown most_depth top in
        omega arith

    pub instances_are : instances_visited modules top ≡ grown modules (own_of modules Instances) most_depth top
    instances_are =
        length_is_sum (whole_walk modules top)
        ∙ walk-sum modules top (λ met. 1) (λ m k. 1) (own_of modules Instances) (λ met. refl)
        (λ m. sum_items (λ (instance : NetInstance). 1) no_instance [] (module_at modules m).instances
        ∙ sym (length_is_sum (module_at modules m).instances))
        most_depth [] top refl

    pub connections_are : connections_visited modules top ≡ grown modules (own_of modules Pins) most_depth top
    connections_are =
        walk-sum modules top (λ met. length (met_instance modules top met).connections)
        (λ m k. length (instance_at modules m k).connections) (own_of modules Pins) (λ met. refl)
        (λ m. sum_items (λ (instance : NetInstance). length instance.connections) no_instance [] (module_at modules m).instances)
        most_depth [] top refl

  module _ (lowers : List (List ℕ)) (are : AreLowers modules lowers) (order depths totals : List ℕ) (count : Count)
      (sorted : IsLowerFirst lowers order) (deep : IsPassed lowers order IsDepth depths (length order))
      (passed : IsPassed lowers order (IsTotal modules count) totals (length order)) where
    total_is : (m : ℕ) → StandsBefore order (length order) m → IsTotal modules count m (below_of lowers totals m) (value_at totals m)
    total_is m h = subst (λ x. IsTotal modules count x (below_of lowers totals x) (value_at totals x)) h.is (passed.each h.at h.before)

    cut_sum : (f g : ℕ → ℕ) (row : List ℕ) (own : ℕ) → ((j : ℕ) → j < length row → f (get_or row j 0) ≡ min cap (g (get_or row j 0)))
        → min cap (own + sum_by f row) ≡ min cap (own + sum_by g row)
    cut_sum f g [] own each = refl
    cut_sum f g (x ∷ row) own each =
        let a = sum_by-cons f x row in
        let b = sum_by-cons g x row in
        let here : f x ≡ min cap (g x) = each 0 (omega arith) in
        let rest = cut_sum f g row (own + f x) (λ j lt. each (suc j) (omega arith)) in
        omega arith

    -- the total of a module that stands in the order, where as many levels are counted as it is deep
    pub totals_are : (levels m : ℕ) → StandsBefore order (length order) m → value_at depths m ≤ levels
        → value_at totals m ≡ min cap (grown modules (own_of modules count) levels m)
    unfolding grown
    totals_are zero m h le = absurd (omega (arith, depth_some lowers order depths sorted deep m h))
    totals_are (suc levels) m h le =
        let row = lowers_at lowers m in
        let own = own_of modules count m in
        let within : m < length modules =
        let size = are.size in let w = subst (λ x. x < length lowers) h.is (sorted.within h.at h.before) in omega arith in
        let is = total_is m h in
        let mapped = sum-map (value_at totals) row in
        let cut = cut_sum (value_at totals) (grown modules (own_of modules count) levels) row own (λ j lt.
        totals_are levels (lower_at lowers m j) (lower_stands lowers order depths sorted deep m j h lt)
        (omega (arith, depth_falls lowers order depths sorted deep m j h lt))) in
        let same : sum_by (grown modules (own_of modules count) levels) row ≡ sum_by (grown modules (own_of modules count) levels) (lowers_of modules m) =
        ap (sum_by (grown modules (own_of modules count) levels)) (are.each m within) in
        omega arith

-- where no module has anything itself there is nothing
pub grown_none : (modules : List NetModule) (levels m : ℕ) → grown modules (own_of modules Depth) levels m ≡ 0
unfolding grown
grown_none modules zero m = refl
grown_none modules (suc levels) m =
    let rest = sum_none (grown modules (own_of modules Depth) levels) (λ x. grown_none modules levels x) (lowers_of modules m) in
    omega arith
