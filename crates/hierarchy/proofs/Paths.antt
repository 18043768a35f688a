-- Paths of instances and trails along lower modules.
use Rattle.std.proofs.Common.{◌≡◌, ℕ, zero, suc, ◌<◌, List, [], ◌∷◌, ◌++◌, length, get_or, refl, sym, ap, ◌∙◌, subst, arith, Bool, true, false, if◌then◌else◌}
use Rattle.std.proofs.lemmas.Bool.{lt-ltb, ltb-true}
use Rattle.std.proofs.lemmas.List.{get_or_default}
use Rattle.verilog_netlist.specs.NetModules.{NetModule}
use Rattle.hierarchy.specs.Hierarchy.{lower_of, is_hierarchy, instance_count, module_on, HasLower, IsPath}
use Rattle.hierarchy.specs.Uses.{ContainsItself}
use Rattle.hierarchy.specs.Lowers.{lower_item, lowers_of, AreLowers, lowers_at, lower_at, AreBelow, end_of, IsTrail, Leads, IsRound}
use Rattle.hierarchy.proofs.Joining.{joined-place, IsPlaced, joined-has}

module _ (modules : List NetModule) where
  pub on-append : (top : ℕ) (inner outer : List ℕ) → module_on modules top (inner ++ outer) ≡ module_on modules (module_on modules top outer) inner
  on-append top [] outer = refl
  on-append top (k ∷ inner) outer = ap (λ m. lower_of modules m k) (on-append top inner outer)

  pub path-append : (top : ℕ) (inner outer : List ℕ) → IsPath modules top outer → IsPath modules (module_on modules top outer) inner
      → IsPath modules top (inner ++ outer)
  path-append top [] outer o i = o
  path-append top (k ∷ inner) outer o i =
      (path-append top inner outer o i.0, subst (λ m. HasLower modules top m k) (sym (on-append top inner outer)) i.1)

  pub path-inner : (top : ℕ) (inner outer : List ℕ) → IsPath modules top (inner ++ outer) → IsPath modules (module_on modules top outer) inner
  path-inner top [] outer p = tt
  path-inner top (k ∷ inner) outer p =
      (path-inner top inner outer p.0, subst (λ m. HasLower modules top m k) (on-append top inner outer) p.1)

  pub path-outer : (top : ℕ) (inner outer : List ℕ) → IsPath modules top (inner ++ outer) → IsPath modules top outer
  path-outer top [] outer p = p
  path-outer top (k ∷ inner) outer p = path-outer top inner outer p.0

  pub on-within : (top : ℕ) (path : List ℕ) → top < length modules → IsPath modules top path → module_on modules top path < length modules
  on-within top [] lt p = lt
  on-within top (k ∷ outer) lt p = p.1.1

  item_place : (m k : ℕ) (b : Bool) → is_hierarchy modules m k ≡ b → (x place : ℕ)
      → place < length (if b then lower_of modules m k ∷ [] else []) → get_or (if b then lower_of modules m k ∷ [] else []) place x ≡ x
      → (lower_of modules m k < length modules) × (lower_of modules m k ≡ x)
  item_place m k true is x zero lt e = (ltb-true (lower_of modules m k) (length modules) is, e)
  item_place m k true is x (suc place) lt e = absurd (omega arith)
  item_place m k false is x place lt e = absurd (omega arith)

  -- a lower module is that of an instance
  pub record IsLower (m x : ℕ) : Type 0 where
    pub instance : ℕ
    pub here : instance < instance_count modules m
    pub within : lower_of modules m instance < length modules
    pub is : lower_of modules m instance ≡ x

  pub lower_from_place : (m x : ℕ) → IsPlaced (lowers_of modules m) x → IsLower m x
  lower_from_place m x h =
      let found = joined-place (lower_item modules m) 0 (instance_count modules m) h.place x h.within h.is in
      let item = item_place m found.at (is_hierarchy modules m found.at) refl x found.place found.within found.is in
      record { instance = found.at; here = omega (arith, found.high); within = item.0; is = item.1 }

  pub place_of_lower : (m k : ℕ) → k < instance_count modules m → lower_of modules m k < length modules
      → IsPlaced (lowers_of modules m) (lower_of modules m k)
  place_of_lower m k lt within =
      let yes = lt-ltb (lower_of modules m k) (length modules) within in
      let item : lower_item modules m k ≡ lower_of modules m k ∷ [] = ap (λ b. if b then lower_of modules m k ∷ [] else []) yes in
      joined-has (lower_item modules m) 0 (instance_count modules m) k (lower_of modules m k) (omega arith) (omega arith)
      (subst (λ xs. IsPlaced xs (lower_of modules m k)) (sym item) (record { place = 0; within = omega arith; is = refl }))

  module _ (lowers : List (List ℕ)) (are : AreLowers modules lowers) where
    place_at : (m j : ℕ) → m < length modules → j < length (lowers_at lowers m) → IsPlaced (lowers_of modules m) (lower_at lowers m j)
    place_at m j within lt =
        let e = are.each m within in
        let few : j < length (lowers_of modules m) = subst (λ r. j < length r) e lt in
        record { place = j; within = few; is = get_or_default (lowers_of modules m) j (lower_at lowers m j) 0 few ∙ sym (ap (λ r. get_or r j 0) e) }

    pub are_below : AreBelow lowers
    are_below = record {
      below = λ m j within lt.
          let size = are.size in
          let found = lower_from_place m (lower_at lowers m j) (place_at m j (omega arith) lt) in
          omega (arith, found.within, found.is);
    }

    -- a trail as a path
    pub record IsPathOf (top : ℕ) (trail : List ℕ) : Type 0 where
      pub path : List ℕ
      pub is_path : IsPath modules top path
      pub ends : module_on modules top path ≡ end_of lowers top trail
      pub len : length path ≡ length trail

    pub path_of : (top : ℕ) (trail : List ℕ) → top < length modules → IsTrail lowers top trail → IsPathOf top trail
    path_of top [] within t = record { path = []; is_path = tt; ends = refl; len = refl }
    path_of top (j ∷ before) within t =
        let outer = path_of top before within t.0 in
        let m = end_of lowers top before in
        let m_within : m < length modules = subst (λ x. x < length modules) outer.ends (on-within top outer.path within outer.is_path) in
        let found = lower_from_place m (lower_at lowers m j) (place_at m j m_within t.1) in
        record {
          path = found.instance ∷ outer.path;
          is_path = (outer.is_path, subst (λ x. HasLower modules top x found.instance) (sym outer.ends) (found.here, found.within));
          ends = ap (λ x. lower_of modules x found.instance) outer.ends ∙ found.is;
          len = ap suc outer.len;
        }

    -- a path as a trail
    pub record IsTrailOf (top : ℕ) (path : List ℕ) : Type 0 where
      pub trail : List ℕ
      pub is_trail : IsTrail lowers top trail
      pub ends : end_of lowers top trail ≡ module_on modules top path
      pub len : length trail ≡ length path

    pub trail_of : (top : ℕ) (path : List ℕ) → top < length modules → IsPath modules top path → IsTrailOf top path
    trail_of top [] within p = record { trail = []; is_trail = tt; ends = refl; len = refl }
    trail_of top (k ∷ outer) within p =
        let before = trail_of top outer within p.0 in
        let m = module_on modules top outer in
        let e = are.each m (on-within top outer within p.0) in
        let placed = place_of_lower m k p.1.0 p.1.1 in
        let lt : placed.place < length (lowers_at lowers m) = subst (λ r. placed.place < length r) (sym e) placed.within in
        record {
          trail = placed.place ∷ before.trail;
          is_trail = (before.is_trail, subst (λ x. placed.place < length (lowers_at lowers x)) (sym before.ends) lt);
          ends = ap (λ x. lower_at lowers x placed.place) before.ends ∙ ap (λ r. get_or r placed.place 0) e
              ∙ get_or_default (lowers_of modules m) placed.place 0 (lower_of modules m k) placed.within ∙ placed.is;
          len = ap suc before.len;
        }

    -- a round trail is a module that contains itself
    pub contains_itself : (top m : ℕ) → top < length modules → Leads lowers top m → IsRound lowers m → ContainsItself modules top m
    contains_itself top m within leads round =
        let outer = path_of top leads.trail within leads.is_trail in
        let at : module_on modules top outer.path ≡ m = outer.ends ∙ leads.ends in
        let m_within : m < length modules = subst (λ x. x < length modules) at (on-within top outer.path within outer.is_path) in
        let inner = path_of m round.trail m_within round.is_trail in
        record {
          outer = outer.path;
          inner = inner.path;
          some = omega (arith, inner.len, round.some);
          path = path-append top inner.path outer.path outer.is_path (subst (λ x. IsPath modules x inner.path) (sym at) inner.is_path);
          first = at;
          again = on-append top inner.path outer.path ∙ ap (λ x. module_on modules x inner.path) at ∙ inner.ends ∙ round.ends;
        }
