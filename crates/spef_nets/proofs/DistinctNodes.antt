-- Nodes by first place are distinct.
use Rattle.std.proofs.Common.{◌≡◌, ℕ, zero, suc, Bool, true, false, not, cond, List, [], ◌∷◌, filter, refl, sym, ap, ◌∙◌, subst, true≢false}
use Rattle.std.specs.Prelude.{Some, slice_get}
use Rattle.name_table.specs.declared.spef_names.NodeName.{NodeName}
use Rattle.name_table.specs.NodeKeys.{key_of, same_key, same_node}
use Rattle.spef_nets.specs.Nodes.{first_places, AreDistinctNodes}
use Rattle.spef_nets.proofs.RefLemmas.{key_is_same}

some_is : {X : Type 0} (a b : X) → Some a ≡ Some b → a ≡ b
some_is a b e = cc

-- what stands in a list is like that
abbrev pub Stands : (NodeName → Type 0) → List NodeName → Type 0
Stands P nodes = (place : ℕ) (node : NodeName) → slice_get nodes place ≡ Some node → P node

stands_later : (P : NodeName → Type 0) (node : NodeName) (later : List NodeName) → Stands P (node ∷ later) → Stands P later
stands_later P node later all place it at = all (suc place) it at

stands_first : (P : NodeName → Type 0) (node : NodeName) (later : List NodeName) → P node → Stands P later → Stands P (node ∷ later)
stands_first P node later here rest zero it at = subst P (some_is node it at) here
stands_first P node later here rest (suc place) it at = rest place it at

-- what a filter leaves stood before, and passes
kept_stands : (P : NodeName → Type 0) (p : NodeName → Bool) (nodes : List NodeName) → Stands P nodes → Stands P (filter p nodes)
kept_stands P p [] all = all
kept_stands P p (node ∷ later) all = by (p node) (all 0 node refl) (kept_stands P p later (stands_later P node later all))
  where
    by : (b : Bool) → P node → Stands P (filter p later) → Stands P (cond b (node ∷ filter p later) (filter p later))
    by true here rest = stands_first P node (filter p later) here rest
    by false here rest = rest

passed : (p : NodeName → Bool) (nodes : List NodeName) → Stands (λ node. p node ≡ true) (filter p nodes)
passed p [] = λ place node at. absurd (cc)
passed p (node ∷ later) = by (p node) refl (passed p later)
  where
    by : (b : Bool) → p node ≡ b → Stands (λ it. p it ≡ true) (filter p later) → Stands (λ it. p it ≡ true) (cond b (node ∷ filter p later) (filter p later))
    by true is rest = stands_first (λ it. p it ≡ true) node (filter p later) is rest
    by false is rest = rest

abbrev pub Differs : NodeName → NodeName → Type 0
Differs node other = key_of node ≡ key_of other → ⊥

distinct_first : (node : NodeName) (later : List NodeName) → Stands (Differs node) later → AreDistinctNodes later → AreDistinctNodes (node ∷ later)
distinct_first node later alone rest zero zero a b at_a at_b same = refl
distinct_first node later alone rest zero (suc j) a b at_a at_b same = absurd (alone j b at_b (ap key_of (some_is node a at_a) ∙ same))
distinct_first node later alone rest (suc i) zero a b at_a at_b same = absurd (alone i a at_a (ap key_of (some_is node b at_b) ∙ sym same))
distinct_first node later alone rest (suc i) (suc j) a b at_a at_b same = ap suc (rest i j a b at_a at_b same)

distinct_kept : (p : NodeName → Bool) (nodes : List NodeName) → AreDistinctNodes nodes → AreDistinctNodes (filter p nodes)
distinct_kept p [] distinct = distinct
distinct_kept p (node ∷ later) distinct = by (p node) (distinct_kept p later rest)
  where
    rest : AreDistinctNodes later
    rest i j a b at_a at_b same = let e : suc i ≡ suc j = distinct (suc i) (suc j) a b at_a at_b same in cc

    alone : Stands (Differs node) later
    alone place it at same = let e : zero ≡ suc place = distinct zero (suc place) node it refl at same in cc

    by : (b : Bool) → AreDistinctNodes (filter p later) → AreDistinctNodes (cond b (node ∷ filter p later) (filter p later))
    by true kept = distinct_first node (filter p later) (kept_stands (Differs node) p later alone) kept
    by false kept = kept

pub distinct_places : (nodes : List NodeName) → AreDistinctNodes (first_places nodes)
distinct_places [] = λ one other a b at_a at_b same. absurd (cc)
distinct_places (node ∷ later) = distinct_first node (filter (λ other. not (same_node node other)) (first_places later)) alone (distinct_kept (λ other. not (same_node node other)) (first_places later) (distinct_places later))
  where
    alone : Stands (Differs node) (filter (λ other. not (same_node node other)) (first_places later))
    alone place it at same =
        let differs : not (same_node node it) ≡ true = passed (λ other. not (same_node node other)) (first_places later) place it at in
        let one : same_node node it ≡ true = subst (λ k. same_key (key_of node) k ≡ true) same (key_is_same (key_of node)) in
        true≢false (sym differs ∙ ap not one)
