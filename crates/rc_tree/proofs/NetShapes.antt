-- A net is not of two shapes.
use Rattle.std.proofs.Common.{◌≡◌, ℕ, ◌<◌, List, [], ◌∷◌, ◌++◌, length, get_or, refl, sym, subst, ◌∙◌, arith, All}
use Rattle.std.specs.List.{Any, AllByRecursion}
use Rattle.std.proofs.lemmas.List.Elements.{recursion_from_All}
use Rattle.rc_tree.specs.NetElements.{NetElements, nodes_of}
use Rattle.rc_tree.specs.Walk.{Reached, ReachedWithout}
use Rattle.rc_tree.specs.RcTree.{IsUnreached, CutsOff, OneShape}

-- the element after the first ones
after_first : {X : Type 0} (before after : List X) (x d : X) → get_or (before ++ x ∷ after) (length before) d ≡ x
after_first [] after x d = refl
after_first (y ∷ before) after x d = after_first before after x d

first_within : {X : Type 0} (before after : List X) (x : X) → length before < length (before ++ x ∷ after)
first_within [] after x = omega arith
first_within (y ∷ before) after x = omega (arith, first_within before after x)

cut_one : {N : Type 0} (net : NetElements N) (place : ℕ) → Any (CutsOff net place) (nodes_of net) → All (ReachedWithout net place) (nodes_of net) → ⊥
cut_one net place some all = some.4 (subst (ReachedWithout net place) some.3 (all some.0 some.1 some.2))

not_all : {N : Type 0} (net : NetElements N) (node : N) → IsUnreached net node → All (Reached net) (nodes_of net) → ⊥
not_all {N} net node unreached all =
    let P : List N → Type 0 = All (Reached net) in
    let here : All (Reached net) (unreached.0 ++ node ∷ unreached.1) = subst P unreached.2 all in
    unreached.4 (subst (Reached net) (after_first unreached.0 unreached.1 node node) (here (length unreached.0) node (first_within unreached.0 unreached.1 node)))

-- no net is of two shapes
pub one_shape : {N : Type 0} (net : NetElements N) → OneShape net
one_shape net = (
  (λ tree mesh. cut_one net mesh.1.0 (tree.1 mesh.1.0 mesh.1.1) mesh.1.2),
  (λ node unreached tree. not_all net node unreached tree.0),
  (λ node unreached mesh. not_all net node unreached mesh.0),
)

-- the first element without a property is one
pub first_without : {X : Type 0} (P : X → Type 0) (front back left right : List X) (x y : X) → front ++ x ∷ back ≡ left ++ y ∷ right
    → AllByRecursion P front → AllByRecursion P left → (P x → ⊥) → (P y → ⊥) → x ≡ y
first_without P [] back [] right x y e p q f g = cc
first_without P [] back (z ∷ left) right x y e p q f g = let same : z ≡ x = cc in absurd (f (subst P same q.0))
first_without P (z ∷ front) back [] right x y e p q f g = let same : z ≡ y = cc in absurd (g (subst P same p.0))
first_without P (z ∷ front) back (w ∷ left) right x y e p q f g =
    let rest : front ++ x ∷ back ≡ left ++ y ∷ right = cc in first_without P front back left right x y rest p.1 q.1 f g

-- a net has one first unreached node
pub one_unreached : {N : Type 0} (net : NetElements N) (one other : N) → IsUnreached net one → IsUnreached net other → one ≡ other
one_unreached net one other r s =
    first_without (Reached net) r.0 r.1 s.0 s.1 one other (sym r.2 ∙ s.2)
    (recursion_from_All (Reached net) r.0 r.3) (recursion_from_All (Reached net) s.0 s.3) r.4 s.4
