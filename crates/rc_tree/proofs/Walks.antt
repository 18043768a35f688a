-- Walks over resistors whose nodes are numbers: m of them, the one at place e between a e and b e.
use Rattle.std.proofs.Common.{◌≡◌, ◌≢◌, ℕ, zero, suc, ◌+◌, ◌<◌, ◌≤◌, ◌⊎◌, List, [], ◌∷◌, ◌++◌, refl, sym, ◌∙◌, ap, subst, arith, inl, inr}
use Rattle.rc_tree.specs.Walk.{Avoids}
use Rattle.rc_tree.specs.Joins.{Joined}
use Rattle.rc_tree.specs.TreeSums.{above}
use Rattle.rc_tree.proofs.Sums.{one-other}
use Rattle.rc_tree.proofs.Above.{Down, above_here, above_past, above_step}

abbrev pub Leads : ℕ → (ℕ → ℕ) → (ℕ → ℕ) → ℕ → List ℕ → ℕ → Type 0
Leads m a b x [] y = x ≡ y
Leads m a b x (e ∷ es) y = (z : ℕ) × Joined m a b e x z × Leads m a b z es y

-- the node is reached, and without the resistor p
abbrev pub Found : ℕ → (ℕ → ℕ) → (ℕ → ℕ) → ℕ → ℕ → Type 0
Found m a b root i = (es : List ℕ) × Leads m a b root es i

abbrev pub FoundWithout : ℕ → (ℕ → ℕ) → (ℕ → ℕ) → ℕ → ℕ → ℕ → Type 0
FoundWithout m a b root p i = (es : List ℕ) × Leads m a b root es i × Avoids p es

pub leads_on : (m : ℕ) (a b : ℕ → ℕ) (x : ℕ) (es : List ℕ) (y e z : ℕ) → Leads m a b x es y → Joined m a b e y z → Leads m a b x (es ++ e ∷ []) z
leads_on m a b x [] y e z leads joined = (z, subst (λ w. Joined m a b e w z) (sym leads) joined, refl)
leads_on m a b x (d ∷ es) y e z leads joined = (leads.0, leads.1, leads_on m a b leads.0 es y e z leads.2 joined)

pub avoids_on : (p : ℕ) (es : List ℕ) (e : ℕ) → Avoids p es → e ≢ p → Avoids p (es ++ e ∷ [])
avoids_on p [] e avoids ne = (ne, tt)
avoids_on p (d ∷ es) e avoids ne = (avoids.0, avoids_on p es e avoids.1 ne)

-- what each resistor keeps, a walk keeps
pub leads_kept : (P : ℕ → Type 0) (m : ℕ) (a b : ℕ → ℕ) → ((e x y : ℕ) → Joined m a b e x y → P x → P y) → (x : ℕ) (es : List ℕ) (y : ℕ) → Leads m a b x es y → P x → P y
leads_kept P m a b keeps x [] y leads here = subst P leads here
leads_kept P m a b keeps x (e ∷ es) y leads here = leads_kept P m a b keeps leads.0 es y leads.2 (keeps e x leads.0 leads.1 here)

pub leads_kept_aside : (P : ℕ → Type 0) (m : ℕ) (a b : ℕ → ℕ) (p : ℕ) → ((e x y : ℕ) → e ≢ p → Joined m a b e x y → P x → P y) → (x : ℕ) (es : List ℕ) (y : ℕ) → Leads m a b x es y → Avoids p es → P x → P y
leads_kept_aside P m a b p keeps x [] y leads avoids here = subst P leads here
leads_kept_aside P m a b p keeps x (e ∷ es) y leads avoids here =
    leads_kept_aside P m a b p keeps leads.0 es y leads.2 avoids.1 (keeps e x leads.0 avoids.0 leads.1 here)

-- So many nodes are joined to a parent before them, each by a resistor of its own: the node j is ord j.
pub record Grows (c m : ℕ) (a b parent ord via : ℕ → ℕ) : Type 0 where
  pub down : Down parent
  pub joins : (j : ℕ) → 0 < j → j < c → Joined m a b (via j) (ord (parent j)) (ord j)

-- the way down to a node: over resistors other than p while P holds
way' : (c m : ℕ) (a b parent ord via : ℕ → ℕ) → Grows c m a b parent ord via → (p : ℕ) (P : ℕ → Type 0) → ((j : ℕ) → 0 < j → j < c → P j → (via j ≢ p) × P (parent j)) → (s j : ℕ) → j ≤ s → j < c → P j → FoundWithout m a b (ord 0) p (ord j)
way' c m a b parent ord via grows p P step s zero under below here = ([], refl, tt)
way' c m a b parent ord via grows p P step zero (suc j) under below here = absurd (omega arith)
way' c m a b parent ord via grows p P step (suc s) (suc j) under below here =
    let less = grows.down (suc j) (omega arith) in
    let steps = step (suc j) (omega arith) below here in
    let rest = way' c m a b parent ord via grows p P step s (parent (suc j)) (omega arith) (omega arith) steps.1 in
    (rest.0 ++ via (suc j) ∷ [], leads_on m a b (ord 0) rest.0 (ord (parent (suc j))) (via (suc j)) (ord (suc j)) rest.1 (grows.joins (suc j) (omega arith) below), avoids_on p rest.0 (via (suc j)) rest.2 steps.0)

pub way_without : (c m : ℕ) (a b parent ord via : ℕ → ℕ) → Grows c m a b parent ord via → (p : ℕ) → ((j : ℕ) → 0 < j → j < c → via j ≢ p) → (j : ℕ) → j < c → FoundWithout m a b (ord 0) p (ord j)
way_without c m a b parent ord via grows p apart j below =
    way' c m a b parent ord via grows p (λ k. Unit {0}) (λ k some k_below here. (apart k some k_below, tt)) j j (omega arith) below tt

pub way : (c m : ℕ) (a b parent ord via : ℕ → ℕ) → Grows c m a b parent ord via → (j : ℕ) → j < c → Found m a b (ord 0) (ord j)
way c m a b parent ord via grows j below =
    let found = way_without c m a b parent ord via grows m (λ k some k_below at. let joins = grows.joins k some k_below in let w : via k < m = joins.0 in let e : via k ≡ m = at in omega (arith, w, e)) j below in
    (found.0, found.1)

-- n nodes, each but the first joined to its parent, and each resistor so used, by the node link e
pub record Spans (n m : ℕ) (a b parent via link : ℕ → ℕ) : Type 0 where
  pub some : 0 < n
  pub down : Down parent
  pub joins : (j : ℕ) → 0 < j → j < n → Joined m a b (via j) (parent j) j
  pub links : (e : ℕ) → e < m → (0 < link e) × (link e < n) × (via (link e) ≡ e)
  pub vias : (j : ℕ) → 0 < j → j < n → link (via j) ≡ j

-- a resistor other than p leads from no node above which link p stands to one above which it does not, nor back
cut_keeps : (n m : ℕ) (a b parent via link : ℕ → ℕ) → Spans n m a b parent via link → (p : ℕ) → p < m → (e x y : ℕ) → e ≢ p → Joined m a b e x y → above parent 1 (link p) x ≡ 0 → above parent 1 (link p) y ≡ 0
cut_keeps n m a b parent via link spans p p_below e x y ne joined zero_x =
    let le = spans.links e joined.0 in
    let lp = spans.links p p_below in
    let j = link e in
    let same : above parent 1 (link p) j ≡ above parent 1 (link p) (parent j) =
    above_step parent spans.down (link p) j le.0 ∙ ap (λ o. o + above parent 1 (link p) (parent j)) (one-other (link p) j (λ at. ne (sym le.2 ∙ ap via (sym at) ∙ lp.2))) ∙ plain (above parent 1 (link p) (parent j)) in
    let ends = spans.joins j le.0 le.1 in
    turn j le.2 same ends.1 joined.1
  where
    plain : (z : ℕ) → 0 + z ≡ z
    plain z = omega arith

    P : ℕ → ℕ
    P k = above parent 1 (link p) k

    turn : (j : ℕ) → via j ≡ e → above parent 1 (link p) j ≡ above parent 1 (link p) (parent j) → ((a (via j) ≡ parent j) × (b (via j) ≡ j)) ⊎ ((b (via j) ≡ parent j) × (a (via j) ≡ j)) → ((a e ≡ x) × (b e ≡ y)) ⊎ ((b e ≡ x) × (a e ≡ y)) → above parent 1 (link p) y ≡ 0
    turn j is same ends xy = elim ends [
      | inl f ↦ elim xy [
        | inl g ↦ ap (λ k. above parent 1 (link p) k) (sym g.1 ∙ ap b (sym is) ∙ f.1) ∙ same ∙ ap (λ k. above parent 1 (link p) k) (sym f.0 ∙ ap a is ∙ g.0) ∙ zero_x
        | inr g ↦ ap (λ k. above parent 1 (link p) k) (sym g.1 ∙ ap a (sym is) ∙ f.0) ∙ sym same ∙ ap (λ k. above parent 1 (link p) k) (sym f.1 ∙ ap b is ∙ g.0) ∙ zero_x
      ]
      | inr f ↦ elim xy [
        | inl g ↦ ap (λ k. above parent 1 (link p) k) (sym g.1 ∙ ap b (sym is) ∙ f.0) ∙ sym same ∙ ap (λ k. above parent 1 (link p) k) (sym f.1 ∙ ap a is ∙ g.0) ∙ zero_x
        | inr g ↦ ap (λ k. above parent 1 (link p) k) (sym g.1 ∙ ap a (sym is) ∙ f.1) ∙ same ∙ ap (λ k. above parent 1 (link p) k) (sym f.0 ∙ ap b is ∙ g.0) ∙ zero_x
      ]
    ]

-- a node that is reached without p does not have link p above it
pub aside : (n m : ℕ) (a b parent via link : ℕ → ℕ) → Spans n m a b parent via link → (p : ℕ) → p < m → (i : ℕ) → FoundWithout m a b 0 p i → above parent 1 (link p) i ≡ 0
aside n m a b parent via link spans p p_below i found =
    leads_kept_aside (λ k. above parent 1 (link p) k ≡ 0) m a b p (λ e x y ne joined z. cut_keeps n m a b parent via link spans p p_below e x y ne joined z) 0 found.0 i found.1 found.2
    (let lp = spans.links p p_below in above_past parent spans.down 1 (link p) 0 (omega arith) lp.0)

-- and a node that does not is reached without p
pub aside_found : (n m : ℕ) (a b parent via link : ℕ → ℕ) → Spans n m a b parent via link → (p : ℕ) → p < m → (i : ℕ) → i < n → above parent 1 (link p) i ≡ 0 → FoundWithout m a b 0 p i
aside_found n m a b parent via link spans p p_below i below none =
    way' n m a b parent (λ j. j) via (record { down = spans.down; joins = spans.joins }) p (λ j. above parent 1 (link p) j ≡ 0) step i i (omega arith) below none
  where
    step : (j : ℕ) → 0 < j → j < n → above parent 1 (link p) j ≡ 0 → (via j ≢ p) × (above parent 1 (link p) (parent j) ≡ 0)
    step j some j_below z =
        let is = above_step parent spans.down (link p) j some in (
          (λ at. let self : above parent 1 (link p) j ≡ 1 = above_here parent 1 (link p) j (ap link (sym at) ∙ spans.vias j some j_below) in omega (arith, self, z)),
          omega (arith, is, z),
        )

-- each node is reached
pub spanned : (n m : ℕ) (a b parent via link : ℕ → ℕ) → Spans n m a b parent via link → (j : ℕ) → j < n → Found m a b 0 j
spanned n m a b parent via link spans j below = way n m a b parent (λ k. k) via (record { down = spans.down; joins = spans.joins }) j below
