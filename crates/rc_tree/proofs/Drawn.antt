-- A net whose nodes are numbered: what walks over numbers say of its walks.
use Rattle.std.proofs.Common.{◌≡◌, ℕ, ◌<◌, List, [], ◌∷◌, length, slice_get, Some, refl, sym, ◌∙◌, ap, subst, arith, inl, inr}
use Rattle.std.proofs.lemmas.Option.{same_Some, slice_get_within}
use Rattle.rc_tree.specs.NetElements.{NetResistor, NetElements}
use Rattle.rc_tree.specs.Walk.{Joins, IsWalk, Reached, ReachedWithout}
use Rattle.rc_tree.specs.Joins.{Joined}
use Rattle.rc_tree.proofs.Walks.{Leads, Found, FoundWithout}

-- The nodes of n numbers are f 0, f 1, .., the driver is the first, and the resistor at place e has its ends at a e and b e.
pub record Drawn {N : Type 0} (net : NetElements N) (f : ℕ → N) (n m : ℕ) (a b : ℕ → ℕ) : Type 0 where
  pub some : 0 < n
  pub driver : net.driver ≡ f 0
  pub count : length net.resistors ≡ m
  pub joints : (e : ℕ) → e < m → (r : NetResistor N) × (slice_get net.resistors e ≡ Some r) × (r.from ≡ f (a e)) × (r.to ≡ f (b e))
  pub within : (e : ℕ) → e < m → (a e < n) × (b e < n)
  pub one : (i j : ℕ) → i < n → j < n → f i ≡ f j → i ≡ j

pub joined_within : {N : Type 0} (net : NetElements N) (f : ℕ → N) (n m : ℕ) (a b : ℕ → ℕ) → Drawn net f n m a b → (e x y : ℕ) → Joined m a b e x y → y < n
joined_within net f n m a b drawn e x y joined =
    let ends = drawn.within e joined.0 in
    elim (joined.1) [ inl h ↦ subst (λ k. k < n) h.1 ends.1 | inr h ↦ subst (λ k. k < n) h.1 ends.0 ]

joins_of : {N : Type 0} (net : NetElements N) (f : ℕ → N) (n m : ℕ) (a b : ℕ → ℕ) → Drawn net f n m a b → (e x y : ℕ) → Joined m a b e x y → Joins net.resistors e (f x) (f y)
joins_of net f n m a b drawn e x y joined =
    let at = drawn.joints e joined.0 in (
      at.0,
      at.1,
      elim (joined.1) [
        | inl h ↦ inl (at.2 ∙ ap f h.0, at.3 ∙ ap f h.1)
        | inr h ↦ inr (at.3 ∙ ap f h.0, at.2 ∙ ap f h.1)
      ],
    )

pub write_walk : {N : Type 0} (net : NetElements N) (f : ℕ → N) (n m : ℕ) (a b : ℕ → ℕ) → Drawn net f n m a b → (x : ℕ) (es : List ℕ) (y : ℕ) → Leads m a b x es y → IsWalk net.resistors (f x) es (f y)
write_walk net f n m a b drawn x [] y leads = ap f leads
write_walk net f n m a b drawn x (e ∷ es) y leads =
    (f leads.0, joins_of net f n m a b drawn e x leads.0 leads.1, write_walk net f n m a b drawn leads.0 es y leads.2)

abbrev Reads : {N : Type 0} → NetElements N → (ℕ → N) → ℕ → ℕ → (ℕ → ℕ) → (ℕ → ℕ) → ℕ → List ℕ → N → Type 0
Reads net f n m a b x es w = (y : ℕ) × (y < n) × (w ≡ f y) × Leads m a b x es y

joined_of : {N : Type 0} (net : NetElements N) (f : ℕ → N) (n m : ℕ) (a b : ℕ → ℕ) → Drawn net f n m a b → (e x : ℕ) → x < n → (next : N) → Joins net.resistors e (f x) next → (z : ℕ) × (z < n) × (next ≡ f z) × Joined m a b e x z
joined_of {N} net f n m a b drawn e x below next joins =
    let inside : e < length net.resistors = slice_get_within net.resistors e joins.0 joins.1 in
    let e_below : e < m = let c = drawn.count in omega arith in
    let at = drawn.joints e e_below in
    let ends = drawn.within e e_below in
    let same : joins.0 ≡ at.0 = same_Some joins.0 at.0 (sym joins.1 ∙ at.1) in
    elim (joins.2) [
      | inl h ↦ (b e, ends.1, sym h.1 ∙ ap (λ r. r.to) same ∙ at.3, (e_below, inl (drawn.one (a e) x ends.0 below (sym at.2 ∙ ap (λ r. r.from) (sym same) ∙ h.0), refl)))
      | inr h ↦ (a e, ends.0, sym h.1 ∙ ap (λ r. r.from) same ∙ at.2, (e_below, inr (drawn.one (b e) x ends.1 below (sym at.3 ∙ ap (λ r. r.to) (sym same) ∙ h.0), refl)))
    ]

pub read_walk : {N : Type 0} (net : NetElements N) (f : ℕ → N) (n m : ℕ) (a b : ℕ → ℕ) → Drawn net f n m a b → (x : ℕ) → x < n → (es : List ℕ) (w : N) → IsWalk net.resistors (f x) es w → Reads net f n m a b x es w
read_walk net f n m a b drawn x below [] w walk = (x, below, sym walk, refl)
read_walk net f n m a b drawn x below (e ∷ es) w walk =
    let step = joined_of net f n m a b drawn e x below walk.0 walk.1 in
    let rest = read_walk net f n m a b drawn step.0 step.1 es w (subst (λ v. IsWalk net.resistors v es w) step.2 walk.2) in
    (rest.0, rest.1, rest.2, (step.0, step.3, rest.3))

-- what is reached by numbers is reached
pub write_found : {N : Type 0} (net : NetElements N) (f : ℕ → N) (n m : ℕ) (a b : ℕ → ℕ) → Drawn net f n m a b → (y : ℕ) → Found m a b 0 y → Reached net (f y)
write_found net f n m a b drawn y found =
    (found.0, subst (λ v. IsWalk net.resistors v found.0 (f y)) (sym drawn.driver) (write_walk net f n m a b drawn 0 found.0 y found.1))

pub write_found_without : {N : Type 0} (net : NetElements N) (f : ℕ → N) (n m : ℕ) (a b : ℕ → ℕ) → Drawn net f n m a b → (p y : ℕ) → FoundWithout m a b 0 p y → ReachedWithout net p (f y)
write_found_without net f n m a b drawn p y found =
    (found.0, subst (λ v. IsWalk net.resistors v found.0 (f y)) (sym drawn.driver) (write_walk net f n m a b drawn 0 found.0 y found.1), found.2)

-- and what is reached has a number that is
pub read_found : {N : Type 0} (net : NetElements N) (f : ℕ → N) (n m : ℕ) (a b : ℕ → ℕ) → Drawn net f n m a b → (w : N) → Reached net w → (y : ℕ) × (y < n) × (w ≡ f y) × Found m a b 0 y
read_found net f n m a b drawn w reached =
    let reads = read_walk net f n m a b drawn 0 drawn.some reached.0 w (subst (λ v. IsWalk net.resistors v reached.0 w) drawn.driver reached.1) in
    (reads.0, reads.1, reads.2, (reached.0, reads.3))

pub read_found_without : {N : Type 0} (net : NetElements N) (f : ℕ → N) (n m : ℕ) (a b : ℕ → ℕ) → Drawn net f n m a b → (p : ℕ) (w : N) → ReachedWithout net p w → (y : ℕ) × (y < n) × (w ≡ f y) × FoundWithout m a b 0 p y
read_found_without net f n m a b drawn p w reached =
    let reads = read_walk net f n m a b drawn 0 drawn.some reached.0 w (subst (λ v. IsWalk net.resistors v reached.0 w) drawn.driver reached.1) in
    (reads.0, reads.1, reads.2, (reached.0, reads.3, reached.2))

-- the same of a node whose number is known
pub read_at : {N : Type 0} (net : NetElements N) (f : ℕ → N) (n m : ℕ) (a b : ℕ → ℕ) → Drawn net f n m a b → (i : ℕ) → i < n → Reached net (f i) → Found m a b 0 i
read_at net f n m a b drawn i below reached =
    let found = read_found net f n m a b drawn (f i) reached in
    subst (λ k. Found m a b 0 k) (sym (drawn.one i found.0 below found.1 found.2)) found.3

pub read_without_at : {N : Type 0} (net : NetElements N) (f : ℕ → N) (n m : ℕ) (a b : ℕ → ℕ) → Drawn net f n m a b → (p i : ℕ) → i < n → ReachedWithout net p (f i) → FoundWithout m a b 0 p i
read_without_at net f n m a b drawn p i below reached =
    let found = read_found_without net f n m a b drawn p (f i) reached in
    subst (λ k. FoundWithout m a b 0 p k) (sym (drawn.one i found.0 below found.1 found.2)) found.3
