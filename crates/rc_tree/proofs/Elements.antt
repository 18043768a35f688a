-- The Elmore delays of a net that is a tree, by its nodes' numbers.
use Rattle.std.proofs.Common.{◌≡◌, ◌≢◌, ℕ, suc, ◌+◌, ◌*◌, ◌<◌, ◌≤◌, ◌==◌, nat_lt, ◌⊎◌, Bool, true, not, ◌&&◌, ◌||◌, if◌then◌else◌, List, [], ◌∷◌, length, slice_get, Some, sum_by, Decides, refl, sym, ◌∙◌, ap, ap₂, subst, arith, zero-mul, one-mul, mul-zero, lt-ltb, le-ltb, inl, inr, true≢false}
use Rattle.std.specs.List.{enumerate_from}
use Rattle.std.proofs.lemmas.Bool.{cases_eq, cases_lt}
use Rattle.std.proofs.lemmas.Option.{slice_get_within}
use Rattle.std.proofs.lemmas.List.Sums.{sum_by-cons}
use Rattle.rc_tree.specs.NetElements.{NetResistor, NetElements}
use Rattle.rc_tree.specs.Walk.{ReachedWithout}
use Rattle.rc_tree.specs.RcTree.{CutsOff}
use Rattle.rc_tree.specs.Elmore.{TellsCuts, shared_resistance, IsElmore}
use Rattle.rc_tree.specs.NetLoad.{net_load}
use Rattle.rc_tree.specs.Sums.{sum_below, one}
use Rattle.rc_tree.specs.TreeSums.{above, pair_sum}
use Rattle.rc_tree.proofs.Sums.{one-is, one-other, sum_cong, sum_swap, sum_pick, sum_zero, sum_first}
use Rattle.rc_tree.proofs.Above.{above_cases}
use Rattle.rc_tree.proofs.Walks.{Spans, aside, aside_found}
use Rattle.rc_tree.proofs.Drawn.{Drawn, write_found_without, read_found_without, read_without_at}

-- a sum over the elements of a list and their places
pub sum_places : {X : Type 0} (g : ℕ → X → ℕ) (f : ℕ → ℕ) (k : ℕ) (xs : List X) → ((e : ℕ) (x : X) → slice_get xs e ≡ Some x → g (k + e) x ≡ f (k + e)) → sum_by (λ at. g at.0 at.1) (enumerate_from k xs) ≡ sum_below (length xs) (λ e. f (k + e))
sum_places g f k [] each = refl
sum_places g f k (x ∷ xs) each =
    let here : g k x ≡ f (k + 0) = (let e : k ≡ k + 0 = omega arith in ap (λ j. g j x) e) ∙ each 0 x refl in
    let later = sum_places g f (k + 1) xs (λ e y at. let place : k + 1 + e ≡ k + suc e = omega arith in ap (λ j. g j y) place ∙ each (suc e) y at ∙ ap f (sym place)) in
    sum_by-cons (λ at. g at.0 at.1) (k, x) (enumerate_from (k + 1) xs) ∙ ap₂ ◌+◌ here later
    ∙ ap (λ s. f (k + 0) + s) (sum_cong (length xs) (λ e. f (k + 1 + e)) (λ e. f (k + (e + 1))) (λ e h. ap f (let place : k + 1 + e ≡ k + (e + 1) = omega arith in place)))
    ∙ sym (sum_first (length xs) (λ e. f (k + e)))

pub sum_all_places : {X : Type 0} (g : ℕ → X → ℕ) (f : ℕ → ℕ) (xs : List X) → ((e : ℕ) (x : X) → slice_get xs e ≡ Some x → g e x ≡ f e) → sum_by (λ at. g at.0 at.1) (enumerate_from 0 xs) ≡ sum_below (length xs) f
sum_all_places g f xs each =
    sum_places g f 0 xs (λ e x at. subst (λ d. g d x ≡ f d) (sym (plain e)) (each e x at)) ∙ sum_cong (length xs) (λ e. f (0 + e)) f (λ e h. ap f (plain e))
  where
    plain : (e : ℕ) → 0 + e ≡ e
    plain e = omega arith

-- a sum over the resistors is one over the nodes that they link, where the first node has nothing
pub sum_links : (n m : ℕ) (via link : ℕ → ℕ) → ((e : ℕ) → e < m → (0 < link e) × (link e < n) × (via (link e) ≡ e)) → ((j : ℕ) → 0 < j → j < n → (via j < m) × (link (via j) ≡ j)) → (g : ℕ → ℕ) → g 0 ≡ 0 → sum_below m (λ e. g (link e)) ≡ sum_below n g
sum_links n m via link links vias g none =
    sum_cong m (λ e. g (link e)) (λ e. sum_below n (λ j. one (link e) j * g j)) (λ e h. let l = links e h in sym (sum_pick n (link e) g l.1))
    ∙ sum_swap m n (λ e j. one (link e) j * g j)
    ∙ sum_cong n (λ j. sum_below m (λ e. one (link e) j * g j)) g (λ j h. elim (cases_eq j 0) [
      | inl z ↦ sum_zero m (λ e. one (link e) j * g j) (λ e h'. ap (λ o. one (link e) j * o) (ap g z ∙ none) ∙ mul-zero (one (link e) j)) ∙ sym (ap g z ∙ none)
      | inr nz ↦ let nz' : j ≢ 0 = nz in let v = vias j (omega arith) h in
          sum_cong m (λ e. one (link e) j * g j) (λ e. one (via j) e * g j) (λ e h'. ap (λ o. o * g j) (turn e j (links e h').2 v.1))
          ∙ sum_pick m (via j) (λ e. g j) v.0
    ])
  where
    turn : (e j : ℕ) → via (link e) ≡ e → link (via j) ≡ j → one (link e) j ≡ one (via j) e
    turn e j le lj = elim (cases_eq (via j) e) [
      | inl at ↦ one-is (link e) j (ap link (sym at) ∙ lj) ∙ sym (one-is (via j) e at)
      | inr off ↦ one-other (link e) j (λ at. off (ap via (sym at) ∙ le)) ∙ sym (one-other (via j) e off)
    ]

-- The test: a node without a number is cut off by each resistor.
abbrev pub cuts_at : (ℕ → ℕ) → (ℕ → ℕ) → ℕ → ℕ → ℕ → Bool
cuts_at parent link n e i = not (nat_lt i n) || (above parent 1 (link e) i == 1)

cuts_in : (parent link : ℕ → ℕ) (n e i : ℕ) → i < n → cuts_at parent link n e i ≡ (above parent 1 (link e) i == 1)
cuts_in parent link n e i below = ap (λ b. not b || (above parent 1 (link e) i == 1)) (lt-ltb i n below)

cuts_out : (parent link : ℕ → ℕ) (n e i : ℕ) → n ≤ i → cuts_at parent link n e i ≡ true
cuts_out parent link n e i past = ap (λ b. not b || (above parent 1 (link e) i == 1)) (le-ltb i n past)

-- The numbers of nodes, read back: what is no node has a number past all.
pub record Numbered {N : Type 0} (f : ℕ → N) (n : ℕ) (number : N → ℕ) : Type 0 where
  pub there : (i : ℕ) → i < n → number (f i) ≡ i
  pub back : (v : N) → number v < n → f (number v) ≡ v

abbrev pub Elected : {N : Type 0} → NetElements N → (ℕ → N) → ℕ → ℕ → (ℕ → ℕ) → (ℕ → ℕ) → (ℕ → ℕ) → (ℕ → ℕ) → (ℕ → ℕ) → (N → ℕ) → Type 0
Elected net f n m a b parent via link number = Drawn net f n m a b × Spans n m a b parent via link × Numbered f n number

pub tells : {N : Type 0} (net : NetElements N) (f : ℕ → N) (n m : ℕ) (a b parent via link : ℕ → ℕ) (number : N → ℕ) → Drawn net f n m a b → Spans n m a b parent via link → Numbered f n number → TellsCuts net (λ e v. cuts_at parent link n e (number v))
tells {N} net f n m a b parent via link number drawn spans numbered e v e_below =
    let e_below' : e < m = let c = drawn.count in omega arith in
    elim (cases_lt (number v) n) [
      | inl below ↦ inside e_below' below
      | inr past ↦ (
        (λ yes reached.
            let found = read_found_without net f n m a b drawn e v reached in
            let is : number v ≡ found.0 = ap number found.2 ∙ numbered.there found.0 found.1 in
            let w = found.1 in omega (arith, is, w, past)),
        (λ cut. cuts_out parent link n e (number v) past),
      )
    ]
  where
    inside : e < m → number v < n → Decides (cuts_at parent link n e (number v)) (CutsOff net e v)
    inside e_below' below = elim (above_cases parent spans.down 1 (link e) (number v) (omega arith)) [
      | inl z ↦ (
        (λ yes. absurd (true≢false (sym yes ∙ cuts_in parent link n e (number v) below ∙ ap (λ o. o == 1) z))),
        (λ cut. absurd (cut (subst (λ w. ReachedWithout net e w) (numbered.back v below) (write_found_without net f n m a b drawn e (number v) (aside_found n m a b parent via link spans e e_below' (number v) below z))))),
      )
      | inr w ↦ (
        (λ yes reached.
            let found = read_without_at net f n m a b drawn e (number v) below (subst (λ u. ReachedWithout net e u) (sym (numbered.back v below)) reached) in
            let z = aside n m a b parent via link spans e e_below' (number v) found in
            omega (arith, z, w)),
        (λ cut. cuts_in parent link n e (number v) below ∙ ap (λ o. o == 1) w),
      )
    ]

-- The values of a net whose nodes have numbers: r j is the resistance between j and its parent, c j the capacitance at j.
pub record Weighs {N : Type 0} (net : NetElements N) (f : ℕ → N) (n : ℕ) (via r c : ℕ → ℕ) : Type 0 where
  pub none : r 0 ≡ 0
  pub ohms : (j : ℕ) → 0 < j → j < n → (x : NetResistor N) → slice_get net.resistors (via j) ≡ Some x → x.ohms ≡ r j
  pub caps : (h : N → ℕ) → sum_by (λ at. h at.node * at.farads) net.capacitances ≡ sum_below n (λ j. h (f j) * c j)
  pub load : net_load net ≡ sum_below n c

shares_as : (parent link : ℕ → ℕ) → ((l i : ℕ) → (above parent 1 l i ≡ 0) ⊎ (above parent 1 l i ≡ 1)) → (n e i k : ℕ) → i < n → k < n → (ohms r : ℕ) → ohms ≡ r → (if cuts_at parent link n e i && cuts_at parent link n e k then ohms else 0) ≡ above parent 1 (link e) i * above parent 1 (link e) k * r
shares_as parent link cases n e i k i_below k_below ohms r is =
    ap₂ (λ s t. if s && t then ohms else 0) (cuts_in parent link n e i i_below) (cuts_in parent link n e k k_below)
    ∙ elim (cases (link e) i) [
      | inl z ↦ ap (λ o. if (o == 1) && (above parent 1 (link e) k == 1) then ohms else 0) z ∙ sym (ap (λ o. o * above parent 1 (link e) k * r) z ∙ ap (λ o. o * r) (zero-mul (above parent 1 (link e) k)) ∙ zero-mul r)
      | inr w ↦ ap (λ o. if (o == 1) && (above parent 1 (link e) k == 1) then ohms else 0) w
          ∙ elim (cases (link e) k) [
            | inl z ↦ ap (λ o. if o == 1 then ohms else 0) z ∙ sym (ap (λ o. above parent 1 (link e) i * o * r) z ∙ ap (λ o. o * r) (mul-zero (above parent 1 (link e) i)) ∙ zero-mul r)
            | inr v ↦ ap (λ o. if o == 1 then ohms else 0) v ∙ is ∙ sym (ap₂ (λ o u. o * u * r) w v ∙ ap (λ o. o * r) (one-mul 1) ∙ one-mul r)
          ]
    ]

pub shared_is : {N : Type 0} (net : NetElements N) (f : ℕ → N) (n m : ℕ) (a b parent via link r c : ℕ → ℕ) (number : N → ℕ) → Drawn net f n m a b → Spans n m a b parent via link → Numbered f n number → Weighs net f n via r c → (i k : ℕ) → i < n → k < n → shared_resistance (λ e v. cuts_at parent link n e (number v)) net (f i) (f k) ≡ sum_below n (λ j. above parent 1 j i * above parent 1 j k * r j)
shared_is {N} net f n m a b parent via link r c number drawn spans numbered weighs i k i_below k_below =
    sum_all_places (λ e x. if cuts_at parent link n e (number (f i)) && cuts_at parent link n e (number (f k)) then x.ohms else 0) (λ e. g (link e)) net.resistors
    (λ e x at.
    let at' : slice_get net.resistors e ≡ Some x = at in
    let e_below : e < m = (let inside = slice_get_within net.resistors e x at' in let count = drawn.count in omega arith) in
    let l = spans.links e e_below in
    let ohms : x.ohms ≡ r (link e) = weighs.ohms (link e) l.0 l.1 x (ap (slice_get net.resistors) l.2 ∙ at') in
    (ap₂ (λ p q. if cuts_at parent link n e p && cuts_at parent link n e q then x.ohms else 0) (numbered.there i i_below) (numbered.there k k_below)
    ∙ shares_as parent link (λ l p. above_cases parent spans.down 1 l p (omega arith)) n e i k i_below k_below x.ohms (r (link e)) ohms))
    ∙ ap (λ q. sum_below q (λ e. g (link e))) drawn.count
    ∙ sum_links n m via link (λ e h. spans.links e h) (λ j some below. (let joins = spans.joins j some below in joins.0, spans.vias j some below)) g
    (ap (λ o. above parent 1 0 i * above parent 1 0 k * o) weighs.none ∙ mul-zero (above parent 1 0 i * above parent 1 0 k))
  where
    g : ℕ → ℕ
    g j = above parent 1 j i * above parent 1 j k * r j

-- the Elmore delay of a node
pub elmore_is : {N : Type 0} (net : NetElements N) (f : ℕ → N) (n m : ℕ) (a b parent via link r c : ℕ → ℕ) (number : N → ℕ) → Drawn net f n m a b → Spans n m a b parent via link → Numbered f n number → Weighs net f n via r c → (i : ℕ) → i < n → IsElmore net (f i) (pair_sum parent n r c i)
elmore_is net f n m a b parent via link r c number drawn spans numbered weighs i below = record {
  cuts = λ e v. cuts_at parent link n e (number v);
  tells = tells net f n m a b parent via link number drawn spans numbered;
  sum = sym (
      weighs.caps (λ v. shared_resistance (λ e w. cuts_at parent link n e (number w)) net (f i) v)
      ∙ sum_cong n (λ k. shared_resistance (λ e w. cuts_at parent link n e (number w)) net (f i) (f k) * c k) (λ k. sum_below n (λ j. above parent 1 j i * above parent 1 j k * r j) * c k)
      (λ k h. ap (λ o. o * c k) (shared_is net f n m a b parent via link r c number drawn spans numbered weighs i k below h)));
}
