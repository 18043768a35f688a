-- The two passes over a tree: capacitances upward, delays downward.
use Rattle.std.proofs.Common.{◌≡◌, ℕ, suc, ◌+◌, ◌*◌, ◌<◌, ◌≤◌, sym, ◌∙◌, ap, arith, zero-mul, one-mul, mul-zero, mul_assoc, add-mul, mul-le-mul, le_trans, inl, inr}
use Rattle.std.proofs.lemmas.Bool.{cases_eq}
use Rattle.rc_tree.specs.Sums.{sum_below, one}
use Rattle.rc_tree.specs.TreeSums.{above, gathered, farads_below, delay_of, pair_sum}
use Rattle.rc_tree.proofs.Sums.{one-is, one-other, one-swap, sum_cong, sum_add, sum_mul, sum_mul_right, sum_swap, sum_pick, sum_le, sum_bound, sum_first}
use Rattle.rc_tree.proofs.Above.{Down, above_here, above_stop, above_most, above_carry, above_step}

-- before the first step each node has its own capacitance
pub gathered_none : (parent : ℕ → ℕ) (n : ℕ) (c : ℕ → ℕ) (i : ℕ) → i < n → gathered parent n c n i ≡ c i
gathered_none parent n c i below =
    sum_cong n (λ k. above parent n i k * c k) (λ k. one i k * c k) (λ k h. ap (λ o. o * c k) (self k h)) ∙ sum_pick n i c below
  where
    self : (k : ℕ) → k < n → above parent n i k ≡ one i k
    self k h = elim (cases_eq i k) [
      | inl e ↦ above_here parent n i k e ∙ sym (one-is i k e)
      | inr ne ↦ above_stop parent n i k ne h ∙ sym (one-other i k ne)
    ]

-- a step: the node j gives what it has to its parent
pub gathered_step : (parent : ℕ → ℕ) → Down parent → (n : ℕ) (c : ℕ → ℕ) (j i : ℕ) → 1 ≤ j → gathered parent n c j i ≡ gathered parent n c (suc j) i + one i (parent j) * gathered parent n c (suc j) j
gathered_step parent down n c j i some =
    sum_cong n (λ k. above parent j i k * c k) (λ k. above parent (suc j) i k * c k + one i (parent j) * (above parent (suc j) j k * c k))
    (λ k h. ap (λ a. a * c k) (above_carry parent down j i k some) ∙ add-mul (above parent (suc j) i k) (one i (parent j) * above parent (suc j) j k) (c k) ∙ ap (λ s. above parent (suc j) i k * c k + s) (mul_assoc (one i (parent j)) (above parent (suc j) j k) (c k)))
    ∙ sum_add n (λ k. above parent (suc j) i k * c k) (λ k. one i (parent j) * (above parent (suc j) j k * c k))
    ∙ ap (λ s. gathered parent n c (suc j) i + s) (sum_mul n (one i (parent j)) (λ k. above parent (suc j) j k * c k))

-- what comes to a node is no more than all that there is
pub gathered_most : (parent : ℕ → ℕ) → Down parent → (n : ℕ) (c : ℕ → ℕ) (j i : ℕ) → 1 ≤ j → gathered parent n c j i ≤ sum_below n c
gathered_most parent down n c j i some = sum_le n (λ k. above parent j i k * c k) c (λ k h.
    let most : above parent j i k * c k ≤ 1 * c k = mul-le-mul (above_most parent down j i k some) (let e : c k ≤ c k = omega arith in e) in
    let is = one-mul (c k) in omega arith)

-- the root has no delay
pub delay_root : (parent : ℕ → ℕ) → Down parent → (n : ℕ) (r c : ℕ → ℕ) → 0 < n → r 0 ≡ 0 → delay_of parent n r c 0 ≡ 0
delay_root parent down n r c some none =
    sum_cong n (λ e. above parent 1 e 0 * (r e * farads_below parent n c e)) (λ e. one 0 e * (r e * farads_below parent n c e)) (λ e h. ap (λ o. o * (r e * farads_below parent n c e)) (self e))
    ∙ sum_pick n 0 (λ e. r e * farads_below parent n c e) some ∙ ap (λ o. o * farads_below parent n c 0) none ∙ zero-mul (farads_below parent n c 0)
  where
    self : (e : ℕ) → above parent 1 e 0 ≡ one 0 e
    self e = elim (cases_eq e 0) [
      | inl at ↦ above_here parent 1 e 0 at ∙ sym (one-is 0 e (sym at))
      | inr off ↦ above_stop parent 1 e 0 off (omega arith) ∙ sym (one-other 0 e (λ at. off (sym at)))
    ]

-- a node has its parent's delay and its own resistance times the capacitance below it
pub delay_step : (parent : ℕ → ℕ) → Down parent → (n : ℕ) (r c : ℕ → ℕ) (j : ℕ) → 0 < j → j < n → delay_of parent n r c j ≡ delay_of parent n r c (parent j) + r j * farads_below parent n c j
delay_step parent down n r c j some below =
    let g : ℕ → ℕ = λ e. r e * farads_below parent n c e in
    sum_cong n (λ e. above parent 1 e j * g e) (λ e. above parent 1 e (parent j) * g e + one j e * g e)
    (λ e h. ap (λ o. o * g e) (above_step parent down e j some) ∙ add-mul (one e j) (above parent 1 e (parent j)) (g e) ∙ swap (one e j * g e) (above parent 1 e (parent j) * g e) ∙ ap (λ o. above parent 1 e (parent j) * g e + o * g e) (one-swap e j))
    ∙ sum_add n (λ e. above parent 1 e (parent j) * g e) (λ e. one j e * g e)
    ∙ ap (λ s. delay_of parent n r c (parent j) + s) (sum_pick n j g below)
  where
    swap : (x y : ℕ) → x + y ≡ y + x
    swap x y = omega arith

-- the sum over the resistors on the way is the sum over pairs
pub delay_pairs : (parent : ℕ → ℕ) (n : ℕ) (r c : ℕ → ℕ) (i : ℕ) → delay_of parent n r c i ≡ pair_sum parent n r c i
delay_pairs parent n r c i =
    sum_cong n (λ e. above parent 1 e i * (r e * farads_below parent n c e)) (λ e. sum_below n (λ k. above parent 1 e i * above parent 1 e k * r e * c k))
    (λ e h. sym (mul_assoc (above parent 1 e i) (r e) (farads_below parent n c e)) ∙ sym (sum_mul n (above parent 1 e i * r e) (λ k. above parent 1 e k * c k))
    ∙ sum_cong n (λ k. above parent 1 e i * r e * (above parent 1 e k * c k)) (λ k. above parent 1 e i * above parent 1 e k * r e * c k) (λ k h'. turn (above parent 1 e i) (r e) (above parent 1 e k) (c k)))
    ∙ sum_swap n n (λ e k. above parent 1 e i * above parent 1 e k * r e * c k)
    ∙ sum_cong n (λ k. sum_below n (λ e. above parent 1 e i * above parent 1 e k * r e * c k)) (λ k. sum_below n (λ e. above parent 1 e i * above parent 1 e k * r e) * c k)
    (λ k h. sum_mul_right n (c k) (λ e. above parent 1 e i * above parent 1 e k * r e))
  where
    turn : (a r b c : ℕ) → a * r * (b * c) ≡ a * b * r * c
    turn a r b c = omega arith

-- no delay is past the product of how many resistors there are, the largest of them and all capacitance
pub delay_most : (parent : ℕ → ℕ) → Down parent → (n : ℕ) (r c : ℕ → ℕ) (ohms farads i : ℕ) → r 0 ≡ 0 → ((j : ℕ) → j < suc n → r j ≤ ohms) → sum_below (suc n) c ≤ farads → delay_of parent (suc n) r c i ≤ n * (ohms * farads)
delay_most parent down n r c ohms farads i none small_r small_c =
    let g : ℕ → ℕ = λ e. above parent 1 e i * (r e * farads_below parent (suc n) c e) in
    let first : g 0 ≡ 0 = ap (λ o. above parent 1 0 i * (o * farads_below parent (suc n) c 0)) none ∙ ap (λ o. above parent 1 0 i * o) (zero-mul (farads_below parent (suc n) c 0)) ∙ mul-zero (above parent 1 0 i) in
    let rest : sum_below n (λ k. g (k + 1)) ≤ n * (ohms * farads) = sum_bound n (ohms * farads) (λ k. g (k + 1)) (λ k h. term (k + 1) (omega arith)) in
    let is : sum_below (suc n) g ≡ g 0 + sum_below n (λ k. g (k + 1)) = sum_first n g in
    omega (arith, first, rest, is)
  where
    term : (e : ℕ) → e < suc n → above parent 1 e i * (r e * farads_below parent (suc n) c e) ≤ ohms * farads
    term e h =
        let inner : r e * farads_below parent (suc n) c e ≤ ohms * farads = mul-le-mul (small_r e h) (le_trans (gathered_most parent down (suc n) c 1 e (omega arith)) small_c) in
        let outer : above parent 1 e i * (r e * farads_below parent (suc n) c e) ≤ 1 * (ohms * farads) = mul-le-mul (above_most parent down 1 e i (omega arith)) inner in
        let is = one-mul (ohms * farads) in omega arith
