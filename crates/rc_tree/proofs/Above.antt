-- The way up from a node of a tree whose parents come before their children.
use Rattle.std.proofs.Common.{◌≡◌, ◌≢◌, ℕ, zero, suc, ◌+◌, ◌*◌, ◌<◌, ◌≤◌, ◌==◌, ◌⊎◌, nat_lt, false, if◌then◌else◌, sym, ◌∙◌, ap, ap₂, arith, eq-eqb, lt-ltb, le-ltb, zero-mul, mul-one, mul-zero, inl, inr}
use Rattle.std.proofs.lemmas.Bool.{cases_eq}
use Rattle.std.proofs.lemmas.Bool.Decides.{eqb_tells}
use Rattle.rc_tree.specs.Sums.{one}
use Rattle.rc_tree.specs.TreeSums.{up, above}
use Rattle.rc_tree.proofs.Sums.{one-is, one-other, le-or-lt}

-- each node but the first has a parent before it
abbrev pub Down : (ℕ → ℕ) → Type 0
Down parent = (node : ℕ) → 0 < node → parent node < node

differs : (i k : ℕ) → i ≢ k → (i == k) ≡ false
differs i k ne = elim (eqb_tells i k) [ inl h ↦ absurd (ne h.1) | inr h ↦ h.0 ]

up_here : (parent : ℕ → ℕ) (least i s k : ℕ) → i ≡ k → up parent least i s k ≡ 1
up_here parent least i zero k e = one-is i k e
up_here parent least i (suc s) k e = ap (λ b. if b then 1 else (if nat_lt k least then 0 else up parent least i s (parent k))) (eq-eqb i k e)

up_stop : (parent : ℕ → ℕ) (least i s k : ℕ) → i ≢ k → k < least → up parent least i s k ≡ 0
up_stop parent least i zero k ne low = one-other i k ne
up_stop parent least i (suc s) k ne low =
    ap (λ b. if b then 1 else (if nat_lt k least then 0 else up parent least i s (parent k))) (differs i k ne)
    ∙ ap (λ b. if b then 0 else up parent least i s (parent k)) (lt-ltb k least low)

up_go : (parent : ℕ → ℕ) (least i s k : ℕ) → i ≢ k → least ≤ k → up parent least i (suc s) k ≡ up parent least i s (parent k)
up_go parent least i s k ne high =
    ap (λ b. if b then 1 else (if nat_lt k least then 0 else up parent least i s (parent k))) (differs i k ne)
    ∙ ap (λ b. if b then 0 else up parent least i s (parent k)) (le-ltb k least high)

-- the count of steps does not matter
up_fuel : (parent : ℕ → ℕ) → Down parent → (least i : ℕ) → 1 ≤ least → (s t k : ℕ) → k ≤ s → k ≤ t → up parent least i s k ≡ up parent least i t k
up_fuel parent down least i some zero t k under under' = elim (cases_eq i k) [
  | inl e ↦ up_here parent least i zero k e ∙ sym (up_here parent least i t k e)
  | inr ne ↦ up_stop parent least i zero k ne (omega arith) ∙ sym (up_stop parent least i t k ne (omega arith))
]
up_fuel parent down least i some (suc s) zero k under under' = elim (cases_eq i k) [
  | inl e ↦ up_here parent least i (suc s) k e ∙ sym (up_here parent least i zero k e)
  | inr ne ↦ up_stop parent least i (suc s) k ne (omega arith) ∙ sym (up_stop parent least i zero k ne (omega arith))
]
up_fuel parent down least i some (suc s) (suc t) k under under' = elim (cases_eq i k) [
  | inl e ↦ up_here parent least i (suc s) k e ∙ sym (up_here parent least i (suc t) k e)
  | inr ne ↦ elim (le-or-lt least k) [
    | inl high ↦ let less = down k (omega arith) in
        up_go parent least i s k ne high ∙ up_fuel parent down least i some s t (parent k) (omega arith) (omega arith) ∙ sym (up_go parent least i t k ne high)
    | inr low ↦ up_stop parent least i (suc s) k ne low ∙ sym (up_stop parent least i (suc t) k ne low)
  ]
]

pub above_here : (parent : ℕ → ℕ) (least i k : ℕ) → i ≡ k → above parent least i k ≡ 1
above_here parent least i k e = up_here parent least i k k e

pub above_stop : (parent : ℕ → ℕ) (least i k : ℕ) → i ≢ k → k < least → above parent least i k ≡ 0
above_stop parent least i k ne low = up_stop parent least i k k ne low

pub above_go : (parent : ℕ → ℕ) → Down parent → (least i k : ℕ) → 1 ≤ least → i ≢ k → least ≤ k → above parent least i k ≡ above parent least i (parent k)
above_go parent down least i zero some ne high = absurd (omega arith)
above_go parent down least i (suc k) some ne high =
    let less = down (suc k) (omega arith) in
    up_go parent least i k (suc k) ne high ∙ up_fuel parent down least i some k (parent (suc k)) (parent (suc k)) (omega arith) (omega arith)

-- a node does not stand above one before it
above_past' : (parent : ℕ → ℕ) → Down parent → (least i b k : ℕ) → 1 ≤ least → k ≤ b → k < i → above parent least i k ≡ 0
above_past' parent down least i zero k some within before = above_stop parent least i k (let ne : i ≢ k = omega arith in ne) (omega arith)
above_past' parent down least i (suc b) k some within before =
    let ne : i ≢ k = omega arith in
    elim (le-or-lt least k) [
      | inl high ↦ let less = down k (omega arith) in above_go parent down least i k some ne high ∙ above_past' parent down least i b (parent k) some (omega arith) (omega arith)
      | inr low ↦ above_stop parent least i k ne low
    ]

pub above_past : (parent : ℕ → ℕ) → Down parent → (least i k : ℕ) → 1 ≤ least → k < i → above parent least i k ≡ 0
above_past parent down least i k some before = above_past' parent down least i k k some (omega arith) before

above_cases' : (parent : ℕ → ℕ) → Down parent → (least i b k : ℕ) → 1 ≤ least → k ≤ b → (above parent least i k ≡ 0) ⊎ (above parent least i k ≡ 1)
above_cases' parent down least i zero k some within = elim (cases_eq i k) [
  | inl e ↦ inr (above_here parent least i k e)
  | inr ne ↦ inl (above_stop parent least i k ne (omega arith))
]
above_cases' parent down least i (suc b) k some within = elim (cases_eq i k) [
  | inl e ↦ inr (above_here parent least i k e)
  | inr ne ↦ elim (le-or-lt least k) [
    | inl high ↦ let less = down k (omega arith) in elim (above_cases' parent down least i b (parent k) some (omega arith)) [
      | inl z ↦ inl (above_go parent down least i k some ne high ∙ z)
      | inr w ↦ inr (above_go parent down least i k some ne high ∙ w)
    ]
    | inr low ↦ inl (above_stop parent least i k ne low)
  ]
]

-- above or not
pub above_cases : (parent : ℕ → ℕ) → Down parent → (least i k : ℕ) → 1 ≤ least → (above parent least i k ≡ 0) ⊎ (above parent least i k ≡ 1)
above_cases parent down least i k some = above_cases' parent down least i k k some (omega arith)

pub above_most : (parent : ℕ → ℕ) → Down parent → (least i k : ℕ) → 1 ≤ least → above parent least i k ≤ 1
above_most parent down least i k some = elim (above_cases parent down least i k some) [ inl z ↦ omega arith | inr w ↦ omega arith ]

-- one more node gives to its parent
abbrev Carries : (ℕ → ℕ) → ℕ → ℕ → ℕ → Type 0
Carries parent j i k = above parent j i k ≡ above parent (suc j) i k + one i (parent j) * above parent (suc j) j k

carry_at : (parent : ℕ → ℕ) → Down parent → (j i k : ℕ) → 1 ≤ j → (suc j ≤ k → Carries parent j i (parent k)) → Carries parent j i k
carry_at parent down j i k some deeper =
    let down_j = down j some in
    elim (cases_eq i k) [
      | inl e ↦ elim (cases_eq i (parent j)) [
        | inl at ↦
            let past : above parent (suc j) j k ≡ 0 = above_past parent down (suc j) j k (omega arith) (omega arith) in
            here e ∙ sym (plus_zero _ _ (above_here parent (suc j) i k e) (ap (λ z. one i (parent j) * z) past ∙ mul-zero (one i (parent j))))
        | inr off ↦ here e ∙ sym (plus_zero _ _ (above_here parent (suc j) i k e) (ap (λ z. z * above parent (suc j) j k) (one-other i (parent j) off) ∙ zero-mul (above parent (suc j) j k)))
      ]
      | inr ne ↦ elim (cases_eq k j) [
        | inl at ↦
            let ne' : i ≢ k = ne in
            let go : above parent j i k ≡ above parent j i (parent k) = above_go parent down j i k some ne (omega arith) in
            let same : parent k ≡ parent j = ap parent at in
            let end : above parent j i (parent k) ≡ one i (parent j) = last (parent k) same (omega arith) in
            let stop : above parent (suc j) i k ≡ 0 = above_stop parent (suc j) i k ne (omega arith) in
            let self : above parent (suc j) j k ≡ 1 = above_here parent (suc j) j k (sym at) in
            go ∙ end ∙ sym (zero_plus _ _ stop (ap (λ z. one i (parent j) * z) self ∙ mul-one (one i (parent j))))
        | inr off ↦
            let off' : k ≢ j = off in
            let off'' : j ≢ k = λ e. off (sym e) in
            elim (le-or-lt (suc j) k) [
              | inl high ↦
                  above_go parent down j i k some ne (omega arith)
                  ∙ deeper high
                  ∙ ap₂ (λ x y. x + one i (parent j) * y) (sym (above_go parent down (suc j) i k (omega arith) ne high)) (sym (above_go parent down (suc j) j k (omega arith) off'' high))
              | inr low ↦
                  let under : k < j = omega arith in
                  above_stop parent j i k ne under
                  ∙ sym (zero_plus _ 0 (above_stop parent (suc j) i k ne (omega arith)) (ap (λ z. one i (parent j) * z) (above_stop parent (suc j) j k off'' (omega arith)) ∙ mul-zero (one i (parent j))))
            ]
      ]
    ]
  where
    here : i ≡ k → above parent j i k ≡ 1
    here e = above_here parent j i k e

    plus_zero : (x y : ℕ) → x ≡ 1 → y ≡ 0 → x + y ≡ 1
    plus_zero x y ex ey = omega arith

    zero_plus : (x y : ℕ) {z : ℕ} → x ≡ 0 → z ≡ y → x + z ≡ y
    zero_plus x y ex ey = omega arith

    last : (at : ℕ) → at ≡ parent j → at < j → above parent j i at ≡ one i (parent j)
    last at e before = elim (cases_eq i at) [
      | inl s ↦ above_here parent j i at s ∙ sym (one-is i (parent j) (s ∙ e))
      | inr n ↦ above_stop parent j i at n before ∙ sym (one-other i (parent j) (λ s. n (s ∙ sym e)))
    ]

above_carry' : (parent : ℕ → ℕ) → Down parent → (j i b k : ℕ) → 1 ≤ j → k ≤ b → Carries parent j i k
above_carry' parent down j i zero k some within = carry_at parent down j i k some (λ high. absurd (omega arith))
above_carry' parent down j i (suc b) k some within = carry_at parent down j i k some (λ high. let less = down k (omega arith) in above_carry' parent down j i b (parent k) some (omega arith))

pub above_carry : (parent : ℕ → ℕ) → Down parent → (j i k : ℕ) → 1 ≤ j → above parent j i k ≡ above parent (suc j) i k + one i (parent j) * above parent (suc j) j k
above_carry parent down j i k some = above_carry' parent down j i k k some (omega arith)

-- the way up from a node is the node and the way up from its parent
pub above_step : (parent : ℕ → ℕ) → Down parent → (i k : ℕ) → 0 < k → above parent 1 i k ≡ one i k + above parent 1 i (parent k)
above_step parent down i k some = let less = down k some in elim (cases_eq i k) [
  | inl e ↦ let past = above_past parent down 1 i (parent k) (omega arith) (omega arith) in let is = one-is i k e in let self = above_here parent 1 i k e in omega arith
  | inr ne ↦ let go = above_go parent down 1 i k (omega arith) ne (omega arith) in let off = one-other i k ne in omega arith
]
