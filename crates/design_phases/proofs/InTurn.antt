-- Answers in turn: the first so many are values, and the next may stop. Where each has one answer, so have they all.
use Rattle.std.proofs.Common.{◌≡◌, ℕ, suc, ◌<◌, List, [], ◌∷◌, length, slice_get, Some, Result, Ok, Err, refl, sym, ap₂, ◌∙◌, subst, arith}
use Rattle.refusals.proofs.Places.{got_below}

-- lists that agree place by place are one
all_alike : {X : Type 0} (xs ys : List X) → length xs ≡ length ys → ((k : ℕ) (x y : X) → slice_get xs k ≡ Some x → slice_get ys k ≡ Some y → x ≡ y) → xs ≡ ys
all_alike [] [] same each = refl
all_alike [] (y ∷ ys) same each = absurd (omega (arith, same))
all_alike (x ∷ xs) [] same each = absurd (omega (arith, same))
all_alike (x ∷ xs) (y ∷ ys) same each = ap₂ (λ z zs. z ∷ zs) (each 0 x y refl refl) (all_alike xs ys (omega (arith, same)) (λ k. each (suc k)))

module _ {X E : Type 0} (Answers : ℕ → Result X E → Type 0) (one_answer : (k : ℕ) (one other : Result X E) → Answers k one → Answers k other → one ≡ other) where
  pub record AreFirst (count : ℕ) (xs : List X) : Type 0 where
    pub counted : length xs ≡ count
    pub each : (k : ℕ) (x : X) → slice_get xs k ≡ Some x → Answers k (Ok x)

  one_value : (k : ℕ) (x y : X) → Answers k (Ok x) → Answers k (Ok y) → x ≡ y
  one_value k x y r s = let same = one_answer k (Ok x) (Ok y) r s in cc

  value_or_not : (k : ℕ) (x : X) (why : E) → Answers k (Ok x) → Answers k (Err why) → ⊥
  value_or_not k x why r s = let same = one_answer k (Ok x) (Err why) r s in cc

  pub one_front : (count : ℕ) (xs ys : List X) → AreFirst count xs → AreFirst count ys → xs ≡ ys
  one_front count xs ys r s = all_alike xs ys (r.counted ∙ sym s.counted) (λ k x y a b. one_value k x y (r.each k x a) (s.each k y b))

  pub not_within : (count k : ℕ) (xs : List X) (why : E) → AreFirst count xs → k < count → Answers k (Err why) → ⊥
  not_within count k xs why first below stops =
      let counted = first.counted in
      let got = got_below xs k (omega (arith, below, counted)) in
      value_or_not k got.0 why (first.each k got.0 got.1) stops

  one_stop : (m n : ℕ) (xs ys : List X) (one other : E) → AreFirst m xs → AreFirst n ys → Answers m (Err one) → Answers n (Err other) → m ≡ n
  one_stop m n xs ys one other r s stops ends =
      let early : ¬ (m < n) = λ below. not_within n m ys one s below stops in
      let late : ¬ (n < m) = λ below. not_within m n xs other r below ends in
      omega (arith, early, late)

  pub one_stopped : (m n : ℕ) (xs ys : List X) (one other : E) → AreFirst m xs → AreFirst n ys → Answers m (Err one) → Answers n (Err other) → one ≡ other
  one_stopped m n xs ys one other r s stops ends =
      let same = one_answer n (Err one) (Err other) (subst (λ k. Answers k (Err one)) (one_stop m n xs ys one other r s stops ends) stops) ends in
      cc
