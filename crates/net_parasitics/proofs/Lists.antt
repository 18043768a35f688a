-- Lists that are filled one item after another.
use Rattle.std.proofs.Common.{◌≡◌, ℕ, ◌+◌, ◌*◌, ◌<◌, List, [], ◌∷◌, ◌++◌, length, map, take, set, get_or, slice_get, Some, sym, ap, subst, ◌∙◌, arith, inl, inr}
use Rattle.std.specs.Prelude.{sum_by, slice_set}
use Rattle.std.proofs.lemmas.Bool.{cases_eq}
use Rattle.std.proofs.lemmas.List.{length-set, get_or-set_same, get_or-set_other, take_more, map_push}
use Rattle.std.proofs.lemmas.List.Sums.{sum_by_push}
use Rattle.std.proofs.lemmas.Option.{slice_get_within, get_or_from_slice_get}

-- the item of a place more
pub take_next : {X : Type 0} (xs : List X) (k : ℕ) (x : X) → slice_get xs k ≡ Some x → take (k + 1) xs ≡ take k xs ++ x ∷ []
take_next xs k x at = take_more xs k x (slice_get_within xs k x at) ∙ ap (λ y. take k xs ++ y ∷ []) (get_or_from_slice_get xs k x x at)

pub mapped_more : {X Y : Type 0} (f : X → Y) (xs : List X) (k : ℕ) (x : X) (ys zs : List Y) (y : Y) → slice_get xs k ≡ Some x → ys ≡ map f (take k xs) → y ≡ f x
    → zs ≡ ys ++ y ∷ [] → zs ≡ map f (take (k + 1) xs)
mapped_more f xs k x ys zs y at held is pushed =
    pushed ∙ ap (λ l. l ++ y ∷ []) held ∙ ap (λ v. map f (take k xs) ++ v ∷ []) is ∙ sym (map_push f (take k xs) x) ∙ ap (map f) (sym (take_next xs k x at))

pub sum_more : {X : Type 0} (f : X → ℕ) (xs : List X) (k : ℕ) (x : X) (sum y : ℕ) → slice_get xs k ≡ Some x → sum ≡ sum_by f (take k xs) → y ≡ f x
    → sum + y ≡ sum_by f (take (k + 1) xs)
sum_more f xs k x sum y at held is =
    let total : sum_by f (take (k + 1) xs) ≡ sum_by f (take k xs) + f x = ap (sum_by f) (take_next xs k x at) ∙ sum_by_push f (take k xs) x in
    omega (arith, held, is, total)

-- the first places of a list are filled
pub record AreFilled {X : Type 0} (P : X → Type 0) (f : ℕ → X) (d : X) (count number : ℕ) (xs : List X) : Type 0 where
  pub len : length xs ≡ count
  pub each : (k : ℕ) → k < number → get_or xs k d ≡ f k
  pub all : (k : ℕ) → k < number → P (f k)

pub filled_more : {X : Type 0} (P : X → Type 0) (f : ℕ → X) (d : X) (count number at : ℕ) (xs ys : List X) (x : X) → at ≡ number → number < count → AreFilled P f d count number xs
    → ys ≡ slice_set xs (0 * count + at) x → x ≡ f at → P x → AreFilled P f d count (number + 1) ys
filled_more P f d count number at xs ys x here below held is value good =
    let place : 0 * count + at ≡ number = omega (arith, here) in
    let set_is : ys ≡ set xs number x = is ∙ ap (λ p. slice_set xs p x) place in
    let is_f : x ≡ f number = value ∙ ap f here in
    record {
      len = ap length set_is ∙ length-set xs number x ∙ held.len;
      each = λ k less. elim (cases_eq k number) [
        | inl same ↦ ap (λ l. get_or l k d) set_is ∙ ap (λ p. get_or (set xs number x) p d) same
            ∙ get_or-set_same xs number x d (let n = held.len in omega (arith, n, below)) ∙ is_f ∙ ap f (sym same)
        | inr other ↦ ap (λ l. get_or l k d) set_is ∙ get_or-set_other xs number k x d other ∙ held.each k (omega (arith, less, other))
      ];
      all = λ k less. elim (cases_eq k number) [
        | inl same ↦ subst P (is_f ∙ ap f (sym same)) good
        | inr other ↦ held.all k (omega (arith, less, other))
      ];
    }

pub none_filled : {X : Type 0} (P : X → Type 0) (f : ℕ → X) (d : X) (count : ℕ) (xs : List X) → length xs ≡ count → AreFilled P f d count 0 xs
none_filled P f d count xs len = record { len = len; each = λ k less. absurd (omega (arith, less)); all = λ k less. absurd (omega (arith, less)) }
