-- Lists that are joined one after another.
use Rattle.std.proofs.Common.{◌≡◌, ℕ, zero, suc, ◌+◌, ◌-◌, ◌<◌, ◌≤◌, ⊎_elim, List, [], ◌∷◌, ◌++◌, length, refl, sym, ap, ◌∙◌, subst, arith, append_assoc, get_or, length-append}
use Rattle.std.specs.List.{sum_by}
use Rattle.std.proofs.lemmas.List.{append-nil, get_or_append_left, get_or-append_right, get_or-append-add}
use Rattle.std.proofs.lemmas.List.Sums.{sum_by-append}
use Rattle.std.proofs.lemmas.Bool.{cases_lt, cases_eq}
use Rattle.hierarchy.specs.Walks.{joined_from}

pub joined-more : {X : Type 0} (lists : ℕ → List X) (from n : ℕ) → joined_from lists from (n + 1) ≡ joined_from lists from n ++ lists (from + n)
joined-more lists from n = let e : n + 1 ≡ suc n = omega arith in ap (joined_from lists from) e ∙ by n from
  where
    by : (n from : ℕ) → joined_from lists from (suc n) ≡ joined_from lists from n ++ lists (from + n)
    by zero from = let e : from ≡ from + zero = omega arith in append-nil (lists from) ∙ ap lists e
    by (suc n) from =
        let e : suc from + n ≡ from + suc n = omega arith in
        ap (λ xs. lists from ++ xs) (by n (suc from) ∙ ap (λ k. joined_from lists (suc from) n ++ lists k) e)
        ∙ sym (append_assoc (lists from) (joined_from lists (suc from) n) (lists (from + suc n)))

-- a sum over one list for each number is one over another, where it is so at each number
pub sum-joined : {X Y : Type 0} (f : X → ℕ) (g : Y → ℕ) (own : ℕ → ℕ) (xs : ℕ → List X) (ys : ℕ → List Y) (from n : ℕ)
    → ((k : ℕ) → from ≤ k → k < from + n → sum_by f (xs k) ≡ own k + sum_by g (ys k))
    → sum_by f (joined_from xs from n) ≡ sum_by own (joined_from (λ k. k ∷ []) from n) + sum_by g (joined_from ys from n)
sum-joined f g own xs ys from zero each = refl
sum-joined f g own xs ys from (suc n) each =
    let rest = sum-joined f g own xs ys (suc from) n (λ k low high. each k (omega arith) (omega arith)) in
    let here = each from (omega arith) (omega arith) in
    let one = sum_by-append f (xs from) (joined_from xs (suc from) n) in
    let two = sum_by-append g (ys from) (joined_from ys (suc from) n) in
    let three = sum_by-append own (from ∷ []) (joined_from (λ k. k ∷ []) (suc from) n) in
    omega arith

-- an item of lists that are joined is one of a list
pub record IsJoined {X : Type 0} (lists : ℕ → List X) (from n : ℕ) (x : X) : Type 0 where
  pub at : ℕ
  pub low : from ≤ at
  pub high : at < from + n
  pub place : ℕ
  pub within : place < length (lists at)
  pub is : get_or (lists at) place x ≡ x

pub joined-place : {X : Type 0} (lists : ℕ → List X) (from n i : ℕ) (x : X) → i < length (joined_from lists from n)
    → get_or (joined_from lists from n) i x ≡ x → IsJoined lists from n x
joined-place lists from zero i x lt e = absurd (omega arith)
joined-place lists from (suc n) i x lt e =
    let rest = joined_from lists (suc from) n in
    ⊎_elim
    (λ few. record {
      at = from;
      low = omega arith;
      high = omega arith;
      place = i;
      within = few;
      is = sym (get_or_append_left (lists from) rest x i few) ∙ e;
    })
    (λ le.
    let len = length-append (lists from) rest in
    let later = joined-place lists (suc from) n (i - length (lists from)) x (omega arith)
    (sym (get_or-append_right (lists from) rest (length (lists from)) i x refl le) ∙ e) in
    record { at = later.at; low = omega (arith, later.low); high = omega (arith, later.high); place = later.place; within = later.within; is = later.is })
    (cases_lt i (length (lists from)))

pub record IsPlaced {X : Type 0} (all : List X) (x : X) : Type 0 where
  pub place : ℕ
  pub within : place < length all
  pub is : get_or all place x ≡ x

pub joined-has : {X : Type 0} (lists : ℕ → List X) (from n k : ℕ) (x : X) → from ≤ k → k < from + n → IsPlaced (lists k) x
    → IsPlaced (joined_from lists from n) x
joined-has lists from zero k x low high h = absurd (omega arith)
joined-has lists from (suc n) k x low high h =
    let rest = joined_from lists (suc from) n in
    ⊎_elim
    (λ same.
    let here = subst (λ j. IsPlaced (lists j) x) same h in
    record {
      place = here.place;
      within = omega (arith, length-append (lists from) rest, here.within);
      is = get_or_append_left (lists from) rest x here.place here.within ∙ here.is;
    })
    (λ other.
    let later = joined-has lists (suc from) n k x (omega arith) (omega arith) h in
    record {
      place = length (lists from) + later.place;
      within = omega (arith, length-append (lists from) rest, later.within);
      is = get_or-append-add (lists from) rest later.place x ∙ later.is;
    })
    (cases_eq k from)
