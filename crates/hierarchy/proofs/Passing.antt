-- A pass over an order of modules, one module more.
use Rattle.std.proofs.Common.{◌≡◌, ℕ, suc, ◌+◌, ◌<◌, ◌≤◌, ◌⊎◌, inl, inr, ⊎_elim, List, [], ◌∷◌, length, get_or, set, map, take, min, max, refl, sym, ap, ◌∙◌, subst, arith, sum, sum_by, All}
use Rattle.std.proofs.Math.ListN.{length-set}
use Rattle.std.proofs.lemmas.List.{get_or-set_same, get_or-set_other, get_or-map, get_or_past, length-map}
use Rattle.std.proofs.lemmas.List.Sums.{sum_by_more}
use Rattle.std.proofs.lemmas.Bool.{cases_lt, cases_eq}
use Rattle.hierarchy.specs.Lowers.{lowers_at, lower_at}
use Rattle.hierarchy.specs.Orders.{IsLowerFirst}
use Rattle.verilog_netlist.specs.NetModules.{NetModule}
use Rattle.hierarchy.specs.Passes.{value_at, below_of, IsPassed, IsMost, IsDepth, IsTotal, own_of, cap}
use Rattle.hierarchy.specs.declared.uses.Count.{Count}

-- values of others stay
pub others_stay : (values : List ℕ) (m v : ℕ) (row : List ℕ) → ((j : ℕ) → j < length row → get_or row j 0 ≡ m → ⊥)
    → map (value_at (set values m v)) row ≡ map (value_at values) row
others_stay values m v [] other = refl
others_stay values m v (x ∷ row) other =
    let here : value_at (set values m v) x ≡ value_at values x = get_or-set_other values m x v 0 (other 0 (omega arith)) in
    let rest = others_stay values m v row (λ j lt. other (suc j) (omega arith)) in
    cc

pub pass_begins : (lowers : List (List ℕ)) (order : List ℕ) (rule : ℕ → List ℕ → ℕ → Type 0) (values : List ℕ) → length values ≡ length lowers
    → IsPassed lowers order rule values 0
pass_begins lowers order rule values size = record { size = size; each = λ p lt. absurd (omega arith) }

pub pass_more : (lowers : List (List ℕ)) (order : List ℕ) (rule : ℕ → List ℕ → ℕ → Type 0) (values : List ℕ) (i m v : ℕ)
    → IsLowerFirst lowers order → i < length order → get_or order i 0 ≡ m → IsPassed lowers order rule values i
    → rule m (below_of lowers values m) v → IsPassed lowers order rule (set values m v) (i + 1)
pass_more lowers order rule values i m v sorted lt here passed rules = record {
  size = length-set values m v ∙ passed.size;
  each = λ p few. ⊎_elim
      (λ same. now p (sym (ap (λ q. get_or order q 0) same) ∙ here'))
      (λ other. old p (omega arith))
      (cases_eq i p);
}
  where
    here' : get_or order i 0 ≡ m
    here' = here

    -- the lower modules of an earlier one stand before this one
    unlike : (p j : ℕ) → p ≤ i → j < length (lowers_at lowers (get_or order p 0)) → lower_at lowers (get_or order p 0) j ≡ m → ⊥
    unlike p j le few e =
        let lt' : p < length order = omega arith in
        let stands = sorted.below p j lt' few in
        sorted.once stands.at i (omega (arith, stands.before)) lt (stands.is ∙ e ∙ sym here)

    now : (p : ℕ) → get_or order p 0 ≡ m
        → rule (get_or order p 0) (below_of lowers (set values m v) (get_or order p 0)) (value_at (set values m v) (get_or order p 0))
    now p e =
        let within : m < length values = let size = passed.size in let w = subst (λ x. x < length lowers) here (sorted.within i lt) in omega arith in
        let below : below_of lowers (set values m v) m ≡ below_of lowers values m =
        others_stay values m v (lowers_at lowers m) (λ j few same. unlike i j (omega arith)
        (subst (λ x. j < length (lowers_at lowers x)) (sym here) few) (ap (λ x. lower_at lowers x j) here ∙ same)) in
        subst (λ x. rule x (below_of lowers (set values m v) x) (value_at (set values m v) x)) (sym e)
        (subst (λ b. rule m b (value_at (set values m v) m)) (sym below)
        (subst (rule m (below_of lowers values m)) (sym (get_or-set_same values m v 0 within)) rules))

    old : (p : ℕ) → p < i
        → rule (get_or order p 0) (below_of lowers (set values m v) (get_or order p 0)) (value_at (set values m v) (get_or order p 0))
    old p before =
        let x = get_or order p 0 in
        let own : value_at (set values m v) x ≡ value_at values x =
        get_or-set_other values m x v 0 (λ e. sorted.once p i before lt (e ∙ sym here)) in
        let below : below_of lowers (set values m v) x ≡ below_of lowers values x =
        others_stay values m v (lowers_at lowers x) (λ j few. unlike p j (omega arith) few) in
        subst (λ b. rule x b (value_at (set values m v) x)) (sym below)
        (subst (rule x (below_of lowers values x)) (sym own) (passed.each p before))

-- one number more
pub most_more : (numbers : List ℕ) (i most x : ℕ) → IsMost numbers i most → get_or numbers i 0 ≡ x → IsMost numbers (i + 1) (max x most)
most_more numbers i most x h is = by (cases_lt most x)
  where
    by : (most < x) ⊎ (x ≤ most) → IsMost numbers (i + 1) (max x most)
    by (inl lt) =
        let e : max x most ≡ x = omega arith in
        subst (IsMost numbers (i + 1)) (sym e) (record {
          above = λ j few. ⊎_elim (λ same. let at = ap (λ k. get_or numbers k 0) same in omega arith)
              (λ other. omega (arith, h.above j (omega arith))) (cases_eq j i);
          some = inr (i, omega arith, is);
        })
    by (inr le) =
        let e : max x most ≡ most = omega arith in
        subst (IsMost numbers (i + 1)) (sym e) (record {
          above = λ j few. ⊎_elim (λ same. let at = ap (λ k. get_or numbers k 0) same in omega arith)
              (λ other. h.above j (omega arith)) (cases_eq j i);
          some = ⊎_elim (λ none. inl none) (λ found. inr (found.0, omega (arith, found.1), found.2)) h.some;
        })

pub cut_more : {X : Type 0} (f : X → ℕ) (own total : ℕ) (xs : List X) (i more : ℕ) (d : X) → i < length xs
    → total ≡ min cap (own + sum_by f (take i xs)) → min cap more ≡ min cap (f (get_or xs i d))
    → min cap (total + more) ≡ min cap (own + sum_by f (take (i + 1) xs))
cut_more f own total xs i more d lt is same = let step = sum_by_more f xs i d lt in omega arith

pub value_within : (values : List ℕ) (n x : ℕ) → All (λ v. v ≤ n) values → value_at values x ≤ n
value_within values n x all = ⊎_elim (λ lt. all x 0 lt) (λ le. omega (arith, get_or_past values x 0 le)) (cases_lt x (length values))

pub most_within : (values row : List ℕ) (n most : ℕ) → All (λ v. v ≤ n) values → IsMost (map (value_at values) row) (length row) most → most ≤ n
most_within values row n most all h = ⊎_elim (λ none. omega arith)
    (λ found. let at = get_or-map (value_at values) row found.0 0 0 found.1 in
    let le = value_within values n (get_or row found.0 0) all in let is = found.2 in omega arith) h.some

pub depth_more : (lowers : List (List ℕ)) (order values row : List ℕ) (i m most : ℕ)
    → IsLowerFirst lowers order → i < length order → get_or order i 0 ≡ m → IsPassed lowers order IsDepth values i
    → row ≡ lowers_at lowers m → IsMost (map (value_at values) row) (length row) most
    → IsPassed lowers order IsDepth (set values m (most + 1)) (i + 1)
depth_more lowers order values row i m most sorted lt here passed is_row h =
    pass_more lowers order IsDepth values i m (most + 1) sorted lt here passed (record {
      most = most;
      is_most = let e = length-map row (value_at values) in
          subst (λ r. IsMost (map (value_at values) r) (length (map (value_at values) r)) most) is_row
          (subst (λ n. IsMost (map (value_at values) row) n most) (sym e) h);
      is = omega arith;
    })

pub all_later : (values : List ℕ) (n k : ℕ) → n ≤ k → All (λ v. v ≤ n) values → All (λ v. v ≤ k) values
all_later values n k le all j d lt = omega (arith, all j d lt)

pub total_rule : (modules : List NetModule) (count : Count) (lowers : List (List ℕ)) (values read row : List ℕ) (m own total : ℕ)
    → own ≡ min cap (own_of modules count m) → read ≡ values → row ≡ lowers_at lowers m → total ≡ min cap (own + sum (map (value_at read) row))
    → IsTotal modules count m (below_of lowers values m) total
total_rule modules count lowers values read row m own total is_own is_read is_row is =
    let same : sum (map (value_at read) row) ≡ sum (below_of lowers values m) =
    ap (λ vs. sum (map (value_at vs) row)) is_read ∙ ap (λ r. sum (map (value_at values) r)) is_row in
    let a = own_of modules count m in
    omega arith
