-- The turns of the search for an order.
use Rattle.std.proofs.Common.{◌≡◌, ℕ, suc, ◌+◌, ◌*◌, ◌<◌, ◌≤◌, ◌⊎◌, inl, inr, ⊎_elim, List, [], ◌∷◌, ◌++◌, length, get_or, set, replicate, All, AllPairs, refl, sym, ap, ◌∙◌, subst, arith, Some, if◌then◌else◌}
use Rattle.std.specs.List.{sum_by, count_by}
use Rattle.std.proofs.lemmas.List.Sums.{sum_by-set, sum_by_push, get_or-le-sum_by}
use Rattle.std.proofs.Math.ListN.{length-set}
use Rattle.std.proofs.lemmas.List.{get_or_append_left, get_or_push, get_or-set_same, get_or-set_other, get_or-replicate, length_push, get_or_past, get_or_default, length-replicate}
use Rattle.std.proofs.lemmas.List.Elements.{All-push, All-pop, All-weaker, All-get_or}
use Rattle.std.proofs.lemmas.List.Quantifiers.{all_pairs_push}
use Rattle.std.proofs.lemmas.Bool.{cases_lt, cases_eq}
use Rattle.hierarchy.specs.Lowers.{lowers_at, lower_at, AreBelow, Leads, IsRound}
use Rattle.hierarchy.specs.Orders.{StandsBefore, IsLowerFirst, IsOrderOf, mark_at, no_step, IsStep, LeadsOn, IsSearch, is_new, left_of}
use Rattle.hierarchy.specs.declared.ordering.Mark.{Mark}
use Rattle.hierarchy.specs.declared.ordering.Mark.TheVariants.{New, Open, Done}
use Rattle.hierarchy.specs.declared.ordering.Step.{Step}
use Rattle.hierarchy.proofs.Trails.{leads_here, leads_on, leads_round}

-- a module has one mark. Each clash is proved here, in a small context: `cc` reads all that is in scope
open_new : {A : Type 0} {mark : Mark} → mark ≡ Open → mark ≡ New → A
open_new one two = absurd cc

done_new : {A : Type 0} {mark : Mark} → mark ≡ Done → mark ≡ New → A
done_new one two = absurd cc

done_open : {A : Type 0} {mark : Mark} → mark ≡ Done → mark ≡ Open → A
done_open one two = absurd cc

-- what stands in an order stands in a longer one
pub stands_pushed : (order : List ℕ) (n m x : ℕ) → n ≤ length order → StandsBefore order n m → StandsBefore (order ++ x ∷ []) n m
stands_pushed order n m x le h = record {
  at = h.at;
  before = h.before;
  is = let lt : h.at < length order = omega (arith, h.before) in get_or_append_left order (x ∷ []) 0 h.at lt ∙ h.is;
}

pub stands_later : (order : List ℕ) (n k m : ℕ) → n ≤ k → StandsBefore order n m → StandsBefore order k m
stands_later order n k m le h = record { at = h.at; before = omega (arith, h.before); is = h.is }

pub stands_in_more : (order : List ℕ) (m x : ℕ) → StandsBefore order (length order) m
    → StandsBefore (order ++ x ∷ []) (length (order ++ x ∷ [])) m
stands_in_more order m x h =
    stands_later (order ++ x ∷ []) (length order) (length (order ++ x ∷ [])) m (omega (arith, length_push order x))
    (stands_pushed order (length order) m x (omega arith) h)

pub stands_last : (order : List ℕ) (x : ℕ) → StandsBefore (order ++ x ∷ []) (length (order ++ x ∷ [])) x
stands_last order x = record {
  at = length order;
  before = omega (arith, length_push order x);
  is = get_or_push order x 0 (length order) refl;
}

-- a longer order
pub sorted_more : (lowers : List (List ℕ)) (order : List ℕ) (m : ℕ) → IsLowerFirst lowers order → m < length lowers
    → ((j : ℕ) → j < length (lowers_at lowers m) → StandsBefore order (length order) (lower_at lowers m j))
    → ((p : ℕ) → p < length order → get_or order p 0 ≡ m → ⊥)
    → IsLowerFirst lowers (order ++ m ∷ [])
sorted_more lowers order m sorted within behind fresh = record {
  within = λ p lt. by_within p (cases_lt p (length order)) lt;
  below = λ p j lt few. by_below p j (cases_lt p (length order)) lt few;
  once = λ p q lt few e. by_once p q lt (cases_lt q (length order)) few e;
}
  where
    old : (p : ℕ) → p < length order → get_or (order ++ m ∷ []) p 0 ≡ get_or order p 0
    old p lt = get_or_append_left order (m ∷ []) 0 p lt

    last : (p : ℕ) → length order ≤ p → p < length (order ++ m ∷ []) → length order ≡ p
    last p le lt = omega (arith, length_push order m)

    new : (p : ℕ) → length order ≡ p → get_or (order ++ m ∷ []) p 0 ≡ m
    new p e = get_or_push order m 0 p e

    by_within : (p : ℕ) → (p < length order) ⊎ (length order ≤ p) → p < length (order ++ m ∷ []) → get_or (order ++ m ∷ []) p 0 < length lowers
    by_within p (inl lt) _ = subst (λ x. x < length lowers) (sym (old p lt)) (sorted.within p lt)
    by_within p (inr le) lt = subst (λ x. x < length lowers) (sym (new p (last p le lt))) within

    by_below : (p j : ℕ) → (p < length order) ⊎ (length order ≤ p) → p < length (order ++ m ∷ [])
        → j < length (lowers_at lowers (get_or (order ++ m ∷ []) p 0))
        → StandsBefore (order ++ m ∷ []) p (lower_at lowers (get_or (order ++ m ∷ []) p 0) j)
    by_below p j (inl lt) _ few =
        subst (λ x. StandsBefore (order ++ m ∷ []) p (lower_at lowers x j)) (sym (old p lt))
        (stands_pushed order p _ m (omega arith) (sorted.below p j lt (subst (λ x. j < length (lowers_at lowers x)) (old p lt) few)))
    by_below p j (inr le) lt few =
        let e = last p le lt in
        subst (λ x. StandsBefore (order ++ m ∷ []) p (lower_at lowers x j)) (sym (new p e))
        (subst (λ n. StandsBefore (order ++ m ∷ []) n (lower_at lowers m j)) e
        (stands_pushed order (length order) _ m (omega arith) (behind j (subst (λ x. j < length (lowers_at lowers x)) (new p e) few))))

    by_once : (p q : ℕ) → p < q → (q < length order) ⊎ (length order ≤ q) → q < length (order ++ m ∷ [])
        → get_or (order ++ m ∷ []) p 0 ≡ get_or (order ++ m ∷ []) q 0 → ⊥
    by_once p q pq (inl lt) few e =
        let lt' : p < length order = omega arith in sorted.once p q pq lt (sym (old p lt') ∙ e ∙ old q lt)
    by_once p q pq (inr le) few e =
        let is = last q le few in
        let lt' : p < length order = omega arith in fresh p lt' (sym (old p lt') ∙ e ∙ new q is)

pairs_front : {X : Type 0} (R : X → X → Type 0) (xs : List X) (y : X) → AllPairs R (xs ++ y ∷ []) → AllPairs R xs
pairs_front R xs y h i j d lt few =
    let more : j < length (xs ++ y ∷ []) = omega (arith, length_push xs y) in
    subst (λ v. R v (get_or xs j d)) (get_or_append_left xs (y ∷ []) d i (omega arith))
    (subst (λ v. R (get_or (xs ++ y ∷ []) i d) v) (get_or_append_left xs (y ∷ []) d j few) (h i j d lt more))

pairs_last : {X : Type 0} (R : X → X → Type 0) (xs : List X) (y : X) → AllPairs R (xs ++ y ∷ []) → (k : ℕ) (d : X) → k < length xs → R (get_or xs k d) y
pairs_last R xs y h k d lt =
    let more : length xs < length (xs ++ y ∷ []) = omega (arith, length_push xs y) in
    subst (λ v. R v y) (get_or_append_left xs (y ∷ []) d k lt)
    (subst (λ v. R (get_or (xs ++ y ∷ []) k d) v) (get_or_push xs y d (length xs) refl) (h k (length xs) d lt more))

pub mark-same : (marks : List Mark) (m : ℕ) (x : Mark) → m < length marks → mark_at (set marks m x) m ≡ x
mark-same marks m x lt = get_or-set_same marks m x New lt

pub mark-other : (marks : List Mark) (m k : ℕ) (x : Mark) → (k ≡ m → ⊥) → mark_at (set marks m x) k ≡ mark_at marks k
mark-other marks m k x other = get_or-set_other marks m k x New other

pub mark-none : (n m : ℕ) → mark_at (replicate n New) m ≡ New
mark-none n m = ⊎_elim (λ lt. get_or-replicate n m New New lt)
    (λ le. get_or_past (replicate n New) m New (omega (arith, length-replicate n New))) (cases_lt m n)

module _ (lowers : List (List ℕ)) (top : ℕ) where
  -- the search begins in the top
  pub searches : top < length lowers
      → IsSearch lowers top (set (replicate (length lowers) New) top Open) [] (record { «module» = top; next = 0 } ∷ [])
  searches within =
      let none = replicate (length lowers) New in
      let marks = set none top Open in
      let first : Step = record { «module» = top; next = 0 } in
      let size = length-replicate (length lowers) New in
      let here : mark_at marks top ≡ Open = mark-same none top Open (omega arith) in
      let others : (m : ℕ) → (m ≡ top → ⊥) → mark_at marks m ≡ New =
      λ m other. mark-other none top m Open other ∙ mark-none (length lowers) m in
      let stands : IsStep lowers top marks [] first = record {
        within = within;
        leads = leads_here lowers top;
        opened = here;
        next = omega arith;
        passed = λ j lt. absurd (omega arith);
      } in
      record {
        size = length-set none top Open ∙ size;
        standing = All-push (IsStep lowers top marks []) [] first (λ k d lt. absurd (omega arith)) stands;
        chain = all_pairs_push (LeadsOn lowers top) [] first (λ i j d lt few. absurd (omega arith)) (λ k d lt. absurd (omega arith));
        opened = λ m is. ⊎_elim (λ same. (0, omega arith, sym same)) (λ other. open_new is (others m other)) (cases_eq m top);
        done = λ m is. ⊎_elim (λ same. done_open is (ap (mark_at marks) same ∙ here)) (λ other. done_new is (others m other)) (cases_eq m top);
        begun = λ e. open_new here e;
        sorted = record {
          within = λ p lt. absurd (omega arith);
          below = λ p j lt few. absurd (omega arith);
          once = λ p q lt few e. absurd (omega arith);
        };
        marked = λ p lt. absurd (omega arith);
      }

  module _ (marks : List Mark) (order : List ℕ) (steps : List Step) (step : Step)
      (search : IsSearch lowers top marks order (steps ++ step ∷ [])) where
    parts : All (IsStep lowers top marks order) steps × IsStep lowers top marks order step
    parts = All-pop (IsStep lowers top marks order) (steps ++ step ∷ []) steps (Some step) refl search.standing

    -- each open module leads to the innermost
    leads_in : (k : ℕ) (d : Step) → k < length (steps ++ step ∷ []) → Leads lowers (get_or (steps ++ step ∷ []) k d).module step.module
    leads_in k d lt = ⊎_elim
        (λ few. subst (λ s. Leads lowers s.module step.module) (sym (get_or_append_left steps (step ∷ []) d k few))
        (pairs_last (LeadsOn lowers top) steps step search.chain k d few).leads)
        (λ le. let e : length steps ≡ k = omega (arith, length_push steps step) in
        subst (λ s. Leads lowers s.module step.module) (sym (get_or_push steps step d k e)) (leads_here lowers step.module))
        (cases_lt k (length steps))

    -- an open module is met again
    pub meets_open : step.next < length (lowers_at lowers step.module) → mark_at marks (lower_at lowers step.module step.next) ≡ Open
        → Leads lowers top (lower_at lowers step.module step.next) × IsRound lowers (lower_at lowers step.module step.next)
    meets_open lt is =
        let found = search.opened (lower_at lowers step.module step.next) is in
        let outer = get_or (steps ++ step ∷ []) found.0 no_step in
        let at = All-get_or (IsStep lowers top marks order) (steps ++ step ∷ []) found.0 no_step found.1 search.standing in (
          subst (Leads lowers top) found.2 at.leads,
          subst (IsRound lowers) found.2
              (leads_round lowers outer.module step.module step.next (leads_in found.0 no_step found.1) lt (sym found.2)),
        )

    -- a new module is entered
    pub enters : AreBelow lowers → step.next < length (lowers_at lowers step.module)
        → mark_at marks (lower_at lowers step.module step.next) ≡ New
        → IsSearch lowers top (set marks (lower_at lowers step.module step.next) Open) order
        ((steps ++ step ∷ []) ++ record { «module» = lower_at lowers step.module step.next; next = 0 } ∷ [])
    enters below lt new =
        let lower = lower_at lowers step.module step.next in
        let inner : Step = record { «module» = lower; next = 0 } in
        let all = steps ++ step ∷ [] in
        let marks' = set marks lower Open in
        let within = below.below step.module step.next parts.1.within lt in
        let size = search.size in
        let here : mark_at marks' lower ≡ Open = mark-same marks lower Open (omega arith) in
        let other : (m : ℕ) (x : Mark) → mark_at marks m ≡ x → (x ≡ New → ⊥) → m ≡ lower → ⊥ =
        λ m x is not_new same. not_new (sym is ∙ ap (mark_at marks) same ∙ new) in
        let open_other : (m : ℕ) → mark_at marks m ≡ Open → m ≡ lower → ⊥ = λ m is. other m Open is (λ e. open_new refl e) in
        let stays : (s : Step) → IsStep lowers top marks order s → IsStep lowers top marks' order s = λ s h. record {
          within = h.within;
          leads = h.leads;
          opened = mark-other marks lower s.module Open (open_other s.module h.opened) ∙ h.opened;
          next = h.next;
          passed = h.passed;
        } in
        let stands : IsStep lowers top marks' order inner = record {
          within = within;
          leads = leads_on lowers top step.module step.next parts.1.leads lt;
          opened = here;
          next = omega arith;
          passed = λ j few. absurd (omega arith);
        } in
        record {
          size = length-set marks lower Open ∙ size;
          standing = All-push (IsStep lowers top marks' order) all inner
              (All-weaker (IsStep lowers top marks order) (IsStep lowers top marks' order) stays all search.standing) stands;
          chain = all_pairs_push (LeadsOn lowers top) all inner search.chain (λ k d few. record {
            leads = leads_on lowers (get_or all k d).module step.module step.next (leads_in k d few) lt;
            other = open_other (get_or all k d).module (All-get_or (IsStep lowers top marks order) all k d few search.standing).opened;
          });
          opened = λ m is. ⊎_elim
              (λ same. (
                length all,
                omega (arith, length_push all inner),
                ap (λ s. s.module) (get_or_push all inner no_step (length all) refl) ∙ sym same,
              ))
              (λ different. let old = search.opened m (sym (mark-other marks lower m Open different) ∙ is) in (
                old.0,
                omega (arith, length_push all inner, old.1),
                ap (λ s. s.module) (get_or_append_left all (inner ∷ []) no_step old.0 old.1) ∙ old.2,
              ))
              (cases_eq m lower);
          done = λ m is. ⊎_elim
              (λ same. done_open is (ap (mark_at marks') same ∙ here))
              (λ different. search.done m (sym (mark-other marks lower m Open different) ∙ is)) (cases_eq m lower);
          begun = λ is. ⊎_elim
              (λ same. open_new (ap (mark_at marks') same ∙ here) is)
              (λ different. search.begun (sym (mark-other marks lower top Open different) ∙ is)) (cases_eq top lower);
          sorted = search.sorted;
          marked = λ p few. let is = search.marked p few in
              mark-other marks lower (get_or order p 0) Open (other (get_or order p 0) Done is (λ e. done_new refl e)) ∙ is;
        }

    -- a module that stands in the order is passed
    pub passes : step.next < length (lowers_at lowers step.module) → mark_at marks (lower_at lowers step.module step.next) ≡ Done
        → IsSearch lowers top marks order (steps ++ record { «module» = step.module; next = step.next + 1 } ∷ [])
    passes lt is =
        let next : Step = record { «module» = step.module; next = step.next + 1 } in
        let own = parts.1 in
        let behind = search.done (lower_at lowers step.module step.next) is in
        let stands : IsStep lowers top marks order next = record {
          within = own.within;
          leads = own.leads;
          opened = own.opened;
          next = omega arith;
          passed = λ j few. ⊎_elim (λ same. subst (λ k. StandsBefore order (length order) (lower_at lowers step.module k)) (sym same) behind)
              (λ other. own.passed j (omega arith)) (cases_eq j step.next);
        } in
        record {
          size = search.size;
          standing = All-push (IsStep lowers top marks order) steps next parts.0 stands;
          chain = all_pairs_push (LeadsOn lowers top) steps next (pairs_front (LeadsOn lowers top) steps step search.chain)
              (λ k d few. let h = pairs_last (LeadsOn lowers top) steps step search.chain k d few in record { leads = h.leads; other = h.other });
          opened = λ m e. let old = search.opened m e in ⊎_elim
              (λ few. (
                old.0,
                omega (arith, length_push steps next),
                ap (λ s. s.module)
                    (get_or_append_left steps (next ∷ []) no_step old.0 few ∙ sym (get_or_append_left steps (step ∷ []) no_step old.0 few)) ∙ old.2,
              ))
              (λ le. let at : length steps ≡ old.0 = omega (arith, length_push steps step, old.1) in (
                old.0,
                omega (arith, length_push steps next),
                ap (λ s. s.module) (get_or_push steps next no_step old.0 at)
                    ∙ sym (ap (λ s. s.module) (get_or_push steps step no_step old.0 at)) ∙ old.2,
              ))
              (cases_lt old.0 (length steps));
          done = search.done;
          begun = search.begun;
          sorted = search.sorted;
          marked = search.marked;
        }

    -- all lower modules are passed
    pub finishes : length (lowers_at lowers step.module) ≤ step.next
        → IsSearch lowers top (set marks step.module Done) (order ++ step.module ∷ []) steps
    finishes le =
        let m = step.module in
        let own = parts.1 in
        let marks' = set marks m Done in
        let order' = order ++ m ∷ [] in
        let size = search.size in
        let within = own.within in
        let here : mark_at marks' m ≡ Done = mark-same marks m Done (omega arith) in
        let fresh : (p : ℕ) → p < length order → get_or order p 0 ≡ m → ⊥ =
        λ p lt e. done_open (search.marked p lt) (ap (mark_at marks) e ∙ own.opened) in
        let others : (k : ℕ) (d : Step) → k < length steps → (get_or steps k d).module ≡ m → ⊥ =
        λ k d few. (pairs_last (LeadsOn lowers top) steps step search.chain k d few).other in
        record {
          size = length-set marks m Done ∙ size;
          standing = λ k d few. let old = parts.0 k d few in record {
            within = old.within;
            leads = old.leads;
            opened = mark-other marks m (get_or steps k d).module Done (others k d few) ∙ old.opened;
            next = old.next;
            passed = λ j before. stands_in_more order (lower_at lowers (get_or steps k d).module j) m (old.passed j before);
          };
          chain = pairs_front (LeadsOn lowers top) steps step search.chain;
          opened = λ x is. ⊎_elim
              (λ same. done_open (ap (mark_at marks') same ∙ here) is)
              (λ other. let old = search.opened x (sym (mark-other marks m x Done other) ∙ is) in ⊎_elim
              (λ few. (old.0, few, ap (λ s. s.module) (sym (get_or_append_left steps (step ∷ []) no_step old.0 few)) ∙ old.2))
              (λ past. let at : length steps ≡ old.0 = omega (arith, length_push steps step, old.1) in
              absurd (other (sym (ap (λ s. s.module) (sym (get_or_push steps step no_step old.0 at)) ∙ old.2))))
              (cases_lt old.0 (length steps)))
              (cases_eq x m);
          done = λ x is. ⊎_elim
              (λ same. subst (StandsBefore order' (length order')) (sym same) (stands_last order m))
              (λ other. stands_in_more order x m (search.done x (sym (mark-other marks m x Done other) ∙ is)))
              (cases_eq x m);
          begun = λ is. ⊎_elim
              (λ same. done_new (ap (mark_at marks') same ∙ here) is)
              (λ other. search.begun (sym (mark-other marks m top Done other) ∙ is)) (cases_eq top m);
          sorted = sorted_more lowers order m search.sorted within (λ j few. own.passed j (omega arith)) fresh;
          marked = λ p lt. ⊎_elim
              (λ few. let old = get_or_append_left order (m ∷ []) 0 p few in
              ap (mark_at marks') old ∙ mark-other marks m (get_or order p 0) Done (fresh p few) ∙ search.marked p few)
              (λ past. let at : length order ≡ p = omega (arith, length_push order m) in
              ap (mark_at marks') (get_or_push order m 0 p at) ∙ here)
              (cases_lt p (length order));
        }

  -- no module is open
  pub ordered : (marks : List Mark) (order : List ℕ) → IsSearch lowers top marks order [] → IsOrderOf lowers top order
  ordered marks order search = record { sorted = search.sorted; has_top = by (mark_at marks top) refl }
    where
      by : (x : Mark) → mark_at marks top ≡ x → StandsBefore order (length order) top
      by New is = absurd (search.begun is)
      by Open is = let none = search.opened top is in absurd (omega (arith, none.1))
      by Done is = search.done top is

-- what is left to do
abbrev pub work : List (List ℕ) → List Mark → List Step → ℕ
work lowers marks steps = count_by is_new marks * (sum_by (λ row. length row) lowers + 2) + sum_by (left_of lowers) steps

pub work_entered : (lowers : List (List ℕ)) (marks : List Mark) (steps : List Step) (m : ℕ) → m < length marks → mark_at marks m ≡ New
    → m < length lowers
    → work lowers (set marks m Open) (steps ++ record { «module» = m; next = 0 } ∷ []) < work lowers marks steps
work_entered lowers marks steps m lt new within =
    let inner : Step = record { «module» = m; next = 0 } in
    let test : Mark → ℕ = λ x. if is_new x then 1 else 0 in
    let was : test (get_or marks m New) ≡ 1 = ap test new in
    let fewer : count_by is_new (set marks m Open) + test (get_or marks m New) ≡ count_by is_new marks + 0 = sum_by-set test marks m Open New lt in
    let one : count_by is_new marks ≡ suc (count_by is_new (set marks m Open)) = omega arith in
    let links = sum_by (λ (row : List ℕ). length row) lowers in
    let much : count_by is_new marks * (links + 2) ≡ suc (count_by is_new (set marks m Open)) * (links + 2) = ap (λ n. n * (links + 2)) one in
    let few : length (lowers_at lowers m) ≤ links = get_or-le-sum_by (λ (row : List ℕ). length row) lowers m [] within in
    let more = sum_by_push (left_of lowers) steps inner in
    let wide : suc (count_by is_new (set marks m Open)) * (links + 2) ≡ count_by is_new (set marks m Open) * (links + 2) + (links + 2) = omega arith in
    omega arith

pub work_passed : (lowers : List (List ℕ)) (marks : List Mark) (steps : List Step) (step : Step)
    → step.next < length (lowers_at lowers step.module)
    → work lowers marks (steps ++ record { «module» = step.module; next = step.next + 1 } ∷ []) < work lowers marks (steps ++ step ∷ [])
work_passed lowers marks steps step lt =
    let next : Step = record { «module» = step.module; next = step.next + 1 } in
    let a = sum_by_push (left_of lowers) steps next in
    let b = sum_by_push (left_of lowers) steps step in
    omega arith

pub work_finished : (lowers : List (List ℕ)) (marks : List Mark) (steps : List Step) (step : Step)
    → step.module < length marks → mark_at marks step.module ≡ Open
    → work lowers (set marks step.module Done) steps < work lowers marks (steps ++ step ∷ [])
work_finished lowers marks steps step within is =
    let test : Mark → ℕ = λ x. if is_new x then 1 else 0 in
    let was : test (get_or marks step.module New) ≡ 0 = ap test is in
    let fewer : count_by is_new (set marks step.module Done) + test (get_or marks step.module New) ≡ count_by is_new marks + 0 =
    sum_by-set test marks step.module Done New within in
    let same : count_by is_new (set marks step.module Done) ≡ count_by is_new marks = omega arith in
    let links = sum_by (λ (row : List ℕ). length row) lowers in
    let equal : count_by is_new (set marks step.module Done) * (links + 2) ≡ count_by is_new marks * (links + 2) = ap (λ n. n * (links + 2)) same in
    let b = sum_by_push (left_of lowers) steps step in
    omega arith

-- as the code leaves them
module _ (lowers : List (List ℕ)) (top : ℕ) (marks : List Mark) (order : List ℕ) (all popped : List Step) (step : Step) (row : List ℕ)
    (search : IsSearch lowers top marks order all) (pop : all ≡ popped ++ step ∷ []) (is_row : row ≡ lowers_at lowers step.module) where
  before : IsSearch lowers top marks order (popped ++ step ∷ [])
  before = subst (IsSearch lowers top marks order) pop search

  lower_is : get_or row step.next 0 ≡ lower_at lowers step.module step.next
  lower_is = ap (λ r. get_or r step.next 0) is_row

  some_left : step.next < length row → step.next < length (lowers_at lowers step.module)
  some_left lt = subst (λ r. step.next < length r) is_row lt

  pub has_entered : (pushed steps : List Step) → AreBelow lowers → step.next < length row → mark_at marks (get_or row step.next 0) ≡ New
      → pushed ≡ popped ++ step ∷ [] → steps ≡ pushed ++ record { «module» = get_or row step.next 0; next = 0 } ∷ []
      → IsSearch lowers top (set marks (get_or row step.next 0) Open) order steps
  has_entered pushed steps below lt new first then_pushed =
      let whole : steps ≡ (popped ++ step ∷ []) ++ record { «module» = get_or row step.next 0; next = 0 } ∷ [] =
      then_pushed ∙ ap (λ s. s ++ record { «module» = get_or row step.next 0; next = 0 } ∷ []) first in
      subst (λ s. IsSearch lowers top (set marks (get_or row step.next 0) Open) order s) (sym whole)
      (subst (λ l. IsSearch lowers top (set marks l Open) order ((popped ++ step ∷ []) ++ record { «module» = l; next = 0 } ∷ []))
      (sym lower_is)
      (enters lowers top marks order popped step before below (some_left lt) (sym (ap (mark_at marks) lower_is) ∙ new)))

  pub has_entered_less : (pushed steps : List Step) → AreBelow lowers → step.next < length row
      → mark_at marks (get_or row step.next 0) ≡ New
      → pushed ≡ popped ++ step ∷ [] → steps ≡ pushed ++ record { «module» = get_or row step.next 0; next = 0 } ∷ []
      → work lowers (set marks (get_or row step.next 0) Open) steps < work lowers marks all
  has_entered_less pushed steps below lt new first then_pushed =
      let lower = get_or row step.next 0 in
      let own = (parts lowers top marks order popped step before).1 in
      let within : lower < length lowers = subst (λ l. l < length lowers) (sym lower_is) (below.below step.module step.next own.within (some_left lt)) in
      let size = search.size in
      let whole : steps ≡ all ++ record { «module» = lower; next = 0 } ∷ [] =
      then_pushed ∙ ap (λ s. s ++ record { «module» = lower; next = 0 } ∷ []) (first ∙ sym pop) in
      subst (λ s. work lowers (set marks lower Open) s < work lowers marks all) (sym whole)
      (work_entered lowers marks all lower (omega arith) new within)

  pub has_met_open : step.next < length row → mark_at marks (get_or row step.next 0) ≡ Open
      → Leads lowers top (get_or row step.next 0) × IsRound lowers (get_or row step.next 0)
  has_met_open lt is = subst (λ l. Leads lowers top l × IsRound lowers l) (sym lower_is)
      (meets_open lowers top marks order popped step before (some_left lt) (sym (ap (mark_at marks) lower_is) ∙ is))

  pub has_passed : (steps : List Step) → step.next < length row → mark_at marks (get_or row step.next 0) ≡ Done
      → steps ≡ popped ++ record { «module» = step.module; next = step.next + 1 } ∷ [] → IsSearch lowers top marks order steps
  has_passed steps lt is pushed = subst (IsSearch lowers top marks order) (sym pushed)
      (passes lowers top marks order popped step before (some_left lt) (sym (ap (mark_at marks) lower_is) ∙ is))

  pub has_passed_less : (steps : List Step) → step.next < length row
      → steps ≡ popped ++ record { «module» = step.module; next = step.next + 1 } ∷ [] → work lowers marks steps < work lowers marks all
  has_passed_less steps lt pushed =
      subst (λ s. work lowers marks s < work lowers marks all) (sym pushed)
      (subst (λ s. work lowers marks (popped ++ record { «module» = step.module; next = step.next + 1 } ∷ []) < work lowers marks s) (sym pop)
      (work_passed lowers marks popped step (some_left lt)))

  pub is_within : step.module < length marks
  is_within = let own = (parts lowers top marks order popped step before).1 in let size = search.size in omega (arith, own.within)

  pub has_finished : (order' : List ℕ) → length row ≤ step.next → order' ≡ order ++ step.module ∷ []
      → IsSearch lowers top (set marks step.module Done) order' popped
  has_finished order' le pushed = subst (λ o. IsSearch lowers top (set marks step.module Done) o popped) (sym pushed)
      (finishes lowers top marks order popped step before (subst (λ r. length r ≤ step.next) is_row le))

  pub has_finished_less : work lowers (set marks step.module Done) popped < work lowers marks all
  has_finished_less =
      let own = (parts lowers top marks order popped step before).1 in
      subst (λ s. work lowers (set marks step.module Done) popped < work lowers marks s) (sym pop)
      (work_finished lowers marks popped step is_within own.opened)

  -- the mark that is read
  pub mark_read : AreBelow lowers → step.next < length row → (found is : Mark) → found ≡ get_or marks (get_or row step.next 0) found → found ≡ is
      → mark_at marks (get_or row step.next 0) ≡ is
  mark_read below lt found is read same =
      let lower = get_or row step.next 0 in
      let own = (parts lowers top marks order popped step before).1 in
      let size = search.size in
      let within : lower < length lowers = subst (λ l. l < length lowers) (sym lower_is) (below.below step.module step.next own.within (some_left lt)) in
      get_or_default marks lower New found (omega arith) ∙ sym read ∙ same
