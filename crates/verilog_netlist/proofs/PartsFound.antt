-- The parts of a netlist's entries, found by the places at which they begin.
use Rattle.std.proofs.Common.{◌≡◌, ℕ, zero, suc, ◌+◌, ◌-◌, ◌<◌, ◌≤◌, Bool, true, false, nat_lt, ◌⊎◌, inl, inr, List, [], ◌∷◌, ◌++◌, length, take, drop, get_or, slice_get, Some, refl, sym, ap, ap₂, ◌∙◌, subst, arith, cond, if◌then◌else◌, add-one}
use Rattle.std.specs.Prelude.{count_by}
use Rattle.std.proofs.lemmas.Bool.{ltb-true, ltb-false}
use Rattle.std.proofs.lemmas.List.{length_push, get_or_push, get_or_append_left, get_or-take, get_or-drop, take-take, drop-drop, drop-take, length-take, length-drop}
use Rattle.std.proofs.lemmas.List.Sums.{sum_by-cons, sum_by-append, count_by_more_yes, count_by_more_no, position_or_len_is}
use Rattle.verilog_netlist.specs.Parts.{Part, parts, until}
use Rattle.verilog_netlist.specs.PartPlaces.{no_entry, entry_at, grown, places_below, begun, stretch, IsPartAt}
use Rattle.verilog_netlist.specs.declared.entries.Entry.{Entry}

pub le_or_lt : (m n : ℕ) → (m ≤ n) ⊎ (n < m)
le_or_lt m n = by (nat_lt n m) refl
  where
    by : (b : Bool) → nat_lt n m ≡ b → (m ≤ n) ⊎ (n < m)
    by true less = inr (ltb-true n m less)
    by false more = inl (ltb-false n m more)

pub take_split : {X : Type 0} (a d q : ℕ) (l : List X) → q ≡ a + d → take q l ≡ take a l ++ take d (drop a l)
take_split zero d q l e = ap (λ n. take n l) (let f : q ≡ d = omega arith in f)
take_split (suc a) d zero l e = absurd (omega arith)
take_split (suc a) zero (suc q) [] e = refl
take_split (suc a) (suc d) (suc q) [] e = refl
take_split (suc a) d (suc q) (x ∷ l) e = ap (λ t. x ∷ t) (take_split a d q l (omega arith))

module _ (begins : Entry → Bool) where
  parts_yes : (e : Entry) (l : List Entry) → begins e ≡ true → parts begins (e ∷ l) ≡ (record { head = e; behind = until begins l }) ∷ parts begins l
  parts_yes e l h = ap (λ (b : Bool). if b then (record { head = e; behind = until begins l }) ∷ parts begins l else parts begins l) h

  parts_no : (e : Entry) (l : List Entry) → begins e ≡ false → parts begins (e ∷ l) ≡ parts begins l
  parts_no e l h = ap (λ (b : Bool). if b then (record { head = e; behind = until begins l }) ∷ parts begins l else parts begins l) h

  count_yes : (e : Entry) (l : List Entry) → begins e ≡ true → count_by begins (e ∷ l) ≡ suc (count_by begins l)
  count_yes e l h = sum_by-cons (λ x. cond (begins x) 1 0) e l ∙ ap (λ (b : Bool). cond b 1 0 + count_by begins l) h ∙ omega arith

  count_no : (e : Entry) (l : List Entry) → begins e ≡ false → count_by begins (e ∷ l) ≡ count_by begins l
  count_no e l h = sum_by-cons (λ x. cond (begins x) 1 0) e l ∙ ap (λ (b : Bool). cond b 1 0 + count_by begins l) h ∙ omega arith

  pub length_parts : (l : List Entry) → length (parts begins l) ≡ count_by begins l
  length_parts [] = refl
  length_parts (e ∷ l) = by (begins e) refl (length_parts l)
    where
      by : (b : Bool) → begins e ≡ b → length (parts begins l) ≡ count_by begins l → length (parts begins (e ∷ l)) ≡ count_by begins (e ∷ l)
      by true h more = ap length (parts_yes e l h) ∙ ap suc more ∙ sym (count_yes e l h)
      by false h more = ap length (parts_no e l h) ∙ more ∙ sym (count_no e l h)

  nth_part : (l : List Entry) (j : ℕ) → j < length l → begins (entry_at l j) ≡ true
      → slice_get (parts begins l) (count_by begins (take j l)) ≡ Some (record { head = entry_at l j; behind = until begins (drop (suc j) l) })
  nth_part [] j below h = absurd (omega arith)
  nth_part (e ∷ l) zero below h = ap (λ (ps : List Part). slice_get ps 0) (parts_yes e l h)
  nth_part (e ∷ l) (suc j) below h = by (begins e) refl (nth_part l j (omega arith) h)
    where
      by : (b : Bool) → begins e ≡ b → slice_get (parts begins l) (count_by begins (take j l)) ≡ Some (record { head = entry_at l j; behind = until begins (drop (suc j) l) })
          → slice_get (parts begins (e ∷ l)) (count_by begins (e ∷ take j l)) ≡ Some (record { head = entry_at l j; behind = until begins (drop (suc j) l) })
      by true b rest = ap₂ (λ (ps : List Part) (n : ℕ). slice_get ps n) (parts_yes e l b) (count_yes e (take j l) b) ∙ rest
      by false b rest = ap₂ (λ (ps : List Part) (n : ℕ). slice_get ps n) (parts_no e l b) (count_no e (take j l) b) ∙ rest

  -- what stands before the first that begins a part
  until_is : (l : List Entry) (n : ℕ) → n ≤ length l → ((k : ℕ) → k < n → begins (entry_at l k) ≡ false) → (n < length l → begins (entry_at l n) ≡ true) → until begins l ≡ take n l
  until_is l n few none next = ap (λ (k : ℕ). take k l) (position_or_len_is begins l n no_entry few none next)

  module _ (entries : List Entry) where
    abbrev all : ℕ
    all = length entries

    pub count_split : (a d q : ℕ) → q ≡ a + d → begun begins entries q ≡ begun begins entries a + count_by begins (take d (drop a entries))
    count_split a d q e = ap (count_by begins) (take_split a d q entries e) ∙ sum_by-append (λ x. cond (begins x) 1 0) (take a entries) (take d (drop a entries))

    pub begun_on : (a q : ℕ) → a ≤ q → begun begins entries a ≤ begun begins entries q
    begun_on a q order = let s = count_split a (q - a) q (omega arith) in omega arith

    pub begun_yes : (q : ℕ) → q < all → begins (entry_at entries q) ≡ true → begun begins entries (q + 1) ≡ begun begins entries q + 1
    begun_yes q below h = count_by_more_yes begins entries q no_entry below h

    pub begun_no : (q : ℕ) → q < all → begins (entry_at entries q) ≡ false → begun begins entries (q + 1) ≡ begun begins entries q
    begun_no q below h = count_by_more_no begins entries q no_entry below h

    -- as many places as parts
    pub length_places : (n : ℕ) → n ≤ all → length (places_below begins entries n) ≡ begun begins entries n
    length_places zero few = refl
    length_places (suc n) few = by (begins (entry_at entries n)) refl (length_places n (omega arith))
      where
        old : List ℕ
        old = places_below begins entries n

        by : (b : Bool) → begins (entry_at entries n) ≡ b → length old ≡ begun begins entries n → length (places_below begins entries (suc n)) ≡ begun begins entries (suc n)
        by true h more = ap (λ (t : Bool). length (grown t old n)) h ∙ length_push old n ∙ ap (λ (k : ℕ). k + 1) more ∙ sym (begun_yes n (omega arith) h) ∙ ap (begun begins entries) (add-one n)
        by false h more = ap (λ (t : Bool). length (grown t old n)) h ∙ more ∙ sym (begun_no n (omega arith) h) ∙ ap (begun begins entries) (add-one n)

    -- the place of the part of this number
    pub record Placed (n g q : ℕ) : Type 0 where
      pub below : q < n
      pub begins_it : begins (entry_at entries q) ≡ true
      pub counted : begun begins entries q ≡ g

    placed_push : (n g : ℕ) → n < all → begins (entry_at entries n) ≡ true → g < length (places_below begins entries n ++ n ∷ [])
        → ((h : g < length (places_below begins entries n)) → Placed n g (get_or (places_below begins entries n) g 0))
        → Placed (suc n) g (get_or (places_below begins entries n ++ n ∷ []) g 0)
    placed_push n g few here below older = elim (le_or_lt (length old) g) [
      | inr less ↦ let p = older less in subst (Placed (suc n) g) (sym (get_or_append_left old (n ∷ []) 0 g less)) (record { below = let b = p.below in omega arith; begins_it = p.begins_it; counted = p.counted })
      | inl more ↦
          let last : length old ≡ g = let l = length_push old n in omega arith in
          subst (Placed (suc n) g) (sym (get_or_push old n 0 g last)) (record { below = omega arith; begins_it = here; counted = sym (length_places n (omega arith)) ∙ last })
    ]
      where
        old : List ℕ
        old = places_below begins entries n

    pub placed : (n g : ℕ) → n ≤ all → g < length (places_below begins entries n) → Placed n g (get_or (places_below begins entries n) g 0)
    placed zero g few below = absurd (omega arith)
    placed (suc n) g few below = by (λ less. placed n g (omega arith) less) (begins (entry_at entries n)) refl
      where
        old : List ℕ
        old = places_below begins entries n

        by : (g < length (places_below begins entries n) → Placed n g (get_or (places_below begins entries n) g 0))
            → (b : Bool) → begins (entry_at entries n) ≡ b → Placed (suc n) g (get_or (places_below begins entries (suc n)) g 0)
        by older true h =
            let is = ap (λ (t : Bool). grown t old n) h in
            subst (λ (l : List ℕ). Placed (suc n) g (get_or l g 0)) (sym is) (placed_push n g (omega arith) h (subst (λ (l : List ℕ). g < length l) is below) older)
        by older false h =
            let is = ap (λ (t : Bool). grown t old n) h in
            let p = older (subst (λ (l : List ℕ). g < length l) is below) in
            subst (λ (l : List ℕ). Placed (suc n) g (get_or l g 0)) (sym is) (record { below = let b = p.below in omega arith; begins_it = p.begins_it; counted = p.counted })

    abbrev table : List ℕ
    table = places_below begins entries (length entries)

    -- the parts of a stretch
    module _ (a b k : ℕ) (order : a ≤ b) (within : b ≤ all) (here : begun begins entries a + k < begun begins entries b) where
      abbrev pub number : ℕ
      number = begun begins entries a + k

      abbrev pub q : ℕ
      q = get_or table number 0

      abbrev pub own : List Entry
      own = stretch entries a b

      p : Placed all number q
      p = placed all number (omega arith) (let l = length_places all (omega arith) in let m = begun_on b all within in omega arith)

      pub behind_a : a ≤ q
      behind_a = elim (le_or_lt a q) [
        | inl fits ↦ fits
        | inr less ↦ absurd (let y = begun_yes q p.below p.begins_it in let m = begun_on (q + 1) a (omega arith) in let c = p.counted in omega arith)
      ]

      before_b : q < b
      before_b = elim (le_or_lt b q) [
        | inr fits ↦ fits
        | inl more ↦ absurd (let m = begun_on b q more in let c = p.counted in omega arith)
      ]

      length_own : length own ≡ b - a
      length_own = length-take (b - a) (drop a entries) ∙ (let d = length-drop a entries in omega arith)

      at_own : (r : ℕ) → a ≤ r → r < b → entry_at own (r - a) ≡ entry_at entries r
      at_own r low high = get_or-take (b - a) (drop a entries) (r - a) no_entry (omega arith) ∙ get_or-drop a entries (r - a) no_entry ∙ ap (entry_at entries) (omega arith)

      counted_own : count_by begins (take (q - a) own) ≡ k
      counted_own =
          ap (count_by begins) (take-take (q - a) (b - a) (drop a entries) (let h = before_b in omega arith))
          ∙ (let s = count_split a (q - a) q (let h = behind_a in omega arith) in let c = p.counted in omega arith)

      rest_of_own : drop (suc (q - a)) own ≡ stretch entries (q + 1) b
      rest_of_own =
          ap (λ (n : ℕ). drop (suc (q - a)) (take n (drop a entries))) (let f : b - a ≡ suc (q - a) + (b - (q + 1)) = let h = before_b in let i = behind_a in omega arith in f)
          ∙ drop-take (suc (q - a)) (b - (q + 1)) (drop a entries)
          ∙ ap (take (b - (q + 1))) (drop-drop (suc (q - a)) a entries ∙ ap (λ (n : ℕ). drop n entries) (let h = behind_a in omega arith))

      -- none begins between this one and the end, and the next one begins there, if there is a next one
      pub found : (end : ℕ) → q < end → end ≤ b → begun begins entries end ≡ number + 1 → (end < b → begins (entry_at entries end) ≡ true) → IsPartAt entries begins own k q end
      found end low high last next = record {
        is = ap (slice_get (parts begins own)) (sym counted_own) ∙ nth_part own (q - a) (let l = length_own in let h = before_b in let i = behind_a in omega arith) (ap begins (at_own q behind_a before_b) ∙ p.begins_it)
            ∙ ap₂ (λ (e : Entry) (l : List Entry). Some (record { head = e; behind = l })) (at_own q behind_a before_b) behind_is;
        begins_it = p.begins_it;
        head = low;
        within = omega arith;
      }
        where
          rest : List Entry
          rest = stretch entries (q + 1) b

          n : ℕ
          n = end - (q + 1)

          length_rest : length rest ≡ b - (q + 1)
          length_rest = length-take (b - (q + 1)) (drop (q + 1) entries) ∙ (let d = length-drop (q + 1) entries in omega arith)

          at_rest : (r : ℕ) → r < b - (q + 1) → entry_at rest r ≡ entry_at entries (q + 1 + r)
          at_rest r high = get_or-take (b - (q + 1)) (drop (q + 1) entries) r no_entry high ∙ get_or-drop (q + 1) entries r no_entry

          none : (r : ℕ) → r < n → begins (entry_at rest r) ≡ false
          none r below = by (begins (entry_at entries (q + 1 + r))) refl
            where
              by : (t : Bool) → begins (entry_at entries (q + 1 + r)) ≡ t → begins (entry_at rest r) ≡ false
              by false h = ap begins (at_rest r (omega arith)) ∙ h
              by true h = absurd (
                  let y = begun_yes (q + 1 + r) (omega arith) h in
                  let z = begun_yes q p.below p.begins_it in
                  let m = begun_on (q + 1) (q + 1 + r) (omega arith) in
                  let o = begun_on (q + 1 + r + 1) end (omega arith) in
                  let c = p.counted in
                  omega arith)

          behind_is : until begins (drop (suc (q - a)) own) ≡ stretch entries (q + 1) end
          behind_is =
              ap (until begins) rest_of_own
              ∙ until_is rest n (let l = length_rest in omega arith) none
              (λ more. ap begins (at_rest n (let l = length_rest in omega arith)) ∙ ap (λ (r : ℕ). begins (entry_at entries r)) (omega arith) ∙ next (let l = length_rest in omega arith))
              ∙ take-take n (b - (q + 1)) (drop (q + 1) entries) (omega arith)

      pub found_last : number + 1 ≡ begun begins entries b → IsPartAt entries begins own k q b
      found_last last = found b before_b (omega arith) (sym last) (λ more. absurd (omega arith))

    -- the next one, where it begins in the same stretch
    module _ (a b k : ℕ) (order : a ≤ b) (within : b ≤ all) (here : begun begins entries a + k + 1 < begun begins entries b) where
      this : begun begins entries a + k < begun begins entries b
      this = omega arith

      abbrev next_end : ℕ
      next_end = get_or table (begun begins entries a + k + 1) 0

      pub next_within : get_or table (begun begins entries a + k + 1) 0 ≤ b
      next_within = elim (le_or_lt next_end b) [
        | inl fits ↦ fits
        | inr less ↦ absurd (
            let n = placed all (begun begins entries a + k + 1) (omega arith) (let l = length_places all (omega arith) in let m = begun_on b all within in omega arith) in
            let m = begun_on b next_end (omega arith) in let c = n.counted in omega arith)
      ]

      pub found_next : IsPartAt entries begins (stretch entries a b) k (get_or table (begun begins entries a + k) 0) (get_or table (begun begins entries a + k + 1) 0)
      found_next =
          let n = placed all (begun begins entries a + k + 1) (omega arith) (let l = length_places all (omega arith) in let m = begun_on b all within in omega arith) in
          let t = placed all (begun begins entries a + k) (omega arith) (let l = length_places all (omega arith) in let m = begun_on b all within in omega arith) in
          found a b k order within this next_end
          (elim (le_or_lt next_end (get_or table (begun begins entries a + k) 0)) [
            | inr fits ↦ fits
            | inl more ↦ absurd (let m = begun_on next_end (get_or table (begun begins entries a + k) 0) more in let c = n.counted in let d = t.counted in omega arith)
          ])
          next_within
          n.counted
          (λ more. n.begins_it)

    -- the part of this number in a stretch, and how many have begun before it and before its end
    pub record PartThere (a b k : ℕ) : Type 0 where
      pub place : ℕ
      pub end : ℕ
      pub part : IsPartAt entries begins (stretch entries a b) k place end
      pub low : a ≤ place
      pub high : end ≤ b
      pub before : begun begins entries place ≡ begun begins entries a + k
      pub past : begun begins entries end ≡ begun begins entries a + k + 1

    pub part_there : (a b k : ℕ) → a ≤ b → b ≤ all → begun begins entries a + k < begun begins entries b → PartThere a b k
    part_there a b k order within here = elim (le_or_lt (begun begins entries b) (begun begins entries a + k + 1)) [
      | inr more ↦ record {
        place = get_or table (begun begins entries a + k) 0;
        end = get_or table (begun begins entries a + k + 1) 0;
        part = found_next a b k order within more;
        low = behind_a a b k order within here;
        high = next_within a b k order within more;
        before = counted_at (begun begins entries a + k) here;
        past = counted_at (begun begins entries a + k + 1) more;
      }
      | inl last ↦ record {
        place = get_or table (begun begins entries a + k) 0;
        end = b;
        part = found_last a b k order within here (omega arith);
        low = behind_a a b k order within here;
        high = omega arith;
        before = counted_at (begun begins entries a + k) here;
        past = omega arith;
      }
    ]
      where
        counted_at : (g : ℕ) → g < begun begins entries b → begun begins entries (get_or table g 0) ≡ g
        counted_at g few = (placed all g (omega arith) (let l = length_places all (omega arith) in let m = begun_on b all within in omega arith)).counted

    -- where fewer have begun stands before
    pub begun_order : (p q : ℕ) → begun begins entries p < begun begins entries q → p < q
    begun_order p q fewer = elim (le_or_lt q p) [
      | inr less ↦ less
      | inl more ↦ absurd (let m = begun_on q p more in omega arith)
    ]
