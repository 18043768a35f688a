-- The names of the modules, one module more.
use Rattle.std.proofs.Common.{◌≡◌, ℕ, ◌+◌, ◌-◌, ◌<◌, ◌≤◌, inl, inr, List, [], ◌∷◌, ◌++◌, length, take, drop, get_or, map, refl, sym, ap, ap₂, ◌∙◌, subst, arith}
use Rattle.std.proofs.lemmas.List.{length_push, get_or_push, get_or_append_left, get_or-append_right, length-map, length-append, length-take, length-drop, get_or-map, get_or-take, get_or-drop, take-map, drop-map, take-append-le, drop-append-le, take_all}
use Rattle.verilog_netlist.specs.ModuleNames.{texts_in}
use Rattle.verilog_netlist.specs.PartPlaces.{no_entry, entry_at}
use Rattle.verilog_netlist.specs.NameRows.{Facts, view_row, facts_in, text_number, rows_of, start_at, own_at, AddsNames, HoldsNetNames}
use Rattle.verilog_netlist.specs.declared.entries.Entry.{Entry}
use Rattle.verilog_netlist.specs.declared.net_names.NameRow.{NameRow}
use Rattle.verilog_netlist.specs.declared.net_names.NetNames.{NetNames}
use Rattle.verilog_netlist.specs.declared.places.Places.{Places}
use Rattle.verilog_netlist.proofs.PartsFound.{le_or_lt}

-- rows that stay as more are added
view_part : (rows : List NameRow) (s n : ℕ) → map view_row (take n (drop s rows)) ≡ take n (drop s (map view_row rows))
view_part rows s n = sym (take-map view_row n (drop s rows)) ∙ ap (take n) (sym (drop-map view_row s rows))

part_stays : (old more : List Facts) (s e : ℕ) → s ≤ e → e ≤ length old → take (e - s) (drop s (old ++ more)) ≡ take (e - s) (drop s old)
part_stays old more s e order within =
    ap (take (e - s)) (drop-append-le s old more (omega arith))
    ∙ take-append-le (e - s) (drop s old) more (let l = length-drop s old in omega arith)

part_added : (old more : List Facts) (e : ℕ) → e ≡ length old + length more → take (e - length old) (drop (length old) (old ++ more)) ≡ more
part_added old more e is =
    ap (take (e - length old)) (drop-append-le (length old) old more (omega arith) ∙ ap (λ (l : List Facts). l ++ more) (none old))
    ∙ take_all (e - length old) more (omega arith)
  where
    none : (l : List Facts) → drop (length l) l ≡ []
    none [] = refl
    none (x ∷ l) = none l

module _ (bytes : List ℕ) (entries : List Entry) (p : Places) where
  pub no_names : (names : NetNames) → names.starts.items ≡ 0 ∷ [] → names.rows.items ≡ [] → length names.numbers.items ≡ start_at p 0 → HoldsNetNames bytes entries p 0 names
  no_names names starts rows numbers = record {
    starts = ap length starts ∙ omega arith;
    last = ap (λ (l : List ℕ). get_or l 0 0) starts ∙ sym (ap length rows);
    order = λ m below. absurd (omega arith);
    rows = λ m below. absurd (omega arith);
    numbered = numbers;
    behind = λ m below. absurd (omega arith);
    numbers = λ m at below. absurd (omega arith);
  }

  module _ (n : ℕ) (old new : NetNames) (h : HoldsNetNames bytes entries p n old) (adds : AddsNames bytes (own_at entries p n) old new) (head : start_at p n < start_at p (n + 1)) (within : start_at p (n + 1) ≤ length entries) where
    abbrev own : List Entry
    own = own_at entries p n

    length_own : length own ≡ start_at p (n + 1) - (start_at p n + 1)
    length_own = length-take (start_at p (n + 1) - (start_at p n + 1)) (drop (start_at p n + 1) entries) ∙ (let d = length-drop (start_at p n + 1) entries in omega arith)

    rows_more : length new.rows.items ≡ length old.rows.items + length (texts_in bytes own)
    rows_more =
        sym (length-map new.rows.items view_row) ∙ ap length adds.rows ∙ length-append (map view_row old.rows.items) (map (facts_in bytes own) (texts_in bytes own))
        ∙ ap₂ (λ (a b : ℕ). a + b) (length-map old.rows.items view_row) (length-map (texts_in bytes own) (facts_in bytes own))

    start_stays : (m : ℕ) → m < n + 1 → get_or new.starts.items m 0 ≡ get_or old.starts.items m 0
    start_stays m below = ap (λ (l : List ℕ). get_or l m 0) adds.starts ∙ get_or_append_left old.starts.items (length new.rows.items ∷ []) 0 m (let s = h.starts in omega arith)

    start_new : get_or new.starts.items (n + 1) 0 ≡ length new.rows.items
    start_new = ap (λ (l : List ℕ). get_or l (n + 1) 0) adds.starts ∙ get_or_push old.starts.items (length new.rows.items) 0 (n + 1) h.starts

    ordered : (m : ℕ) → m < n + 1 → (get_or new.starts.items m 0 ≤ get_or new.starts.items (m + 1) 0) × (get_or new.starts.items (m + 1) 0 ≤ length new.rows.items)
    ordered m below = elim (le_or_lt n m) [
      | inr less ↦
          let o = h.order m less in let a = o.0 in let b = o.1 in let s = start_stays m below in let t = start_stays (m + 1) (omega arith) in let r = rows_more in
          ((omega arith), (omega arith))
      | inl more ↦
          let is : m ≡ n = omega arith in
          let s = start_stays m below in
          let t : get_or new.starts.items (m + 1) 0 ≡ length new.rows.items = ap (λ (k : ℕ). get_or new.starts.items (k + 1) 0) is ∙ start_new in
          let u : get_or old.starts.items m 0 ≡ length old.rows.items = ap (λ (k : ℕ). get_or old.starts.items k 0) is ∙ h.last in
          let r = rows_more in
          ((omega arith), (omega arith))
    ]

    old_rows : (m : ℕ) → m < n → map view_row (rows_of new.starts.items new.rows.items m) ≡ map view_row (rows_of old.starts.items old.rows.items m)
    old_rows m less =
        let o = h.order m less in
        let s : ℕ = get_or old.starts.items m 0 in
        let e : ℕ = get_or old.starts.items (m + 1) 0 in
        ap₂ (λ (x y : ℕ). map view_row (take (y - x) (drop x new.rows.items))) (start_stays m (omega arith)) (start_stays (m + 1) (omega arith))
        ∙ view_part new.rows.items s (e - s)
        ∙ ap (λ (l : List Facts). take (e - s) (drop s l)) adds.rows
        ∙ part_stays (map view_row old.rows.items) (map (facts_in bytes own) (texts_in bytes own)) s e o.0 (let l = length-map old.rows.items view_row in let b = o.1 in omega arith)
        ∙ sym (view_part old.rows.items s (e - s))

    new_rows : map view_row (rows_of new.starts.items new.rows.items n) ≡ map (facts_in bytes own) (texts_in bytes own)
    new_rows =
        let l = length-map old.rows.items view_row in
        ap₂ (λ (x y : ℕ). map view_row (take (y - x) (drop x new.rows.items))) (start_stays n (omega arith) ∙ h.last ∙ sym l) start_new
        ∙ view_part new.rows.items (length (map view_row old.rows.items)) (length new.rows.items - length (map view_row old.rows.items))
        ∙ ap (λ (t : List Facts). take (length new.rows.items - length (map view_row old.rows.items)) (drop (length (map view_row old.rows.items)) t)) adds.rows
        ∙ part_added (map view_row old.rows.items) (map (facts_in bytes own) (texts_in bytes own)) (length new.rows.items) (let r = rows_more in let k = length-map (texts_in bytes own) (facts_in bytes own) in omega arith)

    length_numbers : length new.numbers.items ≡ start_at p (n + 1)
    length_numbers =
        ap length adds.numbers ∙ length-append (old.numbers.items ++ 0 ∷ []) (map (text_number bytes (texts_in bytes own)) own)
        ∙ (let a = length_push old.numbers.items 0 in let b = length-map own (text_number bytes (texts_in bytes own)) in let c = length_own in let d = h.numbered in omega arith)

    old_number : (at : ℕ) → at < length old.numbers.items → get_or new.numbers.items at 0 ≡ get_or old.numbers.items at 0
    old_number at below =
        ap (λ (l : List ℕ). get_or l at 0) adds.numbers
        ∙ get_or_append_left (old.numbers.items ++ 0 ∷ []) (map (text_number bytes (texts_in bytes own)) own) 0 at (let a = length_push old.numbers.items 0 in omega arith)
        ∙ get_or_append_left old.numbers.items (0 ∷ []) 0 at below

    new_number : (at : ℕ) → start_at p n < at → at < start_at p (n + 1) → get_or new.numbers.items at 0 ≡ text_number bytes (texts_in bytes own) (entry_at entries at)
    new_number at low high =
        ap (λ (l : List ℕ). get_or l at 0) adds.numbers
        ∙ get_or-append_right (old.numbers.items ++ 0 ∷ []) (map (text_number bytes (texts_in bytes own)) own) (start_at p n + 1) at 0 (let a = length_push old.numbers.items 0 in let b = h.numbered in omega arith) (omega arith)
        ∙ get_or-map (text_number bytes (texts_in bytes own)) own (at - (start_at p n + 1)) no_entry 0 (let l = length_own in omega arith)
        ∙ ap (text_number bytes (texts_in bytes own))
        (get_or-take (start_at p (n + 1) - (start_at p n + 1)) (drop (start_at p n + 1) entries) (at - (start_at p n + 1)) no_entry (omega arith)
        ∙ get_or-drop (start_at p n + 1) entries (at - (start_at p n + 1)) no_entry ∙ ap (entry_at entries) (omega arith))

    pub names_next : HoldsNetNames bytes entries p (n + 1) new
    names_next = record {
      starts = ap length adds.starts ∙ length_push old.starts.items (length new.rows.items) ∙ ap (λ (k : ℕ). k + 1) h.starts;
      last = start_new;
      order = ordered;
      rows = λ m below. elim (le_or_lt n m) [
        | inr less ↦ old_rows m less ∙ h.rows m less
        | inl more ↦ let is : n ≡ m = omega arith in subst (λ (k : ℕ). map view_row (rows_of new.starts.items new.rows.items k) ≡ map (facts_in bytes (own_at entries p k)) (texts_in bytes (own_at entries p k))) is new_rows
      ];
      numbered = length_numbers;
      behind = λ m below. elim (le_or_lt n m) [
        | inr less ↦ let b = h.behind m less in let l = length_numbers in let o = h.numbered in omega arith
        | inl more ↦ let is : n ≡ m = omega arith in subst (λ (k : ℕ). start_at p (k + 1) ≤ length new.numbers.items) is (let l = length_numbers in omega arith)
      ];
      numbers = λ m at below low high. elim (le_or_lt n m) [
        | inr less ↦ old_number at (let b = h.behind m less in omega arith) ∙ h.numbers m at less low high
        | inl more ↦ let is : n ≡ m = omega arith in
            subst (λ (k : ℕ). start_at p k < at → at < start_at p (k + 1) → get_or new.numbers.items at 0 ≡ text_number bytes (texts_in bytes (own_at entries p k)) (entry_at entries at)) is (new_number at) low high
      ];
    }
