-- A design in which no module but the top is visited: the names of its instances are names of that module, and so are those of its nets
-- where no name has a range. They differ, as names of a module do.
use Rattle.std.proofs.Common.{◌≡◌, ℕ, zero, suc, ◌+◌, ◌<◌, Bool, true, false, not, if◌then◌else◌, List, [], ◌∷◌, ◌++◌, length, map, Some, None, refl, sym, ap, ◌∙◌, subst, arith}
use Rattle.std.specs.List.{filter, filter_map, cons_option, flat_map}
use Rattle.std.proofs.lemmas.List.{append-nil}
use Rattle.name_table.specs.Names.{AreDistinct}
use Rattle.verilog_netlist.specs.NetModules.{NetModule, name_at, instance_at}
use Rattle.verilog_netlist.specs.Ranges.{whole_width}
use Rattle.verilog_netlist.specs.SoundModules.{Differ}
use Rattle.hierarchy.specs.Hierarchy.{lower_of, is_hierarchy, instance_count}
use Rattle.hierarchy.specs.Walks.{Met, joined_from, met_at, walk, whole_walk, is_module, entered, visits, cells_met}
use Rattle.netlist_link.specs.FlatBits.{NetBit, names_on, nets_of_name, nets_of_visit, nets}
use Rattle.netlist_link.specs.FlatNames.{path_text, bit_suffix, net_text, instance_text}
use Rattle.hierarchy.proofs.Numbered.{numbered_count, numbered_at}

-- texts that differ by their numbers
pub distinct_numbered : (text : ℕ → List ℕ) (n : ℕ) → Differ n text → AreDistinct (joined_from (λ k. text k ∷ []) 0 n)
distinct_numbered text n differ i j d before below same =
    let count = numbered_count text 0 n in
    differ i j before (omega (arith, below)) (sym (numbered_at text n i d (omega (arith, below))) ∙ same ∙ numbered_at text n j d (omega (arith, below)))

no_items : {X : Type 0} (xs : List X) → length xs ≡ 0 → xs ≡ []
no_items [] none = refl
no_items (x ∷ xs) none = absurd (omega arith)

module _ (modules : List NetModule) (top : ℕ) where
  abbrev is_cell : Met → Bool
  is_cell met = not (is_module modules top met)

  abbrev own_met : ℕ → Met
  own_met k = record { path = []; instance = k }

  -- one instance of the top, where nothing is entered
  own_step : (b : Bool) (met : Met) (inner rest singles : List Met) → is_module modules top met ≡ b
      → (filter_map (entered modules top) rest ≡ [] → filter is_cell rest ≡ singles)
      → filter_map (entered modules top) (met ∷ (if b then inner else []) ++ rest) ≡ []
      → filter is_cell (met ∷ (if b then inner else []) ++ rest) ≡ met ∷ singles
  own_step true met inner rest singles is again none =
      let given = λ (b : Bool). cons_option (if b then Some (met.instance ∷ met.path) else None) (filter_map (entered modules top) (inner ++ rest)) in
      let some : suc (length (filter_map (entered modules top) (inner ++ rest))) ≡ 0 = ap length (sym (ap given is) ∙ none) in
      absurd (omega arith)
  own_step false met inner rest singles is again none =
      let given = λ (b : Bool). cons_option (if b then Some (met.instance ∷ met.path) else None) (filter_map (entered modules top) rest) in
      ap (λ (b : Bool). if (not b) then met ∷ filter is_cell rest else filter is_cell rest) is
      ∙ ap (λ (xs : List Met). met ∷ xs) (again (sym (ap given is) ∙ none))

  own_from : (below : List ℕ → ℕ → List Met) (from n : ℕ) → filter_map (entered modules top) (joined_from (met_at modules below [] top) from n) ≡ []
      → filter is_cell (joined_from (met_at modules below [] top) from n) ≡ joined_from (λ k. own_met k ∷ []) from n
  own_from below from zero none = refl
  own_from below from (suc n) none =
      own_step (is_hierarchy modules top from) (own_met from) (below (from ∷ []) (lower_of modules top from))
      (joined_from (met_at modules below [] top) (suc from) n) (joined_from (λ k. own_met k ∷ []) (suc from) n) refl (own_from below (suc from) n) none

  own_walk : (levels : ℕ) → filter_map (entered modules top) (walk modules (suc levels) [] top) ≡ []
      → filter is_cell (walk modules (suc levels) [] top) ≡ joined_from (λ k. own_met k ∷ []) 0 (instance_count modules top)
  unfolding walk
  own_walk levels none = own_from (walk modules levels) 0 (instance_count modules top) none

  -- the instances of cells are those of the top
  own_cells : length (visits modules top) ≡ 1 → cells_met modules top ≡ joined_from (λ k. own_met k ∷ []) 0 (instance_count modules top)
  own_cells one = own_walk 63 (no_items (filter_map (entered modules top) (whole_walk modules top)) (omega (arith, one)))

  own_texts : (from n : ℕ) → map (instance_text modules top) (joined_from (λ k. own_met k ∷ []) from n)
      ≡ joined_from (λ k. (instance_at modules top k).name ∷ []) from n
  unfolding path_text
  own_texts from zero = refl
  own_texts from (suc n) = ap (λ (texts : List (List ℕ)). (instance_at modules top from).name ∷ texts) (own_texts (suc from) n)

  pub instances_differ : length (visits modules top) ≡ 1 → Differ (instance_count modules top) (λ k. (instance_at modules top k).name)
      → AreDistinct (map (instance_text modules top) (cells_met modules top))
  instances_differ one differ =
      subst AreDistinct (sym (ap (map (instance_text modules top)) (own_cells one) ∙ own_texts 0 (instance_count modules top)))
      (distinct_numbered (λ k. (instance_at modules top k).name) (instance_count modules top) differ)

  abbrev own_net : ℕ → NetBit
  own_net i = record { path = []; name = i; bit = 0 }

  -- the one net of a name without a range, and its name
  scalar_net : (i : ℕ) → (name_at modules top i).range ≡ None → nets_of_name modules top [] i ≡ own_net i ∷ []
  scalar_net i scalar = ap (λ (w : ℕ). joined_from (λ bit. record { path = []; name = i; bit = bit } ∷ []) 0 w) (ap whole_width scalar)

  scalar_text : (i : ℕ) → (name_at modules top i).range ≡ None → net_text modules top (own_net i) ≡ (name_at modules top i).text
  unfolding path_text
  scalar_text i scalar = ap (λ r. (name_at modules top i).text ++ bit_suffix r 0) scalar ∙ append-nil (name_at modules top i).text

  scalar_texts : (from n : ℕ) → ((i : ℕ) → i < from + n → (name_at modules top i).range ≡ None)
      → map (net_text modules top) (joined_from (nets_of_name modules top []) from n) ≡ joined_from (λ i. (name_at modules top i).text ∷ []) from n
  scalar_texts from zero scalar = refl
  scalar_texts from (suc n) scalar =
      let rest = joined_from (nets_of_name modules top []) (suc from) n in
      let own = scalar from (omega arith) in
      ap (λ (own : List NetBit). map (net_text modules top) (own ++ rest)) (scalar_net from own)
      ∙ ap (λ (text : List ℕ). text ∷ map (net_text modules top) rest) (scalar_text from own)
      ∙ ap (λ (texts : List (List ℕ)). (name_at modules top from).text ∷ texts) (scalar_texts (suc from) n (λ i below. scalar i (omega (arith, below))))

  pub nets_differ : length (visits modules top) ≡ 1
      → ((i : ℕ) → i < length (names_on modules top []) → (name_at modules top i).range ≡ None)
      → Differ (length (names_on modules top [])) (λ i. (name_at modules top i).text)
      → AreDistinct (map (net_text modules top) (nets modules top))
  nets_differ one scalar differ =
      let n = length (names_on modules top []) in
      let alone = no_items (filter_map (entered modules top) (whole_walk modules top)) (omega (arith, one)) in
      let nets_are : nets modules top ≡ nets_of_visit modules top [] =
      ap (λ (inner : List (List ℕ)). flat_map (nets_of_visit modules top) ([] ∷ inner)) alone ∙ append-nil (nets_of_visit modules top []) in
      subst AreDistinct (sym (ap (map (net_text modules top)) nets_are ∙ scalar_texts 0 n (λ i below. scalar i (omega (arith, below)))))
      (distinct_numbered (λ i. (name_at modules top i).text) n differ)
