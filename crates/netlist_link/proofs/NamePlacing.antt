-- One name more of a module, and one module more.
use Rattle.std.proofs.Common.{◌≡◌, ℕ, ◌+◌, ◌<◌, List, [], ◌∷◌, ◌++◌, length, take, get_or, sym, ap, ap₂, ◌∙◌, subst, arith, append-nil, append_assoc, length-append}
use Rattle.std.specs.Prelude.{slice_index, flat_map, sum_by}
use Rattle.std.proofs.lemmas.Option.{slice_get-get_or}
use Rattle.std.proofs.lemmas.List.Sums.{sum_by-append}
use Rattle.std.proofs.lemmas.Grind.{flat_map-append}
use Rattle.verilog_netlist.specs.ModuleNames.{NetName, no_name}
use Rattle.verilog_netlist.specs.NetModules.{NetModule, no_module, module_at}
use Rattle.verilog_netlist.specs.Ranges.{whole_width}
use Rattle.hierarchy.specs.Walks.{joined_from}
use Rattle.hierarchy.proofs.Joining.{joined-more}
use Rattle.netlist_link.specs.NamePlaces.{bits_before, places_of_module, HoldPlaces, AddsNames}
use Rattle.netlist_link.specs.declared.flat_bits.NamePlaces.{NamePlaces}
use Rattle.netlist_link.proofs.Pushing.{take_push, places_push}

abbrev width : NetName → ℕ
width name = whole_width name.range

module _ (names : List NetName) (old : NamePlaces) where
  places : ℕ → List ℕ
  places i = bits_before names i ∷ []

  pub bits_more : (i : ℕ) → i < length names → bits_before names (i + 1) ≡ bits_before names i + width (get_or names i no_name)
  bits_more i below =
      let name = get_or names i no_name in
      ap (sum_by width) (take_push names i name (slice_get-get_or names i no_name below))
      ∙ sum_by-append width (take i names) (name ∷ [])
      ∙ (let one : sum_by width (name ∷ []) ≡ width name = omega arith in omega arith)

  -- the place of a name more
  pub places_more : (now : NamePlaces) (i before : ℕ) (items : List ℕ) → AddsNames names old now i before → items ≡ now.bits.items ++ before ∷ []
      → items ≡ old.bits.items ++ joined_from (λ k. bits_before names k ∷ []) 0 (i + 1)
  places_more now i before items so_far is =
      let same : i ≡ 0 + i = omega arith in
      is ∙ ap₂ (λ (l : List ℕ) (n : ℕ). l ++ n ∷ []) so_far.bits_are so_far.before_is
      ∙ append_assoc old.bits.items (joined_from (λ k. bits_before names k ∷ []) 0 i) (bits_before names i ∷ [])
      ∙ ap (λ (k : ℕ). old.bits.items ++ (joined_from (λ j. bits_before names j ∷ []) 0 i ++ bits_before names k ∷ [])) same
      ∙ ap (λ (l : List ℕ). old.bits.items ++ l) (sym (joined-more (λ k. bits_before names k ∷ []) 0 i))

module _ (modules : List NetModule) (m : ℕ) (below : m < length modules) where
  taken : take (m + 1) modules ≡ take m modules ++ module_at modules m ∷ []
  taken = take_push modules m (module_at modules m) (slice_get-get_or modules m no_module below)

  -- the places of the names of one module more
  pub module_more : (old now : NamePlaces) → HoldPlaces modules m old → now.starts.items ≡ old.starts.items ++ length old.bits.items ∷ []
      → now.bits.items ≡ old.bits.items ++ places_of_module (module_at modules m) → HoldPlaces modules (m + 1) now
  module_more old now so_far starts_are bits_are = record {
    bits_are = bits_are ∙ ap₂ (λ (a b : List ℕ). a ++ b) so_far.bits_are (sym (append-nil (places_of_module (module_at modules m))))
        ∙ sym (ap (flat_map places_of_module) taken ∙ flat_map-append places_of_module (take m modules) (module_at modules m ∷ []));
    starts_len = ap length starts_are ∙ length-append old.starts.items (length old.bits.items ∷ []) ∙ ap (λ (n : ℕ). n + 1) so_far.starts_len;
    starts_are = subst (λ (starts : List ℕ). (k : ℕ) → k < m + 1 → slice_index starts k ≡ length (flat_map places_of_module (take k modules)))
        (sym starts_are) (places_push (λ (k value : ℕ). value ≡ length (flat_map places_of_module (take k modules))) old.starts.items
        (length old.bits.items) m so_far.starts_len so_far.starts_are (ap length so_far.bits_are));
  }
