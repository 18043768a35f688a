-- What is kept of the bits of a design, with one bit, one name and one visited module more.
use Rattle.std.proofs.Common.{◌≡◌, ℕ, ◌+◌, ◌<◌, ◌≤◌, List, [], ◌∷◌, ◌++◌, length, map, take, drop, Option, Some, None, refl, sym, ap, ◌∙◌, subst, arith, append-nil, append_assoc, length-append}
use Rattle.std.specs.Prelude.{slice_get, slice_index, flat_map}
use Rattle.std.proofs.lemmas.Option.{none-some}
use Rattle.std.proofs.lemmas.List.{take_all, map-append, take-take, take-append-drop, length-map}
use Rattle.std.proofs.lemmas.Grind.{flat_map-append}
use Rattle.hierarchy.specs.Walks.{joined_from}
use Rattle.hierarchy.proofs.Joining.{joined-more}
use Rattle.verilog_netlist.specs.NetModules.{NetModule}
use Rattle.netlist_link.specs.FlatBits.{NetBit, nets, nets_of_name, nets_of_visit}
use Rattle.netlist_link.specs.FlatPins.{IsNumbered}
use Rattle.netlist_link.specs.NamePlaces.{AreNamePlaces}
use Rattle.netlist_link.specs.PathTables.{top_of}
use Rattle.netlist_link.specs.BitTables.{path_of, nets_of, net_bit_of, IsBitOf}
use Rattle.netlist_link.specs.FlatBitTables.{IsKept, AreKept, targets_of_name, targets_of_visit, visits_of, targets_before, nets_before, names_of, HoldBits, HoldVisits, HoldNames, HasVisitBits, AreFlatBits}
use Rattle.netlist_link.specs.declared.checking.Design.{Design}
use Rattle.netlist_link.specs.declared.flat_bits.FlatBits.{FlatBits}
use Rattle.netlist_link.specs.declared.flat_bits.NetPlace.{NetPlace}
use Rattle.netlist_link.proofs.Pushing.{places_push}
use Rattle.text_table.proofs.Pushing.{each_push}
use Rattle.netlist_link.proofs.KeptBits.{kept_append, kept_count, kept_more, kept_last}
use Rattle.netlist_link.proofs.BitPlaces.{targets_more, nets_more}

module _ (d : Design) where
  -- the bits of a visited module are kept where those of more modules are
  pub visit_kept : (many started visit : ℕ) (rest : List (Option NetBit)) (nets : List NetBit) (bits : FlatBits) → visit < many → many ≤ started
      → HoldBits d started (targets_before d many ++ rest) nets bits → HasVisitBits d visit bits
  visit_kept many started visit rest nets bits below few held =
      let targets = targets_of_visit d.modules.now (top_of d.walk.now) in
      let all = take many (visits_of d) in
      let later = flat_map targets (drop (visit + 1) all) in
      let parts : targets_before d many ≡ targets_before d (visit + 1) ++ later =
      ap (flat_map targets) (sym (take-append-drop (visit + 1) all)) ∙ flat_map-append targets (take (visit + 1) all) (drop (visit + 1) all)
      ∙ ap (λ (l : List (List ℕ)). flat_map targets l ++ later) (take-take (visit + 1) many (visits_of d) (omega arith)) in
      record {
        started = started;
        rest = later ++ rest;
        nets = nets;
        below = omega arith;
        held = subst (λ (l : List (Option NetBit)). HoldBits d started l nets bits)
            (ap (λ (l : List (Option NetBit)). l ++ rest) parts ∙ append_assoc (targets_before d (visit + 1)) later rest) held;
      }

  pub all_kept : (visit : ℕ) (bits : FlatBits) → visit < length (visits_of d) → AreFlatBits d bits → HasVisitBits d visit bits
  unfolding visit_kept
  all_kept visit bits below are = record {
    started = length (visits_of d);
    rest = (visit_kept (length (visits_of d)) (length (visits_of d)) visit [] (nets_of d) bits below (omega arith) whole).rest;
    nets = nets_of d;
    below = below;
    held = (visit_kept (length (visits_of d)) (length (visits_of d)) visit [] (nets_of d) bits below (omega arith) whole).held;
  }
    where
      whole : HoldBits d (length (visits_of d)) (targets_before d (length (visits_of d)) ++ []) (nets_of d) bits
      whole = subst (λ (l : List (Option NetBit)). HoldBits d (length (visits_of d)) l (nets_of d) bits)
          (sym (append-nil (targets_before d (length (visits_of d))))) are.held

  pub all_nets : (visit : ℕ) (bits : FlatBits) (below : visit < length (visits_of d)) (are : AreFlatBits d bits)
      → (all_kept visit bits below are).nets ≡ nets_of d
  unfolding all_kept
  all_nets visit bits below are = refl

  -- they stay kept while more is put behind
  pub still_kept : (visit : ℕ) (old now : FlatBits) (more : List (Option NetBit)) → HasVisitBits d visit old
      → ((started : ℕ) (targets : List (Option NetBit)) (nets : List NetBit) → HoldBits d started targets nets old
      → HoldBits d started (targets ++ more) nets now) → HasVisitBits d visit now
  still_kept visit old now more has holds = record {
    started = has.started;
    rest = has.rest ++ more;
    nets = has.nets;
    below = has.below;
    held = subst (λ (l : List (Option NetBit)). HoldBits d has.started l has.nets now)
        (append_assoc (targets_before d (visit + 1)) has.rest more) (holds has.started (targets_before d (visit + 1) ++ has.rest) has.nets has.held);
  }

  module _ (started : ℕ) (targets : List (Option NetBit)) (nets : List NetBit) (old now : FlatBits) (held : HoldBits d started targets nets old) where
    -- a new net at the end
    pub net_step : (place : NetPlace) → now.names ≡ old.names → now.starts.items ≡ old.starts.items
        → now.bits.items ≡ old.bits.items ++ Some (length old.nets.items) ∷ [] → now.nets.items ≡ old.nets.items ++ place ∷ []
        → IsBitOf d place.visit place.name place.bit
        → HoldBits d started (targets ++ Some (net_bit_of d place) ∷ []) (nets ++ net_bit_of d place ∷ []) now
    net_step place names starts bits_are nets_are inside =
        let net = net_bit_of d place in
        let count : length old.nets.items ≡ length nets = sym (length-map old.nets.items (net_bit_of d)) ∙ ap length held.nets_are in
        let last : IsKept (nets ++ net ∷ []) (Some net) (Some (length old.nets.items)) =
        subst (λ (n : ℕ). slice_get (nets ++ net ∷ []) n ≡ Some net) (sym count) (kept_last nets net) in
        record {
          names = subst (AreNamePlaces d.modules.now) (sym names) held.names;
          starts_len = ap length starts ∙ held.starts_len;
          starts_are = subst (λ (l : List ℕ). (v : ℕ) → v < started → slice_index l v ≡ length (targets_before d v)) (sym starts) held.starts_are;
          numbers_are = subst (AreKept (nets ++ net ∷ []) (targets ++ Some net ∷ [])) (sym bits_are)
              (kept_append (nets ++ net ∷ []) targets (Some net ∷ []) old.bits.items (Some (length old.nets.items) ∷ [])
              (kept_more nets (net ∷ []) targets old.bits.items held.numbers_are) (last, tt));
          nets_are = ap (map (net_bit_of d)) nets_are ∙ map-append (net_bit_of d) old.nets.items (place ∷ [])
              ∙ ap (λ (l : List NetBit). l ++ net ∷ []) held.nets_are;
          each = subst (λ (l : List NetPlace). (n : ℕ) (p : NetPlace) → slice_get l n ≡ Some p → IsBitOf d p.visit p.name p.bit) (sym nets_are)
              (each_push (λ n p. IsBitOf d p.visit p.name p.bit) old.nets.items place held.each inside);
        }

    -- the number of a net that is kept already, at the end
    pub number_step : (target : Option NetBit) (number : Option ℕ) → now.names ≡ old.names → now.starts.items ≡ old.starts.items
        → now.nets.items ≡ old.nets.items → now.bits.items ≡ old.bits.items ++ number ∷ [] → IsKept nets target number
        → HoldBits d started (targets ++ target ∷ []) nets now
    number_step target number names starts nets_are bits_are is = record {
      names = subst (AreNamePlaces d.modules.now) (sym names) held.names;
      starts_len = ap length starts ∙ held.starts_len;
      starts_are = subst (λ (l : List ℕ). (v : ℕ) → v < started → slice_index l v ≡ length (targets_before d v)) (sym starts) held.starts_are;
      numbers_are = subst (AreKept nets (targets ++ target ∷ [])) (sym bits_are)
          (kept_append nets targets (target ∷ []) old.bits.items (number ∷ []) held.numbers_are (is, tt));
      nets_are = ap (map (net_bit_of d)) nets_are ∙ held.nets_are;
      each = subst (λ (l : List NetPlace). (n : ℕ) (p : NetPlace) → slice_get l n ≡ Some p → IsBitOf d p.visit p.name p.bit) (sym nets_are) held.each;
    }

    pub number_to : (all : List (Option NetBit)) (target : Option NetBit) (number : Option ℕ) → targets ++ target ∷ [] ≡ all
        → now.names ≡ old.names → now.starts.items ≡ old.starts.items → now.nets.items ≡ old.nets.items
        → now.bits.items ≡ old.bits.items ++ number ∷ [] → IsKept nets target number → HoldBits d started all nets now
    number_to all target number same names starts nets_are bits_are is =
        subst (λ (l : List (Option NetBit)). HoldBits d started l nets now) same (number_step target number names starts nets_are bits_are is)

  -- a visited module begins
  pub start_step : (v start : ℕ) (old now : FlatBits) → HoldVisits d v old → now.names ≡ old.names → now.bits.items ≡ old.bits.items
      → now.nets.items ≡ old.nets.items → now.starts.items ≡ old.starts.items ++ start ∷ [] → start ≡ length old.bits.items → HoldNames d v 0 now
  start_step v start old now held names bits_are nets_are starts start_is = record {
    names = subst (AreNamePlaces d.modules.now) (sym names) held.names;
    starts_len = ap length starts ∙ length-append old.starts.items (start ∷ []) ∙ ap (λ (n : ℕ). n + 1) held.starts_len;
    starts_are = subst (λ (l : List ℕ). (u : ℕ) → u < v + 1 → slice_index l u ≡ length (targets_before d u)) (sym starts)
        (places_push (λ (u place : ℕ). place ≡ length (targets_before d u)) old.starts.items start v held.starts_len held.starts_are
        (start_is ∙ kept_count (nets_before d v) (targets_before d v) old.bits.items held.numbers_are));
    numbers_are = subst (λ (kept : List NetBit). AreKept kept (targets_before d v ++ []) now.bits.items) (sym (append-nil (nets_before d v)))
        (subst (λ (l : List (Option NetBit)). AreKept (nets_before d v) l now.bits.items) (sym (append-nil (targets_before d v)))
        (subst (AreKept (nets_before d v) (targets_before d v)) (sym bits_are) held.numbers_are));
    nets_are = ap (map (net_bit_of d)) nets_are ∙ held.nets_are ∙ sym (append-nil (nets_before d v));
    each = subst (λ (l : List NetPlace). (n : ℕ) (p : NetPlace) → slice_get l n ≡ Some p → IsBitOf d p.visit p.name p.bit) (sym nets_are) held.each;
  }

  module _ (v : ℕ) (bits : FlatBits) where
    abbrev lists : ℕ → List (Option NetBit)
    lists = targets_of_name d.modules.now (top_of d.walk.now) (path_of d v)

    abbrev own : ℕ → List NetBit
    own = nets_of_name d.modules.now (top_of d.walk.now) (path_of d v)

    -- a name more
    pub name_step : (i : ℕ) (targets : List (Option NetBit)) (nets : List NetBit) → targets ≡ lists i → nets ≡ own i
        → HoldBits d (v + 1) ((targets_before d v ++ joined_from lists 0 i) ++ targets) ((nets_before d v ++ joined_from own 0 i) ++ nets) bits
        → HoldNames d v (i + 1) bits
    name_step i targets nets targets_are nets_are held =
        let from : i ≡ 0 + i = omega arith in
        let one : (targets_before d v ++ joined_from lists 0 i) ++ targets ≡ targets_before d v ++ joined_from lists 0 (i + 1) =
        append_assoc (targets_before d v) (joined_from lists 0 i) targets
        ∙ ap (λ (l : List (Option NetBit)). targets_before d v ++ (joined_from lists 0 i ++ l)) (targets_are ∙ ap lists from)
        ∙ ap (λ (l : List (Option NetBit)). targets_before d v ++ l) (sym (joined-more lists 0 i)) in
        let two : (nets_before d v ++ joined_from own 0 i) ++ nets ≡ nets_before d v ++ joined_from own 0 (i + 1) =
        append_assoc (nets_before d v) (joined_from own 0 i) nets
        ∙ ap (λ (l : List NetBit). nets_before d v ++ (joined_from own 0 i ++ l)) (nets_are ∙ ap own from)
        ∙ ap (λ (l : List NetBit). nets_before d v ++ l) (sym (joined-more own 0 i)) in
        subst (λ (l : List NetBit). HoldBits d (v + 1) (targets_before d v ++ joined_from lists 0 (i + 1)) l bits) two
        (subst (λ (l : List (Option NetBit)). HoldBits d (v + 1) l ((nets_before d v ++ joined_from own 0 i) ++ nets) bits) one held)

    -- a visited module is done
    pub visit_step : (i : ℕ) → v < length (visits_of d) → i ≡ length (names_of d v) → HoldNames d v i bits → HoldVisits d (v + 1) bits
    visit_step i below done held =
        subst (λ (l : List NetBit). HoldBits d (v + 1) (targets_before d (v + 1)) l bits) (sym (nets_more d v below))
        (subst (λ (l : List (Option NetBit)). HoldBits d (v + 1) l (nets_before d v ++ joined_from own 0 (length (names_of d v))) bits)
        (sym (targets_more d v below)) (subst (λ (n : ℕ). HoldNames d v n bits) done held))

module _ (d : Design) (bits : FlatBits) where
  -- nothing is kept at first
  pub visits_begin : AreNamePlaces d.modules.now bits.names → bits.starts.items ≡ [] → bits.bits.items ≡ [] → bits.nets.items ≡ []
      → HoldVisits d 0 bits
  visits_begin names starts bits_are nets_are = record {
    names = names;
    starts_len = ap length starts;
    starts_are = λ v below. absurd (omega arith);
    numbers_are = subst (AreKept [] []) (sym bits_are) tt;
    nets_are = ap (map (net_bit_of d)) nets_are;
    each = subst (λ (l : List NetPlace). (n : ℕ) (p : NetPlace) → slice_get l n ≡ Some p → IsBitOf d p.visit p.name p.bit) (sym nets_are)
        (λ n p is. absurd (none-some p is));
  }

  -- and all in the end
  pub visits_done : (many : ℕ) → many ≡ length (visits_of d) → HoldVisits d many bits → AreFlatBits d bits
  visits_done many done held =
      let all : nets_before d (length (visits_of d)) ≡ nets_of d =
      ap (flat_map (nets_of_visit d.modules.now (top_of d.walk.now))) (take_all (length (visits_of d)) (visits_of d) (omega arith)) in
      let whole = subst (λ (l : List NetBit). HoldBits d (length (visits_of d)) (targets_before d (length (visits_of d))) l bits) all
      (subst (λ (n : ℕ). HoldVisits d n bits) done held) in
      record {
        nets = record { nets_are = whole.nets_are; each = whole.each };
        held = whole;
      }

-- a number among all nets is the number of a net
pub kept_numbered : (modules : List NetModule) (top : ℕ) (target : Option NetBit) (number : Option ℕ) → IsKept (nets modules top) target number
    → IsNumbered modules top target number
kept_numbered modules top None None is = tt
kept_numbered modules top None (Some n) is = absurd is
kept_numbered modules top (Some t) None is = absurd is
kept_numbered modules top (Some t) (Some n) is = is
