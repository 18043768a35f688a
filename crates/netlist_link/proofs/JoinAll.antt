-- One instance more of a walk.
use Rattle.std.proofs.Common.{◌≡◌, ℕ, ◌+◌, ◌<◌, List, [], ◌∷◌, ◌++◌, length, take, drop, Some, sym, ap, ap₂, ◌∙◌, append-nil, length-append}
use Rattle.std.specs.Prelude.{slice_get, flat_map}
use Rattle.std.proofs.lemmas.Option.{slice_get-get_or}
use Rattle.std.proofs.lemmas.List.{take-append-drop}
use Rattle.std.proofs.lemmas.Grind.{flat_map-append}
use Rattle.cell_models.specs.NamedSets.{NamedCells}
use Rattle.hierarchy.specs.Walks.{Met}
use Rattle.hierarchy.specs.WalkTables.{no_met}
use Rattle.netlist_link.specs.LinkEnds.{all_faults}
use Rattle.netlist_link.specs.PathTables.{top_of}
use Rattle.netlist_link.specs.Designs.{met_of, walk_of, numbers_in, faults_in, HoldsJoints, IsJoinedInstance, IsOfCell, IsCellPlace, IsFirstOf, first_is, no_memory_is}
use Rattle.netlist_link.specs.declared.checking.Design.{Design}
use Rattle.netlist_link.specs.declared.ends.LinkEnd.{LinkEnd}
use Rattle.netlist_link.proofs.Pushing.{take_push, places_push}

module _ (d : Design) (cells : List NamedCells) (i : ℕ) (below : i < length (walk_of d)) (starts numbers places : List ℕ)
    (so_far : HoldsJoints d i starts numbers places cells) where
  here : slice_get (walk_of d) i ≡ Some (met_of d i)
  here = slice_get-get_or (walk_of d) i no_met below

  taken : take (i + 1) (walk_of d) ≡ take i (walk_of d) ++ met_of d i ∷ []
  taken = take_push (walk_of d) i (met_of d i) here

  pub joints_step : (now : List ℕ) (start place : ℕ) → IsJoinedInstance d i numbers now cells → start ≡ length numbers
      → (IsOfCell d i → IsCellPlace cells d i place) → HoldsJoints d (i + 1) (starts ++ start ∷ []) now (places ++ place ∷ []) cells
  joints_step now start place joined start_is place_is = record {
    faultless = ap (flat_map (faults_in cells d)) taken ∙ flat_map-append (faults_in cells d) (take i (walk_of d)) (met_of d i ∷ [])
        ∙ ap₂ (λ (a b : List LinkEnd). a ++ b) so_far.faultless (append-nil (faults_in cells d (met_of d i)) ∙ joined.faultless);
    numbers_are = joined.numbers
        ∙ ap₂ (λ (a b : List ℕ). a ++ b) so_far.numbers_are (sym (append-nil (numbers_in cells d (met_of d i))))
        ∙ sym (ap (flat_map (numbers_in cells d)) taken ∙ flat_map-append (numbers_in cells d) (take i (walk_of d)) (met_of d i ∷ []));
    starts_len = length-append starts (start ∷ []) ∙ ap (λ (n : ℕ). n + 1) so_far.starts_len;
    starts_are = places_push (λ (k value : ℕ). value ≡ length (flat_map (numbers_in cells d) (take k (walk_of d)))) starts start i so_far.starts_len
        so_far.starts_are (start_is ∙ ap length so_far.numbers_are);
    places_len = length-append places (place ∷ []) ∙ ap (λ (n : ℕ). n + 1) so_far.places_len;
    places_are = places_push (λ (k value : ℕ). IsOfCell d k → IsCellPlace cells d k value) places place i so_far.places_len so_far.places_are place_is;
  }

  pub refused_at : (end : LinkEnd) → IsFirstOf (faults_in cells d (met_of d i)) end
      → IsFirstOf (all_faults d.modules.now (top_of d.walk.now) cells) end
  refused_at end no_memory_is = no_memory_is
  refused_at end (first_is first later is) =
      let all = walk_of d in
      let faults = faults_in cells d in
      let parts : all ≡ (take i all ++ met_of d i ∷ []) ++ drop (i + 1) all =
      sym (take-append-drop (i + 1) all) ∙ ap (λ (l : List Met). l ++ drop (i + 1) all) taken in
      first_is first (later ++ flat_map faults (drop (i + 1) all))
      (ap (flat_map faults) parts ∙ flat_map-append faults (take i all ++ met_of d i ∷ []) (drop (i + 1) all)
      ∙ ap (λ (l : List LinkEnd). l ++ flat_map faults (drop (i + 1) all))
      (flat_map-append faults (take i all) (met_of d i ∷ []) ∙ ap₂ (λ (a b : List LinkEnd). a ++ b) so_far.faultless (append-nil (faults (met_of d i)) ∙ is)))
