-- The models of cells are made one after another, at each corner in turn.
use Rattle.std.proofs.Common.{◌≡◌, ◌≢◌, ℕ, zero, suc, ◌+◌, ◌<◌, ◌≤◌, inl, inr, Bool, true, false, List, [], ◌∷◌, ◌++◌, length, map, take, get_or, slice_get, Some, Ok, Err, Contains, refl, sym, ap, ◌∙◌, subst, arith, length-append, true≢false}
use Rattle.std.specs.List.{list_any, slice_index_or}
use Rattle.std.specs.Str.{bytes_eq}
use Rattle.std.proofs.lemmas.List.{length-map, map-append, take_all}
use Rattle.std.proofs.lemmas.List.Folds.{list_any_at}
use Rattle.std.proofs.lemmas.List.Quantifiers.{all_pairs_push}
use Rattle.std.proofs.lemmas.Option.{slice_get-get_or}
use Rattle.std.proofs.lemmas.Slice.Eq.{bytes_eq-Decides}
use Rattle.indexmap.specs.IndexSet.{insert_key, insert_all}
use Rattle.name_table.specs.Names.{AreDistinct}
use Rattle.liberty_groups.specs.Groups.{Group}
use Rattle.liberty_groups.specs.Tables.{Tables, tree_of}
use Rattle.cell_models.specs.Cells.{TimedCell}
use Rattle.cell_models.specs.CornerCells.{AreOneShape}
use Rattle.cell_models.specs.Joining.{IsShapeFault, IsJoinEnd, other_shape}
use Rattle.cell_models.specs.NamedSets.{NamedCells, set_names}
use Rattle.cell_models.specs.declared.joining.JoinEnd.TheVariants as join
use Rattle.cell_models.specs.declared.shape.ShapeFault.{ShapeFault}
use Rattle.verilog_netlist.specs.NetModules.{NetModule}
use Rattle.hierarchy.specs.Uses.{AreCellsUsed}
use Rattle.hierarchy.specs.Walks.{met_instance, cells_met}
use Rattle.netlist_link.specs.FlatDesigns.{HasCells}
use Rattle.design_phases.specs.CellPhase.{IsModelAt, AreFirstModels, ModelsCorners, at_all, at_corner, other_shape as of_other_shape, AreFirstCells, ModelsCells, all_cells}
use Rattle.design_phases.specs.LibraryPhases.{ModelsCell}
use Rattle.design_phases.specs.UsePhase.{UsesCells, are_used}
use Rattle.refusals.specs.declared.refusal.Refusal.{Refusal}
use Rattle.refusals.specs.declared.refusal.Refusal.TheVariants.{CornerShape}
use Rattle.refusals.proofs.Places.{within, at_end, at_contains, get_map, got_below, front_more, index_is}

-- ---- one cell at the corners

module _ (trees : List Tables) (name : List ℕ) where
  abbrev libraries : List Group
  libraries = map tree_of trees

  pub no_models : AreFirstModels libraries name 0 []
  no_models = record { counted = refl; each = λ corner cell at. let past = within [] corner cell at in absurd (omega (arith, past)) }

  pub model_more : (corner : ℕ) (tree : Tables) (cell : TimedCell) (cells more : List TimedCell) → AreFirstModels libraries name corner cells → slice_get trees corner ≡ Some tree
      → ModelsCell corner (tree_of tree) name (Ok cell) → more ≡ cells ++ cell ∷ [] → AreFirstModels libraries name (corner + 1) more
  model_more corner tree cell cells more first stands models is = subst (AreFirstModels libraries name (corner + 1)) (sym is) (record {
    counted = length-append cells (cell ∷ []) ∙ ap (λ n. n + 1) first.counted;
    each = λ k model at. elim (at_end cells cell k model at) [
      | inl earlier ↦ first.each k model earlier
      | inr last ↦ subst (λ n. IsModelAt libraries name n model) (sym (last.0 ∙ first.counted)) (subst (λ (m : TimedCell). IsModelAt libraries name corner m) last.1
          (record { library = tree_of tree; stands = get_map tree_of trees corner tree stands; models = models }))
    ];
  })

  pub model_stops : (corner : ℕ) (tree : Tables) (cells : List TimedCell) (refusal : Refusal) → AreFirstModels libraries name corner cells → slice_get trees corner ≡ Some tree
      → ModelsCell corner (tree_of tree) name (Err refusal) → ModelsCorners libraries name (Err refusal)
  model_stops corner tree cells refusal first stands models = at_corner corner cells (tree_of tree) refusal first (get_map tree_of trees corner tree stands) models

  all_models : (count : ℕ) (cells : List TimedCell) → length trees ≡ count → AreFirstModels libraries name count cells → AreFirstModels libraries name (length libraries) cells
  all_models count cells counted first = subst (λ n. AreFirstModels libraries name n cells) (sym counted ∙ sym (length-map trees tree_of)) first

  -- models of one shape
  pub is_modelled : (count : ℕ) (cells set : List TimedCell) → length trees ≡ count → AreFirstModels libraries name count cells → AreOneShape cells → set ≡ cells → ModelsCorners libraries name (Ok set)
  is_modelled count cells set counted first shaped is = subst (λ (s : List TimedCell). ModelsCorners libraries name (Ok s)) (sym is) (at_all cells (all_models count cells counted first) shaped)

  shape_fault : (cells : List TimedCell) (fault : ShapeFault) → IsJoinEnd cells (join.Shape fault) → IsShapeFault cells fault
  shape_fault cells fault (other_shape _ is) = is

  -- and of several
  pub is_unlike : (count : ℕ) (cells : List TimedCell) (fault : ShapeFault) → length trees ≡ count → AreFirstModels libraries name count cells → IsJoinEnd cells (join.Shape fault)
      → ModelsCorners libraries name (Err (CornerShape name fault))
  is_unlike count cells fault counted first end = of_other_shape cells fault (all_models count cells counted first) (shape_fault cells fault end)

-- ---- the cells in turn

module _ (groups : List Group) (used : List (List ℕ)) where
  pub no_cells : AreFirstCells groups used 0 []
  no_cells = record { named = refl; each = λ place set at. let past = within [] place set at in absurd (omega (arith, past)) }

  abbrev with_models : List ℕ → List TimedCell → NamedCells
  with_models name cells = record { name = name; cells = cells }

  pub cell_more : (place : ℕ) (name : List ℕ) (models : List TimedCell) (sets more : List NamedCells) → AreFirstCells groups used place sets → slice_get used place ≡ Some name
      → ModelsCorners groups name (Ok models) → more ≡ sets ++ with_models name models ∷ [] → AreFirstCells groups used (place + 1) more
  cell_more place name models sets more first stands made is = subst (AreFirstCells groups used (place + 1)) (sym is) (record {
    named = map-append (λ (set : NamedCells). set.name) sets (with_models name models ∷ []) ∙ ap (λ l. l ++ name ∷ []) first.named ∙ sym (front_more used place name stands);
    each = λ k set at. elim (at_end sets (with_models name models) k set at) [
      | inl earlier ↦ first.each k set earlier
      | inr last ↦ subst (λ (s : NamedCells). ModelsCorners groups s.name (Ok s.cells)) last.1 made
    ];
  })

  pub all_there : (place : ℕ) (sets : List NamedCells) → place ≡ length used → AreFirstCells groups used place sets → ModelsCells groups used (Ok sets)
  all_there place sets end first = all_cells sets (subst (λ n. AreFirstCells groups used n sets) end first)

-- a name of the front stands before
front_index : {X : Type 0} (n : ℕ) (xs : List X) (k : ℕ) (d : X) → k < n → slice_index_or (take n xs) k d ≡ slice_index_or xs k d
front_index zero xs k d below = absurd (omega arith)
front_index (suc n) [] k d below = refl
front_index (suc n) (x ∷ xs) zero d below = refl
front_index (suc n) (x ∷ xs) (suc k) d below = front_index n xs k d (omega arith)

front_short : {X : Type 0} (n : ℕ) (xs : List X) → length (take n xs) ≤ n
front_short zero xs = omega arith
front_short (suc n) [] = omega arith
front_short (suc n) (x ∷ xs) = let h = front_short n xs in omega (arith, h)

-- a name differs from those before it
pub name_is_new : (used : List (List ℕ)) (place : ℕ) (name : List ℕ) (names : List (List ℕ)) → AreDistinct used → slice_get used place ≡ Some name → names ≡ take place used → ¬ Contains names name
name_is_new used place name names distinct stands are (k, below, is) =
    let counted : length names ≡ length (take place used) = ap length are in
    let early : k < place = (let h = front_short place used in omega (arith, below, counted, h)) in
    let there : slice_index_or names k name ≡ slice_index_or used k name = ap (λ l. slice_index_or l k name) are ∙ front_index place used k name early in
    distinct k place name early (within used place name stands) (sym there ∙ is ∙ sym (index_is used place name name stands))

-- the names of the cells that a design uses differ
apart : (texts : List (List ℕ)) (text : List ℕ) → AreDistinct texts → list_any (bytes_eq text) texts ≡ false → AreDistinct (texts ++ text ∷ [])
apart texts text distinct none = all_pairs_push (λ one other. one ≢ other) texts text distinct
    (λ k d below same. true≢false (sym (list_any_at (bytes_eq text) texts k d below ((bytes_eq-Decides text (get_or texts k d)).1 (sym same))) ∙ none))

key_apart : (texts : List (List ℕ)) (text : List ℕ) → AreDistinct texts → AreDistinct (insert_key bytes_eq texts text)
key_apart texts text distinct = by (list_any (bytes_eq text) texts) refl
  where
    by : (held : Bool) → list_any (bytes_eq text) texts ≡ held → AreDistinct (insert_key bytes_eq texts text)
    by true h = rw h distinct
    by false h = rw h (apart texts text distinct h)

keys_apart : (texts more : List (List ℕ)) → AreDistinct texts → AreDistinct (insert_all bytes_eq texts more)
keys_apart texts [] distinct = distinct
keys_apart texts (text ∷ more) distinct = keys_apart (insert_key bytes_eq texts text) more (key_apart texts text distinct)

are_cells : (modules : List NetModule) (top : List ℕ) (used : List (List ℕ)) → UsesCells modules top (Ok used) → AreCellsUsed modules top used
are_cells modules top used (are_used _ are) = are

pub used_differ : (modules : List NetModule) (top : List ℕ) (used : List (List ℕ)) → UsesCells modules top (Ok used) → AreDistinct used
used_differ modules top used uses =
    let are = are_cells modules top used uses in
    subst AreDistinct (sym are.are) (keys_apart [] (map (λ met. (met_instance modules are.top met).cell) (cells_met modules are.top)) (λ i j d less below. absurd (omega (arith, below))))

first_cells : (trees : List Group) (used : List (List ℕ)) (sets : List NamedCells) → ModelsCells trees used (Ok sets) → AreFirstCells trees used (length used) sets
first_cells trees used sets (all_cells _ first) = first

pub names_used : (trees : List Group) (used : List (List ℕ)) (sets : List NamedCells) → ModelsCells trees used (Ok sets) → set_names sets ≡ used
names_used trees used sets models = (first_cells trees used sets models).named ∙ take_all (length used) used (omega arith)

-- and each of them has its models
pub have_cells : (modules : List NetModule) (top : List ℕ) (used : List (List ℕ)) (trees : List Group) (sets : List NamedCells) → UsesCells modules top (Ok used) → ModelsCells trees used (Ok sets)
    → HasCells modules top sets
have_cells modules top used trees sets uses models =
    let named : set_names sets ≡ used = names_used trees used sets models in
    record {
      used = used;
      are = are_cells modules top used uses;
      known = λ k d below. subst (λ (l : List (List ℕ)). Contains l (slice_index_or used k d)) (sym named)
          (let got = got_below used k below in subst (Contains used) (sym (index_is used k got.0 d got.1)) (at_contains used k got.0 got.1));
    }

-- the item of a loop stands in the list
pub named_at : (used items : List (List ℕ)) (place : ℕ) (name : List ℕ) → items ≡ used → place < length items → name ≡ get_or items place name → slice_get used place ≡ Some name
named_at used items place name same below is = ap (λ l. slice_get l place) (sym same) ∙ slice_get-get_or items place name below ∙ ap (λ n. Some n) (sym is)
