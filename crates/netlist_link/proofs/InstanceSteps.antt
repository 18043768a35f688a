-- One instance of a cell more among those that are kept.
use Rattle.std.proofs.Common.{◌≡◌, ℕ, zero, suc, ◌+◌, ◌<◌, ◌≤◌, Bool, true, false, not, List, [], ◌∷◌, ◌++◌, length, map, take, drop, filter, get_or, Option, Some, None, is_some, refl, sym, ap, ◌∙◌, subst, arith, append-nil, length-append, length-drop, true≢false}
use Rattle.std.specs.Prelude.{slice_get}
use Rattle.std.specs.List.{position_or_len}
use Rattle.std.specs.Str.{bytes_eq}
use Rattle.std.proofs.lemmas.Slice.Eq.{bytes_eq-Decides}
use Rattle.std.proofs.lemmas.Option.{none-some, same_Some, slice_get_within, slice_get-get_or, get_or_from_slice_get}
use Rattle.std.proofs.lemmas.List.{get_or_append_left, take-append-le, drop-append-le, take_all, length_push, length-map, map-append}
use Rattle.std.proofs.lemmas.List.Elements.{filter_more}
use Rattle.std.proofs.Math.Seq.{get_or-append_seam, drop-append_seam}
use Rattle.cell_models.specs.NamedSets.{NamedCells, set_names}
use Rattle.cell_models.specs.declared.cell.Pin.{Pin}
use Rattle.hierarchy.specs.Walks.{Met, joined_from, is_module, met_instance, cells_met}
use Rattle.hierarchy.specs.WalkTables.{AreTablesOfWalk, IsLowerVisit, no_met}
use Rattle.netlist_link.specs.FlatNames.{instance_text, instance_sdf}
use Rattle.netlist_link.specs.FlatNetlist.{FlatInstance}
use Rattle.netlist_link.specs.FlatPins.{pins_of, net_on_pin, IsNumbered}
use Rattle.netlist_link.specs.Links.{IsInstanceOf, AreInstances}
use Rattle.netlist_link.specs.Clashes.{texts_of_instances}
use Rattle.netlist_link.specs.PathTables.{top_of}
use Rattle.netlist_link.specs.Designs.{met_of, walk_of, IsDesign, IsOfCell, IsCellPlace, HaveDistinctPins}
use Rattle.netlist_link.specs.InstanceTables.{no_row, row_at, kept_instance, instances_in, AreInstanceTables}
use Rattle.netlist_link.specs.InstanceRows.{IsInstanceMore, mets_before, HoldInstances}
use Rattle.netlist_link.specs.declared.cell_pins.CellPins.{CellPins}
use Rattle.netlist_link.specs.declared.checking.Design.{Design}
use Rattle.netlist_link.specs.declared.instances.InstanceRow.{InstanceRow}
use Rattle.netlist_link.specs.declared.instances.Instances.{Instances}
use Rattle.netlist_link.proofs.MetPlaces.{kept_met, met_is}
use Rattle.text_table.proofs.Pushing.{each_push}

-- a text that is held stands at its first place
text_there : (texts : List (List ℕ)) (text : List ℕ) (k : ℕ) → k < length texts → get_or texts k text ≡ text
    → slice_get texts (position_or_len (bytes_eq text) texts) ≡ Some text
text_there [] text k below is = absurd (omega arith)
text_there (first ∷ texts) text k below is = by (bytes_eq text first) refl k below is (text_there texts text)
  where
    by : (b : Bool) → bytes_eq text first ≡ b → (k : ℕ) → k < suc (length texts) → get_or (first ∷ texts) k text ≡ text
        → ((j : ℕ) → j < length texts → get_or texts j text ≡ text → slice_get texts (position_or_len (bytes_eq text) texts) ≡ Some text)
        → slice_get (first ∷ texts) (position_or_len (bytes_eq text) (first ∷ texts)) ≡ Some text
    by true same k below is rest = rw same (ap Some (sym ((bytes_eq-Decides text first).0 same)))
    by false same zero below is rest = absurd (true≢false (sym ((bytes_eq-Decides text first).1 (sym is)) ∙ same))
    by false same (suc k) below is rest =
        let at : position_or_len (bytes_eq text) (first ∷ texts) ≡ 1 + position_or_len (bytes_eq text) texts = rw same refl in
        let next : 1 + position_or_len (bytes_eq text) texts ≡ suc (position_or_len (bytes_eq text) texts) = omega arith in
        ap (slice_get (first ∷ texts)) (at ∙ next) ∙ rest k (omega arith) is

-- the cell of an instance that is met stands at its place
module _ (d : Design) (cells : List NamedCells) (is : IsDesign cells d) (i place : ℕ) (within : i < length d.walk.now.met) (of : IsOfCell d i)
    (place_is : IsCellPlace cells d i place) where
  pub cell_held : slice_get (set_names cells) place ≡ Some (met_instance d.modules.now (top_of d.walk.now) (met_of d i)).cell
  cell_held =
      let cell = (met_instance d.modules.now (top_of d.walk.now) (met_of d i)).cell in
      let held = is.known i within of in
      subst (λ (c : ℕ). slice_get (set_names cells) c ≡ Some cell) (sym place_is) (text_there (set_names cells) cell held.0 held.1 held.2)

  pub place_below : place < length cells
  place_below =
      let few = slice_get_within (set_names cells) place (met_instance d.modules.now (top_of d.walk.now) (met_of d i)).cell cell_held in
      let many = length-map cells (λ (set : NamedCells). set.name) in
      omega arith

  -- and so do its pins, as many as their directions
  pub pin_place_below : place < length d.pins.now
  pin_place_below = let few = place_below in let count = is.pins.count in omega arith

  pub directions_count : (pins : CellPins) → slice_get d.pins.now place ≡ Some pins → length pins.directions.items ≡ length (pins_of cells place)
  directions_count pins at = ap length (is.pins.each place pins at).directions ∙ length-map (pins_of cells place) (λ (pin : Pin). pin.direction)

module _ (d : Design) (cells : List NamedCells) (is : IsDesign cells d) (distinct : HaveDistinctPins cells) (i place : ℕ)
    (within : i < length d.walk.now.met) (of : IsOfCell d i) (place_is : IsCellPlace cells d i place) (mets : List Met) (old new : Instances)
    (so_far : HoldInstances d mets old cells) (more : IsInstanceMore d i place old new) where
  abbrev text : List ℕ
  text = instance_text d.modules.now (top_of d.walk.now) (met_of d i)

  abbrev sdf : List ℕ
  sdf = instance_sdf d.modules.now (top_of d.walk.now) (met_of d i)

  abbrev own : List (Option ℕ)
  own = more.row.own

  abbrev row : InstanceRow
  row = record { cell = place; first_pin = length old.pin_nets.items; pin_count = length own }

  abbrev IsInstance : Met → FlatInstance → Type 0
  IsInstance met instance = IsInstanceOf d.modules.now (top_of d.walk.now) cells met instance

  -- an instance from before stays as it is
  stays : (n : ℕ) → n < length old.rows.items → kept_instance new n ≡ kept_instance old n
  stays n below =
      let texts_count = so_far.tables.texts_count in
      let spellings_count = so_far.tables.spellings_count in
      let text_is : get_or new.names.texts n [] ≡ get_or old.names.texts n [] =
      ap (λ (l : List (List ℕ)). get_or l n []) more.texts ∙ get_or_append_left old.names.texts (text ∷ []) [] n (omega arith) in
      let sdf_is : get_or new.names.spellings n [] ≡ get_or old.names.spellings n [] =
      ap (λ (l : List (List ℕ)). get_or l n []) more.spellings ∙ get_or_append_left old.names.spellings (sdf ∷ []) [] n (omega arith) in
      let row_is : row_at new n ≡ row_at old n =
      ap (λ (l : List InstanceRow). get_or l n no_row) more.row.rows_are ∙ get_or_append_left old.rows.items (row ∷ []) no_row n below in
      let fits = so_far.tables.pins_within n (row_at old n) (slice_get-get_or old.rows.items n no_row below) in
      let first = (row_at old n).first_pin in
      let count = (row_at old n).pin_count in
      let nets = old.pin_nets.items in
      let dropped = length-drop first nets in
      let nets_is : take (row_at new n).pin_count (drop (row_at new n).first_pin new.pin_nets.items) ≡ take count (drop first nets) =
      ap (λ (r : InstanceRow). take r.pin_count (drop r.first_pin new.pin_nets.items)) row_is
      ∙ ap (λ (l : List (Option ℕ)). take count (drop first l)) more.row.nets_are
      ∙ ap (λ (l : List (Option ℕ)). take count l) (drop-append-le first nets own (omega arith))
      ∙ take-append-le count (drop first nets) own (omega arith) in
      λ k. record { text = text_is k; sdf = sdf_is k; cell = (row_is k).cell; nets = nets_is k }

  abbrev added : FlatInstance
  added = record { text = text; sdf = sdf; cell = place; nets = own }

  last_is : kept_instance new (length old.rows.items) ≡ added
  last_is =
      let n = length old.rows.items in
      let text_is : get_or new.names.texts n [] ≡ text =
      ap (λ (l : List (List ℕ)). get_or l n []) more.texts ∙ ap (λ (k : ℕ). get_or (old.names.texts ++ text ∷ []) k []) (sym so_far.tables.texts_count)
      ∙ get_or-append_seam old.names.texts text [] [] in
      let sdf_is : get_or new.names.spellings n [] ≡ sdf =
      ap (λ (l : List (List ℕ)). get_or l n []) more.spellings ∙ ap (λ (k : ℕ). get_or (old.names.spellings ++ sdf ∷ []) k []) (sym so_far.tables.spellings_count)
      ∙ get_or-append_seam old.names.spellings sdf [] [] in
      let row_is : row_at new n ≡ row =
      ap (λ (l : List InstanceRow). get_or l n no_row) more.row.rows_are ∙ get_or-append_seam old.rows.items row [] no_row in
      let nets_is : take (row_at new n).pin_count (drop (row_at new n).first_pin new.pin_nets.items) ≡ own =
      ap (λ (r : InstanceRow). take r.pin_count (drop r.first_pin new.pin_nets.items)) row_is
      ∙ ap (λ (l : List (Option ℕ)). take (length own) (drop (length old.pin_nets.items) l)) more.row.nets_are
      ∙ ap (λ (l : List (Option ℕ)). take (length own) l) (drop-append_seam old.pin_nets.items own)
      ∙ take_all (length own) own (omega arith) in
      λ k. record { text = text_is k; sdf = sdf_is k; cell = (row_is k).cell; nets = nets_is k }

  added_is : IsInstance (met_of d i) added
  added_is =
      let are = more.row.are cells is distinct in
      record {
        text = refl;
        sdf = refl;
        cell = cell_held d cells is i place within of place_is;
        pins = are.count;
        on = λ j pin net at net_at.
            subst (IsNumbered d.modules.now (top_of d.walk.now) (net_on_pin d.modules.now (top_of d.walk.now) (met_of d i) pin.name))
            (get_or_from_slice_get own j net None net_at) (are.on j pin at);
      }

  tables_step : AreInstanceTables new
  tables_step =
      let rows_long = ap length more.row.rows_are ∙ length_push old.rows.items row in
      let long = ap length more.row.nets_are ∙ length-append old.pin_nets.items own in
      record {
        texts_count = ap length more.texts ∙ length_push old.names.texts text ∙ ap (λ (n : ℕ). n + 1) so_far.tables.texts_count ∙ sym rows_long;
        spellings_count = ap length more.spellings ∙ length_push old.names.spellings sdf ∙ ap (λ (n : ℕ). n + 1) so_far.tables.spellings_count ∙ sym rows_long;
        pins_within = subst (λ (rows : List InstanceRow). (n : ℕ) (r : InstanceRow) → slice_get rows n ≡ Some r
            → r.first_pin + r.pin_count ≤ length new.pin_nets.items) (sym more.row.rows_are)
            (each_push (λ n r. r.first_pin + r.pin_count ≤ length new.pin_nets.items) old.rows.items row
            (λ n r at. let fits = so_far.tables.pins_within n r at in omega arith) (omega arith));
      }

  pub instances_step : HoldInstances d (mets ++ met_of d i ∷ []) new cells
  instances_step = record {
    tables = tables_step;
    count = ap length more.row.rows_are ∙ length_push old.rows.items row ∙ ap (λ (n : ℕ). n + 1) so_far.count ∙ sym (length_push mets (met_of d i));
    each = each_push (λ n met. IsInstance met (kept_instance new n)) mets (met_of d i)
        (λ n met at. subst (IsInstance met) (sym (stays n (let below = slice_get_within mets n met at in let count = so_far.count in omega arith)))
        (so_far.each n met at))
        (subst (λ (n : ℕ). IsInstance (met_of d i) (kept_instance new n)) so_far.count (subst (IsInstance (met_of d i)) (sym last_is) added_is));
  }

-- one item for each number
one_each : {X : Type 0} (f : ℕ → X) (from n j : ℕ) (x : X) → slice_get (joined_from (λ k. f k ∷ []) from n) j ≡ Some x → f (from + j) ≡ x
one_each f from zero j x at = absurd (none-some x at)
one_each f from (suc n) zero x at = let same : from + 0 ≡ from = omega arith in ap f same ∙ same_Some (f from) x at
one_each f from (suc n) (suc j) x at = let same : from + suc j ≡ suc from + j = omega arith in ap f same ∙ one_each f (suc from) n j x at

length-one_each : {X : Type 0} (f : ℕ → X) (from n : ℕ) → length (joined_from (λ k. f k ∷ []) from n) ≡ n
length-one_each f from zero = refl
length-one_each f from (suc n) = ap suc (length-one_each f (suc from) n)

-- what the walk meets up to here
module _ (d : Design) where
  abbrev is_cell : Met → Bool
  is_cell met = not (is_module d.modules.now (top_of d.walk.now) met)

  abbrev text_of : Met → List ℕ
  text_of met = instance_text d.modules.now (top_of d.walk.now) met

  pub all_instances : (cells : List NamedCells) (kept : Instances) (n : ℕ) → HoldInstances d (mets_before d n) kept cells → n ≡ length (walk_of d)
      → AreInstances d.modules.now (top_of d.walk.now) cells (instances_in kept)
  all_instances cells kept n holds whole =
      let mets_are : mets_before d n ≡ cells_met d.modules.now (top_of d.walk.now) = ap (filter is_cell) (take_all n (walk_of d) (omega arith)) in
      record {
        count = length-one_each (kept_instance kept) 0 (length kept.rows.items) ∙ holds.count ∙ ap length mets_are;
        each = λ i met instance at_met at.
            (let same : 0 + i ≡ i = omega arith in
            subst (IsInstanceOf d.modules.now (top_of d.walk.now) cells met)
            (ap (kept_instance kept) (sym same) ∙ one_each (kept_instance kept) 0 (length kept.rows.items) i instance at)
            (holds.each i met (ap (λ (l : List Met). slice_get l i) mets_are ∙ at_met)));
      }

  module _ (i : ℕ) (within : i < length (walk_of d)) where
    pub mets_more : IsOfCell d i → mets_before d (i + 1) ≡ mets_before d i ++ met_of d i ∷ []
    mets_more of = filter_more is_cell (walk_of d) i no_met within ∙ rw of refl

    pub mets_same : is_module d.modules.now (top_of d.walk.now) (met_of d i) ≡ true → mets_before d (i + 1) ≡ mets_before d i
    mets_same of = filter_more is_cell (walk_of d) i no_met within ∙ rw of (append-nil (mets_before d i))

    pub texts_step : (of : IsOfCell d i) (names : List (List ℕ)) → names ≡ map text_of (mets_before d i) → (after : List (List ℕ))
        → after ≡ names ++ text_of (met_of d i) ∷ [] → after ≡ map text_of (mets_before d (i + 1))
    texts_step of names so_far after now = now ∙ ap (λ (l : List (List ℕ)). l ++ text_of (met_of d i) ∷ []) so_far
        ∙ sym (ap (map text_of) (mets_more of) ∙ map-append text_of (mets_before d i) (met_of d i ∷ []))

  pub all_texts : (names : List (List ℕ)) (n : ℕ) → names ≡ map text_of (mets_before d n) → n ≡ length (walk_of d) → names ≡ texts_of_instances d
  all_texts names n is whole = is ∙ ap (λ (l : List Met). map text_of (filter is_cell l)) (take_all n (walk_of d) (omega arith))

-- an instance that is kept with no visit of its own is of a cell, and every other of a module
module _ (d : Design) (walk : AreTablesOfWalk d.modules.now (top_of d.walk.now) d.walk.now) (i : ℕ) (below : i < length d.walk.now.met) where
  pub cell_there : is_some (kept_met d.walk.now i).lower ≡ false → IsOfCell d i
  cell_there none = by (kept_met d.walk.now i).lower (met_is d.modules.now (top_of d.walk.now) d.walk.now walk i below).lower none
    where
      by : (lower : Option ℕ) → IsLowerVisit d.modules.now (top_of d.walk.now) (met_of d i) lower → is_some lower ≡ false → IsOfCell d i
      by None is lacks = is
      by (Some v) is lacks = absurd (true≢false lacks)

  pub module_there : is_some (kept_met d.walk.now i).lower ≡ true → is_module d.modules.now (top_of d.walk.now) (met_of d i) ≡ true
  module_there some = by (kept_met d.walk.now i).lower (met_is d.modules.now (top_of d.walk.now) d.walk.now walk i below).lower some
    where
      by : (lower : Option ℕ) → IsLowerVisit d.modules.now (top_of d.walk.now) (met_of d i) lower → is_some lower ≡ true
          → is_module d.modules.now (top_of d.walk.now) (met_of d i) ≡ true
      by None is has = absurd (true≢false (sym has))
      by (Some v) is has = is.2

-- before the first instance none is kept
pub none_kept : (d : Design) (kept : Instances) (cells : List NamedCells) → kept.names.texts ≡ [] → kept.names.spellings ≡ [] → kept.rows.items ≡ []
    → HoldInstances d [] kept cells
none_kept d kept cells texts spellings rows = record {
  tables = record {
    texts_count = ap length texts ∙ sym (ap length rows);
    spellings_count = ap length spellings ∙ sym (ap length rows);
    pins_within = λ n row at. absurd (none-some row (subst (λ (l : List InstanceRow). slice_get l n ≡ Some row) rows at));
  };
  count = ap length rows;
  each = λ n met at. absurd (none-some met at);
}
