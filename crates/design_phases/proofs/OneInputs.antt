-- The phases between the netlist's grammar and the flat netlist have one answer.
use Rattle.std.proofs.Common.{◌≡◌, ◌≢◌, ℕ, ◌≤◌, inl, inr, List, [], length, slice_get, Some, Result, Ok, Err, refl, sym, ap, ◌∙◌, subst, arith}
use Rattle.std.proofs.lemmas.List.{length-map, length-take-le}
use Rattle.liberty_groups.specs.Groups.{Group}
use Rattle.cell_models.specs.Cells.{TimedCell}
use Rattle.cell_models.specs.CornerCells.{AreOneShape}
use Rattle.cell_models.specs.Joining.{IsShapeFault}
use Rattle.cell_models.specs.NamedSets.{NamedCells, set_names}
use Rattle.cell_models.specs.declared.shape.ShapeFault.{ShapeFault}
use Rattle.cell_models.proofs.CornerLemmas.{not_one_shape}
use Rattle.cell_models.proofs.OneFault.{one_shape_fault_lem}
use Rattle.verilog_netlist.specs.NetModules.{NetModule}
use Rattle.hierarchy.specs.UseLaws.{NamesDiffer, IsSameEnd}
use Rattle.hierarchy.specs.Uses.{AreCellsUsed, IsUseEnd}
use Rattle.hierarchy.specs.declared.uses.Count.{Count}
use Rattle.hierarchy.specs.declared.uses.UseEnd.{UseEnd}
use Rattle.hierarchy.specs.declared.uses.UseEnd.TheVariants as use_end
use Rattle.hierarchy.proofs.OneUse.{one_list, list_or_end, one_end}
use Rattle.name_table.specs.Names.{AreDistinct}
use Rattle.netlist_link.specs.FlatDesigns.{IsFlatDesign, IsFlatEnd, IsSameLinkEnd}
use Rattle.netlist_link.specs.FlatNetlist.{FlatNetlist}
use Rattle.netlist_link.specs.declared.ends.LinkEnd.{LinkEnd}
use Rattle.netlist_link.specs.declared.ends.LinkEnd.TheVariants as link_end
use Rattle.netlist_link.proofs.OneLink.{one_design, design_or_end, one_flat_end}
use Rattle.design_phases.specs.CellPhase.{AreFirstModels, ModelsCorners, at_all, at_corner, other_shape, AreFirstCells, ModelsCells, all_cells, at_cell}
use Rattle.design_phases.specs.LibraryPhases.{ModelsCell}
use Rattle.design_phases.specs.LinkPhase.{LinksDesign, is_linked, unknown_port, width, inout_pin, name_clash, several_drivers}
use Rattle.refusals.specs.SameAnswers.{some_module, SameRefusal}
use Rattle.design_phases.specs.OneAnswer.{OneUse, OneModels, OneLink}
use Rattle.design_phases.specs.UsePhase.{limit_of, UsesCells, are_used, no_top, recursive, too_many}
use Rattle.refusals.specs.declared.refusal.Refusal.{Refusal}
use Rattle.refusals.specs.declared.refusal.Refusal.TheVariants as refusal
use Rattle.design_phases.proofs.InTurn.{AreFirst, one_front, not_within, one_stopped}
use Rattle.design_phases.proofs.OneLibrary.{one_cell_lem}
use Rattle.refusals.proofs.Places.{some_is, within, front_at, get_map}

-- ---- the cells that are used

-- a refusal by the end of the walk
abbrev used_refusal : List ℕ → UseEnd → Refusal
used_refusal top use_end.NoTop = refusal.NoTop top
used_refusal top (use_end.Recursive name) = refusal.Recursive name
used_refusal top (use_end.TooMany count) = refusal.Limit (limit_of count)
used_refusal top use_end.OutOfMemory = refusal.NoTop top

record IsUseRefusal (modules : List NetModule) (top : List ℕ) (refused : Refusal) : Type 0 where
  end : UseEnd
  is : IsUseEnd modules top end
  known : end ≢ use_end.OutOfMemory
  told : refused ≡ used_refusal top end

use_refusal : (modules : List NetModule) (top : List ℕ) (refused : Refusal) → UsesCells modules top (Err refused) → IsUseRefusal modules top refused
use_refusal modules top refused (no_top is) = record { end = use_end.NoTop; is = is; known = λ e. cc; told = refl }
use_refusal modules top refused (recursive name is) = record { end = use_end.Recursive name; is = is; known = λ e. cc; told = refl }
use_refusal modules top refused (too_many count is) = record { end = use_end.TooMany count; is = is; known = λ e. cc; told = refl }

cells_of : (modules : List NetModule) (top : List ℕ) (cells : List (List ℕ)) → UsesCells modules top (Ok cells) → AreCellsUsed modules top cells
cells_of modules top cells (are_used _ are) = are

same_refusals : (top : List ℕ) (one other : UseEnd) → one ≢ use_end.OutOfMemory → other ≢ use_end.OutOfMemory → IsSameEnd one other → SameRefusal (used_refusal top one) (used_refusal top other)
same_refusals top use_end.NoTop use_end.NoTop known told same = inl refl
same_refusals top use_end.NoTop (use_end.Recursive other) known told same = absurd same
same_refusals top use_end.NoTop (use_end.TooMany other) known told same = absurd same
same_refusals top use_end.NoTop use_end.OutOfMemory known told same = absurd (told refl)
same_refusals top (use_end.Recursive one) use_end.NoTop known told same = absurd same
same_refusals top (use_end.Recursive one) (use_end.Recursive other) known told same = inr (some_module one other)
same_refusals top (use_end.Recursive one) (use_end.TooMany other) known told same = absurd same
same_refusals top (use_end.Recursive one) use_end.OutOfMemory known told same = absurd (told refl)
same_refusals top (use_end.TooMany one) use_end.NoTop known told same = absurd same
same_refusals top (use_end.TooMany one) (use_end.Recursive other) known told same = absurd same
same_refusals top (use_end.TooMany one) (use_end.TooMany other) known told same = inl (ap (λ (c : Count). refusal.Limit (limit_of c)) same)
same_refusals top (use_end.TooMany one) use_end.OutOfMemory known told same = absurd (told refl)
same_refusals top use_end.OutOfMemory other known told same = absurd (known refl)

one_use_refusal : (modules : List NetModule) (top : List ℕ) (one other : Refusal) → NamesDiffer modules → IsUseRefusal modules top one → IsUseRefusal modules top other → SameRefusal one other
one_use_refusal modules top one other differ r s =
    subst (λ x. SameRefusal x other) (sym r.told) (subst (λ x. SameRefusal (used_refusal top r.end) x) (sym s.told)
    (same_refusals top r.end s.end r.known s.known (one_end modules top differ r.end s.end r.is s.is)))

cells_or_refusal : (modules : List NetModule) (top : List ℕ) (cells : List (List ℕ)) (refused : Refusal) → NamesDiffer modules → AreCellsUsed modules top cells → IsUseRefusal modules top refused → ⊥
cells_or_refusal modules top cells refused differ are r = r.known (list_or_end modules top differ cells r.end are r.is)

pub one_use_lem : OneUse
one_use_lem modules top (Ok one) (Ok other) differ r s = one_list modules top differ one other (cells_of modules top one r) (cells_of modules top other s)
one_use_lem modules top (Ok one) (Err other) differ r s = cells_or_refusal modules top one other differ (cells_of modules top one r) (use_refusal modules top other s)
one_use_lem modules top (Err one) (Ok other) differ r s = cells_or_refusal modules top other one differ (cells_of modules top other s) (use_refusal modules top one r)
one_use_lem modules top (Err one) (Err other) differ r s = one_use_refusal modules top one other differ (use_refusal modules top one r) (use_refusal modules top other s)

-- ---- one cell at the corners

record AtCorner (libraries : List Group) (name : List ℕ) (corner : ℕ) (answer : Result TimedCell Refusal) : Type 0 where
  library : Group
  stands : slice_get libraries corner ≡ Some library
  models : ModelsCell corner library name answer

one_corner : (libraries : List Group) (name : List ℕ) (corner : ℕ) (one other : Result TimedCell Refusal) → AtCorner libraries name corner one → AtCorner libraries name corner other → one ≡ other
one_corner libraries name corner one other r s =
    let same : s.library ≡ r.library = some_is s.library r.library (sym s.stands ∙ r.stands) in
    one_cell_lem corner r.library name one other r.models (subst (λ (g : Group). ModelsCell corner g name other) same s.models)

module _ (libraries : List Group) (name : List ℕ) where
  abbrev AreFronts : ℕ → List TimedCell → Type 0
  AreFronts = AreFirst (AtCorner libraries name) (one_corner libraries name)

  fronts : (count : ℕ) (cells : List TimedCell) → AreFirstModels libraries name count cells → AreFronts count cells
  fronts count cells first = record {
    counted = first.counted;
    each = λ k cell at. let is = first.each k cell at in record { library = is.library; stands = is.stands; models = is.models };
  }

  at : (corner : ℕ) (library : Group) (refused : Refusal) → slice_get libraries corner ≡ Some library → ModelsCell corner library name (Err refused) → AtCorner libraries name corner (Err refused)
  at corner library refused stands models = record { library = library; stands = stands; models = models }

  same_cells : (one other : List TimedCell) → AreFirstModels libraries name (length libraries) one → AreFirstModels libraries name (length libraries) other → one ≡ other
  same_cells one other r s = one_front (AtCorner libraries name) (one_corner libraries name) (length libraries) one other (fronts (length libraries) one r) (fronts (length libraries) other s)

  all_or_stop : (cells : List TimedCell) (corner : ℕ) (library : Group) (refused : Refusal) → AreFirstModels libraries name (length libraries) cells → slice_get libraries corner ≡ Some library
      → ModelsCell corner library name (Err refused) → ⊥
  all_or_stop cells corner library refused first stands models =
      not_within (AtCorner libraries name) (one_corner libraries name) (length libraries) corner cells refused (fronts (length libraries) cells first) (within libraries corner library stands) (at corner library refused stands models)

  shape_or_fault : (one other : List TimedCell) (fault : ShapeFault) → one ≡ other → AreOneShape one → IsShapeFault other fault → ⊥
  shape_or_fault one other fault same shaped is = not_one_shape other fault.corner is.before is.differ (subst AreOneShape same shaped)

  one_cell : (one other : Result (List TimedCell) Refusal) → ModelsCorners libraries name one → ModelsCorners libraries name other → one ≡ other
  one_cell _ _ (at_all cells first shaped) (at_all others also alike) = ap Ok (same_cells cells others first also)
  one_cell _ _ (at_all cells first shaped) (at_corner corner before library refused also stands models) = absurd (all_or_stop cells corner library refused first stands models)
  one_cell _ _ (at_all cells first shaped) (other_shape others fault also is) = absurd (shape_or_fault cells others fault (same_cells cells others first also) shaped is)
  one_cell _ _ (at_corner corner before library refused also stands models) (at_all cells first shaped) = absurd (all_or_stop cells corner library refused first stands models)
  one_cell _ _ (at_corner corner before library refused also stands models) (at_corner place front tree told its there makes) =
      ap Err (one_stopped (AtCorner libraries name) (one_corner libraries name) corner place before front refused told (fronts corner before also) (fronts place front its)
      (at corner library refused stands models) (at place tree told there makes))
  one_cell _ _ (at_corner corner before library refused also stands models) (other_shape others fault first is) = absurd (all_or_stop others corner library refused first stands models)
  one_cell _ _ (other_shape others fault also is) (at_all cells first shaped) = absurd (shape_or_fault cells others fault (same_cells cells others first also) shaped is)
  one_cell _ _ (other_shape others fault first is) (at_corner corner before library refused also stands models) = absurd (all_or_stop others corner library refused first stands models)
  one_cell _ _ (other_shape cells fault first is) (other_shape others told also its) =
      ap (λ f. Err (refusal.CornerShape name f)) (one_shape_fault_lem others fault told (subst (λ (c : List TimedCell). IsShapeFault c fault) (same_cells cells others first also) is) its)

-- ---- the cells in turn

-- the cell of a place has this name, and these models or none
abbrev ModelsNamed : List Group → List ℕ → Result NamedCells Refusal → Type 0
ModelsNamed libraries name (Ok set) = (set.name ≡ name) × ModelsCorners libraries name (Ok set.cells)
ModelsNamed libraries name (Err refused) = ModelsCorners libraries name (Err refused)

abbrev with_cells : List ℕ → List TimedCell → Result NamedCells Refusal
with_cells name cells = Ok (record { name = name; cells = cells })

one_named : (libraries : List Group) (name : List ℕ) (one other : Result NamedCells Refusal) → ModelsNamed libraries name one → ModelsNamed libraries name other → one ≡ other
one_named libraries name (Ok one) (Ok other) r s =
    let models = one_cell libraries name (Ok one.cells) (Ok other.cells) r.1 s.1 in
    let cells : one.cells ≡ other.cells = cc in
    ap (λ n. with_cells n one.cells) (r.0 ∙ sym s.0) ∙ ap (with_cells other.name) cells
one_named libraries name (Ok one) (Err other) r s = let models = one_cell libraries name (Ok one.cells) (Err other) r.1 s in cc
one_named libraries name (Err one) (Ok other) r s = let models = one_cell libraries name (Err one) (Ok other.cells) r s.1 in cc
one_named libraries name (Err one) (Err other) r s = let models = one_cell libraries name (Err one) (Err other) r s in cc

record AtPlace (libraries : List Group) (used : List (List ℕ)) (place : ℕ) (answer : Result NamedCells Refusal) : Type 0 where
  name : List ℕ
  stands : slice_get used place ≡ Some name
  models : ModelsNamed libraries name answer

one_place : (libraries : List Group) (used : List (List ℕ)) (place : ℕ) (one other : Result NamedCells Refusal) → AtPlace libraries used place one → AtPlace libraries used place other → one ≡ other
one_place libraries used place one other r s =
    let same : s.name ≡ r.name = some_is s.name r.name (sym s.stands ∙ r.stands) in
    one_named libraries r.name one other r.models (subst (λ (n : List ℕ). ModelsNamed libraries n other) same s.models)

module _ (libraries : List Group) (used : List (List ℕ)) where
  abbrev AreLeading : ℕ → List NamedCells → Type 0
  AreLeading = AreFirst (AtPlace libraries used) (one_place libraries used)

  leading : (count : ℕ) (sets : List NamedCells) → count ≤ length used → AreFirstCells libraries used count sets → AreLeading count sets
  leading count sets few first = record {
    counted = sym (length-map sets (λ (set : NamedCells). set.name)) ∙ ap length first.named ∙ length-take-le count used few;
    each = λ k set there.
        let named = front_at count used k set.name (ap (λ (l : List (List ℕ)). slice_get l k) (sym first.named) ∙ get_map (λ (set : NamedCells). set.name) sets k set there) in
        record { name = set.name; stands = named.0; models = (refl, first.each k set there) };
  }

  place_of : (place : ℕ) (name : List ℕ) (refused : Refusal) → slice_get used place ≡ Some name → ModelsCorners libraries name (Err refused) → AtPlace libraries used place (Err refused)
  place_of place name refused stands models = record { name = name; stands = stands; models = models }

  below : (place : ℕ) (name : List ℕ) → slice_get used place ≡ Some name → place ≤ length used
  below place name stands = let h = within used place name stands in omega (arith, h)

  all_or_stop_at : (sets : List NamedCells) (place : ℕ) (name : List ℕ) (refused : Refusal) → AreFirstCells libraries used (length used) sets → slice_get used place ≡ Some name
      → ModelsCorners libraries name (Err refused) → ⊥
  all_or_stop_at sets place name refused first stands models =
      not_within (AtPlace libraries used) (one_place libraries used) (length used) place sets refused (leading (length used) sets (omega arith) first) (within used place name stands) (place_of place name refused stands models)

  one_list_of_cells : (one other : Result (List NamedCells) Refusal) → ModelsCells libraries used one → ModelsCells libraries used other → one ≡ other
  one_list_of_cells _ _ (all_cells sets first) (all_cells others also) =
      ap Ok (one_front (AtPlace libraries used) (one_place libraries used) (length used) sets others (leading (length used) sets (omega arith) first) (leading (length used) others (omega arith) also))
  one_list_of_cells _ _ (all_cells sets first) (at_cell place name before refused also stands models) = absurd (all_or_stop_at sets place name refused first stands models)
  one_list_of_cells _ _ (at_cell place name before refused also stands models) (all_cells sets first) = absurd (all_or_stop_at sets place name refused first stands models)
  one_list_of_cells _ _ (at_cell place name before refused first stands models) (at_cell spot text front told also there makes) =
      ap Err (one_stopped (AtPlace libraries used) (one_place libraries used) place spot before front refused told
      (leading place before (below place name stands) first) (leading spot front (below spot text there) also)
      (place_of place name refused stands models) (place_of spot text told there makes))

pub one_models_lem : OneModels
one_models_lem libraries used one other r s = one_list_of_cells libraries used one other r s

-- ---- the flat netlist

-- a refusal by the end of linking
abbrev link_refusal : LinkEnd → Refusal
link_refusal (link_end.UnknownPort instance port) = refusal.UnknownPort instance port
link_refusal (link_end.Width instance port want got) = refusal.Width instance port want got
link_refusal (link_end.InoutPin instance pin) = refusal.InoutPin instance pin
link_refusal (link_end.NameClash name) = refusal.NameClash name
link_refusal (link_end.SeveralDrivers net) = refusal.SeveralDrivers net
link_refusal link_end.OutOfMemory = refusal.NameClash []

record IsLinkRefusal (modules : List NetModule) (top : List ℕ) (cells : List NamedCells) (refused : Refusal) : Type 0 where
  end : LinkEnd
  is : IsFlatEnd modules top cells end
  known : end ≢ link_end.OutOfMemory
  told : refused ≡ link_refusal end

module _ (modules : List NetModule) (top : List ℕ) (cells : List NamedCells) where
  link_refused : (refused : Refusal) → LinksDesign modules top cells (Err refused) → IsLinkRefusal modules top cells refused
  link_refused refused (unknown_port instance port is) = record { end = link_end.UnknownPort instance port; is = is; known = λ e. cc; told = refl }
  link_refused refused (width instance port want got is) = record { end = link_end.Width instance port want got; is = is; known = λ e. cc; told = refl }
  link_refused refused (inout_pin instance pin is) = record { end = link_end.InoutPin instance pin; is = is; known = λ e. cc; told = refl }
  link_refused refused (name_clash name is) = record { end = link_end.NameClash name; is = is; known = λ e. cc; told = refl }
  link_refused refused (several_drivers net is) = record { end = link_end.SeveralDrivers net; is = is; known = λ e. cc; told = refl }

  is_flat : (netlist : FlatNetlist) → LinksDesign modules top cells (Ok netlist) → IsFlatDesign modules top cells netlist
  is_flat netlist (is_linked _ is) = is

  module _ (differ : NamesDiffer modules) (apart : AreDistinct (set_names cells)) where
    same_ends : (one other : LinkEnd) → one ≢ link_end.OutOfMemory → other ≢ link_end.OutOfMemory → IsSameLinkEnd one other → one ≡ other
    same_ends one other known told (inl short) = absurd (known short)
    same_ends one other known told (inr (inl short)) = absurd (told short)
    same_ends one other known told (inr (inr same)) = same

    one_link_refusal : (one other : Refusal) → IsLinkRefusal modules top cells one → IsLinkRefusal modules top cells other → one ≡ other
    one_link_refusal one other r s =
        r.told ∙ ap link_refusal (same_ends r.end s.end r.known s.known (one_flat_end modules top cells differ apart r.end s.end r.is s.is)) ∙ sym s.told

    netlist_or_refusal : (netlist : FlatNetlist) (refused : Refusal) → IsFlatDesign modules top cells netlist → IsLinkRefusal modules top cells refused → ⊥
    netlist_or_refusal netlist refused flat r = r.known (design_or_end modules top cells differ apart netlist r.end flat r.is)

pub one_link_lem : OneLink
one_link_lem modules top cells (Ok one) (Ok other) differ apart r s = ap Ok (one_design modules top cells differ apart one other (is_flat modules top cells one r) (is_flat modules top cells other s))
one_link_lem modules top cells (Ok one) (Err other) differ apart r s = absurd (netlist_or_refusal modules top cells differ apart one other (is_flat modules top cells one r) (link_refused modules top cells other s))
one_link_lem modules top cells (Err one) (Ok other) differ apart r s = absurd (netlist_or_refusal modules top cells differ apart other one (is_flat modules top cells other s) (link_refused modules top cells one r))
one_link_lem modules top cells (Err one) (Err other) differ apart r s = ap Err (one_link_refusal modules top cells differ apart one other (link_refused modules top cells one r) (link_refused modules top cells other s))
