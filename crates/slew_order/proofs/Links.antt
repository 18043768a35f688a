-- Pins and arcs of instances, and the nets that they are on.
use Rattle.std.proofs.Common.{◌≡◌, ℕ, ◌<◌, ◌≤◌, ◌∙◌, ap, sym, refl, subst, List, [], ◌∷◌, length, map, get_or, slice_get, Option, Some, None, inl, inr, arith}
use Rattle.std.specs.Prelude.{All}
use Rattle.std.specs.Option.{option_map_or}
use Rattle.std.proofs.lemmas.Bool.{cases_lt}
use Rattle.std.proofs.lemmas.List.{get_or_past, get_or-map, length-map}
use Rattle.std.proofs.lemmas.List.Elements.{All-nil, All-cons, All-head, All-get_or}
use Rattle.std.proofs.lemmas.Option.{slice_get-get_or, slice_get_within, get_or_from_slice_get, none-some}
use Rattle.cell_models.specs.NamedSets.{NamedCells, set_cells}
use Rattle.cell_models.specs.Cells.{TimedCell, HasDirection, IsArcOf, IsCell}
use Rattle.cell_models.specs.declared.cell.Direction.TheVariants.{Input}
use Rattle.cell_models.specs.CornerCells.{pins_at, arcs_at, AreCornerCells}
use Rattle.cell_models.specs.Shapes.{arc_entry}
use Rattle.cell_models.specs.SameShapes.{same_arcs}
use Rattle.cell_models.specs.declared.cell.Arc.{Arc}
use Rattle.cell_models.proofs.CornerLemmas.{shape_there}
use Rattle.hierarchy.specs.Walks.{joined_from}
use Rattle.hierarchy.specs.WalkLaws.{joined-all}
use Rattle.netlist_link.specs.FlatNetlist.{FlatNetlist, no_instance, instance_at}
use Rattle.netlist_link.specs.FlatPins.{pins_of}
use Rattle.netlist_link.specs.Linked.{IsLinked}
use Rattle.slew_states.specs.declared.arcs.FlatArc.{FlatArc}
use Rattle.slew_states.specs.Arcs.{no_arc as no_flat, arc_at, HaveNets}
use Rattle.slew_order.specs.declared.arcs.ArcAt.{ArcAt}
use Rattle.slew_order.specs.FlatArcs.{no_arc, arcs_of, arc_of, net_on, if_loaded, flat_arc, instance_arcs, arc_count, IsArcAt, flat_at}

-- a pin's net that is loaded is the pin's net
pub if_loaded_is : (netlist : FlatNetlist) (pin_net : Option ℕ) (net : ℕ) → if_loaded netlist pin_net ≡ Some net → pin_net ≡ Some net
if_loaded_is netlist None net is = is
if_loaded_is netlist (Some other) net is = grind arith

module _ (cells : List NamedCells) (netlist : FlatNetlist) (linked : IsLinked cells netlist) where
  pub pins_there : (i : ℕ) → i < length netlist.instances
      → length (instance_at netlist i).nets ≡ length (pins_of cells (instance_at netlist i).cell)
  pins_there i within = linked.pins i (instance_at netlist i) (slice_get-get_or netlist.instances i no_instance within)

  pub cell_there : (i : ℕ) → i < length netlist.instances → (instance_at netlist i).cell < length cells
  cell_there i within = linked.cell i (instance_at netlist i) (slice_get-get_or netlist.instances i no_instance within)

  -- what a pin is on is a net
  pub net_in : (i pin net : ℕ) → net_on netlist i pin ≡ Some net → net < length netlist.nets
  net_in i pin net on = elim (cases_lt i (length netlist.instances)) [
    | inl within ↦ elim (cases_lt pin (length (instance_at netlist i).nets)) [
      | inl has ↦ linked.nets i pin net (instance_at netlist i) (slice_get-get_or netlist.instances i no_instance within)
          (slice_get-get_or (instance_at netlist i).nets pin None has ∙ ap Some on)
      | inr past ↦ absurd (none-some net (sym (get_or_past (instance_at netlist i).nets pin None past) ∙ on))
    ]
    | inr past ↦ absurd (
        let none : instance_at netlist i ≡ no_instance = get_or_past netlist.instances i no_instance past in
        let empty : net_on netlist i pin ≡ None = ap (λ instance. get_or instance.nets pin None) none in
        none-some net (sym empty ∙ on))
  ]

  -- the nets of flat arcs are nets
  pub have_nets : (arcs : List ArcAt) → HaveNets (length netlist.nets) (map (flat_at netlist cells) arcs)
  have_nets arcs arc net within =
      let at = get_or arcs arc (record { instance = 0; arc = 0 }) in
      let below : arc < length arcs = omega (arith, within, length-map arcs (flat_at netlist cells)) in
      let is : arc_at (map (flat_at netlist cells) arcs) arc ≡ flat_at netlist cells at =
      get_or-map (flat_at netlist cells) arcs arc (record { instance = 0; arc = 0 }) no_flat below in (
        λ source. net_in at.instance _ net (ap (λ a. a.source) (sym is) ∙ source),
        λ target. net_in at.instance _ net (if_loaded_is netlist _ net (ap (λ a. a.target) (sym is) ∙ target)),
      )

  one_instance : (instance : ℕ) → instance < length netlist.instances → All (IsArcAt netlist cells) (instance_arcs instance (arc_count netlist cells instance))
  one_instance instance within = joined-all (IsArcAt netlist cells) (λ arc. record { instance = instance; arc = arc } ∷ []) 0 (arc_count netlist cells instance)
      (λ arc low high. All-cons (IsArcAt netlist cells) (record { instance = instance; arc = arc }) [] (within, omega (arith, high)) (All-nil (IsArcAt netlist cells)))

pub arcs_there : (cells : List NamedCells) (netlist : FlatNetlist) → IsLinked cells netlist → (arcs : List ArcAt) (many : ℕ) → many ≤ length netlist.instances
    → arcs ≡ joined_from (λ instance. instance_arcs instance (arc_count netlist cells instance)) 0 many → All (IsArcAt netlist cells) arcs
arcs_there cells netlist linked arcs many few is =
    subst (All (IsArcAt netlist cells)) (sym is)
    (joined-all (IsArcAt netlist cells) (λ instance. instance_arcs instance (arc_count netlist cells instance)) 0 many
    (λ instance low high. one_instance cells netlist linked instance (omega (arith, high, few))))

pub nets_there : (cells : List NamedCells) (netlist : FlatNetlist) → IsLinked cells netlist → (arcs : List ArcAt) (flat : List FlatArc) → flat ≡ map (flat_at netlist cells) arcs
    → HaveNets (length netlist.nets) flat
nets_there cells netlist linked arcs flat is = subst (HaveNets (length netlist.nets)) (sym is) (have_nets cells netlist linked arcs)

-- an arc has at each corner what it has at the first, but for its tables
entry_there : (models : List TimedCell) (count corner i : ℕ) (arc : Arc) (cell : TimedCell) → AreCornerCells count models → slice_get models corner ≡ Some cell
    → slice_get cell.arcs i ≡ Some arc → arc_entry arc ≡ arc_entry (get_or (arcs_at models 0) i no_arc)
entry_there [] count corner i arc cell whole here at = absurd (none-some cell here)
entry_there (first ∷ models) count corner i arc cell whole here at =
    let same = same_arcs cell first (shape_there (first ∷ models) corner cell here whole.shaped) in
    let within = slice_get_within cell.arcs i arc at in
    let lengths : length cell.arcs ≡ length first.arcs = sym (length-map cell.arcs arc_entry) ∙ ap length same ∙ length-map first.arcs arc_entry in
    ap arc_entry (sym (get_or_from_slice_get cell.arcs i arc no_arc at))
    ∙ sym (get_or-map arc_entry cell.arcs i no_arc (arc_entry no_arc) within)
    ∙ ap (λ entries. get_or entries i (arc_entry no_arc)) same
    ∙ get_or-map arc_entry first.arcs i no_arc (arc_entry no_arc) (omega (arith, within, lengths))

pub same_entry : (models : List TimedCell) (count corner i : ℕ) (arc : Arc) → AreCornerCells count models → slice_get (arcs_at models corner) i ≡ Some arc
    → arc_entry arc ≡ arc_entry (get_or (arcs_at models 0) i no_arc)
same_entry models count corner i arc whole at = by (slice_get models corner) refl at
  where
    by : (found : Option TimedCell) → slice_get models corner ≡ found → slice_get (option_map_or (λ cell. cell.arcs) found []) i ≡ Some arc
        → arc_entry arc ≡ arc_entry (get_or (arcs_at models 0) i no_arc)
    by None here at = absurd (none-some arc at)
    by (Some cell) here at = entry_there models count corner i arc cell whole here at

-- arcs of one entry are one flat arc
pub same_flat : (netlist : FlatNetlist) (instance : ℕ) (one other : Arc) → arc_entry one ≡ arc_entry other
    → flat_arc netlist instance one ≡ flat_arc netlist instance other
same_flat netlist instance one other same = cc

-- the related pin of an arc is an input of the cell
pub input_at : (cells : List NamedCells) (cell count i : ℕ) (models : List TimedCell) → slice_get (set_cells cells) cell ≡ Some models → AreCornerCells count models
    → i < length (arcs_of cells cell 0) → HasDirection (pins_of cells cell) (arc_of cells cell 0 i).from Input
input_at cells cell count i models there whole within =
    let pins : pins_of cells cell ≡ pins_at models 0 = ap (λ found. option_map_or (λ m. pins_at m 0) found []) there in
    let arcs : arcs_of cells cell 0 ≡ arcs_at models 0 = ap (λ found. option_map_or (λ m. arcs_at m 0) found []) there in
    let some : i < length (arcs_at models 0) = subst (λ list. i < length list) arcs within in
    subst (λ list. HasDirection list (arc_of cells cell 0 i).from Input) (sym pins)
    (subst (λ list. HasDirection (pins_at models 0) (get_or list i no_arc).from Input) (sym arcs) (by models whole some))
  where
    by : (models : List TimedCell) → AreCornerCells count models → i < length (arcs_at models 0)
        → HasDirection (pins_at models 0) (get_or (arcs_at models 0) i no_arc).from Input
    by [] whole some = absurd (omega (arith, some))
    by (first ∷ models) whole some =
        (All-get_or (IsArcOf first.pins) first.arcs i no_arc some (All-head IsCell first models whole.whole).arcs).from
