-- The steps of linking a design.
use Rattle.std.proofs.Common.{◌≡◌, ℕ, ◌<◌, List, Result, sym, ap, ◌∙◌, subst}
use Rattle.std.specs.Prelude.{All, Contains, IfOk, IfErr}
use Rattle.std.proofs.lemmas.Result.{IfOk-weaker, IfErr-weaker}
use Rattle.cell_models.specs.NamedSets.{NamedCells, set_names}
use Rattle.verilog_netlist.specs.NetModules.{NetModule}
use Rattle.hierarchy.specs.Uses.{IsTop, IsWalkable, cells_used}
use Rattle.hierarchy.specs.UseLaws.{NamesDiffer}
use Rattle.netlist_link.specs.FlatPins.{pins_of}
use Rattle.netlist_link.specs.Designs.{IsSound, IsDesign, HasDesign, OverCells, IsFirstOf, first_is, no_memory_is}
use Rattle.netlist_link.specs.DesignTables.{AreTablesOf, IsLinkedDesign, IsNetlistOver, IsEndOver}
use Rattle.netlist_link.specs.FlatDesigns.{HasCells, IsFlatDesign, IsFlatEnd}
use Rattle.netlist_link.specs.FlatNetlist.{FlatNetlist}
use Rattle.netlist_link.specs.LinkEnds.{all_faults, IsLinkEnd, bad_connection, no_memory}
use Rattle.netlist_link.specs.PathTables.{top_of}
use Rattle.netlist_link.specs.declared.checking.Design.{Design}
use Rattle.netlist_link.specs.declared.design_tables.DesignTables.{DesignTables}
use Rattle.netlist_link.specs.declared.ends.LinkEnd.{LinkEnd}
use Rattle.netlist_link.proofs.KnownCells.{cells_known}
use Rattle.netlist_link.proofs.OneLink.{one_top}

-- the first fault of a connection is why a design has no netlist
pub first_end : (d : Design) (cells : List NamedCells) (end : LinkEnd) → IsFirstOf (all_faults d.modules.now (top_of d.walk.now) cells) end
    → IsEndOver d end cells
first_end d cells end (first_is first later are) = bad_connection first later are
first_end d cells end no_memory_is = no_memory

module _ (modules : List NetModule) (top : ℕ) (cells : List NamedCells) (tables : DesignTables) (are : AreTablesOf modules top cells tables)
    (known : All (λ cell. Contains (set_names cells) cell) (cells_used modules top))
    (d : Design) (modules_are : d.modules.now ≡ modules) (walk_is : d.walk.now ≡ tables.walk) (paths_are : d.paths.now ≡ tables.paths)
    (cells_are : d.cells.now ≡ tables.cells) (places_are : d.cell_places.now ≡ tables.places.items) (ports_are : d.ports.now ≡ tables.ports.items) (pins_are : d.pins.now ≡ tables.pins.items)
  where
    pub starts : top_of d.walk.now ≡ top
    starts = ap top_of walk_is ∙ are.starts

    pub design_is : IsDesign cells d
    design_is = record {
      walk = rw (modules_are, starts, walk_is) are.walk;
      paths = rw (modules_are, starts, paths_are) are.paths;
      instance_cells = rw (modules_are, cells_are) are.instance_cells;
      places = rw (cells_are, places_are) are.places;
      ports = rw (modules_are, ports_are) are.ports;
      pins = rw pins_are are.pins;
      known = rw (modules_are, starts, walk_is) (λ i below. cells_known modules top cells known i (subst (λ n. i < n) are.walk.met_count below));
    }

    pub has_design : HasDesign d
    has_design = record { cells = cells; is = design_is; distinct = are.distinct }

    pub sound_is : IsSound d
    sound_is = record {
      walk = design_is.walk;
      ports = design_is.ports;
      pins = record { each = λ c pins here. record { pins = pins_of cells c; are = design_is.pins.each c pins here; distinct = are.distinct c } };
    }

    pub over_ok : {E : Type 0} (r : Result FlatNetlist E) → IfOk r (λ netlist. OverCells d (IsNetlistOver d netlist)) → IfOk r (IsLinkedDesign modules top cells)
    over_ok r = IfOk-weaker r (λ netlist. OverCells d (IsNetlistOver d netlist)) (IsLinkedDesign modules top cells)
        (λ netlist over. rw (sym modules_are, sym starts) (over cells design_is are.distinct))

    pub over_err : {T : Type 0} (r : Result T LinkEnd) → IfErr r (λ end. OverCells d (IsEndOver d end)) → IfErr r (IsLinkEnd modules top cells)
    over_err r = IfErr-weaker r (λ end. OverCells d (IsEndOver d end)) (IsLinkEnd modules top cells)
        (λ end over. rw (sym modules_are, sym starts) (over cells design_is are.distinct))

module _ (modules : List NetModule) (name : List ℕ) (cells : List NamedCells) (differ : NamesDiffer modules) (has : HasCells modules name cells)
    (top : ℕ) (is_top : IsTop modules name top) where
  top_is : has.are.top ≡ top
  top_is = one_top modules name differ has.are.top top has.are.is_top is_top

  pub top_walkable : IsWalkable modules top
  top_walkable = subst (IsWalkable modules) top_is has.are.walkable

  pub top_known : All (λ cell. Contains (set_names cells) cell) (cells_used modules top)
  top_known = subst (All (λ cell. Contains (set_names cells) cell)) (has.are.are ∙ ap (cells_used modules) top_is) has.known

  pub flat_ok : {E : Type 0} (r : Result FlatNetlist E) → IfOk r (IsLinkedDesign modules top cells) → IfOk r (IsFlatDesign modules name cells)
  flat_ok r = IfOk-weaker r (IsLinkedDesign modules top cells) (IsFlatDesign modules name cells)
      (λ netlist is. record { top = top; is_top = is_top; faultless = is.faultless; is = is.is })

  pub flat_err : {T : Type 0} (r : Result T LinkEnd) → IfErr r (IsLinkEnd modules top cells) → IfErr r (IsFlatEnd modules name cells)
  flat_err r = IfErr-weaker r (IsLinkEnd modules top cells) (IsFlatEnd modules name cells)
      (λ end is. record { top = top; is_top = is_top; is = is })
