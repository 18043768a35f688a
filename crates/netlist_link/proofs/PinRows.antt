-- The pins of an instance that is kept are those of its cell.
use Rattle.std.proofs.Common.{◌≡◌, ℕ, ◌+◌, ◌<◌, ◌≤◌, Bool, List, ◌++◌, length, map, take, get_or, Option, Some, None, sym, ap, ap₂, ◌∙◌, arith, add-one, append_assoc}
use Rattle.std.specs.Prelude.{slice_get}
use Rattle.std.proofs.lemmas.Option.{slice_get-get_or}
use Rattle.std.proofs.lemmas.List.{get_or-map, length-map, take_all}
use Rattle.cell_models.specs.NamedSets.{NamedCells}
use Rattle.cell_models.specs.declared.cell.Direction.{Direction}
use Rattle.cell_models.specs.declared.cell.Pin.{Pin}
use Rattle.netlist_link.specs.FlatNetlist.{EndOn, pin_ends, no_instance}
use Rattle.netlist_link.specs.FlatPins.{pins_of}
use Rattle.netlist_link.specs.InstanceTables.{row_at, kept_instance, instances_in}
use Rattle.netlist_link.specs.JointTables.{AreAllPins}
use Rattle.netlist_link.specs.KeptEnds.{wanted_end, HaveCells}
use Rattle.netlist_link.specs.declared.cell_pins.CellPins.{CellPins}
use Rattle.netlist_link.specs.declared.checking.Design.{Design}
use Rattle.netlist_link.specs.declared.instances.Instances.{Instances}
use Rattle.netlist_link.proofs.EndLists.{pin_ends-more}
use Rattle.netlist_link.proofs.Joining.{no_pin}
use Rattle.netlist_link.proofs.NetlistReading.{pins_many, pin_here}
use Rattle.hierarchy.proofs.Numbered.{numbered_at, numbered_count}

module _ (d : Design) (kept : Instances) (have : HaveCells d kept) (i : ℕ) (below : i < length kept.rows.items) where
  here : slice_get (instances_in kept) i ≡ Some (kept_instance kept i)
  here =
      let many = numbered_count (kept_instance kept) 0 (length kept.rows.items) in
      slice_get-get_or (instances_in kept) i no_instance (omega arith) ∙ ap Some (numbered_at (kept_instance kept) (length kept.rows.items) i no_instance below)

  pub cell_below : (row_at kept i).cell < length d.pins.now
  cell_below = let count = have.are.count in let cell = have.have.cell i (kept_instance kept i) here in omega arith

  module _ (x : CellPins) (is : x ≡ get_or d.pins.now (row_at kept i).cell x) where
    there : slice_get d.pins.now (row_at kept i).cell ≡ Some x
    there = slice_get-get_or d.pins.now (row_at kept i).cell x cell_below ∙ ap Some (sym is)

    pub directions_are : (cells : List NamedCells) → AreAllPins cells (length cells) d.pins.now
        → x.directions.items ≡ map (λ (pin : Pin). pin.direction) (pins_of cells (row_at kept i).cell)
    directions_are cells are = (are.each (row_at kept i).cell x there).directions

    pub directions_many : length x.directions.items ≡ (row_at kept i).pin_count
    directions_many = ap length (directions_are have.cells have.are) ∙ length-map (pins_of have.cells (row_at kept i).cell) (λ (pin : Pin). pin.direction)
        ∙ sym (have.have.pins i (kept_instance kept i) here) ∙ pins_many kept have.tables i below

    module _ (cells : List NamedCells) (are : AreAllPins cells (length cells) d.pins.now) (test : Direction → Bool) where
      abbrev pins : List Pin
      pins = pins_of cells (row_at kept i).cell

      abbrev nets : List (Option ℕ)
      nets = (kept_instance kept i).nets

      many : length pins ≡ length x.directions.items
      many = sym (ap length (directions_are cells are) ∙ length-map pins (λ (pin : Pin). pin.direction))

      as_many : length nets ≡ length x.directions.items
      as_many = pins_many kept have.tables i below ∙ sym directions_many

      -- the ends of one pin more
      pub pins_step : (old so_far now : List EndOn) (j : ℕ) (direction e : Direction) (net : Option ℕ) → j < length x.directions.items
          → direction ≡ get_or x.directions.items j e → net ≡ get_or kept.pin_nets.items ((row_at kept i).first_pin + j) None
          → so_far ≡ old ++ pin_ends test i 0 (take j pins) (take j nets) → now ≡ so_far ++ wanted_end test i j direction net
          → now ≡ old ++ pin_ends test i 0 (take (j + 1) pins) (take (j + 1) nets)
      pins_step old so_far now j direction e net less direction_is net_is before is =
          let pin_many = many in
          let net_many = as_many in
          let count = directions_many in
          let passes : direction ≡ (get_or pins j no_pin).direction =
          direction_is ∙ ap (λ (l : List Direction). get_or l j e) (directions_are cells are)
          ∙ get_or-map (λ (pin : Pin). pin.direction) pins j no_pin e (omega arith) in
          let on : net ≡ get_or nets j None = net_is ∙ sym (pin_here kept have.tables i below j (omega arith)) in
          let more = pin_ends-more test i 0 pins nets j no_pin (omega arith) (omega arith) in
          let same : 0 + j ≡ j = omega arith in
          is ∙ ap₂ (λ (l : List EndOn) (one : List EndOn). l ++ one) before (λ k. wanted_end test i j (passes k) (on k))
          ∙ append_assoc old (pin_ends test i 0 (take j pins) (take j nets)) (wanted_end test i j (get_or pins j no_pin).direction (get_or nets j None))
          ∙ ap (λ (n : ℕ). old ++ (pin_ends test i 0 (take j pins) (take j nets) ++ wanted_end test i n (get_or pins j no_pin).direction (get_or nets j None))) (sym same)
          ∙ ap (λ (l : List EndOn). old ++ l) (sym more)
          ∙ ap (λ (n : ℕ). old ++ pin_ends test i 0 (take n pins) (take n nets)) (sym (add-one j))

      -- all pins
      pub pins_done : (old now : List EndOn) (j : ℕ) → length x.directions.items ≤ j → now ≡ old ++ pin_ends test i 0 (take j pins) (take j nets)
          → now ≡ old ++ pin_ends test i 0 pins nets
      pins_done old now j past is =
          let pin_many = many in
          let net_many = as_many in
          is ∙ ap₂ (λ (ps : List Pin) (ns : List (Option ℕ)). old ++ pin_ends test i 0 ps ns) (take_all j pins (omega arith)) (take_all j nets (omega arith))
