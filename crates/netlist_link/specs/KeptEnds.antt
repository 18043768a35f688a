-- The ends of a flat netlist as they are kept, and what drives its nets.
use Rattle.std.specs.Prelude.{◌≡◌, ℕ, ◌<◌, ◌≤◌, Bool, if◌then◌else◌, IsTrue, ◌↔◌, List, [], length, map, slice_get, get_or, Option, Some, None, option_to_list}
use Rattle.cell_models.specs.NamedSets.{NamedCells}
use Rattle.cell_models.specs.declared.cell.Direction.{Direction}
use Rattle.netlist_link.specs.FlatEnds.{end_of}
use Rattle.netlist_link.specs.FlatNetlist as flat
use Rattle.netlist_link.specs.FlatPins.{pins_of}
use Rattle.netlist_link.specs.Grouping.{kept_on, count_on}
use Rattle.netlist_link.specs.InstanceTables.{instances_in, AreInstanceTables}
use Rattle.netlist_link.specs.JointTables.{AreAllPins}
use Rattle.netlist_link.specs.declared.checking.Design.{Design}
use Rattle.netlist_link.specs.declared.ends.LinkEnd.{LinkEnd}
use Rattle.netlist_link.specs.declared.ends.LinkEnd.TheVariants as refused
use Rattle.netlist_link.specs.declared.grouping.EndOn.{EndOn}
use Rattle.netlist_link.specs.declared.grouping.KeptEnd.{KeptEnd}
use Rattle.netlist_link.specs.declared.instances.Instances.{Instances}

-- an end that is kept, on its net
abbrev pub flat_end : EndOn → flat.EndOn
flat_end kept = record { net = kept.net; at = end_of kept.at }

abbrev pub flat_ends : List EndOn → List flat.EndOn
flat_ends kept = map flat_end kept

-- the directions that pass are just this one
abbrev pub Selects : (Direction → Bool) → Direction → Type 0
Selects test wanted = (direction : Direction) → IsTrue (test direction) ↔ (direction ≡ wanted)

-- a pin of an instance on its net, if it is on one and its direction passes
abbrev pub wanted_end : (Direction → Bool) → ℕ → ℕ → Direction → Option ℕ → List flat.EndOn
wanted_end test instance pin direction net = if test direction then flat.end_at instance pin net else []

-- each instance has its cell among these, and a net or none for each of its pins
pub record HavePins (cells : List NamedCells) (instances : List flat.FlatInstance) : Type 0 where
  pub cell : (i : ℕ) (instance : flat.FlatInstance) → slice_get instances i ≡ Some instance → instance.cell < length cells
  pub pins : (i : ℕ) (instance : flat.FlatInstance) → slice_get instances i ≡ Some instance
      → length instance.nets ≡ length (pins_of cells instance.cell)

-- the instances that are kept are of cells whose pins the design keeps
pub record HaveCells (d : Design) (kept : Instances) : Type 0 where
  pub tables : AreInstanceTables kept
  pub cells : List NamedCells
  pub are : AreAllPins cells (length cells) d.pins.now
  pub have : HavePins cells (instances_in kept)

-- what drives each net, of which no net has two
pub record AreDrivers (nets : ℕ) (driving : List EndOn) (drivers : List (Option KeptEnd)) : Type 0 where
  pub count : length drivers ≡ nets
  pub each : (n : ℕ) → n < nets → option_to_list (get_or drivers n None) ≡ kept_on n driving

-- the first net that two ends drive or more, or want of memory
pub data IsDriversEnd (texts : List (List ℕ)) (driving : List EndOn) : LinkEnd → Type 0 where
  several_drive : (n : ℕ) (text : List ℕ) → slice_get texts n ≡ Some text → 2 ≤ count_on n driving
      → ((m : ℕ) → m < n → count_on m driving ≤ 1) → IsDriversEnd texts driving (refused.SeveralDrivers text)
  no_memory_for : IsDriversEnd texts driving refused.OutOfMemory

-- two ends drive the net of this number or more, or want of memory
pub data IsDriverEnd (texts : List (List ℕ)) (n many : ℕ) : LinkEnd → Type 0 where
  several_drive_it : (text : List ℕ) → slice_get texts n ≡ Some text → 2 ≤ many → IsDriverEnd texts n many (refused.SeveralDrivers text)
  no_memory_for_it : IsDriverEnd texts n many refused.OutOfMemory
