-- How many steps the trees and the Elmore sums of a netlist's nets take at the most.
use Rattle.std.specs.Prelude.{ℕ, suc, Bool, true, false, ◌+◌, ◌*◌, ◌≤◌, length}
use Rattle.netlist_link.specs.declared.ends.End.{End}
use Rattle.spef_nets.specs.NetElements.{NetElements}
use Rattle.rc_tree.specs.Pins.{pin_nodes}
use Rattle.net_parasitics.specs.Inputs.{Inputs}
use Rattle.net_parasitics.specs.NetPins.{net_pins}
use Rattle.net_parasitics.specs.NetTrees.{IsUnwired, IsNet}
use Rattle.net_parasitics.specs.declared.ends.ParasiticsEnd.{ParasiticsEnd}
use Rattle.net_parasitics.specs.declared.ends.ParasiticsEnd.TheVariants.{MissingNet}

-- an end that comes before any tree is built
abbrev pub is_early : ParasiticsEnd → Bool
is_early (MissingNet net) = true
is_early _ = false

module _ (inputs : Inputs) where
  -- 16 at each corner for each resistor, for each capacitance to ground and for each pin
  abbrev pub most_steps : ℕ → End → NetElements → ℕ
  most_steps net driver section =
      16 * inputs.count * (length section.joints + length section.caps + length (pin_nodes (net_pins inputs net driver)))

  -- the most steps of a net: none where it has no driver or no sink
  pub data NetWork (net : ℕ) : ℕ → Type 0 where
    of_none : IsUnwired inputs.netlist net → NetWork net 0
    of_net : (driver : End) (section : NetElements) → IsNet inputs net driver section → NetWork net (most_steps net driver section)

  -- the most steps of the first nets, so many of them
  pub data NetsWork : ℕ → ℕ → Type 0 where
    no_nets : NetsWork 0 0
    and_net : {net before work : ℕ} → NetsWork net before → NetWork net work → NetsWork (suc net) (before + work)

  -- a count rose by no more than the work of these nets
  pub record IsWithin (nets before after : ℕ) : Type 0 where
    pub work : ℕ
    pub given : NetsWork nets work
    pub bound : after ≤ before + work
