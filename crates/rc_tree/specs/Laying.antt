-- From a search to where everything stands in the tree.
use Rattle.std.specs.Prelude.{◌≡◌, ℕ, ◌-◌, ◌<◌, List, length, slice_index}
use Rattle.spef_nets.specs.NetElements.{NetElements as SectionElements}
use Rattle.rc_tree.specs.Pins.{Pins}
use Rattle.rc_tree.specs.Filling.{Layout}
use Rattle.rc_tree.specs.Searches.{Search}
use Rattle.rc_tree.specs.Searched.{AreSinks}

-- the nodes of a search in its order, and where the section's nodes and the sinks stand in it
pub record IsLaid (section : SectionElements) (pins : Pins) (spots : List ℕ) (s : Search) (layout : Layout) : Type 0 where
  pub parents : layout.parents ≡ s.parents
  pub vias : layout.vias ≡ s.vias
  pub spots_len : length layout.spots ≡ length spots
  pub spots_are : (k : ℕ) → k < length spots → slice_index layout.spots k ≡ slice_index s.numbers (slice_index spots k) - 1
  pub sinks_len : length layout.sinks ≡ length pins.sinks
  pub sinks_are : AreSinks section pins s.numbers layout.sinks
