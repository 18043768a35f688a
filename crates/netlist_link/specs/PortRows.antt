-- The bits of the ports of a flat design as they are kept.
use Rattle.std.specs.Prelude.{◌≡◌, ℕ, false, List, [], ◌∷◌, ◌++◌, length, get_or, slice_get, Some}
use Rattle.cell_models.specs.NamedSets.{NamedCells}
use Rattle.hierarchy.specs.Walks.{joined_from}
use Rattle.netlist_link.specs.FlatBits.{NetBit}
use Rattle.netlist_link.specs.FlatNetlist.{FlatPort}
use Rattle.netlist_link.specs.Links.{IsPortOf}
use Rattle.netlist_link.specs.PathTables.{top_of}
use Rattle.netlist_link.specs.declared.checking.Design.{Design}
use Rattle.netlist_link.specs.declared.ports.Ports.{Ports}

abbrev pub kept_port : Ports → ℕ → FlatPort
kept_port kept p = record {
  text = get_or kept.texts p [];
  sdf = get_or kept.spellings p [];
  net = get_or kept.nets.items p 0;
  is_input = get_or kept.are_inputs.items p false;
}

abbrev pub ports_in : Ports → List FlatPort
ports_in kept = joined_from (λ p. kept_port kept p ∷ []) 0 (length kept.nets.items)

-- each bit has its names and its way
pub record ArePortTables (kept : Ports) : Type 0 where
  pub texts_count : length kept.texts ≡ length kept.nets.items
  pub spellings_count : length kept.spellings ≡ length kept.nets.items
  pub inputs_count : length kept.are_inputs.items ≡ length kept.nets.items

-- one bit more stands at the ends
pub record IsPortAdded (old now : Ports) (port : FlatPort) : Type 0 where
  pub texts : now.texts ≡ old.texts ++ port.text ∷ []
  pub spellings : now.spellings ≡ old.spellings ++ port.sdf ∷ []
  pub nets : now.nets.items ≡ old.nets.items ++ port.net ∷ []
  pub inputs : now.are_inputs.items ≡ old.are_inputs.items ++ port.is_input ∷ []

-- these bits are kept, as bits of ports of the top module
pub record HoldsPorts (d : Design) (cells : List NamedCells) (bits : List NetBit) (kept : Ports) : Type 0 where
  pub tables : ArePortTables kept
  pub count : length kept.nets.items ≡ length bits
  pub each : (p : ℕ) (bit : NetBit) → slice_get bits p ≡ Some bit → IsPortOf d.modules.now (top_of d.walk.now) cells bit (kept_port kept p)

-- whatever bits are kept, these are kept behind them
abbrev pub AddsPorts : Design → List NetBit → Ports → Ports → Type 0
AddsPorts d bits old now = (cells : List NamedCells) (before : List NetBit) → HoldsPorts d cells before old
    → HoldsPorts d cells (before ++ bits) now

-- the bit of this place of a name of the top module
abbrev pub top_bit : ℕ → ℕ → NetBit
top_bit name bit = record { path = []; name = name; bit = bit }
