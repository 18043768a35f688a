-- The sections of a SPEF file (IEEE 1481) by the nets of a netlist.
use Rattle.std.specs.Prelude.{◌≡◌, ℕ, List, [], slice_get, Some, Contains}
use Rattle.spef_nets.specs.NetElements.{NetElements, net_names}

-- a section that says nothing of its net
abbrev pub no_section : List ℕ → NetElements
no_section net = record {
  net = net;
  nodes = [];
  conns = [];
  loads = [];
  caps = [];
  farads = [];
  joints = [];
  ohms = [];
  written = 0;
}

-- The section of the net of a name. A net that has none has the elements of one that says nothing of it.
pub data IsSectionOf (sections : List NetElements) (net : List ℕ) : NetElements → Type 0 where
  is_written : (place : ℕ) (section : NetElements) → slice_get sections place ≡ Some section → section.net ≡ net
      → IsSectionOf sections net section
  is_missing : ¬ Contains (net_names sections) net → IsSectionOf sections net (no_section net)
