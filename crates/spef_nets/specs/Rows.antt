-- The elements of nets, row after row.
use Rattle.std.specs.Prelude.{ℕ, List, [], ◌++◌}
use Rattle.delay_units.specs.declared.quantities.Farads.{Farads}
use Rattle.delay_units.specs.declared.quantities.Ohms.{Ohms}
use Rattle.name_table.specs.declared.spef_names.NodeName.{NodeName}
use Rattle.spef_nets.specs.NetElements.{NetElements}
use Rattle.spef_nets.specs.declared.parts.Listed.{Listed}
use Rattle.spef_nets.specs.declared.parts.Ends.{Ends}

-- the elements of one net, or of many, one net behind another
pub record Rows : Type 0 where
  pub conns : List Listed
  pub loads : List Farads
  pub caps : List ℕ
  pub farads : List Farads
  pub joints : List Ends
  pub ohms : List Ohms

abbrev pub no_rows : Rows
no_rows = record { conns = []; loads = []; caps = []; farads = []; joints = []; ohms = [] }

-- other rows behind these
abbrev pub with_rows : Rows → Rows → Rows
with_rows rows more = record {
  conns = rows.conns ++ more.conns;
  loads = rows.loads ++ more.loads;
  caps = rows.caps ++ more.caps;
  farads = rows.farads ++ more.farads;
  joints = rows.joints ++ more.joints;
  ohms = rows.ohms ++ more.ohms;
}

-- the net of a name with these nodes and rows, of whose capacitances so many are written
abbrev pub net_in : List ℕ → List NodeName → Rows → ℕ → NetElements
net_in net nodes rows written = record {
  net = net;
  nodes = nodes;
  conns = rows.conns;
  loads = rows.loads;
  caps = rows.caps;
  farads = rows.farads;
  joints = rows.joints;
  ohms = rows.ohms;
  written = written;
}

-- the rows of a net
abbrev pub rows_in : NetElements → Rows
rows_in net = record { conns = net.conns; loads = net.loads; caps = net.caps; farads = net.farads; joints = net.joints; ohms = net.ohms }
