-- What the fields of `Elements` and of `ElementParts` are.
use Rattle.spef_nets.specs.Rows.{Rows}
use Rattle.spef_nets.specs.declared.elements.Elements.{Elements}
use Rattle.spef_nets.specs.declared.elements.ElementParts.{ElementParts}

abbrev pub rows_of : Elements → Rows
rows_of elements = record {
  conns = elements.conns.items;
  loads = elements.loads.items;
  caps = elements.caps.items;
  farads = elements.farads.items;
  joints = elements.joints.items;
  ohms = elements.ohms.items;
}

abbrev pub rows_at : ElementParts → Rows
rows_at parts = record {
  conns = parts.conns.now;
  loads = parts.loads.now;
  caps = parts.caps.now;
  farads = parts.farads.now;
  joints = parts.joints.now;
  ohms = parts.ohms.now;
}
