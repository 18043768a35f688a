-- The lines of the text of a flat netlist, by the numbers of their instances and nets.
use Rattle.std.specs.Prelude.{ℕ, ◌<◌, List, length}
use Rattle.netlist_link.specs.FlatNetlist.{instance_at, net_at}
use Rattle.design_phases.specs.DesignReading.{LinkedDesign}
use Rattle.command_rows.specs.FlatText.{instance_line, net_line}
use Rattle.command_rows.specs.declared.flat_lines.Line.{Line}
use Rattle.command_rows.specs.declared.flat_lines.Line.TheVariants.{Instance, Net}

module _ (design : LinkedDesign) where
  -- there is such an instance, or such a net
  abbrev pub HasLine : Line → Type 0
  HasLine (Instance i) = i < length design.netlist.instances
  HasLine (Net n) = n < length design.netlist.nets

  abbrev pub line_text : Line → List ℕ
  line_text (Instance i) = instance_line design (instance_at design.netlist i)
  line_text (Net n) = net_line design (net_at design.netlist n)
