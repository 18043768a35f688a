use Rattle.std.proofs.Common.{sym, ap, ◌∙◌}
use Rattle.name_table.specs.declared.spef_names.NodeName.{NodeName}
use Rattle.rc_tree.proofs.ListedLemmas.{driver_is}
use Rattle.rc_tree.proofs.listed_pins.ListedPins.driver_sdf.Goals as goal

-- src/listed_pins.rt
pub returns : goal.returns
returns g c =
    let (name, at, is) = c.in_ok-sdf.ensures in
    sym is ∙ ap (λ (n : NodeName). n.sdf) (driver_is g.C.CornerSet.COUNT c.args.section.now c.args.self.now.driver c.conn.result name c.conn.ensures.conn at)
