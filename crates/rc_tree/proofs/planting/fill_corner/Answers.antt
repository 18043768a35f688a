use Rattle.std.proofs.Common.{◌∙◌, length}
use Rattle.rc_tree.specs.Layouts.{layout_of}
use Rattle.rc_tree.proofs.Filled.{filled_corner, has_row}
use Rattle.rc_tree.proofs.planting.fill_corner.Goals as goal

-- src/planting.rt
pub returns-clause-filled : goal.returns-clause-filled
returns-clause-filled g c =
    let count = g.C.CornerSet.COUNT in
    let number = g.C.CornerSet.number_of c.args.corner in
    let n = length c.args.layout.now.parents.now in
    filled_corner count c.args.section.now (g.P.PinSource.pins c.args.pins.now c.args.section.now) (layout_of c.args.layout.now) c.fill_ohms.new.ohms.values c.fill_farads.new.farads.values c.fill_loads.new.farads.values number c.requires.layout
    (record {
      root = c.fill_ohms.ensures.root ∙ c.requires.no_ohms 0;
      links = c.fill_ohms.ensures.links;
      small = c.fill_ohms.ensures.small;
      placed = λ row below. c.fill_farads.ensures.nodes row (has_row count n _ row c.requires.farads_rows below);
      loaded = λ row below. c.fill_loads.ensures.nodes row (has_row count n _ row (c.fill_farads.ensures.others.size ∙ c.requires.farads_rows) below);
      within = c.fill_farads.ensures.within;
      each = c.fill_farads.ensures.each;
      loads = c.fill_loads.ensures.each;
    })
