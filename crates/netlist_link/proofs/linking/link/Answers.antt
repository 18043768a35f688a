use Rattle.std.proofs.Common.{refl}
use Rattle.netlist_link.proofs.LinkSteps.{has_design, sound_is, over_ok, over_err}
use Rattle.netlist_link.proofs.linking.link.Goals as goal

pub link_design-requires-clause-sound : goal.link_design-requires-clause-sound
link_design-requires-clause-sound g c = sound_is c.args.modules.now c.args.top c.args.cells.now c.in_ok-tables.tables c.in_ok-tables.ensures
    c.requires.known _ refl refl refl refl c.as_slice.ensures.value c.as_slice-2.ensures.value c.as_slice-3.ensures.value

pub link_design-requires-clause-design : goal.link_design-requires-clause-design
link_design-requires-clause-design g c = has_design c.args.modules.now c.args.top c.args.cells.now c.in_ok-tables.tables c.in_ok-tables.ensures
    c.requires.known _ refl refl refl refl c.as_slice.ensures.value c.as_slice-2.ensures.value c.as_slice-3.ensures.value

pub returns-clause-linked : goal.returns-clause-linked
returns-clause-linked g c = over_ok c.args.modules.now c.args.top c.args.cells.now c.in_ok-tables.tables c.in_ok-tables.ensures
    c.requires.known _ refl refl refl refl c.as_slice.ensures.value c.as_slice-2.ensures.value c.as_slice-3.ensures.value c.link_design.result c.link_design.ensures.linked

pub returns-clause-refused : goal.returns-clause-refused
returns-clause-refused g c = over_err c.args.modules.now c.args.top c.args.cells.now c.in_ok-tables.tables c.in_ok-tables.ensures
    c.requires.known _ refl refl refl refl c.as_slice.ensures.value c.as_slice-2.ensures.value c.as_slice-3.ensures.value c.link_design.result c.link_design.ensures.refused
