use Rattle.std.proofs.Common.{sym, ◌∙◌}
use Rattle.spef_nets.specs.RowsOf.{rows_of}
use Rattle.spef_nets.proofs.TableLemmas.{many_are}
use Rattle.spef_nets.proofs.sections.Sections.len.Goals as goal

-- src/sections.rt
pub returns : goal.returns
returns g c = c.len.ensures ∙ sym (many_are c.self.inside.file.now c.self.inside.head.now g.C.CornerSet.COUNT c.self.inside.nets c.self.inside.tables.ends.items c.self.inside.tables.nodes.items (rows_of c.self.inside.tables.elements) c.self.invariant c.args.self.now c.self.view_is)
