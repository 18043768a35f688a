-- What the groups so far say.
use Rattle.std.proofs.Common.{take}
use Rattle.std.specs.List.{AllZip}
use Rattle.liberty_tables.specs.TemplateIndex.{IsReadAt}
use Rattle.liberty_tables.proofs.templates.read_all.Given as goal

abbrev pub invariant-loop-place : goal.invariant-loop-place
invariant-loop-place l = AllZip (IsReadAt l.tree l.called l.units) (take l.place l.index.groups.items) l.read.items
