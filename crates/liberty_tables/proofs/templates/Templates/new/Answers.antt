use Rattle.std.proofs.Common.{codes, subst}
use Rattle.liberty_groups.specs.Groups.{groups_of}
use Rattle.liberty_tables.specs.GroupIndex.{AreIndexed}
use Rattle.liberty_tables.proofs.templates.Templates.new.Goals as goal

pub returns : goal.returns
returns c = record {
  indexed = subst (λ library. AreIndexed c.args.tree.now (codes "lu_table_template") (groups_of library) c.in_ok-index.index.args c.in_ok-index.index.groups.items) c.root.ensures.tree c.in_ok-index.ensures;
  read = c.in_ok-read.ensures;
  built_in = c.in_ok-built_in.ensures;
}
