use Rattle.liberty_groups.specs.Groups.{attributes_of}
use Rattle.liberty_groups.specs.Tables.{attribute_at, group_at}
use Rattle.liberty_tables.proofs.AttributeLemmas.{found_values}
use Rattle.liberty_tables.proofs.attribute_texts.last_of.Goals as goal

pub returns-clause-values : goal.returns-clause-values
returns-clause-values c = found_values (λ attribute. attribute_at c.args.tree.now attribute.0) c.args.key.now (attributes_of (group_at c.args.tree.now c.args.group.0)) c.attribute.result c.attribute.ensures.last c.attribute.ensures.absent
