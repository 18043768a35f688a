use Rattle.std.proofs.lemmas.Map.Made.{AllPairs-from_IsDistinct}
use Rattle.name_table.specs.SameKeys.{same_key-Decides}
use Rattle.rc_tree.proofs.node_table.put.Goals as goal

-- src/node_table.rt
pub returns-clause-apart : goal.returns-clause-apart
returns-clause-apart c = AllPairs-from_IsDistinct same_key-Decides c.insert_full.new.self.keys c.insert_full.ensures.unique
