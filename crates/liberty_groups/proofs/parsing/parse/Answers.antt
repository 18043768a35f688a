-- What the feeder answers that was fed once, the bytes say.
use Rattle.std.proofs.Common.{[], Err}
use Rattle.std.specs.Prelude.{⊤}
use Rattle.liberty_groups.specs.Tables.{tree_of}
use Rattle.liberty_groups.proofs.Pieces.{only_tree, fault_of_all}
use Rattle.liberty_groups.proofs.parsing.parse.Goals as goal

pub returns-in-Ok-clause-only : goal.returns-in-Ok-clause-only
returns-in-Ok-clause-only c = λ tree said. c.end.ensures.only c.args.bytes.now tree (c.in-Ok.ensures.ok [] c.new-feeder.ensures.stands) said

pub returns-in-Err-clause-fault : goal.returns-in-Err-clause-fault
returns-in-Err-clause-fault c = fault_of_all ⊤ ⊤ c.args.bytes.now c.in-Err.end (c.in-Err.ensures.fault [] c.new-feeder.ensures.stands)

pub returns-in-Err-clause-only : goal.returns-in-Err-clause-only
returns-in-Err-clause-only c = λ tree said.
    only_tree c.args.bytes.now tree tree_of (Err c.in-Err.end) tt
    (fault_of_all ⊤ ⊤ c.args.bytes.now c.in-Err.end (c.in-Err.ensures.fault [] c.new-feeder.ensures.stands)) said
