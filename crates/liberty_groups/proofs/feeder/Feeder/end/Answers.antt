-- The bytes say no other tree.
use Rattle.std.proofs.Common.{Err}
use Rattle.liberty_groups.specs.Tables.{tree_of}
use Rattle.liberty_groups.proofs.Pieces.{only_tree}
use Rattle.liberty_groups.proofs.feeder.Feeder.end.Goals as goal

pub returns-in-Ok-clause-only : goal.returns-in-Ok-clause-only
returns-in-Ok-clause-only c = λ bytes tree stands said.
    let all = c.in-Ok.ensures.ok bytes stands in
    only_tree bytes tree tree_of c.finish.result (c.finish.ensures.ok bytes all) (c.finish.ensures.fault bytes all) said

pub returns-in-Err-clause-only : goal.returns-in-Err-clause-only
returns-in-Err-clause-only c = λ bytes tree stands said. only_tree bytes tree tree_of (Err c.in-Err.end) tt (c.in-Err.ensures.fault bytes stands) said
