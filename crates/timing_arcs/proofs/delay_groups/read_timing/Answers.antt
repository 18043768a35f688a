use Rattle.std.proofs.lemmas.List.Elements.{All-append}
use Rattle.liberty_groups.specs.Tables.{tree_of, group_at}
use Rattle.timing_arcs.specs.CellFaults.{rise_questions, fall_questions, IsSound}
use Rattle.timing_arcs.proofs.Refusals.{refused_before, refused_behind}
use Rattle.timing_arcs.proofs.delay_groups.read_timing.Goals as goal

pub returns-in-Err-clause-refused : goal.returns-in-Err-clause-refused
returns-in-Err-clause-refused c =
    let timing = group_at c.args.cell.now.tree c.args.group.0 in
    refused_before (rise_questions timing) (fall_questions timing) c.in-Err.ensures.refused

pub returns-in-Ok-read_fall-clause-sound : goal.returns-in-Ok-read_fall-clause-sound
returns-in-Ok-read_fall-clause-sound c =
    let timing = group_at c.args.cell.now.tree c.args.group.0 in
    All-append (IsSound (tree_of c.args.cell.now.tree)) (rise_questions timing) (fall_questions timing) c.in-Ok.ensures.sound c.in-Ok-read_fall.ensures.sound

pub returns-in-Err-read_fall-clause-refused : goal.returns-in-Err-read_fall-clause-refused
returns-in-Err-read_fall-clause-refused c =
    let timing = group_at c.args.cell.now.tree c.args.group.0 in
    refused_behind (rise_questions timing) (fall_questions timing) c.in-Ok.ensures.sound c.in-Err-read_fall.ensures.refused
