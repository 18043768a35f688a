use Rattle.std.proofs.Common.{subst, sym}
use Rattle.timing_arcs.specs.DelayGroups.{related_names}
use Rattle.timing_arcs.specs.RelatedPins.{ArePlaces}
use Rattle.liberty_groups.specs.Tables.{tree_of, group_at}
use Rattle.timing_arcs.specs.CellFaults.{delay_questions}
use Rattle.timing_arcs.specs.PinTable.{entries_in}
use Rattle.timing_arcs.proofs.AddingLemmas.{added_group, refused_related, refused_timing, refused_pushing}
use Rattle.timing_arcs.proofs.delay_groups.add_arcs.Goals as goal

pub returns-in-Err-clause-refused : goal.returns-in-Err-clause-refused
returns-in-Err-clause-refused c = λ name.
    refused_related (tree_of c.args.cell.now.tree) (entries_in c.args.cell.now.tree c.args.cell.now.names c.args.cell.now.groups) name (group_at c.args.cell.now.tree c.args.group.0) c.in-Err.fault c.in-Err.ensures.err

pub returns-in-Err-read_timing-clause-refused : goal.returns-in-Err-read_timing-clause-refused
returns-in-Err-read_timing-clause-refused c = λ name.
    refused_timing (tree_of c.args.cell.now.tree) (entries_in c.args.cell.now.tree c.args.cell.now.names c.args.cell.now.groups) c.args.cell.now.names name (group_at c.args.cell.now.tree c.args.group.0) c.in-Ok.places.items c.in-Err-read_timing.fault c.in-Ok.ensures.ok c.in-Err-read_timing.ensures.refused

pub returns-clause-ok : goal.returns-clause-ok
returns-clause-ok c = λ name here.
    let entries = entries_in c.args.cell.now.tree c.args.cell.now.names c.args.cell.now.groups in
    let timing = group_at c.args.cell.now.tree c.args.group.0 in
    added_group c.push_arcs.result (tree_of c.args.cell.now.tree) entries c.args.cell.now.names timing c.in-Ok-read_timing.timing.kind c.in-Ok-read_timing.timing.rise c.in-Ok-read_timing.timing.fall c.as_slice.result.now c.args.to name c.args.arcs.now.items c.push_arcs.new.arcs.items
    (subst (ArePlaces entries c.args.cell.now.names (related_names timing)) (sym c.as_slice.ensures.value) c.in-Ok.ensures.ok) c.in-Ok-read_timing.ensures.ok c.in-Ok-read_timing.ensures.sound c.push_arcs.ensures.arcs here

pub returns-clause-refused : goal.returns-clause-refused
returns-clause-refused c = λ name.
    refused_pushing c.push_arcs.result (tree_of c.args.cell.now.tree) (delay_questions (entries_in c.args.cell.now.tree c.args.cell.now.names c.args.cell.now.groups) (record { to = name; group = group_at c.args.cell.now.tree c.args.group.0 })) c.push_arcs.ensures.memory
