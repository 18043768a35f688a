use Rattle.std.proofs.Common.{◌<◌, ◌-◌, length, drop, sym, ◌∙◌, arith}
use Rattle.std.specs.List.{flat_map}
use Rattle.liberty_groups.specs.Tables.{tree_of}
use Rattle.timing_arcs.specs.PinTable.{entries_in}
use Rattle.timing_arcs.specs.DelayGroups.{delays_in}
use Rattle.timing_arcs.specs.CellFaults.{delay_questions}
use Rattle.timing_arcs.proofs.PinLemmas.{entries_length, entry_name, entry_group}
use Rattle.timing_arcs.proofs.PlaceLemmas.{got_below}
use Rattle.timing_arcs.proofs.AddingLemmas.{refused_pushing}
use Rattle.timing_arcs.proofs.CopiedLemmas.{copies_on_ok}
use Rattle.timing_arcs.proofs.copied_arcs.add_next_arcs.Goals as goal

pub returns-then-repeats-clause-ok : goal.returns-then-repeats-clause-ok
returns-then-repeats-clause-ok c = λ other e.
    let tree = c.args.cell.now.tree in
    let names = c.args.cell.now.names in
    let ids = c.args.cell.now.groups in
    let entries = entries_in tree names ids in
    let its = c.if-repeats.ensures.reading in
    let long = entries_length tree names ids its.even in
    let counted = its.counted in
    let to = c.requires.to in
    let behind : 0 < c.args.to = c.if-repeats.ensures.behind search in
    let same = c.if-repeats.ensures.same search in
    let within : c.args.to < length ids = omega (arith, long, counted, to) in
    let below : c.args.to - 1 < length entries = omega (arith, long, counted, to) in
    let entry = got_below entries (c.args.to - 1) below in
    let id = got_below ids c.args.to within in
    let group = sym (entry_group tree names ids (c.args.to - 1) id.0 entry.0 entry.1 (same ∙ id.1)) ∙ entry_group tree names ids c.args.to id.0 other e id.1 in
    copies_on_ok c.copy_arcs.result (tree_of tree) names entries entry.0 other c.args.to (drop c.args.start c.args.arcs.now.items) c.args.arcs.now.items c.copy_arcs.new.arcs.items group (entry_name tree names ids c.args.to other e)
    (c.requires.before behind entry.0 entry.1) c.copy_arcs.ensures.arcs

pub returns-then-repeats-clause-refused : goal.returns-then-repeats-clause-refused
returns-then-repeats-clause-refused c = λ other e.
    let entries = entries_in c.args.cell.now.tree c.args.cell.now.names c.args.cell.now.groups in
    refused_pushing c.copy_arcs.result (tree_of c.args.cell.now.tree) (flat_map (delay_questions entries) (delays_in other)) c.copy_arcs.ensures.memory
