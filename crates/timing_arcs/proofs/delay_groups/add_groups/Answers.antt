use Rattle.std.proofs.Common.{◌≡◌, ◌≤◌, length, Some, subst, ap, arith}
use Rattle.std.specs.List.{slice_get}
use Rattle.liberty_groups.specs.Groups.{groups_of}
use Rattle.liberty_groups.specs.Tables.{tree_of, group_at}
use Rattle.timing_arcs.specs.PinTable.{entries_in}
use Rattle.timing_arcs.specs.LibraryBasis.{arcs_from, questions_from}
use Rattle.timing_arcs.proofs.Refusals.{refused_part}
use Rattle.timing_arcs.proofs.PinLemmas.{entry_name, entry_group}
use Rattle.timing_arcs.proofs.AddingLemmas.{added_part, added_all}
use Rattle.timing_arcs.proofs.delay_groups.add_groups.Goals as goal

pub returns-in-Err-clause-refused : goal.returns-in-Err-clause-refused
returns-in-Err-clause-refused c = λ entry e.
    let tree = c.args.cell.now.tree in
    let entries = entries_in tree c.args.cell.now.names c.args.cell.now.groups in
    let group_is = entry_group tree c.args.cell.now.names c.args.cell.now.groups c.args.to c.group-pin.result entry e c.group-pin.ensures.group in
    let here = subst (λ g. slice_get (groups_of g) c.loop-place.place ≡ Some (group_at tree c.child-group.result.0)) group_is (subst (λ t. slice_get (groups_of (group_at t c.group-pin.result.0)) c.loop-place.place ≡ Some (group_at t c.child-group.result.0)) c.tree-tree.ensures.tree c.child-group.ensures.tree) in
    refused_part (questions_from entries entry.name) (groups_of entry.group) c.loop-place.place (group_at tree c.child-group.result.0) here (c.loop-place.invariant entry e).sound (c.in-Err.ensures.refused entry.name)

pub loop-place-preserved : goal.loop-place-preserved
loop-place-preserved c = λ entry e.
    let tree = c.args.cell.now.tree in
    let entries = entries_in tree c.args.cell.now.names c.args.cell.now.groups in
    let group_is = entry_group tree c.args.cell.now.names c.args.cell.now.groups c.args.to c.group-pin.result entry e c.group-pin.ensures.group in
    let here = subst (λ g. slice_get (groups_of g) c.loop-place.place ≡ Some (group_at tree c.child-group.result.0)) group_is (subst (λ t. slice_get (groups_of (group_at t c.group-pin.result.0)) c.loop-place.place ≡ Some (group_at t c.child-group.result.0)) c.tree-tree.ensures.tree c.child-group.ensures.tree) in
    added_part (tree_of tree) c.args.cell.now.names (arcs_from entries entry.name) (questions_from entries entry.name) (groups_of entry.group) c.loop-place.place (group_at tree c.child-group.result.0)
    c.args.arcs.now.items c.loop-place.arcs.items c.add_group.new.arcs.items here (c.loop-place.invariant entry e)
    (c.in-Ok.ensures.ok entry.name (entry_name tree c.args.cell.now.names c.args.cell.now.groups c.args.to entry e))

pub returns-clause-ok : goal.returns-clause-ok
returns-clause-ok c = λ entry e.
    let tree = c.args.cell.now.tree in
    let entries = entries_in tree c.args.cell.now.names c.args.cell.now.groups in
    let group_is = entry_group tree c.args.cell.now.names c.args.cell.now.groups c.args.to c.group-pin.result entry e c.group-pin.ensures.group in
    let long = ap (λ g. length (groups_of g)) group_is in
    let count = subst (λ t. c.child_count-place-end.result ≡ length (groups_of (group_at t c.group-pin.result.0))) c.tree-tree.ensures.tree c.child_count-place-end.ensures in
    let ends = c.loop-place-test.false in
    let past : length (groups_of entry.group) ≤ c.loop-place.place = omega (arith, long, count, ends) in
    added_all (tree_of tree) c.args.cell.now.names (arcs_from entries entry.name) (questions_from entries entry.name) (groups_of entry.group) c.loop-place.place c.args.arcs.now.items c.loop-place.arcs.items past (c.loop-place.invariant entry e)
