use Rattle.std.proofs.Common.{length, ap, arith}
use Rattle.rc_tree.specs.FoundSearch.{search_of}
use Rattle.rc_tree.proofs.Judging.{unreached_end, mesh_end}
use Rattle.rc_tree.proofs.branches.judge.Goals as goal

-- src/branches.rt
pub name_at-requires-clause-below : goal.name_at-requires-clause-below
name_at-requires-clause-below g c =
    let first = c.in-Some.ensures.0 in
    let same = ap length c.deref.ensures.value in
    let size = c.requires.explored.search.numbers_len in
    omega (arith, first, same, size)

pub name_at-requires-clause-some : goal.name_at-requires-clause-some
name_at-requires-clause-some g c =
    let ends = c.requires.explored.are_ends in
    let size = ends.froms_len in
    let some = c.requires.some in
    let at = ends.from 0 (omega (arith, size, some)) in
    let there = at.0 in
    omega (arith, there)

pub returns-in-Some-first_zero-clause-refused : goal.returns-in-Some-first_zero-clause-refused
returns-in-Some-first_zero-clause-refused g c =
    mesh_end g.C.CornerSet.COUNT c.args.section.now (g.P.PinSource.pins c.args.pins.now c.args.section.now) c.args.numbered.now.spots.items c.deref.result.now c.deref-2.result.now c.args.numbered.now.count (search_of c.args.found.now)
    c.requires.fit c.requires.some c.requires.numbered c.requires.explored c.deref.ensures.value c.deref-2.ensures.value c.in_default.ensures c.in-Some-first_zero.place c.in-Some-first_zero.ensures

pub returns-in-Some-clause-refused : goal.returns-in-Some-clause-refused
returns-in-Some-clause-refused g c =
    unreached_end g.C.CornerSet.COUNT c.args.section.now (g.P.PinSource.pins c.args.pins.now c.args.section.now) c.args.numbered.now.spots.items c.deref.result.now c.args.numbered.now.count (search_of c.args.found.now)
    c.requires.fit c.requires.some c.requires.numbered c.requires.explored c.deref.ensures.value c.in-Some.node c.in_ok-name.name c.in-Some.ensures c.in_ok-name.ensures
