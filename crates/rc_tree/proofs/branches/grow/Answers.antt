use Rattle.std.proofs.Common.{length, ap, arith}
use Rattle.rc_tree.specs.FoundSearch.{search_of}
use Rattle.rc_tree.specs.Layouts.{layout_of}
use Rattle.rc_tree.proofs.Growing.{spots_within, places_so, laid_so, layout_size, laid_out, grown_tree, steps_so}
use Rattle.rc_tree.proofs.branches.grow.Goals as goal

-- src/branches.rt
pub put_places-requires : goal.put_places-requires
put_places-requires g c =
    spots_within c.args.section.now (g.P.PinSource.pins c.args.pins.now c.args.section.now) c.args.numbered.now.spots.items c.args.numbered.now.count (search_of c.args.found.now) c.requires.some c.requires.numbered c.requires.explored
    c.deref.result.now c.deref-2.result.now c.deref.ensures.value c.deref-2.ensures.value

pub put_sinks-requires-clause-every : goal.put_sinks-requires-clause-every
put_sinks-requires-clause-every g c = c.requires.explored.search.numbers_len

pub plant-requires : goal.plant-requires
plant-requires g c =
    let laid = laid_so c.args.section.now (g.P.PinSource.pins c.args.pins.now c.args.section.now) c.args.numbered.now.spots.items c.put_places.new.places.items c.deref.result.now c.put_sinks.new.sinks.items (search_of c.args.found.now) (layout_of c.lay-layout.result) c.lay-layout.ensures c.deref.ensures.value c.in_ok-put_places.ensures.size
    (places_so c.args.numbered.now.spots.items c.deref.result.now c.args.found.now.numbers.items c.deref-2.result.now c.put_places.new.places.items c.deref.ensures.value c.deref-2.ensures.value c.in_ok-put_places.ensures.places) c.in_ok-put_sinks.ensures.size c.in_ok-put_sinks.ensures.sinks in
    laid_out c.args.section.now (g.P.PinSource.pins c.args.pins.now c.args.section.now) c.args.numbered.now.spots.items c.args.numbered.now.count (search_of c.args.found.now) c.requires.some c.requires.numbered c.requires.explored c.requires.complete c.requires.fit
    (layout_of c.lay-layout.result) laid (let many = c.cap_count.ensures.count in let most = c.cap_count.ensures.most in omega (arith, many, most))

pub returns-clause-tree : goal.returns-clause-tree
returns-clause-tree g c =
    let laid = laid_so c.args.section.now (g.P.PinSource.pins c.args.pins.now c.args.section.now) c.args.numbered.now.spots.items c.put_places.new.places.items c.deref.result.now c.put_sinks.new.sinks.items (search_of c.args.found.now) (layout_of c.lay-layout.result) c.lay-layout.ensures c.deref.ensures.value c.in_ok-put_places.ensures.size
    (places_so c.args.numbered.now.spots.items c.deref.result.now c.args.found.now.numbers.items c.deref-2.result.now c.put_places.new.places.items c.deref.ensures.value c.deref-2.ensures.value c.in_ok-put_places.ensures.places) c.in_ok-put_sinks.ensures.size c.in_ok-put_sinks.ensures.sinks in
    grown_tree c.args.section.now (g.P.PinSource.pins c.args.pins.now c.args.section.now) c.args.numbered.now.spots.items c.args.numbered.now.count (search_of c.args.found.now) c.requires.some c.requires.numbered c.requires.explored c.requires.complete c.requires.fit
    (layout_of c.lay-layout.result) laid g.C.CornerSet.COUNT c.plant.new.tree c.in_ok-plant.ensures.parents c.in_ok-plant.ensures.sinks c.in_ok-plant.ensures.filled c.plant.ensures.whole

pub returns-clause-nodes : goal.returns-clause-nodes
returns-clause-nodes g c =
    let laid = laid_so c.args.section.now (g.P.PinSource.pins c.args.pins.now c.args.section.now) c.args.numbered.now.spots.items c.put_places.new.places.items c.deref.result.now c.put_sinks.new.sinks.items (search_of c.args.found.now) (layout_of c.lay-layout.result) c.lay-layout.ensures c.deref.ensures.value c.in_ok-put_places.ensures.size
    (places_so c.args.numbered.now.spots.items c.deref.result.now c.args.found.now.numbers.items c.deref-2.result.now c.put_places.new.places.items c.deref.ensures.value c.deref-2.ensures.value c.in_ok-put_places.ensures.places) c.in_ok-put_sinks.ensures.size c.in_ok-put_sinks.ensures.sinks in
    let size = layout_size c.args.section.now (g.P.PinSource.pins c.args.pins.now c.args.section.now) c.args.numbered.now.spots.items c.args.numbered.now.count (search_of c.args.found.now) c.requires.some c.requires.numbered c.requires.explored c.requires.complete c.requires.fit
    (layout_of c.lay-layout.result) laid in
    let same = ap length c.in_ok-plant.ensures.parents in
    omega (arith, size, same)

pub returns-in_err-plant-clause-steps : goal.returns-in_err-plant-clause-steps
returns-in_err-plant-clause-steps g c =
    let laid = laid_so c.args.section.now (g.P.PinSource.pins c.args.pins.now c.args.section.now) c.args.numbered.now.spots.items c.put_places.new.places.items c.deref.result.now c.put_sinks.new.sinks.items (search_of c.args.found.now) (layout_of c.lay-layout.result) c.lay-layout.ensures c.deref.ensures.value c.in_ok-put_places.ensures.size
    (places_so c.args.numbered.now.spots.items c.deref.result.now c.args.found.now.numbers.items c.deref-2.result.now c.put_places.new.places.items c.deref.ensures.value c.deref-2.ensures.value c.in_ok-put_places.ensures.places) c.in_ok-put_sinks.ensures.size c.in_ok-put_sinks.ensures.sinks in
    steps_so g.C.CornerSet.COUNT (length c.lay-layout.result.parents.now) (length c.args.section.now.joints) (length c.args.section.now.caps) c.args.steps.now c.plant.new.steps
    (layout_size c.args.section.now (g.P.PinSource.pins c.args.pins.now c.args.section.now) c.args.numbered.now.spots.items c.args.numbered.now.count (search_of c.args.found.now) c.requires.some c.requires.numbered c.requires.explored c.requires.complete c.requires.fit
    (layout_of c.lay-layout.result) laid) c.plant.ensures.steps

pub returns-clause-steps : goal.returns-clause-steps
returns-clause-steps g c =
    let laid = laid_so c.args.section.now (g.P.PinSource.pins c.args.pins.now c.args.section.now) c.args.numbered.now.spots.items c.put_places.new.places.items c.deref.result.now c.put_sinks.new.sinks.items (search_of c.args.found.now) (layout_of c.lay-layout.result) c.lay-layout.ensures c.deref.ensures.value c.in_ok-put_places.ensures.size
    (places_so c.args.numbered.now.spots.items c.deref.result.now c.args.found.now.numbers.items c.deref-2.result.now c.put_places.new.places.items c.deref.ensures.value c.deref-2.ensures.value c.in_ok-put_places.ensures.places) c.in_ok-put_sinks.ensures.size c.in_ok-put_sinks.ensures.sinks in
    steps_so g.C.CornerSet.COUNT (length c.lay-layout.result.parents.now) (length c.args.section.now.joints) (length c.args.section.now.caps) c.args.steps.now c.plant.new.steps
    (layout_size c.args.section.now (g.P.PinSource.pins c.args.pins.now c.args.section.now) c.args.numbered.now.spots.items c.args.numbered.now.count (search_of c.args.found.now) c.requires.some c.requires.numbered c.requires.explored c.requires.complete c.requires.fit
    (layout_of c.lay-layout.result) laid) c.plant.ensures.steps
