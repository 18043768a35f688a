use Rattle.std.proofs.Common.{ℕ, ◌+◌, get_or, ap, ◌∙◌, arith}
use Rattle.std.proofs.lemmas.List.{get_or_read}
use Rattle.netlist_link.proofs.PlaceReading.{start_there, place_there, place_read}
use Rattle.netlist_link.proofs.flat_bits.NamePlaces.before.Goals as goal

pub overflow_add-index : goal.overflow_add-index
overflow_add-index c =
    let places = c.args.self.now in
    let has = c.requires in
    let start = get_or_read places.starts.items c.args.m c.index.result.now (start_there has.modules places has.are c.args.m c.args.name has.below has.within)
    c.index.ensures 0 in
    let there = place_there has.modules places has.are c.args.m c.args.name has.below has.within in
    let ok = places.bits.ok in
    let small = places.bits.small in
    omega arith

pub index-requires-2 : goal.index-requires-2
index-requires-2 c =
    let places = c.args.self.now in
    let has = c.requires in
    let start = get_or_read places.starts.items c.args.m c.index.result.now (start_there has.modules places has.are c.args.m c.args.name has.below has.within)
    c.index.ensures 0 in
    let there = place_there has.modules places has.are c.args.m c.args.name has.below has.within in
    let ok = places.bits.ok in
    omega arith

pub returns : goal.returns
returns c = λ modules are below within.
    let places = c.args.self.now in
    let start = get_or_read places.starts.items c.args.m c.index.result.now (start_there modules places are c.args.m c.args.name below within)
    c.index.ensures 0 in
    let there = place_there modules places are c.args.m c.args.name below within in
    get_or_read places.bits.items (c.index.result.now + c.args.name) c.index-2.result.now (omega arith) c.index-2.ensures 0
    ∙ ap (λ (n : ℕ). get_or places.bits.items (n + c.args.name) 0) start
    ∙ place_read modules places are c.args.m c.args.name below within
