use Rattle.std.proofs.Common.{ℕ, ◌+◌, get_or, ap, ◌∙◌, arith}
use Rattle.std.proofs.lemmas.List.{get_or_read}
use Rattle.netlist_link.proofs.PinNumbers.{start_within, number_there, number_read}
use Rattle.netlist_link.proofs.instances.joint_number.Goals as goal

pub overflow_add-index : goal.overflow_add-index
overflow_add-index c =
    let d = c.args.design.now in
    let joints = c.args.joints.now in
    let has = c.requires.design in
    let holds = c.requires.joints has.cells has.is has.distinct in
    let within = start_within d has.cells c.args.i c.requires.within joints.starts.items joints.numbers.items joints.places.items holds c.args.c c.requires.connection in
    let start = get_or_read joints.starts.items c.args.i c.index.result.now within c.index.ensures 0 in
    let there = number_there d has.cells c.args.i c.requires.within joints.starts.items joints.numbers.items joints.places.items holds c.args.c c.requires.connection in
    let ok = joints.numbers.ok in
    let small = joints.numbers.small in
    omega arith

pub index-requires-2 : goal.index-requires-2
index-requires-2 c =
    let d = c.args.design.now in
    let joints = c.args.joints.now in
    let has = c.requires.design in
    let holds = c.requires.joints has.cells has.is has.distinct in
    let within = start_within d has.cells c.args.i c.requires.within joints.starts.items joints.numbers.items joints.places.items holds c.args.c c.requires.connection in
    let start = get_or_read joints.starts.items c.args.i c.index.result.now within c.index.ensures 0 in
    let there = number_there d has.cells c.args.i c.requires.within joints.starts.items joints.numbers.items joints.places.items holds c.args.c c.requires.connection in
    let ok = joints.numbers.ok in
    omega arith

pub returns : goal.returns
returns c = λ cells is distinct.
    let d = c.args.design.now in
    let joints = c.args.joints.now in
    let holds = c.requires.joints cells is distinct in
    let within = start_within d cells c.args.i c.requires.within joints.starts.items joints.numbers.items joints.places.items holds c.args.c c.requires.connection in
    let start = get_or_read joints.starts.items c.args.i c.index.result.now within c.index.ensures 0 in
    let there = number_there d cells c.args.i c.requires.within joints.starts.items joints.numbers.items joints.places.items holds c.args.c c.requires.connection in
    get_or_read joints.numbers.items (c.index.result.now + c.args.c) c.index-2.result.now (omega arith) c.index-2.ensures 0
    ∙ ap (λ (n : ℕ). get_or joints.numbers.items (n + c.args.c) 0) start
    ∙ number_read d cells c.args.i c.requires.within joints.starts.items joints.numbers.items joints.places.items holds c.args.c c.requires.connection
