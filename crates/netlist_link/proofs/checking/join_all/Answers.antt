use Rattle.std.proofs.Common.{◌≡◌, ℕ, ◌+◌, ◌<◌, List, [], ◌∷◌, ◌++◌, length, ap, sym, subst, arith}
use Rattle.netlist_link.specs.Designs.{HoldsJoints, walk_of}
use Rattle.netlist_link.proofs.JoinAll.{joints_step, refused_at}
use Rattle.netlist_link.proofs.checking.join_all.Goals as goal

pub loop-i-preserved : goal.loop-i-preserved
loop-i-preserved c = λ cells is distinct.
    let d = c.args.design.now in
    let i = c.loop-i.i in
    let numbers = c.join_instance.new.numbers.items in
    let place = c.cell_place-cell.ensures.place cells is in
    let joined = c.in-Ok-join_instance.ensures.joined cells is.pins distinct place in
    let below : i < length (walk_of d) =
    (let count = c.requires.sound.walk.met_count in let end = ap length c.met-many.ensures in let test = c.loop-i-test.true in omega arith) in
    subst (λ (starts : List ℕ). HoldsJoints d (i + 1) starts numbers c.keep_places.new.places.items cells) (sym c.in-Ok.ensures.starts)
    (subst (λ (places : List ℕ). HoldsJoints d (i + 1) (c.loop-i.starts.items ++ c.len.result ∷ []) numbers places cells) (sym c.in-Ok.ensures.places)
    (joints_step d cells i below c.loop-i.starts.items c.loop-i.numbers.items c.loop-i.places.items (c.loop-i.invariant cells is distinct)
    numbers c.len.result c.cell_place-cell.result joined (let len = c.len.ensures in let ok = c.loop-i.numbers.ok in omega arith) place))

pub returns-in-Err-join_instance-clause-refused : goal.returns-in-Err-join_instance-clause-refused
returns-in-Err-join_instance-clause-refused c = λ cells is distinct.
    let d = c.args.design.now in
    let i = c.loop-i.i in
    let place = c.cell_place-cell.ensures.place cells is in
    let below : i < length (walk_of d) =
    (let count = c.requires.sound.walk.met_count in let end = ap length c.met-many.ensures in let test = c.loop-i-test.true in omega arith) in
    refused_at d cells i below c.loop-i.starts.items c.loop-i.numbers.items c.loop-i.places.items (c.loop-i.invariant cells is distinct)
    c.in-Err-join_instance.end (c.in-Err-join_instance.ensures.refused cells is.pins distinct place)

pub returns-clause-joined : goal.returns-clause-joined
returns-clause-joined c = λ cells is distinct.
    let d = c.args.design.now in
    let done : c.loop-i.i ≡ length (walk_of d) =
    (let count = c.requires.sound.walk.met_count in let end = ap length c.met-many.ensures in let test = c.loop-i-test.false in
    let fits = c.loop-i.auto.i-end in omega arith) in
    subst (λ (n : ℕ). HoldsJoints d n c.loop-i.starts.items c.loop-i.numbers.items c.loop-i.places.items cells) done (c.loop-i.invariant cells is distinct)
