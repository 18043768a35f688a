use Rattle.std.proofs.Common.{◌≡◌, ℕ, ◌<◌, List, length, get_or, ap, ap₂, ◌∙◌, subst, arith}
use Rattle.std.specs.Prelude.{slice_index}
use Rattle.verilog_netlist.specs.NetModules.{NetConnection, instance_at, no_connection, bits_in}
use Rattle.verilog_netlist.specs.SoundModules.{Differ}
use Rattle.netlist_link.specs.FlatPins.{pins_of}
use Rattle.netlist_link.specs.Designs.{met_of, walk_of, connections_of}
use Rattle.netlist_link.specs.InstanceRows.{connection_of, IsFirstNet}
use Rattle.netlist_link.proofs.PinSteps.{number_within, empty_next, joined_next, all_joined}
use Rattle.netlist_link.proofs.instances.set_pin_nets.Goals.{in-Some, in_default}
use Rattle.netlist_link.proofs.instances.set_pin_nets.Goals as goal

pub set_net-requires : goal.set_net-requires
set_net-requires c =
    let d = c.args.design.now in
    let i = c.args.i in
    let n = c.loop-c.c in
    let joints = c.args.joints.now in
    let has = c.requires.design in
    let holds = c.requires.joints has.cells has.is has.distinct in
    let within : i < length (walk_of d) = (let count = c.requires.sound.walk.met_count in let below = c.requires.within in omega arith) in
    let same : (instance_at d.modules.now c.place_of-m.result.0 c.place_of-m.result.1).connections ≡ connections_of d i =
    ap₂ (λ (m k : ℕ). (instance_at d.modules.now m k).connections) c.place_of-m.ensures.module_is c.place_of-m.ensures.instance_is in
    let many = c.connection_count-c-end.ensures ∙ ap length same in
    let below : n < length (connections_of d i) = (let test = c.loop-c-test.true in omega arith) in
    let inside = number_within d has.cells has.distinct i within joints.starts.items joints.numbers.items joints.places.items holds c.requires.cell n below
    c.joint_number-pin.result (c.joint_number-pin.ensures has.cells has.is has.distinct) in
    let count = (c.loop-c.invariant has.cells has.is has.distinct).count in
    omega arith

pub loop-c-preserved : goal.loop-c-preserved
loop-c-preserved c = λ cells is distinct.
    let d = c.args.design.now in
    let i = c.args.i in
    let n = c.loop-c.c in
    let joints = c.args.joints.now in
    let holds = c.requires.joints cells is distinct in
    let within : i < length (walk_of d) = (let count = c.requires.sound.walk.met_count in let below = c.requires.within in omega arith) in
    let same : (instance_at d.modules.now c.place_of-m.result.0 c.place_of-m.result.1).connections ≡ connections_of d i =
    ap₂ (λ (m k : ℕ). (instance_at d.modules.now m k).connections) c.place_of-m.ensures.module_is c.place_of-m.ensures.instance_is in
    let many = c.connection_count-c-end.ensures ∙ ap length same in
    let below : n < length (connections_of d i) = (let test = c.loop-c-test.true in omega arith) in
    let differ : Differ (length (connections_of d i)) (λ x. (connection_of d i x).port) =
    subst (λ (l : List NetConnection). Differ (length l) (λ x. (get_or l x no_connection).port)) same
    (c.sound.ensures.ports c.place_of-m.result.0 c.place_of-m.result.1 c.place_of-m.ensures.module_within c.place_of-m.ensures.instance_within) in
    let so_far = c.loop-c.invariant cells is distinct in
    let first = IsFirstNet d (met_of d i).path (bits_in (connection_of d i n).runs) in
    elim c.match-first_net.branch [
      | in-Some w ↦ rw (w.nets-is ∙ w.set_net.ensures) (joined_next d cells distinct i within joints.starts.items joints.numbers.items joints.places.items holds c.requires.cell n below
          differ c.loop-c.nets so_far w.in-Some.net w.joint_number-pin.result (subst first w.in-Some.is c.first_net.ensures)
          (w.joint_number-pin.ensures cells is distinct))
      | in_default w ↦ rw w.nets-is (empty_next d cells distinct i within joints.starts.items joints.numbers.items joints.places.items holds c.requires.cell n below
          differ c.loop-c.nets so_far (subst first w.in_default.is c.first_net.ensures))
    ]

pub returns : goal.returns
returns c = λ cells is distinct.
    let d = c.args.design.now in
    let i = c.args.i in
    let same : (instance_at d.modules.now c.place_of-m.result.0 c.place_of-m.result.1).connections ≡ connections_of d i =
    ap₂ (λ (m k : ℕ). (instance_at d.modules.now m k).connections) c.place_of-m.ensures.module_is c.place_of-m.ensures.instance_is in
    let many = c.connection_count-c-end.ensures ∙ ap length same in
    let whole : c.loop-c.c ≡ length (connections_of d i) = (let test = c.loop-c-test.false in let few = c.loop-c.auto.c-end in omega arith) in
    all_joined d i c.loop-c.c (pins_of cells (slice_index c.args.joints.now.places.items i)) c.loop-c.nets (c.loop-c.invariant cells is distinct) whole
