use Rattle.std.proofs.Common.{◌≡◌, ℕ, ◌+◌, List, length, get_or, refl, sym, ap, ap₂, ◌∙◌, subst, arith}
use Rattle.std.specs.Prelude.{slice_get, Option, Some, IfSome}
use Rattle.std.proofs.lemmas.Option.{slice_get-get_or}
use Rattle.verilog_netlist.specs.NetModules.{NetConnection, instance_at, no_connection, bits_in}
use Rattle.netlist_link.specs.Clashes.{text_of}
use Rattle.netlist_link.specs.Designs.{number_here, connections_of, IsFirstOf, AreJoined}
use Rattle.netlist_link.specs.declared.checking.KeptJoint.{KeptJoint}
use Rattle.netlist_link.specs.declared.ends.LinkEnd.{LinkEnd}
use Rattle.netlist_link.proofs.JoinSteps.{faults_are, joined_step, refused_here}
use Rattle.netlist_link.proofs.checking.join_instance.Goals as goal

pub loop-c-preserved : goal.loop-c-preserved
loop-c-preserved c = λ cells are distinct place.
    let d = c.args.design.now in
    let i = c.args.i in
    let n = c.loop-c.c in
    let same : (instance_at d.modules.now c.place_of-m.result.0 c.place_of-m.result.1).connections ≡ connections_of d i =
    ap₂ (λ (m k : ℕ). (instance_at d.modules.now m k).connections) c.place_of-m.ensures.module_is c.place_of-m.ensures.instance_is in
    let connection = get_or (connections_of d i) n no_connection in
    let many = c.connection_count-c-end.ensures ∙ ap length same in
    let here : slice_get (connections_of d i) n ≡ Some connection =
    slice_get-get_or (connections_of d i) n no_connection (let test = c.loop-c-test.true in omega arith) in
    let is : get_or (instance_at d.modules.now c.place_of-m.result.0 c.place_of-m.result.1).connections n no_connection ≡ connection =
    ap (λ (l : List NetConnection). get_or l n no_connection) same in
    let made = c.in-Ok.ensures.made in
    let faults = faults_are d i cells connection (text_of d i) c.port-port.result.now c.bit_count-bits.result c.joint_at-joint.result
    refl (c.port-port.ensures ∙ ap (λ (x : NetConnection). x.port) is)
    (c.bit_count-bits.ensures ∙ ap (λ (x : NetConnection). length (bits_in x.runs)) is) (c.joint_at-joint.ensures.joint cells are distinct place) in
    let number : c.in_ok-to_u32.field-0 ≡ number_here cells d i connection.port =
    c.in_ok-to_u32.ensures ∙ made.number_is
    ∙ subst (λ (joint : Option KeptJoint). IfSome joint (λ found. found.number ≡ number_here cells d i c.port-port.result.now)) made.is
    (c.joint_at-joint.ensures.number cells are distinct place)
    ∙ ap (number_here cells d i) (c.port-port.ensures ∙ ap (λ (x : NetConnection). x.port) is) in
    subst (λ (items : List ℕ). AreJoined d i (n + 1) c.args.numbers.now.items items cells) (sym c.in_ok-push.ensures.ok)
    (joined_step d i cells n connection c.args.numbers.now.items c.loop-c.numbers.items c.in_ok-to_u32.field-0 here (c.loop-c.invariant cells are distinct place)
    (sym faults ∙ made.faultless) number)

pub returns-in-Err-clause-refused : goal.returns-in-Err-clause-refused
returns-in-Err-clause-refused c = λ cells are distinct place.
    let d = c.args.design.now in
    let i = c.args.i in
    let n = c.loop-c.c in
    let same : (instance_at d.modules.now c.place_of-m.result.0 c.place_of-m.result.1).connections ≡ connections_of d i =
    ap₂ (λ (m k : ℕ). (instance_at d.modules.now m k).connections) c.place_of-m.ensures.module_is c.place_of-m.ensures.instance_is in
    let connection = get_or (connections_of d i) n no_connection in
    let many = c.connection_count-c-end.ensures ∙ ap length same in
    let here : slice_get (connections_of d i) n ≡ Some connection =
    slice_get-get_or (connections_of d i) n no_connection (let test = c.loop-c-test.true in omega arith) in
    let is : get_or (instance_at d.modules.now c.place_of-m.result.0 c.place_of-m.result.1).connections n no_connection ≡ connection =
    ap (λ (l : List NetConnection). get_or l n no_connection) same in
    let faults = faults_are d i cells connection (text_of d i) c.port-port.result.now c.bit_count-bits.result c.joint_at-joint.result
    refl (c.port-port.ensures ∙ ap (λ (x : NetConnection). x.port) is)
    (c.bit_count-bits.ensures ∙ ap (λ (x : NetConnection). length (bits_in x.runs)) is) (c.joint_at-joint.ensures.joint cells are distinct place) in
    refused_here d i cells n connection c.args.numbers.now.items c.loop-c.numbers.items c.in-Err.end here (c.loop-c.invariant cells are distinct place)
    (subst (λ (all : List LinkEnd). IsFirstOf all c.in-Err.end) faults c.in-Err.ensures.refused)
