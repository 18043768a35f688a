use Rattle.netlist_link.specs.Clashes.{text_of}
use Rattle.netlist_link.proofs.JointFaults.{unknown_first, width_first, inout_first}
use Rattle.netlist_link.proofs.checking.number_of_joint.Goals as goal

pub returns-in_default-clause-refused : goal.returns-in_default-clause-refused
returns-in_default-clause-refused c = unknown_first (text_of c.args.design.now c.args.i) c.args.port.now c.in_ok-instance_text.field-0 c.in_ok-from_bytes.field-0
    c.in_ok-instance_text.ensures c.in_ok-from_bytes.ensures c.args.bits c.args.joint c.in_default.is

pub returns-then-bits-joint-clause-refused : goal.returns-then-bits-joint-clause-refused
returns-then-bits-joint-clause-refused c = width_first (text_of c.args.design.now c.args.i) c.args.port.now c.in_ok-instance_text-2.field-0 c.in_ok-from_bytes-2.field-0
    c.in_ok-instance_text-2.ensures c.in_ok-from_bytes-2.ensures c.args.bits c.args.joint c.in-Some.joint c.in-Some.is
    c.if-bits-eq0.false c.if-bits-joint.true

pub returns-clause-refused : goal.returns-clause-refused
returns-clause-refused c = inout_first (text_of c.args.design.now c.args.i) c.args.port.now c.in_ok-instance_text-3.field-0 c.in_ok-from_bytes-3.field-0
    c.in_ok-instance_text-3.ensures c.in_ok-from_bytes-3.ensures c.args.bits c.args.joint c.in-Some.joint c.in-Some.is
    c.if-bits-eq0.false c.if-bits-joint.false c.if-joint.false
