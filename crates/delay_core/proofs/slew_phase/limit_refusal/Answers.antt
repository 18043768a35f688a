-- A sink that is a pin is a pin of an instance.
use Rattle.delay_core.proofs.SinkEnds.{pin_there}
use Rattle.delay_core.proofs.slew_phase.limit_refusal.Goals as goal

pub instance_text-requires : goal.instance_text-requires
instance_text-requires g c = (pin_there c.args.linked.now.cells c.args.linked.now.netlist c.args.net c.args.sink c.in-Pin.instance c.in-Pin.pin c.sink.result c.args.linked.now.linked c.requires c.sink.ensures c.in-Pin.is).0

pub pin_name-requires : goal.pin_name-requires
pin_name-requires g c = pin_there c.args.linked.now.cells c.args.linked.now.netlist c.args.net c.args.sink c.in-Pin.instance c.in-Pin.pin c.sink.result c.args.linked.now.linked c.requires c.sink.ensures c.in-Pin.is
