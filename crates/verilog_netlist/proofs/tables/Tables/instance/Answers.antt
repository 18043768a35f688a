-- The rows of the instance.
use Rattle.std.proofs.Common.{arith}
use Rattle.verilog_netlist.proofs.TableReading.{is_instance}
use Rattle.verilog_netlist.proofs.tables.Tables.instance.Goals as goal

pub instance-requires : goal.instance-requires
instance-requires c = record { place = (let n = c.module.ensures.count in let p = c.requires.place in omega arith); known = c.module.ensures.known }

pub returns : goal.returns
returns c =
    let entries = c.args.self.now.entries.items in
    is_instance c.args.self.now c.requires.sound c.args.m c.module.result c.module.ensures c.args.k c.instance.result
    (c.instance.ensures.part entries c.requires.sound.places c.module.ensures.extent) (c.instance.ensures.extent entries c.requires.sound.places c.module.ensures.extent) (c.instance.ensures.inside entries c.requires.sound.places c.module.ensures.extent)
