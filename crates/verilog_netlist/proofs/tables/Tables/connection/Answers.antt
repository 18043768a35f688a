-- The rows of the connection.
use Rattle.std.proofs.Common.{arith}
use Rattle.verilog_netlist.proofs.TableReading.{is_connection}
use Rattle.verilog_netlist.proofs.tables.Tables.connection.Goals as goal

pub connection-requires : goal.connection-requires
connection-requires c = record { place = (let n = c.instance.ensures.count in let p = c.requires.place in omega arith); within = c.instance.ensures.known }

pub returns : goal.returns
returns c =
    let entries = c.args.self.now.entries.items in
    is_connection c.args.self.now c.requires.sound c.args.m c.args.k c.instance.result c.instance.ensures c.args.c c.connection.result
    (c.connection.ensures.part entries c.requires.sound.places c.instance.ensures.extent) (c.connection.ensures.inside entries c.requires.sound.places c.instance.ensures.extent)
