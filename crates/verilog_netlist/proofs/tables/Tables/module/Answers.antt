-- The rows of the module.
use Rattle.std.proofs.Common.{arith}
use Rattle.verilog_netlist.proofs.TableReading.{length_modules, is_module}
use Rattle.verilog_netlist.proofs.tables.Tables.module.Goals as goal

pub module-requires : goal.module-requires
module-requires c = let l = length_modules c.args.self.now c.requires.sound in let p = c.requires.place in omega arith

pub returns : goal.returns
returns c =
    is_module c.args.self.now c.requires.sound c.args.m c.module.result (c.module.ensures.part c.args.self.now.entries.items c.requires.sound.places) (c.module.ensures.extent c.args.self.now.entries.items c.requires.sound.places)
    c.module.ensures.start c.module.ensures.end
