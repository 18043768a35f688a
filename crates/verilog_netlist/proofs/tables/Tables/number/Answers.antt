-- The number that is kept.
use Rattle.verilog_netlist.proofs.TableReading.{number_found}
use Rattle.verilog_netlist.proofs.tables.Tables.number.Goals as goal

pub returns : goal.returns
returns c = number_found c.args.self.now c.requires.sound c.args.m c.requires.within c.args.place c.index.result.now c.requires.start c.requires.end c.index.ensures
