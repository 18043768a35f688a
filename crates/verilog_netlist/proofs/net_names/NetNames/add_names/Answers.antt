-- The names of a module differ.
use Rattle.std.proofs.Common.{sym, subst}
use Rattle.verilog_netlist.specs.NameRows.{AllDiffer}
use Rattle.verilog_netlist.proofs.Naming.{texts_differ}
use Rattle.verilog_netlist.proofs.net_names.NetNames.add_names.Goals as goal

pub add_module_rows-requires : goal.add_module_rows-requires
add_module_rows-requires c = subst AllDiffer (sym c.in_ok-collect_texts.ensures.texts) (texts_differ c.args.bytes.now c.args.entries.now)
