-- The modules of the same entries.
use Rattle.std.proofs.Common.{◌∙◌, ap₂}
use Rattle.verilog_netlist.specs.NetModules.{modules_of}
use Rattle.verilog_netlist.proofs.parsing.parse.Goals as goal

pub returns-in-Ok-number_modules-clause-only : goal.returns-in-Ok-number_modules-clause-only
returns-in-Ok-number_modules-clause-only c entries says =
    c.of.ensures ∙ ap₂ modules_of c.in-Ok-tables_of.ensures.bytes_are (c.in-Ok-tables_of.ensures.entries_are ∙ c.in-Ok.ensures.only entries says)
