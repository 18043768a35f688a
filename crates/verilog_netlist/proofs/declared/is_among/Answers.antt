-- The name as a key.
use Rattle.std.proofs.Common.{ap, ◌∙◌}
use Rattle.verilog_netlist.specs.NameKeys.{keys_in, holds}
use Rattle.verilog_netlist.proofs.Repeating.{any_key}
use Rattle.verilog_netlist.proofs.declared.is_among.Goals as goal

pub returns : goal.returns
returns c = c.contains.ensures ∙ any_key c.declared_key-key.result c.args.keys.now.keys ∙ ap (holds (keys_in c.args.keys.now.keys)) c.declared_key-key.ensures
