-- A text that stands at the place.
use Rattle.std.proofs.Common.{sym, ap, ◌∙◌}
use Rattle.std.specs.Option.{option_copied}
use Rattle.verilog_netlist.proofs.Naming.{found_there}
use Rattle.verilog_netlist.proofs.net_names.find_at.Goals as goal

pub returns-then-are_equal : goal.returns-then-are_equal
returns-then-are_equal c =
    found_there c.args.text.now c.args.texts.now.keys c.args.place c.in-Some.other.now c.requires (sym c.get_index.ensures.key ∙ ap option_copied c.in-Some.is)
    (sym c.are_equal.ensures ∙ c.if-are_equal.true)
