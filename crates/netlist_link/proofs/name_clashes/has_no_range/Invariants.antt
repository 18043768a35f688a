-- The names so far have no range.
use Rattle.std.proofs.Common.{◌≡◌, ℕ, ◌<◌, None}
use Rattle.verilog_netlist.specs.NetModules.{name_at}
use Rattle.netlist_link.proofs.name_clashes.has_no_range.Given as goal

abbrev pub invariant-loop-i : goal.invariant-loop-i
invariant-loop-i l = (i : ℕ) → i < l.i → (name_at l.modules l.m i).range ≡ None
