-- The bits so far; each entry has few.
use Rattle.std.proofs.Common.{◌≡◌, ◌≤◌, ◌*◌, ◌+◌, length}
use Rattle.verilog_netlist.specs.ModuleTables.{bits_between}
use Rattle.verilog_netlist.proofs.tables.Tables.bit_count.Given as goal

abbrev pub invariant-loop-place : goal.invariant-loop-place
invariant-loop-place l = record { counted : l.count ≡ length (bits_between l.self l.m (l.fn.connection.place + 1) l.place); few : l.count ≤ l.place * 4294967296 }
