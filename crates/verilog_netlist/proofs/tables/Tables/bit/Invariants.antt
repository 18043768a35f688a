-- The bit is as far from the place reached as from the first, less what is passed.
use Rattle.std.proofs.Common.{◌≡◌, ◌+◌, slice_get}
use Rattle.verilog_netlist.specs.ModuleTables.{bits_between}
use Rattle.verilog_netlist.proofs.tables.Tables.bit.Given as goal

abbrev pub invariant-loop-place : goal.invariant-loop-place
invariant-loop-place l = slice_get (bits_between l.self l.m l.place l.fn.connection.end) l.rest ≡ slice_get (bits_between l.self l.m (l.fn.connection.place + 1) l.fn.connection.end) l.fn.number
