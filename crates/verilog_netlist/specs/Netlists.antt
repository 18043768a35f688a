-- What the bytes of a netlist say, and the token at which bytes are none.
use Rattle.std.specs.Prelude.{ℕ, List}
use Rattle.token_fronts.specs.Reading.{Says, Leaves}
use Rattle.verilog_netlist.specs.Tokens.{AreTokens, IsToken}
use Rattle.verilog_netlist.specs.Grammar.{IsNetlist}
use Rattle.verilog_netlist.specs.declared.entries.Entry.{Entry}

-- the bytes say these entries
abbrev pub SaysNetlist : List ℕ → List Entry → Type 0
SaysNetlist = Says AreTokens IsToken IsNetlist

-- the bytes say nothing, and leave the grammar with the token of this number
abbrev pub LeavesNetlist : List ℕ → ℕ → Type 0
LeavesNetlist = Leaves AreTokens IsToken IsNetlist
