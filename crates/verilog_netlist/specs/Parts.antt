-- The parts of a netlist's entries: modules, instances of a module, connections of an instance.
use Rattle.std.specs.Prelude.{Bool, true, false, not, List, [], ◌∷◌, take_while, if◌then◌else◌}
use Rattle.verilog_netlist.specs.declared.entries.Entry.{Entry}
use Rattle.verilog_netlist.specs.declared.entries.Entry.TheVariants.{Port, Whole, Bit, Constant}
use Rattle.verilog_netlist.specs.declared.entries.Entry.TheVariants as entry

-- an entry that begins a part, and what stands behind it up to the next that does
pub record Part : Type 0 where
  pub head : Entry
  pub behind : List Entry

abbrev pub until : (Entry → Bool) → List Entry → List Entry
until begins entries = take_while (λ entry. not (begins entry)) entries

abbrev pub parts : (Entry → Bool) → List Entry → List Part
parts begins [] = []
parts begins (entry ∷ entries) =
    if begins entry then (record { head = entry; behind = until begins entries }) ∷ parts begins entries else parts begins entries

abbrev pub begins_connection : Entry → Bool
begins_connection (Port name) = true
begins_connection _ = false

-- what is joined to the port of a connection; a declaration behind the instance is none
abbrev pub is_expression : Entry → Bool
is_expression (Whole name) = true
is_expression (Bit name place) = true
is_expression (entry.Part name select) = true
is_expression (Constant token) = true
is_expression _ = false
