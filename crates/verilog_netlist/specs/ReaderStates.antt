-- What the reader's own state stands for.
use Rattle.std.specs.Prelude.{◌≡◌, ℕ, Bool, true, false, List, Option, Some, None, Result, Ok, Err, IfOk, ⊤}
use Rattle.token_texts.specs.Spans.{text_at}
use Rattle.verilog_netlist.specs.Steps.{Step, Refuse, Go}
use Rattle.verilog_netlist.specs.Modes.{State, state_after}
use Rattle.token_texts.specs.declared.spans.Span.{Span}
use Rattle.verilog_netlist.specs.declared.kinds.Kind.{Kind}
use Rattle.verilog_netlist.specs.declared.kinds.Kind.TheVariants.{NotStructural as StartsOther}
use Rattle.verilog_netlist.specs.declared.netlist.VerilogEnd.{VerilogEnd}
use Rattle.verilog_netlist.specs.declared.netlist.VerilogEnd.TheVariants.{Syntax, NotStructural, OutOfMemory}
use Rattle.verilog_netlist.specs.declared.entries.Entry.{Entry}
use Rattle.verilog_netlist.specs.declared.reader.Reader.{Reader}
use Rattle.verilog_netlist.specs.declared.modes.Mode.{Mode}
use Rattle.edge_io.specs.declared.failures.OutOfMemory.{OutOfMemory as NoMemory}

abbrev pub state_of : Reader → State
state_of reader = record { mode = reader.mode; entries = reader.entries.items }

-- the step leads to this state, or is refused
abbrev pub Steps : Result State ⊤ → State → Bool → Type 0
Steps answer after true = answer ≡ Ok after
Steps answer after false = answer ≡ Err tt

-- the file says these entries, or may not end here
abbrev pub Finishes : Result (List Entry) ⊤ → Option (List Entry) → Type 0
Finishes answer (Some entries) = answer ≡ Ok entries
Finishes answer None = answer ≡ Err tt

-- the refusal of a token of this number and kind at this place
abbrev pub IsRefusalOf : List ℕ → ℕ → Kind → Span → VerilogEnd → Type 0
IsRefusalOf bytes number kind at (Syntax token) = (token ≡ number) × (kind ≡ StartsOther → ⊥)
IsRefusalOf bytes number kind at (NotStructural word token) = (token ≡ number) × (kind ≡ StartsOther) × (word ≡ text_at bytes at)
IsRefusalOf bytes number kind at OutOfMemory = ⊤
IsRefusalOf bytes number kind at _ = ⊥

-- the step that goes on to a mode, or refuses where there is none
abbrev pub go_if : Option Mode → Step
go_if None = Refuse
go_if (Some mode) = Go mode

-- what the reader answers, and what it is then, where the token does this
abbrev pub Does : Reader → Step → Result Bool NoMemory → Reader → Type 0
Does before step answer after = IfOk answer (Steps (state_after step before.entries.items) (state_of after))
