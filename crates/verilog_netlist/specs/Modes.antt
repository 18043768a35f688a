-- A netlist taken one token at a time: what is waited for and what has been said, and what becomes of that with each token.
use Rattle.std.specs.Prelude.{List, [], ◌∷◌, ◌++◌, Result, Ok, Err, ⊤}
use Rattle.token_fronts.specs.Tokens.{Token}
use Rattle.verilog_netlist.specs.Tokens.{Lexeme}
use Rattle.verilog_netlist.specs.Steps.{Step, Refuse, Go, Put, step_in}
use Rattle.verilog_netlist.specs.declared.entries.Entry.{Entry}
use Rattle.verilog_netlist.specs.declared.modes.Mode.{Mode}
use Rattle.verilog_netlist.specs.declared.modes.Mode.TheVariants.{Modules}

pub record State : Type 0 where
  pub mode : Mode
  pub entries : List Entry

abbrev pub first_state : State
first_state = record { mode = Modules; entries = [] }

abbrev pub state_after : Step → List Entry → Result State ⊤
state_after Refuse entries = Err tt
state_after (Go mode) entries = Ok (record { mode = mode; entries = entries })
state_after (Put mode said) entries = Ok (record { mode = mode; entries = entries ++ said ∷ [] })

abbrev pub next : State → Token Lexeme → Result State ⊤
next s token = state_after (step_in s.mode token.text.kind token.text.at) s.entries

abbrev pub finish_in : Mode → List Entry → Result (List Entry) ⊤
finish_in Modules entries = Ok entries
finish_in _ entries = Err tt

abbrev pub finish : State → Result (List Entry) ⊤
finish s = finish_in s.mode s.entries
