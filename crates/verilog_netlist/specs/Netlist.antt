-- What is answered of the bytes of a netlist, and what is refused.
use Rattle.std.specs.Prelude.{◌≡◌, ℕ, ◌-◌, List, slice_get, Some, ⊤, Result, MatchResult}
use Rattle.token_texts.specs.Spans.{text_at}
use Rattle.verilog_netlist.specs.Tokens.{AreTokens, Lexeme}
use Rattle.verilog_netlist.specs.Namespaces.{name_of}
use Rattle.verilog_netlist.specs.Netlists.{SaysNetlist, LeavesNetlist}
use Rattle.verilog_netlist.specs.Faults.{IsFirstFault, IsFaultless}
use Rattle.verilog_netlist.specs.declared.entries.Entry.{Entry}
use Rattle.verilog_netlist.specs.declared.faults.NameFault.{NameFault}
use Rattle.verilog_netlist.specs.declared.faults.NameFault.TheVariants as fault
use Rattle.verilog_netlist.specs.declared.netlist.VerilogEnd.{VerilogEnd}
use Rattle.verilog_netlist.specs.declared.netlist.VerilogEnd.TheVariants as end
use Rattle.verilog_netlist.specs.declared.kinds.Kind.TheVariants.{NotStructural as StartsOther}

-- the bytes say entries of which no name and no range is at fault
abbrev pub SaysSound : List ℕ → List Entry → Type 0
SaysSound bytes entries = SaysNetlist bytes entries × IsFaultless bytes entries

-- the bytes say entries of which this is the first fault, at this name
pub record IsNameFault (bytes : List ℕ) (of : NameFault) (name : List ℕ) : Type 0 where
  pub entries : List Entry
  pub place : ℕ
  pub entry : Entry
  pub says : SaysNetlist bytes entries
  pub first : IsFirstFault bytes entries (record { fault = of; place = place })
  pub stands : slice_get entries place ≡ Some entry
  pub is_name : name ≡ text_at bytes (name_of entry)

-- a refusal's token is the one with which the bytes leave the grammar, or its name is that of the first fault
abbrev pub IsRefused : List ℕ → VerilogEnd → Type 0
IsRefused bytes (end.Syntax token) = LeavesNetlist bytes token
IsRefused bytes (end.NotStructural word token) = LeavesNetlist bytes token
IsRefused bytes (end.Repeated name) = IsNameFault bytes fault.Repeated name
IsRefused bytes (end.PortDirection name) = IsNameFault bytes fault.PortDirection name
IsRefused bytes (end.BadRange name) = IsNameFault bytes fault.BadRange name
IsRefused bytes end.OutOfMemory = ⊤

-- the token is a reserved word that the grammar has nowhere, where the refusal says so, with this text, and no such word else
abbrev pub IsRefusalOfToken : List ℕ → List Lexeme → VerilogEnd → Type 0
IsRefusalOfToken bytes tokens (end.Syntax token) =
    (lexeme : Lexeme) → slice_get tokens (token - 1) ≡ Some lexeme → lexeme.kind ≡ StartsOther → ⊥
IsRefusalOfToken bytes tokens (end.NotStructural word token) =
    (lexeme : Lexeme) × (slice_get tokens (token - 1) ≡ Some lexeme) × (lexeme.kind ≡ StartsOther) × (word ≡ text_at bytes lexeme.at)
IsRefusalOfToken bytes tokens _ = ⊤

-- where the token with which the bytes leave the grammar is a reserved word that the grammar has nowhere, the refusal has the word
abbrev pub HasItsWord : List ℕ → VerilogEnd → Type 0
HasItsWord bytes refusal = (tokens : List Lexeme) → AreTokens bytes tokens → IsRefusalOfToken bytes tokens refusal

-- the entries are answered, unless memory ran out
abbrev pub Gives : {V : Type 0} → (V → List Entry) → List Entry → Result V VerilogEnd → Type 0
Gives said entries result = MatchResult result (λ answer. said answer ≡ entries) (λ refusal. refusal ≡ end.OutOfMemory)

-- the refusal of this fault at this name, or memory ran out
abbrev pub IsNamed : NameFault → List ℕ → VerilogEnd → Type 0
IsNamed of name (end.Repeated said) = (of ≡ fault.Repeated) × (said ≡ name)
IsNamed of name (end.PortDirection said) = (of ≡ fault.PortDirection) × (said ≡ name)
IsNamed of name (end.BadRange said) = (of ≡ fault.BadRange) × (said ≡ name)
IsNamed of name end.OutOfMemory = ⊤
IsNamed of name _ = ⊥
