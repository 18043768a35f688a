-- Tokens that complete a netlist from each state of the reader.
use Rattle.std.proofs.Common.{◌≡◌, ℕ, zero, suc, ◌+◌, List, [], ◌∷◌, Option, Ok, refl}
use Rattle.std.specs.Prelude.{codes}
use Rattle.std.specs.List.{AllByRecursion}
use Rattle.token_fronts.specs.Machine.{outcome}
use Rattle.token_fronts.specs.Stopping.{Completes}
use Rattle.token_texts.specs.Runs.{run_length}
use Rattle.verilog_netlist.specs.Words.{word_kind}
use Rattle.verilog_netlist.specs.Tokens.{Lexeme, IsToken, is_token, cut_at, constant_length}
use Rattle.verilog_netlist.specs.Steps.{place_at}
use Rattle.verilog_netlist.specs.Modes.{State, next, finish}
use Rattle.token_texts.specs.declared.spans.Span.{Span}
use Rattle.verilog_netlist.specs.declared.kinds.Kind.{Kind}
use Rattle.verilog_netlist.specs.declared.kinds.Kind.TheVariants as kind
use Rattle.verilog_netlist.specs.declared.entries.Decl.{Decl}
use Rattle.verilog_netlist.specs.declared.entries.Decl.TheVariants as decl
use Rattle.verilog_netlist.specs.declared.entries.Range.{Range}
use Rattle.verilog_netlist.specs.declared.entries.Entry.{Entry}
use Rattle.verilog_netlist.specs.declared.modes.Mode.{Mode}
use Rattle.verilog_netlist.specs.declared.modes.Mode.TheVariants.{Modules, ModuleName, ModuleHead, HeaderStart, HeaderName, HeaderMore, HeaderEnd, Items, AfterWay, AfterWire, RangeLeft, RangeColon, RangeRight, RangeEnd, DeclaredName, DeclaredMore, NextPort, InstanceName, InstanceOpen, FirstConnection, NextConnection, PortName, PortOpen, Joined, Operand, NameEnd, SelectLeft, SelectNext, SelectRight, SelectEnd, OperandEnd, ConnectionEnd, InstanceEnd}

abbrev lexeme : Kind → ℕ → Lexeme
lexeme k len = record { kind = k; at = record { start = 0; len = len } }

abbrev id : Lexeme
id = lexeme kind.Name 1

abbrev number : Lexeme
number = lexeme (kind.Number 0) 1

abbrev ends_module : Lexeme
ends_module = lexeme kind.EndModule 9

abbrev mark : Kind → Lexeme
mark k = lexeme k 1

id_is : IsToken id
unfolding cut_at run_length word_kind
id_is = is_token 0 97 [] refl refl

number_is : IsToken number
unfolding cut_at run_length constant_length
number_is = is_token 0 48 [] refl refl

ends_is : IsToken ends_module
unfolding cut_at run_length word_kind
ends_is = is_token 0 101 (codes "ndmodule") refl refl

left_is : IsToken (mark kind.LeftParen)
unfolding cut_at
left_is = is_token 0 40 [] refl refl

right_is : IsToken (mark kind.RightParen)
unfolding cut_at
right_is = is_token 0 41 [] refl refl

dot_is : IsToken (mark kind.Dot)
unfolding cut_at
dot_is = is_token 0 46 [] refl refl

colon_is : IsToken (mark kind.Colon)
unfolding cut_at
colon_is = is_token 0 58 [] refl refl

semicolon_is : IsToken (mark kind.Semicolon)
unfolding cut_at
semicolon_is = is_token 0 59 [] refl refl

bracket_is : IsToken (mark kind.RightBracket)
unfolding cut_at
bracket_is = is_token 0 93 [] refl refl

brace_is : IsToken (mark kind.RightBrace)
unfolding cut_at
brace_is = is_token 0 125 [] refl refl

-- `; endmodule`, and what stands before it
abbrev item_end : List Lexeme
item_end = mark kind.Semicolon ∷ ends_module ∷ []

item_end_is : AllByRecursion IsToken item_end
item_end_is = (semicolon_is, (ends_is, tt))

abbrev header_end : List Lexeme
header_end = mark kind.RightParen ∷ item_end

header_end_is : AllByRecursion IsToken header_end
header_end_is = (right_is, item_end_is)

abbrev connection_end : List Lexeme
connection_end = mark kind.RightParen ∷ header_end

connection_end_is : AllByRecursion IsToken connection_end
connection_end_is = (right_is, header_end_is)

-- behind a name that is declared
abbrev declared_end : Decl → List Lexeme
declared_end (decl.InHeader way) = header_end
declared_end _ = item_end

declared_end_is : (by : Decl) → AllByRecursion IsToken (declared_end by)
declared_end_is (decl.InHeader way) = header_end_is
declared_end_is _ = item_end_is

-- behind an expression inside so many `{`
closing : ℕ → List Lexeme
closing zero = connection_end
closing (suc depth) = mark kind.RightBrace ∷ closing depth

closing_is : (depth : ℕ) → AllByRecursion IsToken (closing depth)
unfolding closing
closing_is zero = connection_end_is
closing_is (suc depth) = (brace_is, closing_is depth)

abbrev Ends : Mode → List Entry → ℕ → List Lexeme → Type 0
Ends mode entries count more = (value : List Entry) × (outcome next finish (record { mode = mode; entries = entries }) count more ≡ Ok value)

ends_declared : (by : Decl) (bounds : Option Range) (entries : List Entry) (count : ℕ) → Ends (DeclaredMore by bounds) entries count (declared_end by)
ends_declared (decl.InHeader way) bounds entries count = (_, refl)
ends_declared _ bounds entries count = (_, refl)

ends_expr : (cell : Span) (depth : ℕ) (entries : List Entry) (count : ℕ) → Ends (OperandEnd (place_at cell depth)) entries count (closing depth)
unfolding closing
ends_expr cell zero entries count = (_, refl)
ends_expr cell (suc depth) entries count = ends_expr cell depth entries (count + 1)

ends_name : (cell : Span) (depth : ℕ) (name : Span) (entries : List Entry) (count : ℕ) → Ends (NameEnd (place_at cell depth) name) entries count (closing depth)
unfolding closing
ends_name cell zero name entries count = (_, refl)
ends_name cell (suc depth) name entries count = ends_expr cell depth _ (count + 1)

module _ (entries : List Entry) (count : ℕ) where
  abbrev at : Mode → State
  at mode = record { mode = mode; entries = entries }

  by : (mode : Mode) (more : List Lexeme) → AllByRecursion IsToken more → Ends mode entries count more → Completes IsToken next finish (at mode) count []
  by mode more tokens ends = record { more = more; tokens = tokens; value = ends.0; made = ends.1 }

  completes : (mode : Mode) → Completes IsToken next finish (at mode) count []
  completes Modules = by Modules [] tt (_, refl)
  completes ModuleName = by ModuleName (id ∷ item_end) (id_is, item_end_is) (_, refl)
  completes ModuleHead = by ModuleHead item_end item_end_is (_, refl)
  completes HeaderStart = by HeaderStart header_end header_end_is (_, refl)
  completes HeaderName = by HeaderName (id ∷ header_end) (id_is, header_end_is) (_, refl)
  completes HeaderMore = by HeaderMore header_end header_end_is (_, refl)
  completes HeaderEnd = by HeaderEnd item_end item_end_is (_, refl)
  completes Items = by Items (ends_module ∷ []) (ends_is, tt) (_, refl)
  completes (AfterWay d) = by (AfterWay d) (id ∷ declared_end d) (id_is, declared_end_is d) (ends_declared d _ _ (count + 1))
  completes (AfterWire d) = by (AfterWire d) (id ∷ declared_end d) (id_is, declared_end_is d) (ends_declared d _ _ (count + 1))
  completes (RangeLeft d) = by (RangeLeft d) (number ∷ mark kind.Colon ∷ number ∷ mark kind.RightBracket ∷ id ∷ declared_end d) (number_is, (colon_is, (number_is, (bracket_is, (id_is, declared_end_is d))))) (ends_declared d _ _ (count + 1 + 1 + 1 + 1 + 1))
  completes (RangeColon d left) = by (RangeColon d left) (mark kind.Colon ∷ number ∷ mark kind.RightBracket ∷ id ∷ declared_end d) (colon_is, (number_is, (bracket_is, (id_is, declared_end_is d)))) (ends_declared d _ _ (count + 1 + 1 + 1 + 1))
  completes (RangeRight d left) = by (RangeRight d left) (number ∷ mark kind.RightBracket ∷ id ∷ declared_end d) (number_is, (bracket_is, (id_is, declared_end_is d))) (ends_declared d _ _ (count + 1 + 1 + 1))
  completes (RangeEnd d bounds) = by (RangeEnd d bounds) (mark kind.RightBracket ∷ id ∷ declared_end d) (bracket_is, (id_is, declared_end_is d)) (ends_declared d _ _ (count + 1 + 1))
  completes (DeclaredName d bounds) = by (DeclaredName d bounds) (id ∷ declared_end d) (id_is, declared_end_is d) (ends_declared d bounds _ (count + 1))
  completes (DeclaredMore d bounds) = by (DeclaredMore d bounds) (declared_end d) (declared_end_is d) (ends_declared d bounds entries count)
  completes (NextPort way bounds) = by (NextPort way bounds) (id ∷ header_end) (id_is, header_end_is) (_, refl)
  completes (InstanceName cell) = by (InstanceName cell) (id ∷ mark kind.LeftParen ∷ header_end) (id_is, (left_is, header_end_is)) (_, refl)
  completes (InstanceOpen cell) = by (InstanceOpen cell) (mark kind.LeftParen ∷ header_end) (left_is, header_end_is) (_, refl)
  completes (FirstConnection cell) = by (FirstConnection cell) header_end header_end_is (_, refl)
  completes (NextConnection cell) = by (NextConnection cell) (mark kind.Dot ∷ id ∷ mark kind.LeftParen ∷ connection_end) (dot_is, (id_is, (left_is, connection_end_is))) (_, refl)
  completes (PortName cell) = by (PortName cell) (id ∷ mark kind.LeftParen ∷ connection_end) (id_is, (left_is, connection_end_is)) (_, refl)
  completes (PortOpen cell) = by (PortOpen cell) (mark kind.LeftParen ∷ connection_end) (left_is, connection_end_is) (_, refl)
  completes (Joined cell) = by (Joined cell) connection_end connection_end_is (_, refl)
  completes (Operand place) = by (Operand place) (id ∷ closing place.depth) (id_is, closing_is place.depth) (ends_name place.cell place.depth _ entries (count + 1))
  completes (NameEnd place name) = by (NameEnd place name) (closing place.depth) (closing_is place.depth) (ends_name place.cell place.depth name entries count)
  completes (SelectLeft place name) = by (SelectLeft place name) (number ∷ mark kind.RightBracket ∷ closing place.depth) (number_is, (bracket_is, closing_is place.depth)) (ends_expr place.cell place.depth _ (count + 1 + 1))
  completes (SelectNext place name left) = by (SelectNext place name left) (mark kind.RightBracket ∷ closing place.depth) (bracket_is, closing_is place.depth) (ends_expr place.cell place.depth _ (count + 1))
  completes (SelectRight place name left) = by (SelectRight place name left) (number ∷ mark kind.RightBracket ∷ closing place.depth) (number_is, (bracket_is, closing_is place.depth)) (ends_expr place.cell place.depth _ (count + 1 + 1))
  completes (SelectEnd place name bounds) = by (SelectEnd place name bounds) (mark kind.RightBracket ∷ closing place.depth) (bracket_is, closing_is place.depth) (ends_expr place.cell place.depth _ (count + 1))
  completes (OperandEnd place) = by (OperandEnd place) (closing place.depth) (closing_is place.depth) (ends_expr place.cell place.depth entries count)
  completes (ConnectionEnd cell) = by (ConnectionEnd cell) header_end header_end_is (_, refl)
  completes (InstanceEnd cell) = by (InstanceEnd cell) item_end item_end_is (_, refl)

pub lives : (state : State) (count : ℕ) → Completes IsToken next finish state count []
lives state count = completes state.entries count state.mode
