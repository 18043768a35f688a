-- The texts of the grammar lead to their end: the reader refuses none of them.
use Rattle.std.proofs.Common.{◌≡◌, ℕ, zero, suc, cond, List, ◌∷◌, Option, Some, None, Ok, refl, ap, ◌∙◌, lt-ltb}
use Rattle.token_fronts.specs.Accepting.{Accepts, ended, taken}
use Rattle.verilog_netlist.specs.Grammar.{Tok, Is, range_from, added, Listed, one, and_one, Many, none, more, Maybe, left_out, there, IsName, name, input, output, MaybeWire, no_wire, wire, range, no_range, with_range, AreDeclared, declared, IsAnsi, ansi, IsHeader, names, directions, IsPorts, ports, IsExpr, whole, bit, part, constant, in_braces, AreExprs, one_expr, and_expr, IsConnection, connection, IsInstance, instance, IsItem, directed, wires, instances, IsModule, is_module, IsNetlist}
use Rattle.verilog_netlist.specs.Steps.{Step, Refuse, Go, Put, bound_at, place_at, behind_expr, operand_step, joined_step, name_end_step, step_in}
use Rattle.verilog_netlist.specs.Modes.{State, first_state, state_after, next, finish}
use Rattle.token_texts.specs.declared.spans.Span.{Span}
use Rattle.verilog_netlist.specs.declared.kinds.Kind.{Kind}
use Rattle.verilog_netlist.specs.declared.kinds.Kind.TheVariants as kind
use Rattle.verilog_netlist.specs.declared.entries.Direction.{Direction}
use Rattle.verilog_netlist.specs.declared.entries.Direction.TheVariants.{In, Out}
use Rattle.verilog_netlist.specs.declared.entries.Decl.{Decl}
use Rattle.verilog_netlist.specs.declared.entries.Decl.TheVariants as decl
use Rattle.verilog_netlist.specs.declared.entries.Range.{Range}
use Rattle.verilog_netlist.specs.declared.entries.Entry.{Entry}
use Rattle.verilog_netlist.specs.declared.entries.Entry.TheVariants as entry
use Rattle.verilog_netlist.specs.declared.modes.Mode.{Mode}
use Rattle.verilog_netlist.specs.declared.modes.Mode.TheVariants.{Modules, ModuleName, ModuleHead, HeaderStart, HeaderName, HeaderMore, HeaderEnd, Items, AfterWay, AfterWire, RangeLeft, RangeColon, RangeRight, RangeEnd, DeclaredName, DeclaredMore, NextPort, InstanceName, InstanceOpen, FirstConnection, NextConnection, PortName, PortOpen, Joined, Operand, NameEnd, SelectLeft, SelectNext, SelectRight, SelectEnd, OperandEnd, ConnectionEnd, InstanceEnd}
use Rattle.verilog_netlist.proofs.Clashes.{never}

abbrev at : Mode → List Entry → State
at mode entries = record { mode = mode; entries = entries }

module _ (value : List Entry) where
  -- the tokens lead from this state to the end of a file that says the entries
  abbrev Leads : Mode → List Entry → List Tok → Type 0
  Leads mode entries tokens = Accepts next finish (at mode entries) tokens value

  -- a token of this kind leads to another mode
  go : (mode after : Mode) {entries : List Entry} {token : Tok} {tokens : List Tok} (k : Kind)
      → Is k token → step_in mode k token.text.at ≡ Go after
      → Leads after entries tokens → Leads mode entries (token ∷ tokens)
  go mode after {entries = entries} {token = token} k is e leads =
      taken (ap (λ (s : Step). state_after s entries) (ap (λ k. step_in mode k token.text.at) is ∙ e)) leads

  -- and says something
  put : (mode after : Mode) (said : Entry) {entries : List Entry} {token : Tok} {tokens : List Tok} (k : Kind)
      → Is k token → step_in mode k token.text.at ≡ Put after said
      → Leads after (added entries said) tokens → Leads mode entries (token ∷ tokens)
  put mode after said {entries = entries} {token = token} k is e leads =
      taken (ap (λ (s : Step). state_after s entries) (ap (λ k. step_in mode k token.text.at) is ∙ e)) leads

  -- parts with commas between them
  listed : (Part : List Tok → List Entry → List Entry → List Tok → Type 0) (first between behind : Mode)
      → ((from rest : List Tok) (before after : List Entry) → Part from before after rest → Leads behind after rest → Leads first before from)
      → ((from rest : List Tok) (before after : List Entry) → Part from before after rest → Leads behind after rest → Leads between before from)
      → ((place : Span) → step_in behind kind.Comma place ≡ Go between)
      → {from rest : List Tok} {before after : List Entry} → Listed Part from before after rest → Leads behind after rest → Leads first before from
  listed Part first between behind start more_of comma (one p) leads = start _ _ _ _ p leads
  listed Part first between behind start more_of comma (and_one {comma = token} before c p) leads =
      listed Part first between behind start more_of comma before (go behind between kind.Comma c (comma token.text.at) (more_of _ _ _ _ p leads))

  named : (mode after : Mode) (says : Span → Entry) → ((place : Span) → step_in mode kind.Name place ≡ Put after (says place))
      → {from rest : List Tok} {before end : List Entry} → IsName says from before end rest → Leads after end rest → Leads mode before from
  named mode after says e (name {id = id} is) leads = put mode after (says id.text.at) kind.Name is (e id.text.at) leads

  -- behind a comma of declared names
  abbrev next_name : Decl → Option Range → Mode
  next_name (decl.InHeader way) bounds = NextPort way bounds
  next_name by bounds = DeclaredName by bounds

  comma_step : (by : Decl) (bounds : Option Range) (place : Span) → step_in (DeclaredMore by bounds) kind.Comma place ≡ Go (next_name by bounds)
  comma_step (decl.InHeader way) bounds place = refl
  comma_step _ bounds place = refl

  next_step : (by : Decl) (bounds : Option Range) (place : Span) → step_in (next_name by bounds) kind.Name place ≡ Put (DeclaredMore by bounds) (entry.Declared by place bounds)
  next_step (decl.InHeader way) bounds place = refl
  next_step _ bounds place = refl

  declared_names : (by : Decl) (bounds : Option Range) (mode : Mode) → ((place : Span) → step_in mode kind.Name place ≡ Put (DeclaredMore by bounds) (entry.Declared by place bounds))
      → {from rest : List Tok} {before after : List Entry} → Listed (IsName (λ id. entry.Declared by id bounds)) from before after rest
      → Leads (DeclaredMore by bounds) after rest → Leads mode before from
  declared_names by bounds mode e =
      listed (IsName (λ id. entry.Declared by id bounds)) mode (next_name by bounds) (DeclaredMore by bounds)
      (λ from rest before after p leads. named mode (DeclaredMore by bounds) (λ id. entry.Declared by id bounds) e p leads)
      (λ from rest before after p leads. named (next_name by bounds) (DeclaredMore by bounds) (λ id. entry.Declared by id bounds) (next_step by bounds) p leads)
      (comma_step by bounds)

  -- a range or none, and the names
  declarations : (by : Decl) (mode : Mode)
      → ((place : Span) → step_in mode kind.LeftBracket place ≡ Go (RangeLeft by))
      → ((place : Span) → step_in mode kind.Name place ≡ Put (DeclaredMore by None) (entry.Declared by place None))
      → {from rest : List Tok} {before after : List Entry} → AreDeclared by from before after rest
      → ((bounds : Option Range) → Leads (DeclaredMore by bounds) after rest) → Leads mode before from
  declarations by mode bracket id (declared no_range are) leads = declared_names by None mode id are (leads None)
  declarations by mode bracket id (declared (with_range (range {begin = begin} {first = first} {second = second} {left = left} {right = right} b f c s e)) are) leads =
      let bounds : Range = range_from left first right second in
      go mode (RangeLeft by) kind.LeftBracket b (bracket begin.text.at)
      (go (RangeLeft by) (RangeColon by (bound_at left first.text.at)) (kind.Number left) f refl
      (go (RangeColon by (bound_at left first.text.at)) (RangeRight by (bound_at left first.text.at)) kind.Colon c refl
      (go (RangeRight by (bound_at left first.text.at)) (RangeEnd by bounds) (kind.Number right) s refl
      (go (RangeEnd by bounds) (DeclaredName by (Some bounds)) kind.RightBracket e refl
      (declared_names by (Some bounds) (DeclaredName by (Some bounds)) (λ place. refl) are (leads (Some bounds)))))))

  behind_way : (by : Decl) {from at_names rest : List Tok} {before after : List Entry} → MaybeWire from at_names → AreDeclared by at_names before after rest
      → ((bounds : Option Range) → Leads (DeclaredMore by bounds) after rest) → Leads (AfterWay by) before from
  behind_way by no_wire are leads = declarations by (AfterWay by) (λ place. refl) (λ place. refl) are leads
  behind_way by (wire is) are leads = go (AfterWay by) (AfterWire by) kind.Wire is refl (declarations by (AfterWire by) (λ place. refl) (λ place. refl) are leads)

  -- a direction and what it declares
  directions_from : (by : Direction → Decl) (mode : Mode)
      → ((place : Span) → step_in mode kind.Input place ≡ Go (AfterWay (by In)))
      → ((place : Span) → step_in mode kind.Output place ≡ Go (AfterWay (by Out)))
      → {from rest : List Tok} {before after : List Entry} → IsAnsi by from before after rest
      → ((way : Direction) (bounds : Option Range) → Leads (DeclaredMore (by way) bounds) after rest) → Leads mode before from
  directions_from by mode i o (ansi {word = word} (input is) w are) leads = go mode (AfterWay (by In)) kind.Input is (i word.text.at) (behind_way (by In) w are (leads In))
  directions_from by mode i o (ansi {word = word} (output is) w are) leads = go mode (AfterWay (by Out)) kind.Output is (o word.text.at) (behind_way (by Out) w are (leads Out))

  header_directions : {from rest : List Tok} {before after : List Entry} → Listed (IsAnsi (λ way. decl.InHeader way)) from before after rest
      → ((way : Direction) (bounds : Option Range) → Leads (DeclaredMore (decl.InHeader way) bounds) after rest) → Leads HeaderStart before from
  header_directions (one p) leads = directions_from (λ way. decl.InHeader way) HeaderStart (λ place. refl) (λ place. refl) p leads
  header_directions (and_one before c p) leads =
      header_directions before (λ way bounds. go (DeclaredMore (decl.InHeader way) bounds) (NextPort way bounds) kind.Comma c refl
      (directions_from (λ way. decl.InHeader way) (NextPort way bounds) (λ place. refl) (λ place. refl) p leads))

  header : {close : Tok} {from rest : List Tok} {before after : List Entry} → Maybe IsHeader from before after (close ∷ rest) → Is kind.RightParen close
      → Leads HeaderEnd after rest → Leads HeaderStart before from
  header left_out c leads = go HeaderStart HeaderEnd kind.RightParen c refl leads
  header (there (names are)) c leads =
      listed (IsName (λ id. entry.Header id)) HeaderStart HeaderName HeaderMore
      (λ from rest before after p leads. named HeaderStart HeaderMore (λ id. entry.Header id) (λ place. refl) p leads)
      (λ from rest before after p leads. named HeaderName HeaderMore (λ id. entry.Header id) (λ place. refl) p leads)
      (λ place. refl) are (go HeaderMore HeaderEnd kind.RightParen c refl leads)
  header (there (directions are)) c leads = header_directions are (λ way bounds. go (DeclaredMore (decl.InHeader way) bounds) HeaderEnd kind.RightParen c refl leads)

  module _ (cell : Span) where
    -- what may follow a name that stands for itself
    behind_name : (depth : ℕ) (id : Span) (entries : List Entry) (after : State) (k : Kind)
        → state_after (behind_expr cell depth k) (added entries (entry.Whole id)) ≡ Ok after → state_after (name_end_step k (place_at cell depth) id) entries ≡ Ok after
    behind_name zero id entries after kind.RightParen e = e
    behind_name (suc depth) id entries after kind.Comma e = e
    behind_name (suc depth) id entries after kind.RightBrace e = e
    behind_name zero id entries after _ e = never e
    behind_name (suc depth) id entries after _ e = never e

    name_alone : (depth : ℕ) (id : Span) {entries : List Entry} {tokens : List Tok} → Leads (OperandEnd (place_at cell depth)) (added entries (entry.Whole id)) tokens → Leads (NameEnd (place_at cell depth) id) entries tokens
    name_alone depth id (ended e) = never e
    name_alone depth id {entries = entries} (taken {after = after} {token = token} e leads) = taken (behind_name depth id entries after token.text.kind e) leads

    mutual
      expr : (depth : ℕ) {from rest : List Tok} {before after : List Entry} → IsExpr depth from before after rest
          → Leads (OperandEnd (place_at cell depth)) after rest → Leads (Operand (place_at cell depth)) before from
      expr depth (whole {id = id} is) leads = go (Operand (place_at cell depth)) (NameEnd (place_at cell depth) id.text.at) kind.Name is refl (name_alone depth id.text.at leads)
      expr depth (bit {id = id} {index = index} {place = place} is b n c) leads =
          let here = place_at cell depth in
          go (Operand here) (NameEnd here id.text.at) kind.Name is refl
          (go (NameEnd here id.text.at) (SelectLeft here id.text.at) kind.LeftBracket b refl
          (go (SelectLeft here id.text.at) (SelectNext here id.text.at (bound_at place index.text.at)) (kind.Number place) n refl
          (put (SelectNext here id.text.at (bound_at place index.text.at)) (OperandEnd here) (entry.Bit id.text.at place) kind.RightBracket c refl leads)))
      expr depth (part {id = id} is (range {first = first} {second = second} {left = left} {right = right} b f c s e)) leads =
          let here = place_at cell depth in
          let bounds : Range = range_from left first right second in
          go (Operand here) (NameEnd here id.text.at) kind.Name is refl
          (go (NameEnd here id.text.at) (SelectLeft here id.text.at) kind.LeftBracket b refl
          (go (SelectLeft here id.text.at) (SelectNext here id.text.at (bound_at left first.text.at)) (kind.Number left) f refl
          (go (SelectNext here id.text.at (bound_at left first.text.at)) (SelectRight here id.text.at (bound_at left first.text.at)) kind.Colon c refl
          (go (SelectRight here id.text.at (bound_at left first.text.at)) (SelectEnd here id.text.at bounds) (kind.Number right) s refl
          (put (SelectEnd here id.text.at bounds) (OperandEnd here) (entry.Part id.text.at bounds) kind.RightBracket e refl leads)))))
      expr depth (constant {token = token} is) leads =
          put (Operand (place_at cell depth)) (OperandEnd (place_at cell depth)) (entry.Constant token.text.at) kind.Constant is refl leads
      expr depth (in_braces below b are c) leads =
          go (Operand (place_at cell depth)) (Operand (place_at cell (suc depth))) kind.LeftBrace b (ap (λ t. cond t (Go (Operand (place_at cell (suc depth)))) Refuse) (lt-ltb depth 16 below))
          (exprs (suc depth) are (λ place. refl) (go (OperandEnd (place_at cell (suc depth))) (OperandEnd (place_at cell depth)) kind.RightBrace c refl leads))

      exprs : (depth : ℕ) {from rest : List Tok} {before after : List Entry} → AreExprs depth from before after rest
          → ((place : Span) → step_in (OperandEnd (place_at cell depth)) kind.Comma place ≡ Go (Operand (place_at cell depth)))
          → Leads (OperandEnd (place_at cell depth)) after rest → Leads (Operand (place_at cell depth)) before from
      exprs depth (one_expr e) comma leads = expr depth e leads
      exprs depth (and_expr {comma = token} before c e) comma leads =
          exprs depth before comma (go (OperandEnd (place_at cell depth)) (Operand (place_at cell depth)) kind.Comma c (comma token.text.at) (expr depth e leads))

    same_step : (place : Span) (entries : List Entry) (after : State) (k : Kind) → state_after (operand_step k place (place_at cell 0)) entries ≡ Ok after → state_after (joined_step k place cell) entries ≡ Ok after
    same_step place entries after kind.RightParen e = never e
    same_step place entries after _ e = e

    joined : {entries : List Entry} {tokens : List Tok} → Leads (Operand (place_at cell 0)) entries tokens → Leads (Joined cell) entries tokens
    joined (ended e) = never e
    joined {entries = entries} (taken {after = after} {token = token} e leads) = taken (same_step token.text.at entries after token.text.kind e) leads

    joins : {close : Tok} {from rest : List Tok} {before after : List Entry} → Maybe (IsExpr 0) from before after (close ∷ rest) → Is kind.RightParen close
        → Leads (ConnectionEnd cell) after rest → Leads (Joined cell) before from
    joins left_out c leads = go (Joined cell) (ConnectionEnd cell) kind.RightParen c refl leads
    joins (there e) c leads = joined (expr 0 e (go (OperandEnd (place_at cell 0)) (ConnectionEnd cell) kind.RightParen c refl leads))

    connects : (mode : Mode) → ((place : Span) → step_in mode kind.Dot place ≡ Go (PortName cell))
        → {from rest : List Tok} {before after : List Entry} → IsConnection from before after rest → Leads (ConnectionEnd cell) after rest → Leads mode before from
    connects mode e (connection {dot = token} {port = port} d p b j c) leads =
        go mode (PortName cell) kind.Dot d (e token.text.at)
        (put (PortName cell) (PortOpen cell) (entry.Port port.text.at) kind.Name p refl
        (go (PortOpen cell) (Joined cell) kind.LeftParen b refl (joins j c leads)))

    connections : {close : Tok} {from rest : List Tok} {before after : List Entry} → Maybe (Listed IsConnection) from before after (close ∷ rest) → Is kind.RightParen close
        → Leads (InstanceEnd cell) after rest → Leads (FirstConnection cell) before from
    connections left_out c leads = go (FirstConnection cell) (InstanceEnd cell) kind.RightParen c refl leads
    connections (there are) c leads =
        listed IsConnection (FirstConnection cell) (NextConnection cell) (ConnectionEnd cell)
        (λ from rest before after p leads. connects (FirstConnection cell) (λ place. refl) p leads)
        (λ from rest before after p leads. connects (NextConnection cell) (λ place. refl) p leads) (λ place. refl)
        are (go (ConnectionEnd cell) (InstanceEnd cell) kind.RightParen c refl leads)

    an_instance : {from rest : List Tok} {before after : List Entry} → IsInstance cell from before after rest → Leads (InstanceEnd cell) after rest → Leads (InstanceName cell) before from
    an_instance (instance {id = id} n b are c) leads =
        put (InstanceName cell) (InstanceOpen cell) (entry.Instance cell id.text.at) kind.Name n refl
        (go (InstanceOpen cell) (FirstConnection cell) kind.LeftParen b refl (connections are c leads))

  item : {from rest : List Tok} {before after : List Entry} → IsItem from before after rest → Leads Items after rest → Leads Items before from
  item (directed d e) leads =
      directions_from (λ way. decl.Port way) Items (λ place. refl) (λ place. refl) d (λ way bounds. go (DeclaredMore (decl.Port way) bounds) Items kind.Semicolon e refl leads)
  item (wires w are e) leads =
      go Items (AfterWire decl.Wire) kind.Wire w refl
      (declarations decl.Wire (AfterWire decl.Wire) (λ place. refl) (λ place. refl) are (λ bounds. go (DeclaredMore decl.Wire bounds) Items kind.Semicolon e refl leads))
  item (instances {cell = cell} n are e) leads =
      go Items (InstanceName cell.text.at) kind.Name n refl
      (listed (IsInstance cell.text.at) (InstanceName cell.text.at) (InstanceName cell.text.at) (InstanceEnd cell.text.at)
      (λ from rest before after p leads. an_instance cell.text.at p leads) (λ from rest before after p leads. an_instance cell.text.at p leads) (λ place. refl)
      are (go (InstanceEnd cell.text.at) Items kind.Semicolon e refl leads))

  items : {from rest : List Tok} {before after : List Entry} → Many IsItem from before after rest → Leads Items after rest → Leads Items before from
  items none leads = leads
  items (more before i) leads = items before (item i leads)

  module_ports : {semicolon : Tok} {from rest : List Tok} {before after : List Entry} → Maybe IsPorts from before after (semicolon ∷ rest) → Is kind.Semicolon semicolon
      → Leads Items after rest → Leads ModuleHead before from
  module_ports left_out s leads = go ModuleHead Items kind.Semicolon s refl leads
  module_ports (there (ports b h c)) s leads = go ModuleHead HeaderStart kind.LeftParen b refl (header h c (go HeaderEnd Items kind.Semicolon s refl leads))

  a_module : {from rest : List Tok} {before after : List Entry} → IsModule from before after rest → Leads Modules after rest → Leads Modules before from
  a_module (is_module {id = id} m n p s are e) leads =
      go Modules ModuleName kind.Module m refl
      (put ModuleName ModuleHead (entry.Module id.text.at) kind.Name n refl
      (module_ports p s (items are (go Items Modules kind.EndModule e refl leads))))

  modules : {from rest : List Tok} {before after : List Entry} → Many IsModule from before after rest → Leads Modules after rest → Leads Modules before from
  modules none leads = leads
  modules (more before m) leads = modules before (a_module m leads)

-- from the start the tokens of a netlist lead to what it says
pub taking : {tokens : List Tok} {entries : List Entry} → IsNetlist tokens entries → Accepts next finish first_state tokens entries
taking {entries = entries} is = modules entries is (ended refl)
