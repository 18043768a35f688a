-- What the tokens so far are, in the grammar's own words, for each mode: tokens that lead to the end are a netlist.
use Rattle.std.proofs.Common.{◌≡◌, ℕ, zero, suc, ◌<◌, Bool, true, false, cond, List, [], ◌∷◌, Option, Some, None, Result, Ok, refl, subst, nat_lt}
use Rattle.std.specs.Prelude.{⊤}
use Rattle.std.proofs.lemmas.Bool.{ltb-true}
use Rattle.token_fronts.specs.Accepting.{Accepts, ended, taken}
use Rattle.verilog_netlist.specs.Grammar.{Tok, Is, range_from, added, Listed, one, and_one, Many, none, more, Maybe, left_out, there, IsName, name, IsDirection, input, output, MaybeWire, no_wire, wire, range, MaybeRange, no_range, with_range, declared, IsAnsi, ansi, names, directions, IsPorts, ports, IsExpr, whole, bit, part, constant, in_braces, AreExprs, one_expr, and_expr, IsConnection, connection, IsInstance, instance, IsItem, directed, wires, instances, IsModule, is_module, IsNetlist}
use Rattle.verilog_netlist.specs.Steps.{Go, Refuse, bound_at, modules_step, name_step, open_step, listed_step, item_end_step, module_head_step, header_start_step, header_end_step, items_step, after_wire_step, after_way_step, range_left_step, range_colon_step, range_right_step, range_end_step, next_port_step, first_connection_step, next_connection_step, place_at, operand_step, joined_step, behind_expr, saying, name_end_step, select_left_step, select_next_step, select_right_step, select_end_step}
use Rattle.verilog_netlist.specs.Modes.{State, first_state, state_after, next, finish}
use Rattle.token_texts.specs.declared.spans.Span.{Span}
use Rattle.verilog_netlist.specs.declared.kinds.Kind.{Kind}
use Rattle.verilog_netlist.specs.declared.kinds.Kind.TheVariants as kind
use Rattle.verilog_netlist.specs.declared.entries.Direction.{Direction}
use Rattle.verilog_netlist.specs.declared.entries.Direction.TheVariants.{In, Out}
use Rattle.verilog_netlist.specs.declared.entries.Decl.{Decl}
use Rattle.verilog_netlist.specs.declared.entries.Decl.TheVariants as decl
use Rattle.verilog_netlist.specs.declared.entries.Range.{Range}
use Rattle.verilog_netlist.specs.declared.entries.Entry.{Entry}
use Rattle.verilog_netlist.specs.declared.entries.Entry.TheVariants as entry
use Rattle.verilog_netlist.specs.declared.modes.Mode.{Mode}
use Rattle.verilog_netlist.specs.declared.modes.Mode.TheVariants.{Modules, ModuleName, ModuleHead, HeaderStart, HeaderName, HeaderMore, HeaderEnd, Items, AfterWay, AfterWire, RangeLeft, RangeColon, RangeRight, RangeEnd, DeclaredName, DeclaredMore, NextPort, InstanceName, InstanceOpen, FirstConnection, NextConnection, PortName, PortOpen, Joined, Operand, NameEnd, SelectLeft, SelectNext, SelectRight, SelectEnd, OperandEnd, ConnectionEnd, InstanceEnd}
use Rattle.verilog_netlist.proofs.Clashes.{never, same_ok}

abbrev at : Mode → List Entry → State
at mode entries = record { mode = mode; entries = entries }

-- whole modules, and the next one up to its name
data Begun : List Entry → List Tok → List Tok → Type 0 where
  begun : {word id : Tok} {from here : List Tok} {before : List Entry}
      → Many IsModule from [] before (word ∷ id ∷ here) → Is kind.Module word → Is kind.Name id
      → Begun (added before (entry.Module id.text.at)) from here

-- up to the `(` of its header
data Opened : List Entry → List Tok → List Tok → Type 0 where
  opened : {begin : Tok} {from here : List Tok} {entries : List Entry}
      → Begun entries from (begin ∷ here) → Is kind.LeftParen begin
      → Opened entries from here

-- up to a name of a header without directions
data HasNames : List Entry → List Tok → List Tok → Type 0 where
  has_names : {from middle here : List Tok} {before entries : List Entry}
      → Opened before from middle → Listed (IsName (λ id. entry.Header id)) middle before entries here
      → HasNames entries from here

-- up to a name of a header with directions
data HasAnsis : List Entry → List Tok → List Tok → Type 0 where
  has_ansis : {from middle here : List Tok} {before entries : List Entry}
      → Opened before from middle → Listed (IsAnsi (λ way. decl.InHeader way)) middle before entries here
      → HasAnsis entries from here

-- up to the `)` of its header, and up to the end of an item
data Headed : List Entry → List Tok → List Tok → Type 0 where
  headed : {from middle here : List Tok} {before entries : List Entry}
      → Begun before from middle → IsPorts middle before entries here
      → Headed entries from here

data InModule : List Entry → List Tok → List Tok → Type 0 where
  in_module : {semicolon : Tok} {from middle items here : List Tok} {before between entries : List Entry}
      → Begun before from middle → Maybe IsPorts middle before between (semicolon ∷ items) → Is kind.Semicolon semicolon
      → Many IsItem items between entries here
      → InModule entries from here

-- up to a direction
data Directed : Decl → List Entry → List Tok → List Tok → Type 0 where
  first_of_header : {word : Tok} {from here : List Tok} {entries : List Entry} {way : Direction}
      → Opened entries from (word ∷ here) → IsDirection word way
      → Directed (decl.InHeader way) entries from here
  in_header : {comma word : Tok} {from here : List Tok} {entries : List Entry} {way : Direction}
      → HasAnsis entries from (comma ∷ word ∷ here) → Is kind.Comma comma → IsDirection word way
      → Directed (decl.InHeader way) entries from here
  as_item : {word : Tok} {from here : List Tok} {entries : List Entry} {way : Direction}
      → InModule entries from (word ∷ here) → IsDirection word way
      → Directed (decl.Port way) entries from here

-- up to where a range or the first name may stand
data Worded : Decl → List Entry → List Tok → List Tok → Type 0 where
  by_way : {from middle here : List Tok} {entries : List Entry} {by : Decl}
      → Directed by entries from middle → MaybeWire middle here
      → Worded by entries from here
  by_wire : {word : Tok} {from here : List Tok} {entries : List Entry}
      → InModule entries from (word ∷ here) → Is kind.Wire word
      → Worded decl.Wire entries from here

-- up to where a name is due, and up to a name that is declared
data HasDeclared (by : Decl) (bounds : Option Range) : List Entry → List Tok → List Tok → Type 0 where
  has_declared : {from at_range at_names here : List Tok} {before entries : List Entry}
      → Worded by before from at_range → MaybeRange at_range bounds at_names
      → Listed (IsName (λ id. entry.Declared by id bounds)) at_names before entries here
      → HasDeclared by bounds entries from here

data NameDue (by : Decl) (bounds : Option Range) : List Entry → List Tok → List Tok → Type 0 where
  first_due : {from at_range here : List Tok} {entries : List Entry}
      → Worded by entries from at_range → MaybeRange at_range bounds here
      → NameDue by bounds entries from here
  next_due : {comma : Tok} {from here : List Tok} {entries : List Entry}
      → HasDeclared by bounds entries from (comma ∷ here) → Is kind.Comma comma
      → NameDue by bounds entries from here

-- up to an instance
data HasInstances : Span → List Entry → List Tok → List Tok → Type 0 where
  has_instances : {cell : Tok} {from middle here : List Tok} {before entries : List Entry}
      → InModule before from (cell ∷ middle) → Is kind.Name cell → Listed (IsInstance cell.text.at) middle before entries here
      → HasInstances cell.text.at entries from here

data InstanceDue : Span → List Entry → List Tok → List Tok → Type 0 where
  first_instance : {cell : Tok} {from here : List Tok} {entries : List Entry}
      → InModule entries from (cell ∷ here) → Is kind.Name cell
      → InstanceDue cell.text.at entries from here
  next_instance : {comma : Tok} {from here : List Tok} {entries : List Entry} {cell : Span}
      → HasInstances cell entries from (comma ∷ here) → Is kind.Comma comma
      → InstanceDue cell entries from here

data InstanceNamed (cell : Span) : List Entry → List Tok → List Tok → Type 0 where
  instance_named : {id : Tok} {from here : List Tok} {before : List Entry}
      → InstanceDue cell before from (id ∷ here) → Is kind.Name id
      → InstanceNamed cell (added before (entry.Instance cell id.text.at)) from here

data InstanceOpened (cell : Span) : List Entry → List Tok → List Tok → Type 0 where
  instance_opened : {begin : Tok} {from here : List Tok} {entries : List Entry}
      → InstanceNamed cell entries from (begin ∷ here) → Is kind.LeftParen begin
      → InstanceOpened cell entries from here

-- up to a connection
data HasConnections (cell : Span) : List Entry → List Tok → List Tok → Type 0 where
  has_connections : {from middle here : List Tok} {before entries : List Entry}
      → InstanceOpened cell before from middle → Listed IsConnection middle before entries here
      → HasConnections cell entries from here

data ConnectionDue (cell : Span) : List Entry → List Tok → List Tok → Type 0 where
  first_connection : {from here : List Tok} {entries : List Entry}
      → InstanceOpened cell entries from here
      → ConnectionDue cell entries from here
  next_connection : {comma : Tok} {from here : List Tok} {entries : List Entry}
      → HasConnections cell entries from (comma ∷ here) → Is kind.Comma comma
      → ConnectionDue cell entries from here

data PortNamed (cell : Span) : List Entry → List Tok → List Tok → Type 0 where
  port_named : {dot port : Tok} {from here : List Tok} {before : List Entry}
      → ConnectionDue cell before from (dot ∷ port ∷ here) → Is kind.Dot dot → Is kind.Name port
      → PortNamed cell (added before (entry.Port port.text.at)) from here

data PortOpened (cell : Span) : List Entry → List Tok → List Tok → Type 0 where
  port_opened : {begin : Tok} {from here : List Tok} {entries : List Entry}
      → PortNamed cell entries from (begin ∷ here) → Is kind.LeftParen begin
      → PortOpened cell entries from here

-- up to where an expression is due inside so many `{`, and up to the end of one
data ExprDue (cell : Span) : ℕ → List Entry → List Tok → List Tok → Type 0 where
  top_expr : {from here : List Tok} {entries : List Entry}
      → PortOpened cell entries from here
      → ExprDue cell zero entries from here
  first_expr : {depth : ℕ} {begin : Tok} {from here : List Tok} {entries : List Entry}
      → ExprDue cell depth entries from (begin ∷ here) → depth < 16 → Is kind.LeftBrace begin
      → ExprDue cell (suc depth) entries from here
  next_expr : {depth : ℕ} {begin comma : Tok} {from middle here : List Tok} {before entries : List Entry}
      → ExprDue cell depth before from (begin ∷ middle) → depth < 16 → Is kind.LeftBrace begin
      → AreExprs (suc depth) middle before entries (comma ∷ here) → Is kind.Comma comma
      → ExprDue cell (suc depth) entries from here

data ExprEnded (cell : Span) : ℕ → List Entry → List Tok → List Tok → Type 0 where
  top_ended : {from middle here : List Tok} {before entries : List Entry}
      → PortOpened cell before from middle → IsExpr zero middle before entries here
      → ExprEnded cell zero entries from here
  inner_ended : {depth : ℕ} {begin : Tok} {from middle here : List Tok} {before entries : List Entry}
      → ExprDue cell depth before from (begin ∷ middle) → depth < 16 → Is kind.LeftBrace begin
      → AreExprs (suc depth) middle before entries here
      → ExprEnded cell (suc depth) entries from here

-- what the tokens up to here are, for what is waited for
data Meant : State → List Tok → List Tok → Type 0 where
  at_modules : {from here : List Tok} {entries : List Entry} → Many IsModule from [] entries here → Meant (at Modules entries) from here
  at_name : {word : Tok} {from here : List Tok} {entries : List Entry}
      → Many IsModule from [] entries (word ∷ here) → Is kind.Module word → Meant (at ModuleName entries) from here
  at_head : {from here : List Tok} {entries : List Entry} → Begun entries from here → Meant (at ModuleHead entries) from here
  at_header : {from here : List Tok} {entries : List Entry} → Opened entries from here → Meant (at HeaderStart entries) from here
  at_header_name : {comma : Tok} {from here : List Tok} {entries : List Entry}
      → HasNames entries from (comma ∷ here) → Is kind.Comma comma → Meant (at HeaderName entries) from here
  at_header_more : {from here : List Tok} {entries : List Entry} → HasNames entries from here → Meant (at HeaderMore entries) from here
  at_header_end : {from here : List Tok} {entries : List Entry} → Headed entries from here → Meant (at HeaderEnd entries) from here
  at_items : {from here : List Tok} {entries : List Entry} → InModule entries from here → Meant (at Items entries) from here
  at_way : {by : Decl} {from here : List Tok} {entries : List Entry} → Directed by entries from here → Meant (at (AfterWay by) entries) from here
  at_wire : {by : Decl} {from here : List Tok} {entries : List Entry} → Worded by entries from here → Meant (at (AfterWire by) entries) from here
  at_left : {by : Decl} {begin : Tok} {from here : List Tok} {entries : List Entry}
      → Worded by entries from (begin ∷ here) → Is kind.LeftBracket begin → Meant (at (RangeLeft by) entries) from here
  at_colon : {by : Decl} {left : ℕ} {begin first : Tok} {from here : List Tok} {entries : List Entry}
      → Worded by entries from (begin ∷ first ∷ here) → Is kind.LeftBracket begin → Is (kind.Number left) first
      → Meant (at (RangeColon by (bound_at left first.text.at)) entries) from here
  at_right : {by : Decl} {left : ℕ} {begin first colon : Tok} {from here : List Tok} {entries : List Entry}
      → Worded by entries from (begin ∷ first ∷ colon ∷ here) → Is kind.LeftBracket begin → Is (kind.Number left) first → Is kind.Colon colon
      → Meant (at (RangeRight by (bound_at left first.text.at)) entries) from here
  at_range_end : {by : Decl} {left right : ℕ} {begin first colon second : Tok} {from here : List Tok} {entries : List Entry}
      → Worded by entries from (begin ∷ first ∷ colon ∷ second ∷ here)
      → Is kind.LeftBracket begin → Is (kind.Number left) first → Is kind.Colon colon → Is (kind.Number right) second
      → Meant (at (RangeEnd by (range_from left first right second)) entries) from here
  at_declared_name : {by : Decl} {bounds : Option Range} {from here : List Tok} {entries : List Entry}
      → NameDue by bounds entries from here → Meant (at (DeclaredName by bounds) entries) from here
  at_declared : {by : Decl} {bounds : Option Range} {from here : List Tok} {entries : List Entry}
      → HasDeclared by bounds entries from here → Meant (at (DeclaredMore by bounds) entries) from here
  at_next_port : {way : Direction} {bounds : Option Range} {comma : Tok} {from here : List Tok} {entries : List Entry}
      → HasDeclared (decl.InHeader way) bounds entries from (comma ∷ here) → Is kind.Comma comma → Meant (at (NextPort way bounds) entries) from here
  at_instance : {cell : Span} {from here : List Tok} {entries : List Entry} → InstanceDue cell entries from here → Meant (at (InstanceName cell) entries) from here
  at_instance_open : {cell : Span} {from here : List Tok} {entries : List Entry} → InstanceNamed cell entries from here → Meant (at (InstanceOpen cell) entries) from here
  at_first : {cell : Span} {from here : List Tok} {entries : List Entry} → InstanceOpened cell entries from here → Meant (at (FirstConnection cell) entries) from here
  at_next : {cell : Span} {comma : Tok} {from here : List Tok} {entries : List Entry}
      → HasConnections cell entries from (comma ∷ here) → Is kind.Comma comma → Meant (at (NextConnection cell) entries) from here
  at_port : {cell : Span} {dot : Tok} {from here : List Tok} {entries : List Entry}
      → ConnectionDue cell entries from (dot ∷ here) → Is kind.Dot dot → Meant (at (PortName cell) entries) from here
  at_port_open : {cell : Span} {from here : List Tok} {entries : List Entry} → PortNamed cell entries from here → Meant (at (PortOpen cell) entries) from here
  at_joined : {cell : Span} {from here : List Tok} {entries : List Entry} → PortOpened cell entries from here → Meant (at (Joined cell) entries) from here
  at_operand : {cell : Span} {depth : ℕ} {from here : List Tok} {entries : List Entry}
      → ExprDue cell depth entries from here → Meant (at (Operand (place_at cell depth)) entries) from here
  at_name_end : {cell : Span} {depth : ℕ} {id : Tok} {from here : List Tok} {entries : List Entry}
      → ExprDue cell depth entries from (id ∷ here) → Is kind.Name id → Meant (at (NameEnd (place_at cell depth) id.text.at) entries) from here
  at_select : {cell : Span} {depth : ℕ} {id begin : Tok} {from here : List Tok} {entries : List Entry}
      → ExprDue cell depth entries from (id ∷ begin ∷ here) → Is kind.Name id → Is kind.LeftBracket begin
      → Meant (at (SelectLeft (place_at cell depth) id.text.at) entries) from here
  at_select_next : {cell : Span} {depth left : ℕ} {id begin first : Tok} {from here : List Tok} {entries : List Entry}
      → ExprDue cell depth entries from (id ∷ begin ∷ first ∷ here) → Is kind.Name id → Is kind.LeftBracket begin → Is (kind.Number left) first
      → Meant (at (SelectNext (place_at cell depth) id.text.at (bound_at left first.text.at)) entries) from here
  at_select_right : {cell : Span} {depth left : ℕ} {id begin first colon : Tok} {from here : List Tok} {entries : List Entry}
      → ExprDue cell depth entries from (id ∷ begin ∷ first ∷ colon ∷ here) → Is kind.Name id → Is kind.LeftBracket begin → Is (kind.Number left) first → Is kind.Colon colon
      → Meant (at (SelectRight (place_at cell depth) id.text.at (bound_at left first.text.at)) entries) from here
  at_select_end : {cell : Span} {depth left right : ℕ} {id begin first colon second : Tok} {from here : List Tok} {entries : List Entry}
      → ExprDue cell depth entries from (id ∷ begin ∷ first ∷ colon ∷ second ∷ here)
      → Is kind.Name id → Is kind.LeftBracket begin → Is (kind.Number left) first → Is kind.Colon colon → Is (kind.Number right) second
      → Meant (at (SelectEnd (place_at cell depth) id.text.at (range_from left first right second)) entries) from here
  at_operand_end : {cell : Span} {depth : ℕ} {from here : List Tok} {entries : List Entry}
      → ExprEnded cell depth entries from here → Meant (at (OperandEnd (place_at cell depth)) entries) from here
  at_connection_end : {cell : Span} {from here : List Tok} {entries : List Entry} → HasConnections cell entries from here → Meant (at (ConnectionEnd cell) entries) from here
  at_instance_end : {cell : Span} {from here : List Tok} {entries : List Entry} → HasInstances cell entries from here → Meant (at (InstanceEnd cell) entries) from here

-- the state behind a step that is known
becomes : {from here : List Tok} {after : State} (state : State) → ◌≡◌ {A = Result State ⊤} (Ok state) (Ok after) → Meant state from here → Meant after from here
becomes {from} {here} {after} state e meant = subst (λ (s : State). Meant s from here) (same_ok e) meant

-- what has ended with a token
one_more_name : {says : Span → Entry} {id : Tok} {from here : List Tok} {before entries : List Entry} {comma : Tok}
    → Listed (IsName says) from before entries (comma ∷ id ∷ here) → Is kind.Comma comma → Is kind.Name id
    → Listed (IsName says) from before (added entries (says id.text.at)) here
one_more_name are c n = and_one are c (name n)

declare : {by : Decl} {bounds : Option Range} {id : Tok} {from here : List Tok} {entries : List Entry}
    → NameDue by bounds entries from (id ∷ here) → Is kind.Name id → HasDeclared by bounds (added entries (entry.Declared by id.text.at bounds)) from here
declare (first_due w r) n = has_declared w r (one (name n))
declare (next_due (has_declared w r are) c) n = has_declared w r (one_more_name are c n)

ansis_end : {way : Direction} {bounds : Option Range} {from here : List Tok} {entries : List Entry} → HasDeclared (decl.InHeader way) bounds entries from here → HasAnsis entries from here
ansis_end (has_declared (by_way (first_of_header o d) w) r are) = has_ansis o (one (ansi d w (declared r are)))
ansis_end (has_declared (by_way (in_header (has_ansis o before) c d) w) r are) = has_ansis o (and_one before c (ansi d w (declared r are)))

ansis_close : {close : Tok} {from here : List Tok} {entries : List Entry} → HasAnsis entries from (close ∷ here) → Is kind.RightParen close → Headed entries from here
ansis_close (has_ansis (opened b o) are) c = headed b (ports o (there (directions are)) c)

names_close : {close : Tok} {from here : List Tok} {entries : List Entry} → HasNames entries from (close ∷ here) → Is kind.RightParen close → Headed entries from here
names_close (has_names (opened b o) are) c = headed b (ports o (there (names are)) c)

no_names_close : {close : Tok} {from here : List Tok} {entries : List Entry} → Opened entries from (close ∷ here) → Is kind.RightParen close → Headed entries from here
no_names_close (opened b o) c = headed b (ports o left_out c)

more_item : {from middle here : List Tok} {before entries : List Entry} → InModule before from middle → IsItem middle before entries here → InModule entries from here
more_item (in_module b p s are) i = in_module b p s (more are i)

ports_end : {way : Direction} {bounds : Option Range} {end : Tok} {from here : List Tok} {entries : List Entry} → HasDeclared (decl.Port way) bounds entries from (end ∷ here) → Is kind.Semicolon end → InModule entries from here
ports_end (has_declared (by_way (as_item m d) w) r are) e = more_item m (directed (ansi d w (declared r are)) e)

not_wire_way : {from here : List Tok} {entries : List Entry} → Directed decl.Wire entries from here → ⊥
not_wire_way = elim [ ]

wires_end : {bounds : Option Range} {end : Tok} {from here : List Tok} {entries : List Entry} → HasDeclared decl.Wire bounds entries from (end ∷ here) → Is kind.Semicolon end → InModule entries from here
wires_end (has_declared (by_wire m w) r are) e = more_item m (wires w (declared r are) e)
wires_end (has_declared (by_way d w) r are) e = absurd (not_wire_way d)

instances_end : {cell : Span} {end : Tok} {from here : List Tok} {entries : List Entry} → HasInstances cell entries from (end ∷ here) → Is kind.Semicolon end → InModule entries from here
instances_end (has_instances m c are) e = more_item m (instances c are e)

module_end : {end : Tok} {from here : List Tok} {entries : List Entry} → InModule entries from (end ∷ here) → Is kind.EndModule end → Many IsModule from [] entries here
module_end (in_module (begun before m n) p s are) e = more before (is_module m n p s are e)

instance_end : {cell : Span} {close : Tok} {from middle here : List Tok} {before entries : List Entry}
    → InstanceOpened cell before from middle → Maybe (Listed IsConnection) middle before entries (close ∷ here) → Is kind.RightParen close → HasInstances cell entries from here
instance_end (instance_opened (instance_named (first_instance m c) n) b) are e = has_instances m c (one (instance n b are e))
instance_end (instance_opened (instance_named (next_instance (has_instances m c before) comma) n) b) are e = has_instances m c (and_one before comma (instance n b are e))

connection_ends : {cell : Span} {close : Tok} {from middle here : List Tok} {before entries : List Entry}
    → PortOpened cell before from middle → Maybe (IsExpr zero) middle before entries (close ∷ here) → Is kind.RightParen close → HasConnections cell entries from here
connection_ends (port_opened (port_named (first_connection o) d p) b) j e = has_connections o (one (connection d p b j e))
connection_ends (port_opened (port_named (next_connection (has_connections o before) c) d p) b) j e = has_connections o (and_one before c (connection d p b j e))

expr_ends : {cell : Span} {depth : ℕ} {from middle here : List Tok} {before entries : List Entry}
    → ExprDue cell depth before from middle → IsExpr depth middle before entries here → ExprEnded cell depth entries from here
expr_ends (top_expr p) e = top_ended p e
expr_ends (first_expr due below b) e = inner_ended due below b (one_expr e)
expr_ends (next_expr due below b before c) e = inner_ended due below b (and_expr before c e)

brace_ends : {cell : Span} {depth : ℕ} {close : Tok} {from here : List Tok} {entries : List Entry} → ExprEnded cell (suc depth) entries from (close ∷ here) → Is kind.RightBrace close → ExprEnded cell depth entries from here
brace_ends (inner_ended due below b are) c = expr_ends due (in_braces below b are c)

next_in_braces : {cell : Span} {depth : ℕ} {comma : Tok} {from here : List Tok} {entries : List Entry} → ExprEnded cell (suc depth) entries from (comma ∷ here) → Is kind.Comma comma → ExprDue cell (suc depth) entries from here
next_in_braces (inner_ended due below b are) c = next_expr due below b are c

whole_connection : {cell : Span} {close : Tok} {from here : List Tok} {entries : List Entry} → ExprEnded cell zero entries from (close ∷ here) → Is kind.RightParen close → HasConnections cell entries from here
whole_connection (top_ended p e) c = connection_ends p (there e) c

module _ {from here : List Tok} {token : Tok} {entries : List Entry} {after : State} where
  in_modules : (k : Kind) → Is k token → Many IsModule from [] entries (token ∷ here) → state_after (modules_step k) entries ≡ Ok after → Meant after from here
  in_modules kind.Module is are e = becomes (at ModuleName entries) e (at_name are is)
  in_modules _ is are e = never e

  in_name : {word : Tok} (k : Kind) → Is k token → Many IsModule from [] entries (word ∷ token ∷ here) → Is kind.Module word → state_after (name_step k ModuleHead (entry.Module token.text.at)) entries ≡ Ok after → Meant after from here
  in_name kind.Name is are m e = becomes (at ModuleHead (added entries (entry.Module token.text.at))) e (at_head (begun are m is))
  in_name _ is are m e = never e

  in_head : (k : Kind) → Is k token → Begun entries from (token ∷ here) → state_after (module_head_step k) entries ≡ Ok after → Meant after from here
  in_head kind.LeftParen is b e = becomes (at HeaderStart entries) e (at_header (opened b is))
  in_head kind.Semicolon is b e = becomes (at Items entries) e (at_items (in_module b left_out is none))
  in_head _ is b e = never e

  in_header_start : (k : Kind) → Is k token → Opened entries from (token ∷ here) → state_after (header_start_step k token.text.at) entries ≡ Ok after → Meant after from here
  in_header_start kind.Name is o e = becomes (at HeaderMore (added entries (entry.Header token.text.at))) e (at_header_more (has_names o (one (name is))))
  in_header_start kind.Input is o e = becomes (at (AfterWay (decl.InHeader In)) entries) e (at_way (first_of_header o (input is)))
  in_header_start kind.Output is o e = becomes (at (AfterWay (decl.InHeader Out)) entries) e (at_way (first_of_header o (output is)))
  in_header_start kind.RightParen is o e = becomes (at HeaderEnd entries) e (at_header_end (no_names_close o is))
  in_header_start _ is o e = never e

  in_header_name : {comma : Tok} (k : Kind) → Is k token → HasNames entries from (comma ∷ token ∷ here) → Is kind.Comma comma → state_after (name_step k HeaderMore (entry.Header token.text.at)) entries ≡ Ok after → Meant after from here
  in_header_name kind.Name is (has_names o are) c e = becomes (at HeaderMore (added entries (entry.Header token.text.at))) e (at_header_more (has_names o (one_more_name are c is)))
  in_header_name _ is h c e = never e

  in_header_more : (k : Kind) → Is k token → HasNames entries from (token ∷ here) → state_after (listed_step k HeaderName HeaderEnd) entries ≡ Ok after → Meant after from here
  in_header_more kind.Comma is h e = becomes (at HeaderName entries) e (at_header_name h is)
  in_header_more kind.RightParen is h e = becomes (at HeaderEnd entries) e (at_header_end (names_close h is))
  in_header_more _ is h e = never e

  in_header_end : (k : Kind) → Is k token → Headed entries from (token ∷ here) → state_after (header_end_step k) entries ≡ Ok after → Meant after from here
  in_header_end kind.Semicolon is (headed b p) e = becomes (at Items entries) e (at_items (in_module b (there p) is none))
  in_header_end _ is h e = never e

  in_items : (k : Kind) → Is k token → InModule entries from (token ∷ here) → state_after (items_step k token.text.at) entries ≡ Ok after → Meant after from here
  in_items kind.Input is m e = becomes (at (AfterWay (decl.Port In)) entries) e (at_way (as_item m (input is)))
  in_items kind.Output is m e = becomes (at (AfterWay (decl.Port Out)) entries) e (at_way (as_item m (output is)))
  in_items kind.Wire is m e = becomes (at (AfterWire decl.Wire) entries) e (at_wire (by_wire m is))
  in_items kind.Name is m e = becomes (at (InstanceName token.text.at) entries) e (at_instance (first_instance m is))
  in_items kind.EndModule is m e = becomes (at Modules entries) e (at_modules (module_end m is))
  in_items _ is m e = never e

  in_wire : {by : Decl} (k : Kind) → Is k token → Worded by entries from (token ∷ here) → state_after (after_wire_step k token.text.at by) entries ≡ Ok after → Meant after from here
  in_wire {by} kind.LeftBracket is w e = becomes (at (RangeLeft by) entries) e (at_left w is)
  in_wire {by} kind.Name is w e = becomes (at (DeclaredMore by None) (added entries (entry.Declared by token.text.at None))) e (at_declared (declare (first_due w no_range) is))
  in_wire _ is w e = never e

  in_way : {by : Decl} (k : Kind) → Is k token → Directed by entries from (token ∷ here) → state_after (after_way_step k token.text.at by) entries ≡ Ok after → Meant after from here
  in_way {by} kind.Wire is d e = becomes (at (AfterWire by) entries) e (at_wire (by_way d (wire is)))
  in_way k is d e = in_wire k is (by_way d no_wire) e

  in_left : {by : Decl} {begin : Tok} (k : Kind) → Is k token → Worded by entries from (begin ∷ token ∷ here) → Is kind.LeftBracket begin → state_after (range_left_step k token.text.at by) entries ≡ Ok after → Meant after from here
  in_left {by} (kind.Number left) is w b e = becomes (at (RangeColon by (bound_at left token.text.at)) entries) e (at_colon w b is)
  in_left _ is w b e = never e

  in_colon : {by : Decl} {left : ℕ} {begin first : Tok} (k : Kind) → Is k token → Worded by entries from (begin ∷ first ∷ token ∷ here) → Is kind.LeftBracket begin → Is (kind.Number left) first
      → state_after (range_colon_step k by (bound_at left first.text.at)) entries ≡ Ok after → Meant after from here
  in_colon {by} {left} {first = first} kind.Colon is w b f e = becomes (at (RangeRight by (bound_at left first.text.at)) entries) e (at_right w b f is)
  in_colon _ is w b f e = never e

  in_right : {by : Decl} {left : ℕ} {begin first colon : Tok} (k : Kind) → Is k token → Worded by entries from (begin ∷ first ∷ colon ∷ token ∷ here) → Is kind.LeftBracket begin → Is (kind.Number left) first → Is kind.Colon colon
      → state_after (range_right_step k token.text.at by (bound_at left first.text.at)) entries ≡ Ok after → Meant after from here
  in_right {by} {left} {first = first} (kind.Number right) is w b f c e = becomes (at (RangeEnd by (range_from left first right token)) entries) e (at_range_end w b f c is)
  in_right _ is w b f c e = never e

  in_range_end : {by : Decl} {left right : ℕ} {begin first colon second : Tok} (k : Kind) → Is k token → Worded by entries from (begin ∷ first ∷ colon ∷ second ∷ token ∷ here)
      → Is kind.LeftBracket begin → Is (kind.Number left) first → Is kind.Colon colon → Is (kind.Number right) second
      → state_after (range_end_step k by (range_from left first right second)) entries ≡ Ok after → Meant after from here
  in_range_end {by} {left} {right} {first = first} {second = second} kind.RightBracket is w b f c s e =
      becomes (at (DeclaredName by (Some (range_from left first right second))) entries) e (at_declared_name (first_due w (with_range (range b f c s is))))
  in_range_end _ is w b f c s e = never e

  in_declared_name : {by : Decl} {bounds : Option Range} (k : Kind) → Is k token → NameDue by bounds entries from (token ∷ here) → state_after (name_step k (DeclaredMore by bounds) (entry.Declared by token.text.at bounds)) entries ≡ Ok after → Meant after from here
  in_declared_name {by} {bounds} kind.Name is due e = becomes (at (DeclaredMore by bounds) (added entries (entry.Declared by token.text.at bounds))) e (at_declared (declare due is))
  in_declared_name _ is due e = never e

  in_header_declared : {way : Direction} {bounds : Option Range} (k : Kind) → Is k token → HasDeclared (decl.InHeader way) bounds entries from (token ∷ here) → state_after (listed_step k (NextPort way bounds) HeaderEnd) entries ≡ Ok after → Meant after from here
  in_header_declared {way} {bounds} kind.Comma is h e = becomes (at (NextPort way bounds) entries) e (at_next_port h is)
  in_header_declared kind.RightParen is h e = becomes (at HeaderEnd entries) e (at_header_end (ansis_close (ansis_end h) is))
  in_header_declared _ is h e = never e

  in_item_declared : {by : Decl} {bounds : Option Range} (k : Kind) → Is k token → (Is kind.Semicolon token → InModule entries from here)
      → HasDeclared by bounds entries from (token ∷ here) → state_after (item_end_step k (DeclaredName by bounds)) entries ≡ Ok after → Meant after from here
  in_item_declared {by} {bounds} kind.Comma is item h e = becomes (at (DeclaredName by bounds) entries) e (at_declared_name (next_due h is))
  in_item_declared kind.Semicolon is item h e = becomes (at Items entries) e (at_items (item is))
  in_item_declared _ is item h e = never e

  in_declared : (by : Decl) {bounds : Option Range} → HasDeclared by bounds entries from (token ∷ here) → next (at (DeclaredMore by bounds) entries) token ≡ Ok after → Meant after from here
  in_declared (decl.InHeader way) h e = in_header_declared token.text.kind refl h e
  in_declared (decl.Port way) h e = in_item_declared token.text.kind refl (ports_end h) h e
  in_declared decl.Wire h e = in_item_declared token.text.kind refl (wires_end h) h e

  in_next_port : {way : Direction} {bounds : Option Range} {comma : Tok} (k : Kind) → Is k token → HasDeclared (decl.InHeader way) bounds entries from (comma ∷ token ∷ here) → Is kind.Comma comma
      → state_after (next_port_step k token.text.at way bounds) entries ≡ Ok after → Meant after from here
  in_next_port {way} {bounds} kind.Name is h c e =
      becomes (at (DeclaredMore (decl.InHeader way) bounds) (added entries (entry.Declared (decl.InHeader way) token.text.at bounds))) e (at_declared (declare (next_due h c) is))
  in_next_port kind.Input is h c e = becomes (at (AfterWay (decl.InHeader In)) entries) e (at_way (in_header (ansis_end h) c (input is)))
  in_next_port kind.Output is h c e = becomes (at (AfterWay (decl.InHeader Out)) entries) e (at_way (in_header (ansis_end h) c (output is)))
  in_next_port _ is h c e = never e

  in_instance : {cell : Span} (k : Kind) → Is k token → InstanceDue cell entries from (token ∷ here) → state_after (name_step k (InstanceOpen cell) (entry.Instance cell token.text.at)) entries ≡ Ok after → Meant after from here
  in_instance {cell} kind.Name is due e = becomes (at (InstanceOpen cell) (added entries (entry.Instance cell token.text.at))) e (at_instance_open (instance_named due is))
  in_instance _ is due e = never e

  in_instance_open : {cell : Span} (k : Kind) → Is k token → InstanceNamed cell entries from (token ∷ here) → state_after (open_step k (FirstConnection cell)) entries ≡ Ok after → Meant after from here
  in_instance_open {cell} kind.LeftParen is n e = becomes (at (FirstConnection cell) entries) e (at_first (instance_opened n is))
  in_instance_open _ is n e = never e

  in_first : {cell : Span} (k : Kind) → Is k token → InstanceOpened cell entries from (token ∷ here) → state_after (first_connection_step k cell) entries ≡ Ok after → Meant after from here
  in_first {cell} kind.Dot is o e = becomes (at (PortName cell) entries) e (at_port (first_connection o) is)
  in_first {cell} kind.RightParen is o e = becomes (at (InstanceEnd cell) entries) e (at_instance_end (instance_end o left_out is))
  in_first _ is o e = never e

  in_next : {cell : Span} {comma : Tok} (k : Kind) → Is k token → HasConnections cell entries from (comma ∷ token ∷ here) → Is kind.Comma comma → state_after (next_connection_step k cell) entries ≡ Ok after → Meant after from here
  in_next {cell} kind.Dot is h c e = becomes (at (PortName cell) entries) e (at_port (next_connection h c) is)
  in_next _ is h c e = never e

  in_port : {cell : Span} {dot : Tok} (k : Kind) → Is k token → ConnectionDue cell entries from (dot ∷ token ∷ here) → Is kind.Dot dot → state_after (name_step k (PortOpen cell) (entry.Port token.text.at)) entries ≡ Ok after → Meant after from here
  in_port {cell} kind.Name is due d e = becomes (at (PortOpen cell) (added entries (entry.Port token.text.at))) e (at_port_open (port_named due d is))
  in_port _ is due d e = never e

  in_port_open : {cell : Span} (k : Kind) → Is k token → PortNamed cell entries from (token ∷ here) → state_after (open_step k (Joined cell)) entries ≡ Ok after → Meant after from here
  in_port_open {cell} kind.LeftParen is n e = becomes (at (Joined cell) entries) e (at_joined (port_opened n is))
  in_port_open _ is n e = never e

  in_brace : {cell : Span} {depth : ℕ} (fits : Bool) → nat_lt depth 16 ≡ fits → Is kind.LeftBrace token → ExprDue cell depth entries from (token ∷ here)
      → state_after (cond fits (Go (Operand (place_at cell (suc depth)))) Refuse) entries ≡ Ok after → Meant after from here
  in_brace {cell} {depth} true below is due e = becomes (at (Operand (place_at cell (suc depth))) entries) e (at_operand (first_expr due (ltb-true depth 16 below) is))
  in_brace false below is due e = never e

  in_operand : {cell : Span} {depth : ℕ} (k : Kind) → Is k token → ExprDue cell depth entries from (token ∷ here) → state_after (operand_step k token.text.at (place_at cell depth)) entries ≡ Ok after → Meant after from here
  in_operand {cell} {depth} kind.Name is due e = becomes (at (NameEnd (place_at cell depth) token.text.at) entries) e (at_name_end due is)
  in_operand {cell} {depth} kind.Constant is due e = becomes (at (OperandEnd (place_at cell depth)) (added entries (entry.Constant token.text.at))) e (at_operand_end (expr_ends due (constant is)))
  in_operand {cell} {depth} kind.LeftBrace is due e = in_brace (nat_lt depth 16) refl is due e
  in_operand _ is due e = never e

  in_joined : {cell : Span} (k : Kind) → Is k token → PortOpened cell entries from (token ∷ here) → state_after (joined_step k token.text.at cell) entries ≡ Ok after → Meant after from here
  in_joined {cell} kind.RightParen is p e = becomes (at (ConnectionEnd cell) entries) e (at_connection_end (connection_ends p left_out is))
  in_joined k is p e = in_operand k is (top_expr p) e

  behind_expr_is : {cell : Span} (depth : ℕ) (k : Kind) → Is k token → ExprEnded cell depth entries from (token ∷ here) → state_after (behind_expr cell depth k) entries ≡ Ok after → Meant after from here
  behind_expr_is {cell} zero kind.RightParen is x e = becomes (at (ConnectionEnd cell) entries) e (at_connection_end (whole_connection x is))
  behind_expr_is {cell} (suc depth) kind.Comma is x e = becomes (at (Operand (place_at cell (suc depth))) entries) e (at_operand (next_in_braces x is))
  behind_expr_is {cell} (suc depth) kind.RightBrace is x e = becomes (at (OperandEnd (place_at cell depth)) entries) e (at_operand_end (brace_ends x is))
  behind_expr_is zero _ is x e = never e
  behind_expr_is (suc depth) _ is x e = never e

  in_select : {cell : Span} {depth : ℕ} {id begin : Tok} (k : Kind) → Is k token → ExprDue cell depth entries from (id ∷ begin ∷ token ∷ here) → Is kind.Name id → Is kind.LeftBracket begin
      → state_after (select_left_step k token.text.at (place_at cell depth) id.text.at) entries ≡ Ok after → Meant after from here
  in_select {cell} {depth} {id} (kind.Number left) is due n b e = becomes (at (SelectNext (place_at cell depth) id.text.at (bound_at left token.text.at)) entries) e (at_select_next due n b is)
  in_select _ is due n b e = never e

  in_select_next : {cell : Span} {depth left : ℕ} {id begin first : Tok} (k : Kind) → Is k token → ExprDue cell depth entries from (id ∷ begin ∷ first ∷ token ∷ here) → Is kind.Name id → Is kind.LeftBracket begin → Is (kind.Number left) first
      → state_after (select_next_step k (place_at cell depth) id.text.at (bound_at left first.text.at)) entries ≡ Ok after → Meant after from here
  in_select_next {cell} {depth} {left} {id} kind.RightBracket is due n b f e =
      becomes (at (OperandEnd (place_at cell depth)) (added entries (entry.Bit id.text.at left))) e (at_operand_end (expr_ends due (bit n b f is)))
  in_select_next {cell} {depth} {left} {id} {first = first} kind.Colon is due n b f e = becomes (at (SelectRight (place_at cell depth) id.text.at (bound_at left first.text.at)) entries) e (at_select_right due n b f is)
  in_select_next _ is due n b f e = never e

  in_select_right : {cell : Span} {depth left : ℕ} {id begin first colon : Tok} (k : Kind) → Is k token → ExprDue cell depth entries from (id ∷ begin ∷ first ∷ colon ∷ token ∷ here)
      → Is kind.Name id → Is kind.LeftBracket begin → Is (kind.Number left) first → Is kind.Colon colon
      → state_after (select_right_step k token.text.at (place_at cell depth) id.text.at (bound_at left first.text.at)) entries ≡ Ok after → Meant after from here
  in_select_right {cell} {depth} {left} {id} {first = first} (kind.Number right) is due n b f c e =
      becomes (at (SelectEnd (place_at cell depth) id.text.at (range_from left first right token)) entries) e (at_select_end due n b f c is)
  in_select_right _ is due n b f c e = never e

  in_select_end : {cell : Span} {depth left right : ℕ} {id begin first colon second : Tok} (k : Kind) → Is k token → ExprDue cell depth entries from (id ∷ begin ∷ first ∷ colon ∷ second ∷ token ∷ here)
      → Is kind.Name id → Is kind.LeftBracket begin → Is (kind.Number left) first → Is kind.Colon colon → Is (kind.Number right) second
      → state_after (select_end_step k (place_at cell depth) id.text.at (range_from left first right second)) entries ≡ Ok after → Meant after from here
  in_select_end {cell} {depth} {left} {right} {id} {first = first} {second = second} kind.RightBracket is due n b f c s e =
      becomes (at (OperandEnd (place_at cell depth)) (added entries (entry.Part id.text.at (range_from left first right second)))) e (at_operand_end (expr_ends due (part n (range b f c s is))))
  in_select_end _ is due n b f c s e = never e

  in_connection_end : {cell : Span} (k : Kind) → Is k token → HasConnections cell entries from (token ∷ here) → state_after (listed_step k (NextConnection cell) (InstanceEnd cell)) entries ≡ Ok after → Meant after from here
  in_connection_end {cell} kind.Comma is h e = becomes (at (NextConnection cell) entries) e (at_next h is)
  in_connection_end {cell} kind.RightParen is (has_connections o are) e = becomes (at (InstanceEnd cell) entries) e (at_instance_end (instance_end o (there are) is))
  in_connection_end _ is h e = never e

  in_instance_end : {cell : Span} (k : Kind) → Is k token → HasInstances cell entries from (token ∷ here) → state_after (item_end_step k (InstanceName cell)) entries ≡ Ok after → Meant after from here
  in_instance_end {cell} kind.Comma is h e = becomes (at (InstanceName cell) entries) e (at_instance (next_instance h is))
  in_instance_end kind.Semicolon is h e = becomes (at Items entries) e (at_items (instances_end h is))
  in_instance_end _ is h e = never e

-- a name that stands for itself, which ends with the token behind it
said_alone : (cell : Span) (depth : ℕ) (entries : List Entry) {after : State} (id : Span) (k : Kind)
    → state_after (saying (behind_expr cell depth k) (entry.Whole id)) entries ≡ Ok after → state_after (behind_expr cell depth k) (added entries (entry.Whole id)) ≡ Ok after
said_alone cell zero entries id kind.RightParen e = e
said_alone cell (suc depth) entries id kind.Comma e = e
said_alone cell (suc depth) entries id kind.RightBrace e = e
said_alone cell zero entries id _ e = never e
said_alone cell (suc depth) entries id _ e = never e

in_name_end : {cell : Span} {depth : ℕ} {id token : Tok} {from here : List Tok} {entries : List Entry} {after : State} (k : Kind) → Is k token → ExprDue cell depth entries from (id ∷ token ∷ here) → Is kind.Name id
    → state_after (name_end_step k (place_at cell depth) id.text.at) entries ≡ Ok after → Meant after from here
in_name_end {cell} {depth} {id} {entries = entries} kind.LeftBracket is due n e = becomes (at (SelectLeft (place_at cell depth) id.text.at) entries) e (at_select due n is)
in_name_end {cell} {depth} {id} {entries = entries} k is due n e = behind_expr_is depth k is (expr_ends due (whole n)) (said_alone cell depth entries id.text.at k e)

-- one token more
moves : {state after : State} {from here : List Tok} {token : Tok} → Meant state from (token ∷ here) → next state token ≡ Ok after → Meant after from here
moves {token = token} (at_modules are) e = in_modules token.text.kind refl are e
moves {token = token} (at_name are m) e = in_name token.text.kind refl are m e
moves {token = token} (at_head b) e = in_head token.text.kind refl b e
moves {token = token} (at_header o) e = in_header_start token.text.kind refl o e
moves {token = token} (at_header_name h c) e = in_header_name token.text.kind refl h c e
moves {token = token} (at_header_more h) e = in_header_more token.text.kind refl h e
moves {token = token} (at_header_end h) e = in_header_end token.text.kind refl h e
moves {token = token} (at_items m) e = in_items token.text.kind refl m e
moves {token = token} (at_way d) e = in_way token.text.kind refl d e
moves {token = token} (at_wire w) e = in_wire token.text.kind refl w e
moves {token = token} (at_left w b) e = in_left token.text.kind refl w b e
moves {token = token} (at_colon w b f) e = in_colon token.text.kind refl w b f e
moves {token = token} (at_right w b f c) e = in_right token.text.kind refl w b f c e
moves {token = token} (at_range_end w b f c s) e = in_range_end token.text.kind refl w b f c s e
moves {token = token} (at_declared_name due) e = in_declared_name token.text.kind refl due e
moves (at_declared {by = by} h) e = in_declared by h e
moves {token = token} (at_next_port h c) e = in_next_port token.text.kind refl h c e
moves {token = token} (at_instance due) e = in_instance token.text.kind refl due e
moves {token = token} (at_instance_open n) e = in_instance_open token.text.kind refl n e
moves {token = token} (at_first o) e = in_first token.text.kind refl o e
moves {token = token} (at_next h c) e = in_next token.text.kind refl h c e
moves {token = token} (at_port due d) e = in_port token.text.kind refl due d e
moves {token = token} (at_port_open n) e = in_port_open token.text.kind refl n e
moves {token = token} (at_joined p) e = in_joined token.text.kind refl p e
moves {token = token} (at_operand due) e = in_operand token.text.kind refl due e
moves {token = token} (at_name_end due n) e = in_name_end token.text.kind refl due n e
moves {token = token} (at_select due n b) e = in_select token.text.kind refl due n b e
moves {token = token} (at_select_next due n b f) e = in_select_next token.text.kind refl due n b f e
moves {token = token} (at_select_right due n b f c) e = in_select_right token.text.kind refl due n b f c e
moves {token = token} (at_select_end due n b f c s) e = in_select_end token.text.kind refl due n b f c s e
moves {token = token} (at_operand_end {depth = depth} x) e = behind_expr_is depth token.text.kind refl x e
moves {token = token} (at_connection_end h) e = in_connection_end token.text.kind refl h e
moves {token = token} (at_instance_end h) e = in_instance_end token.text.kind refl h e

-- the end of the file
ends : {state : State} {from : List Tok} {entries : List Entry} → Meant state from [] → finish state ≡ Ok entries → IsNetlist from entries
ends {from = from} {entries = entries} (at_modules {entries = said} are) e = subst (λ (l : List Entry). IsNetlist from l) (same_ok e) are
ends _ e = never e

along : {state : State} {from here : List Tok} {entries : List Entry} → Meant state from here → Accepts next finish state here entries → IsNetlist from entries
along meant (ended e) = ends meant e
along meant (taken e accepts) = along (moves meant e) accepts

-- tokens that lead from the start to the end are a netlist, and it says what they lead to
pub meaning : (tokens : List Tok) (entries : List Entry) → Accepts next finish first_state tokens entries → IsNetlist tokens entries
meaning tokens entries accepts = along (at_modules none) accepts
