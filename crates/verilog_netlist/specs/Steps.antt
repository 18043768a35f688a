-- What each token does, by what is waited for. It is the grammar unrolled for the reader's loop; the proofs show that both say the same.
use Rattle.std.specs.Prelude.{ℕ, zero, suc, nat_lt, if◌then◌else◌, Option, Some, None}
use Rattle.token_texts.specs.declared.spans.Span.{Span}
use Rattle.verilog_netlist.specs.declared.kinds.Kind.{Kind}
use Rattle.verilog_netlist.specs.declared.kinds.Kind.TheVariants as kind
use Rattle.verilog_netlist.specs.declared.entries.Direction.{Direction}
use Rattle.verilog_netlist.specs.declared.entries.Direction.TheVariants.{In, Out}
use Rattle.verilog_netlist.specs.declared.entries.Decl.{Decl}
use Rattle.verilog_netlist.specs.declared.entries.Decl.TheVariants as decl
use Rattle.verilog_netlist.specs.declared.entries.Range.{Range}
use Rattle.verilog_netlist.specs.declared.entries.Entry.{Entry}
use Rattle.verilog_netlist.specs.declared.entries.Entry.TheVariants as entry
use Rattle.verilog_netlist.specs.declared.modes.Bound.{Bound}
use Rattle.verilog_netlist.specs.declared.modes.Place.{Place}
use Rattle.verilog_netlist.specs.declared.modes.Mode.{Mode}
use Rattle.verilog_netlist.specs.declared.modes.Mode.TheVariants.{Modules, ModuleName, ModuleHead, HeaderStart, HeaderName, HeaderMore, HeaderEnd, Items, AfterWay, AfterWire, RangeLeft, RangeColon, RangeRight, RangeEnd, DeclaredName, DeclaredMore, NextPort, InstanceName, InstanceOpen, FirstConnection, NextConnection, PortName, PortOpen, Joined, Operand, NameEnd, SelectLeft, SelectNext, SelectRight, SelectEnd, OperandEnd, ConnectionEnd, InstanceEnd}

-- a token cannot stand here; or something else is waited for; or the same, and the token says something
pub data Step : Type 0 where
  Refuse : Step
  Go : Mode → Step
  Put : Mode → Entry → Step

-- a name that says something
abbrev pub name_step : Kind → Mode → Entry → Step
name_step kind.Name mode said = Put mode said
name_step _ mode said = Refuse

-- a `(`
abbrev pub open_step : Kind → Mode → Step
open_step kind.LeftParen mode = Go mode
open_step _ mode = Refuse

-- behind a piece of a list in parentheses: a comma and one more, or the `)`
abbrev pub listed_step : Kind → Mode → Mode → Step
listed_step kind.Comma more end = Go more
listed_step kind.RightParen more end = Go end
listed_step _ more end = Refuse

-- behind a piece of an item: a comma and one more, or the `;`
abbrev pub item_end_step : Kind → Mode → Step
item_end_step kind.Comma more = Go more
item_end_step kind.Semicolon more = Go Items
item_end_step _ more = Refuse

abbrev pub modules_step : Kind → Step
modules_step kind.Module = Go ModuleName
modules_step _ = Refuse

abbrev pub module_head_step : Kind → Step
module_head_step kind.LeftParen = Go HeaderStart
module_head_step kind.Semicolon = Go Items
module_head_step _ = Refuse

-- in the header of a module
abbrev pub header_start_step : Kind → Span → Step
header_start_step kind.Name at = Put HeaderMore (entry.Header at)
header_start_step kind.Input at = Go (AfterWay (decl.InHeader In))
header_start_step kind.Output at = Go (AfterWay (decl.InHeader Out))
header_start_step kind.RightParen at = Go HeaderEnd
header_start_step _ at = Refuse

abbrev pub header_end_step : Kind → Step
header_end_step kind.Semicolon = Go Items
header_end_step _ = Refuse

-- where an item may begin
abbrev pub items_step : Kind → Span → Step
items_step kind.Input at = Go (AfterWay (decl.Port In))
items_step kind.Output at = Go (AfterWay (decl.Port Out))
items_step kind.Wire at = Go (AfterWire decl.Wire)
items_step kind.Name at = Go (InstanceName at)
items_step kind.EndModule at = Go Modules
items_step _ at = Refuse

-- a range, or a name that is declared without one
abbrev pub after_wire_step : Kind → Span → Decl → Step
after_wire_step kind.LeftBracket at by = Go (RangeLeft by)
after_wire_step kind.Name at by = Put (DeclaredMore by None) (entry.Declared by at None)
after_wire_step _ at by = Refuse

abbrev pub after_way_step : Kind → Span → Decl → Step
after_way_step kind.Wire at by = Go (AfterWire by)
after_way_step k at by = after_wire_step k at by

abbrev pub bound_at : ℕ → Span → Bound
bound_at value at = record { value = value; at = at.start }

-- the range from this bound to that of the number at a place
abbrev pub range_between : Bound → ℕ → Span → Range
range_between left right at = record { left = left.value; right = right; left_at = left.at; right_at = at.start }

abbrev pub range_left_step : Kind → Span → Decl → Step
range_left_step (kind.Number left) at by = Go (RangeColon by (bound_at left at))
range_left_step _ at by = Refuse

abbrev pub range_colon_step : Kind → Decl → Bound → Step
range_colon_step kind.Colon by left = Go (RangeRight by left)
range_colon_step _ by left = Refuse

abbrev pub range_right_step : Kind → Span → Decl → Bound → Step
range_right_step (kind.Number right) at by left = Go (RangeEnd by (range_between left right at))
range_right_step _ at by left = Refuse

abbrev pub range_end_step : Kind → Decl → Range → Step
range_end_step kind.RightBracket by bounds = Go (DeclaredName by (Some bounds))
range_end_step _ by bounds = Refuse

abbrev pub declared_more_step : Kind → Decl → Option Range → Step
declared_more_step k (decl.InHeader way) bounds = listed_step k (NextPort way bounds) HeaderEnd
declared_more_step k by bounds = item_end_step k (DeclaredName by bounds)

abbrev pub next_port_step : Kind → Span → Direction → Option Range → Step
next_port_step kind.Name at way bounds = Put (DeclaredMore (decl.InHeader way) bounds) (entry.Declared (decl.InHeader way) at bounds)
next_port_step kind.Input at way bounds = Go (AfterWay (decl.InHeader In))
next_port_step kind.Output at way bounds = Go (AfterWay (decl.InHeader Out))
next_port_step _ at way bounds = Refuse

abbrev pub first_connection_step : Kind → Span → Step
first_connection_step kind.Dot cell = Go (PortName cell)
first_connection_step kind.RightParen cell = Go (InstanceEnd cell)
first_connection_step _ cell = Refuse

abbrev pub next_connection_step : Kind → Span → Step
next_connection_step kind.Dot cell = Go (PortName cell)
next_connection_step _ cell = Refuse

abbrev pub place_at : Span → ℕ → Place
place_at cell depth = record { cell = cell; depth = depth }

-- one more `{`, unless sixteen are open
abbrev pub open_brace : Place → Step
open_brace place = if nat_lt place.depth 16 then Go (Operand (place_at place.cell (suc place.depth))) else Refuse

abbrev pub operand_step : Kind → Span → Place → Step
operand_step kind.Name at place = Go (NameEnd place at)
operand_step kind.Constant at place = Put (OperandEnd place) (entry.Constant at)
operand_step kind.LeftBrace at place = open_brace place
operand_step _ at place = Refuse

abbrev pub joined_step : Kind → Span → Span → Step
joined_step kind.RightParen at cell = Go (ConnectionEnd cell)
joined_step k at cell = operand_step k at (place_at cell 0)

-- behind an expression, inside so many `{`
abbrev pub behind_expr : Span → ℕ → Kind → Step
behind_expr cell zero kind.RightParen = Go (ConnectionEnd cell)
behind_expr cell zero _ = Refuse
behind_expr cell (suc depth) kind.Comma = Go (Operand (place_at cell (suc depth)))
behind_expr cell (suc depth) kind.RightBrace = Go (OperandEnd (place_at cell depth))
behind_expr cell (suc depth) _ = Refuse

abbrev pub operand_end_step : Kind → Place → Step
operand_end_step k place = behind_expr place.cell place.depth k

-- a step that says something besides
abbrev pub saying : Step → Entry → Step
saying (Go mode) said = Put mode said
saying step said = step

abbrev pub name_end_step : Kind → Place → Span → Step
name_end_step kind.LeftBracket place id = Go (SelectLeft place id)
name_end_step k place id = saying (operand_end_step k place) (entry.Whole id)

abbrev pub select_left_step : Kind → Span → Place → Span → Step
select_left_step (kind.Number left) at place id = Go (SelectNext place id (bound_at left at))
select_left_step _ at place id = Refuse

abbrev pub select_next_step : Kind → Place → Span → Bound → Step
select_next_step kind.RightBracket place id left = Put (OperandEnd place) (entry.Bit id left.value)
select_next_step kind.Colon place id left = Go (SelectRight place id left)
select_next_step _ place id left = Refuse

abbrev pub select_right_step : Kind → Span → Place → Span → Bound → Step
select_right_step (kind.Number right) at place id left = Go (SelectEnd place id (range_between left right at))
select_right_step _ at place id left = Refuse

abbrev pub select_end_step : Kind → Place → Span → Range → Step
select_end_step kind.RightBracket place id bounds = Put (OperandEnd place) (entry.Part id bounds)
select_end_step _ place id bounds = Refuse

-- what a token of this kind at this place of the file does
abbrev pub step_in : Mode → Kind → Span → Step
step_in Modules k at = modules_step k
step_in ModuleName k at = name_step k ModuleHead (entry.Module at)
step_in ModuleHead k at = module_head_step k
step_in HeaderStart k at = header_start_step k at
step_in HeaderName k at = name_step k HeaderMore (entry.Header at)
step_in HeaderMore k at = listed_step k HeaderName HeaderEnd
step_in HeaderEnd k at = header_end_step k
step_in Items k at = items_step k at
step_in (AfterWay by) k at = after_way_step k at by
step_in (AfterWire by) k at = after_wire_step k at by
step_in (RangeLeft by) k at = range_left_step k at by
step_in (RangeColon by left) k at = range_colon_step k by left
step_in (RangeRight by left) k at = range_right_step k at by left
step_in (RangeEnd by bounds) k at = range_end_step k by bounds
step_in (DeclaredName by bounds) k at = name_step k (DeclaredMore by bounds) (entry.Declared by at bounds)
step_in (DeclaredMore by bounds) k at = declared_more_step k by bounds
step_in (NextPort way bounds) k at = next_port_step k at way bounds
step_in (InstanceName cell) k at = name_step k (InstanceOpen cell) (entry.Instance cell at)
step_in (InstanceOpen cell) k at = open_step k (FirstConnection cell)
step_in (FirstConnection cell) k at = first_connection_step k cell
step_in (NextConnection cell) k at = next_connection_step k cell
step_in (PortName cell) k at = name_step k (PortOpen cell) (entry.Port at)
step_in (PortOpen cell) k at = open_step k (Joined cell)
step_in (Joined cell) k at = joined_step k at cell
step_in (Operand place) k at = operand_step k at place
step_in (NameEnd place id) k at = name_end_step k place id
step_in (SelectLeft place id) k at = select_left_step k at place id
step_in (SelectNext place id left) k at = select_next_step k place id left
step_in (SelectRight place id left) k at = select_right_step k at place id left
step_in (SelectEnd place id bounds) k at = select_end_step k place id bounds
step_in (OperandEnd place) k at = operand_end_step k place
step_in (ConnectionEnd cell) k at = listed_step k (NextConnection cell) (InstanceEnd cell)
step_in (InstanceEnd cell) k at = item_end_step k (InstanceName cell)
