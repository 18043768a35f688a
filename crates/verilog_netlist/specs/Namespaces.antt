-- Names that stand twice where they must differ.
use Rattle.std.specs.Prelude.{◌≡◌, ℕ, ◌+◌, ◌<◌, Bool, true, false, List, take, count_by, slice_get, Option, Some, None}
use Rattle.token_texts.specs.Spans.{text_at}
use Rattle.verilog_netlist.specs.Firsts.{IsFirst}
use Rattle.token_texts.specs.declared.spans.Span.{Span}
use Rattle.verilog_netlist.specs.declared.entries.Decl.TheVariants as decl
use Rattle.verilog_netlist.specs.declared.entries.Entry.{Entry}
use Rattle.verilog_netlist.specs.declared.entries.Entry.TheVariants.{Module, Header, Declared, Instance, Port, Whole, Bit, Part, Constant}
use Rattle.verilog_netlist.specs.declared.namespaces.Names.{Names}
use Rattle.verilog_netlist.specs.declared.namespaces.Names.TheVariants as names

-- the name that an entry speaks of; of a constant the constant itself
abbrev pub name_of : Entry → Span
name_of (Module name) = name
name_of (Header name) = name
name_of (Declared by name bounds) = name
name_of (Instance cell name) = name
name_of (Port name) = name
name_of (Whole name) = name
name_of (Bit name place) = name
name_of (Part name bounds) = name
name_of (Constant token) = token

-- the names among which an entry's name must be new
abbrev pub own_names : Entry → Option Names
own_names (Module name) = Some names.Modules
own_names (Header name) = Some names.Headers
own_names (Declared decl.Wire name bounds) = Some names.Wires
own_names (Declared by name bounds) = Some names.Directions
own_names (Instance cell name) = Some names.Instances
own_names (Port name) = Some names.Ports
own_names _ = None

-- a name that a direction declares in a header is a name of the header, too
abbrev pub header_names : Entry → Option Names
header_names (Declared (decl.InHeader way) name bounds) = Some names.Headers
header_names _ = None

pub data IsAmong (among : Names) (entry : Entry) : Type 0 where
  by_own : own_names entry ≡ Some among → IsAmong among entry
  in_header : header_names entry ≡ Some among → IsAmong among entry

abbrev pub begins_module : Entry → Bool
begins_module (Module name) = true
begins_module _ = false

abbrev pub begins_instance : Entry → Bool
begins_instance (Instance cell name) = true
begins_instance _ = false

-- where names must differ: in the file, in one instance, or in one module, which are told apart by how many have begun up to a place
abbrev pub scope_of : Names → List Entry → ℕ → ℕ
scope_of names.Modules entries place = 0
scope_of names.Ports entries place = count_by begins_instance (take (place + 1) entries)
scope_of _ entries place = count_by begins_module (take (place + 1) entries)

-- the name of the entry at this place stands before it, among the same names and in the same scope
pub record IsRepeated (bytes : List ℕ) (entries : List Entry) (place : ℕ) : Type 0 where
  pub among : Names
  pub before : ℕ
  pub one : Entry
  pub again : Entry
  pub below : before < place
  pub one_stands : slice_get entries before ≡ Some one
  pub again_stands : slice_get entries place ≡ Some again
  pub one_among : IsAmong among one
  pub again_among : IsAmong among again
  pub one_scope : scope_of among entries before ≡ scope_of among entries place
  pub one_text : text_at bytes (name_of one) ≡ text_at bytes (name_of again)

-- the first entry whose name is repeated, or none
abbrev pub IsFirstRepeated : List ℕ → List Entry → Option ℕ → Type 0
IsFirstRepeated bytes entries = IsFirst (IsRepeated bytes entries)
