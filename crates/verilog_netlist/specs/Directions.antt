-- Names of headers without a direction, and names with a direction that the header lacks.
use Rattle.std.specs.Prelude.{◌≡◌, ℕ, List, slice_get, Option, Some, None}
use Rattle.token_texts.specs.Spans.{text_at}
use Rattle.verilog_netlist.specs.Firsts.{IsFirst}
use Rattle.verilog_netlist.specs.Namespaces.{name_of, IsAmong, scope_of}
use Rattle.verilog_netlist.specs.declared.entries.Entry.{Entry}
use Rattle.verilog_netlist.specs.declared.namespaces.Names.{Names}
use Rattle.verilog_netlist.specs.declared.namespaces.Names.TheVariants as names

-- a name of a header has a direction, and a name with a direction stands in the header
abbrev pub paired_names : Names → Option Names
paired_names names.Headers = Some names.Directions
paired_names names.Directions = Some names.Headers
paired_names _ = None

-- this text is one of these names, in the scope of this place, before the place or behind it
pub record StandsAmong (bytes : List ℕ) (entries : List Entry) (among : Names) (place : ℕ) (text : List ℕ) : Type 0 where
  pub at : ℕ
  pub one : Entry
  pub one_stands : slice_get entries at ≡ Some one
  pub one_among : IsAmong among one
  pub one_scope : scope_of among entries at ≡ scope_of among entries place
  pub one_text : text_at bytes (name_of one) ≡ text

-- the name at this place stands in the header of its module without a direction, or has a direction and the header lacks it
pub record IsUnpaired (bytes : List ℕ) (entries : List Entry) (place : ℕ) : Type 0 where
  pub among : Names
  pub other : Names
  pub one : Entry
  pub one_stands : slice_get entries place ≡ Some one
  pub one_among : IsAmong among one
  pub pair : paired_names among ≡ Some other
  pub lacks : StandsAmong bytes entries other place (text_at bytes (name_of one)) → ⊥

-- the first entry with such a name, or none
abbrev pub IsFirstUnpaired : List ℕ → List Entry → Option ℕ → Type 0
IsFirstUnpaired bytes entries = IsFirst (IsUnpaired bytes entries)
