-- The names of a module, in order, and what they are.
use Rattle.std.specs.Prelude.{ℕ, Bool, true, false, List, [], ◌∷◌, ◌++◌, map, filter, get_or, Option, Some, None, if◌then◌else◌}
use Rattle.std.specs.List.{position_or_len}
use Rattle.std.specs.Option.{option_or}
use Rattle.std.specs.Str.{bytes_eq}
use Rattle.indexmap.specs.IndexSet.{insert_all}
use Rattle.token_texts.specs.Spans.{text_at}
use Rattle.verilog_netlist.specs.Namespaces.{name_of}
use Rattle.verilog_netlist.specs.Ranges.{declared_range}
use Rattle.verilog_netlist.specs.declared.declared.Declaration.{Declaration}
use Rattle.verilog_netlist.specs.declared.entries.Direction.{Direction}
use Rattle.verilog_netlist.specs.declared.entries.Direction.TheVariants as direction
use Rattle.verilog_netlist.specs.declared.entries.Decl.{Decl}
use Rattle.verilog_netlist.specs.declared.entries.Decl.TheVariants as decl
use Rattle.verilog_netlist.specs.declared.entries.Range.{Range}
use Rattle.verilog_netlist.specs.declared.entries.Entry.{Entry}
use Rattle.verilog_netlist.specs.declared.entries.Entry.TheVariants.{Header, Declared, Whole, Bit, Part}
use Rattle.verilog_netlist.specs.declared.net_names.Way.{Way}
use Rattle.verilog_netlist.specs.declared.net_names.Way.TheVariants as way
use Rattle.verilog_netlist.specs.declared.net_names.Group.{Group}
use Rattle.verilog_netlist.specs.declared.net_names.Group.TheVariants as group

-- a name of a module: its text, whether it is a port, and its range
pub record NetName : Type 0 where
  pub text : List ℕ
  pub way : Way
  pub range : Option Range

-- a name of the header, one that `wire` declares, one that is joined to a port
abbrev pub is_in : Group → Entry → Bool
is_in group.Headers (Header name) = true
is_in group.Headers (Declared (decl.InHeader direction) name bounds) = true
is_in group.Wires (Declared decl.Wire name bounds) = true
is_in group.Joined (Whole name) = true
is_in group.Joined (Bit name place) = true
is_in group.Joined (Part name bounds) = true
is_in _ _ = false

abbrev pub direction_by : Decl → Option Direction
direction_by (decl.InHeader direction) = Some direction
direction_by (decl.Port direction) = Some direction
direction_by decl.Wire = None

abbrev pub way_of : Option Direction → Way
way_of None = way.Inner
way_of (Some direction.In) = way.In
way_of (Some direction.Out) = way.Out

-- what the first of these entries says that says something
abbrev pub first_said : {X : Type 0} → (Entry → Option X) → List Entry → Option X
first_said says [] = None
first_said says (entry ∷ entries) = option_or (says entry) (first_said says entries)

module _ (bytes : List ℕ) where
  abbrev pub texts_of : Group → List Entry → List (List ℕ)
  texts_of of entries = map (λ entry. text_at bytes (name_of entry)) (filter (is_in of) entries)

  -- the names of the header, then those that `wire` declares, then those that are joined to ports; each once, where it first comes
  abbrev pub texts_in : List Entry → List (List ℕ)
  texts_in entries = insert_all bytes_eq []
      (texts_of group.Headers entries ++ (texts_of group.Wires entries ++ texts_of group.Joined entries))

  -- how an entry declares this name, and with which direction
  abbrev pub declaration_of : List ℕ → Entry → Option Declaration
  declaration_of text (Declared by name bounds) =
      if bytes_eq (text_at bytes name) text then Some (record { by = by; range = bounds }) else None
  declaration_of text _ = None

  abbrev pub direction_of : List ℕ → Entry → Option Direction
  direction_of text (Declared by name bounds) = if bytes_eq (text_at bytes name) text then direction_by by else None
  direction_of text _ = None

  -- the name of this text, as these entries of its module declare it
  abbrev pub name_in : List Entry → List ℕ → NetName
  name_in entries text = record {
    text = text;
    way = way_of (first_said (direction_of text) entries);
    range = declared_range (first_said (declaration_of text) entries);
  }

  abbrev pub names_in : List Entry → List NetName
  names_in entries = map (name_in entries) (texts_in entries)

-- the number of a name: its place among the names of its module
abbrev pub number_of : List NetName → List ℕ → ℕ
number_of names text = position_or_len (λ name. bytes_eq text name.text) names

abbrev pub no_name : NetName
no_name = record { text = []; way = way.Inner; range = None }

abbrev pub range_of : List NetName → ℕ → Option Range
range_of names number = (get_or names number no_name).range
