-- The modules of a netlist.
use Rattle.std.specs.Prelude.{ℕ, zero, suc, ◌+◌, ◌-◌, ◌^◌, ◌≤◌, nat_lt, if◌then◌else◌, List, [], ◌∷◌, map, take_while, get_or, Option, Some, None, ⊤}
use Rattle.std.specs.List.{flat_map}
use Rattle.token_texts.specs.Spans.{text_at}
use Rattle.verilog_netlist.specs.Namespaces.{name_of, begins_module, begins_instance}
use Rattle.verilog_netlist.specs.Ranges.{constant_width, width_of, whole_width}
use Rattle.verilog_netlist.specs.Parts.{Part, parts, begins_connection, is_expression}
use Rattle.verilog_netlist.specs.ModuleNames.{NetName, no_name, names_in, number_of, range_of}
use Rattle.token_texts.specs.declared.spans.Span.{Span}
use Rattle.verilog_netlist.specs.declared.entries.Range.{Range}
use Rattle.verilog_netlist.specs.declared.entries.Entry.{Entry}
use Rattle.verilog_netlist.specs.declared.entries.Entry.TheVariants as entry
use Rattle.verilog_netlist.specs.declared.runs.Bit.{Bit}
use Rattle.verilog_netlist.specs.declared.runs.Bit.TheVariants.{Tied, Wire}
use Rattle.verilog_netlist.specs.declared.runs.Run.{Run}

-- a connection: the port, and what is joined to it, from the left, as runs of bits
pub record NetConnection : Type 0 where
  pub port : List ℕ
  pub runs : List Run

-- an instance: of which cell or module, its name, its connections as written
pub record NetInstance : Type 0 where
  pub cell : List ℕ
  pub name : List ℕ
  pub connections : List NetConnection

pub record NetModule : Type 0 where
  pub name : List ℕ
  pub names : List NetName
  pub instances : List NetInstance

-- the bit to the right, and one so many places to the right
abbrev pub bit_after : Bit → ℕ → Bit
bit_after Tied n = Tied
bit_after (Wire name bit) n = Wire name (bit + n)

-- so many bits from this one on, to the right
abbrev pub bits_from : Bit → ℕ → List Bit
bits_from first zero = []
bits_from first (suc n) = first ∷ bits_from (bit_after first 1) n

abbrev pub bits_of_run : Run → List Bit
bits_of_run run = bits_from run.first run.count

-- the bits of runs, one run after another
abbrev pub bits_in : List Run → List Bit
bits_in runs = flat_map bits_of_run runs

-- the place in a range from the left
abbrev pub from_left : Option Range → ℕ → ℕ
from_left None place = 0
from_left (Some range) place = if nat_lt range.left range.right then place - range.left else range.left - place

-- the cell or the module of an instance
abbrev pub cell_of : Entry → Span
cell_of (entry.Instance cell name) = cell
cell_of other = name_of other

module _ (names : List NetName) where
  -- the bits of an expression: its first bit, and how many there are to the right
  abbrev pub whole_run : ℕ → Run
  whole_run number = record { first = Wire number 0; count = whole_width (range_of names number) }

  abbrev pub bit_run : ℕ → ℕ → Run
  bit_run number place = record { first = Wire number (from_left (range_of names number) place); count = 1 }

  abbrev pub part_run : ℕ → Range → Run
  part_run number select = record { first = Wire number (from_left (range_of names number) select.left); count = width_of select }

module _ (bytes : List ℕ) (names : List NetName) where
  -- what is no expression has none
  abbrev pub run_of : Entry → Run
  run_of (entry.Whole name) = whole_run names (number_of names (text_at bytes name))
  run_of (entry.Bit name place) = bit_run names (number_of names (text_at bytes name)) place
  run_of (entry.Part name select) = part_run names (number_of names (text_at bytes name)) select
  run_of (entry.Constant token) = record { first = Tied; count = constant_width (text_at bytes token) }
  run_of _ = record { first = Tied; count = 0 }

  abbrev pub joined_bits : Entry → List Bit
  joined_bits expression = bits_of_run (run_of expression)

  abbrev pub connection_of : Part → NetConnection
  connection_of part = record { port = text_at bytes (name_of part.head); runs = map run_of (take_while is_expression part.behind) }

  abbrev pub instance_of : Part → NetInstance
  instance_of part = record {
    cell = text_at bytes (cell_of part.head);
    name = text_at bytes (name_of part.head);
    connections = map connection_of (parts begins_connection part.behind);
  }

abbrev pub module_of : List ℕ → Part → NetModule
module_of bytes part =
    let names = names_in bytes part.behind in
    record {
      name = text_at bytes (name_of part.head);
      names = names;
      instances = map (instance_of bytes names) (parts begins_instance part.behind);
    }

-- the modules of the file
abbrev pub modules_of : List ℕ → List Entry → List NetModule
modules_of bytes entries = map (module_of bytes) (parts begins_module entries)

abbrev pub no_module : NetModule
no_module = record { name = []; names = []; instances = [] }

abbrev pub no_instance : NetInstance
no_instance = record { cell = []; name = []; connections = [] }

abbrev pub no_connection : NetConnection
no_connection = record { port = []; runs = [] }

abbrev pub module_at : List NetModule → ℕ → NetModule
module_at modules m = get_or modules m no_module

abbrev pub name_at : List NetModule → ℕ → ℕ → NetName
name_at modules m i = get_or (module_at modules m).names i no_name

abbrev pub instance_at : List NetModule → ℕ → ℕ → NetInstance
instance_at modules m k = get_or (module_at modules m).instances k no_instance

abbrev pub connection_at : List NetModule → ℕ → ℕ → ℕ → NetConnection
connection_at modules m k c = get_or (instance_at modules m k).connections c no_connection

-- the runs of a connection, and what is joined to each of its bits
abbrev pub runs_at : List NetModule → ℕ → ℕ → ℕ → List Run
runs_at modules m k c = (connection_at modules m k c).runs

abbrev pub bits_at : List NetModule → ℕ → ℕ → ℕ → List Bit
bits_at modules m k c = bits_in (runs_at modules m k c)

-- a run of at most 2 ^ 32 bits, of which the first is at most as far from the left
abbrev pub IsNear : Bit → Type 0
IsNear Tied = ⊤
IsNear (Wire name bit) = bit ≤ 2 ^ 32

pub record HasFewBits (run : Run) : Type 0 where
  pub near : IsNear run.first
  pub few : run.count ≤ 2 ^ 32
