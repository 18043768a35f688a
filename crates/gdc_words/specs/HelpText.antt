-- The texts of the commands `--help` and `--version`. That of help is made of the tables of commands and keys by which the words
-- are read.
use Rattle.std.specs.Prelude.{ℕ, List, [], ◌∷◌, ◌++◌, codes}
use Rattle.std.specs.List.{flat_map}
use Rattle.gdc_words.specs.declared.commands.Command.{Command}
use Rattle.gdc_words.specs.declared.commands.Command.TheVariants.{Wires, Calc, Show, Lookup, Flat, Trial, Help, Version}
use Rattle.gdc_words.specs.declared.commands.Key.{Key}
use Rattle.gdc_words.specs.declared.commands.Key.TheVariants.{Spef, Triple, Sdf, Netlist, Top, Lib, LibMin, LibTyp, LibMax, Cell, Slew, Load, InputSlew, PortLoad, Missing, WireSlew, Outside, Shape, Size}
use Rattle.gdc_words.specs.declared.commands.Libraries.{Libraries}
use Rattle.gdc_words.specs.declared.commands.Libraries.TheVariants.{One, EachCorner}
use Rattle.gdc_words.specs.CommandLine.{key_word, needed_keys, further_keys}

-- the commands, in the order in which they are told
abbrev pub commands : List Command
commands = Wires ∷ Calc ∷ Show ∷ Lookup ∷ Flat ∷ Trial ∷ Help ∷ Version ∷ []

-- the word of a command
abbrev pub command_word : Command → List ℕ
command_word Wires = codes "wires"
command_word Calc = codes "calc"
command_word Show = codes "show"
command_word Lookup = codes "lookup"
command_word Flat = codes "flat"
command_word Trial = codes "trial"
command_word Help = codes "--help"
command_word Version = codes "--version"

-- what stands for the value of a key
abbrev pub value_word : Key → List ℕ
value_word Spef = codes "FILE"
value_word Triple = codes "min|typ|max"
value_word Sdf = codes "FILE"
value_word Netlist = codes "FILE"
value_word Top = codes "MODULE"
value_word Lib = codes "FILE"
value_word LibMin = codes "FILE"
value_word LibTyp = codes "FILE"
value_word LibMax = codes "FILE"
value_word Cell = codes "CELL"
value_word Slew = codes "PICOSECONDS"
value_word Load = codes "FEMTOFARADS"
value_word InputSlew = codes "PICOSECONDS"
value_word PortLoad = codes "FEMTOFARADS"
value_word Missing = codes "refuse|zero"
value_word WireSlew = codes "none|rss"
value_word Outside = codes "refuse|edge|extend"
value_word Shape = codes "chain|block"
value_word Size = codes "N"

-- what a command does
abbrev pub purpose : Command → List ℕ
purpose Wires = codes "writes the delays of the wires of a SPEF file as SDF"
purpose Calc = codes "writes the delays of the wires and of the cells of a design as SDF"
purpose Show = codes "prints the rows of an SDF file, and their summary"
purpose Lookup = codes "prints the delay and the transition of each arc of a cell of a Liberty library, at one slew and one load"
purpose Flat = codes "prints the instances and the nets of a design, with what drives them"
purpose Trial = codes "calculates a design of such a shape and size, which needs no file, and prints the summary of its delays"
purpose Help = codes "prints this text"
purpose Version = codes "prints the version"

-- a line, ended by the byte 10
abbrev pub line : List ℕ → List ℕ
line text = text ++ 10 ∷ []

-- a key that is needed, with its value, and one that may be left out, which stands in brackets
abbrev pub needed_text : Key → List ℕ
needed_text key = codes " " ++ (key_word key ++ (codes " " ++ value_word key))

abbrev pub further_text : Key → List ℕ
further_text key = codes " [" ++ (key_word key ++ (codes " " ++ (value_word key ++ codes "]")))

-- the line of a command's word with its keys beside such libraries
abbrev pub keys_line : Command → Libraries → List ℕ
keys_line command libraries =
    line (codes "  " ++ (command_word command
    ++ (flat_map needed_text (needed_keys command libraries) ++ flat_map further_text (further_keys command libraries))))

-- the lines of a command's keys: the calculation has a second one, with a library for each corner
abbrev pub keys_lines : Command → List ℕ
keys_lines Calc = keys_line Calc One ++ keys_line Calc EachCorner
keys_lines Wires = keys_line Wires One
keys_lines Show = keys_line Show One
keys_lines Lookup = keys_line Lookup One
keys_lines Flat = keys_line Flat One
keys_lines Trial = keys_line Trial One
keys_lines Help = keys_line Help One
keys_lines Version = keys_line Version One

-- the lines of a command: its keys, and what it does
abbrev pub command_lines : Command → List ℕ
command_lines command = keys_lines command ++ line (codes "      " ++ purpose command)

-- the statuses with which the program ends
abbrev pub status_lines : List ℕ
status_lines =
    line (codes "Status:")
    ++ (line (codes "  0  done")
    ++ (line (codes "  1  an input is refused")
    ++ (line (codes "  2  the words are faulty")
    ++ (line (codes "  3  a file could not be read")
    ++ (line (codes "  4  the output could not be written")
    ++ line (codes "  5  memory ran out"))))))

-- what `--help` prints
abbrev pub help_text : List ℕ
help_text =
    line (codes "gdc computes delays for chip sign-off: of the wires and the cells of a design, from SPEF and Liberty to SDF.")
    ++ (line (codes "Commands, each with its keys:")
    ++ (flat_map command_lines commands ++ status_lines))

-- what `--version` prints: the version that stands in the SDF files that the program writes, too
abbrev pub version_text : List ℕ
version_text = line (codes "gdc 1")
