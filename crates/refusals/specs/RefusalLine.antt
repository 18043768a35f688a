-- The line that a refusal is printed as: its words, parted by single spaces.
use Rattle.std.specs.Prelude.{ℕ, ◌==◌, if◌then◌else◌, List, [], ◌∷◌, ◌++◌, Option, Some, None, codes, decimal, flat_map}
use Rattle.std.specs.Fmt.{signed_decimal}
use Rattle.liberty_groups.specs.declared.faults.Cause.{Cause}
use Rattle.liberty_groups.specs.declared.faults.Cause.TheVariants.{BadByte, OpenText, OpenComment, Unexpected, EndInside, TooDeep, NotLibrary}
use Rattle.nldm_lookup.specs.declared.faults.Which.{Which}
use Rattle.nldm_lookup.specs.declared.faults.Which.TheVariants.{Slew, Load}
use Rattle.liberty_tables.specs.declared.faults.CellFault.{CellFault}
use Rattle.liberty_tables.specs.declared.faults.CellFault.TheVariants as fault
use Rattle.cell_models.specs.declared.edge.Edge.{Edge}
use Rattle.cell_models.specs.declared.edge.Edge.TheVariants.{Rise, Fall}
use Rattle.cell_models.specs.declared.edge.Part.{Part}
use Rattle.cell_models.specs.declared.edge.Part.TheVariants.{Delay, Transition}
use Rattle.refusals.specs.declared.refusal.FileKey.{FileKey}
use Rattle.refusals.specs.declared.refusal.FileKey.TheVariants as key
use Rattle.refusals.specs.declared.refusal.LimitKind.{LimitKind}
use Rattle.refusals.specs.declared.refusal.LimitKind.TheVariants as limit
use Rattle.refusals.specs.declared.refusal.NumberKind.{NumberKind}
use Rattle.refusals.specs.declared.refusal.NumberKind.TheVariants.{BadUnit, BadNumber, ValueTooLarge}
use Rattle.refusals.specs.declared.refusal.IndexKind.{IndexKind}
use Rattle.refusals.specs.declared.refusal.IndexKind.TheVariants.{Unknown, Repeated}
use Rattle.refusals.specs.declared.refusal.Refusal.{Refusal}
use Rattle.refusals.specs.declared.refusal.Refusal.TheVariants as refusal

-- the key of a file
abbrev pub key_text : FileKey → List ℕ
key_text key.Netlist = codes "--netlist"
key_text key.Lib = codes "--lib"
key_text key.LibMin = codes "--lib-min"
key_text key.LibTyp = codes "--lib-typ"
key_text key.LibMax = codes "--lib-max"
key_text key.Spef = codes "--spef"
key_text key.Sdf = codes "--sdf"

-- what is wrong with a number
abbrev pub number_text : NumberKind → List ℕ
number_text BadUnit = codes "bad unit"
number_text BadNumber = codes "bad number"
number_text ValueTooLarge = codes "value too large"

-- what is wrong with an index
abbrev pub index_text : IndexKind → List ℕ
index_text Unknown = codes "unknown"
index_text Repeated = codes "repeated"

-- how a corner of a run is printed: `only` where the run has one, and else as the member of a triple that counts at it
abbrev pub corner_text : ℕ → ℕ → List ℕ
corner_text corners corner =
    if corners == 1 then codes "only" else if corner == 0 then codes "min" else if corner == 1 then codes "typ" else codes "max"

-- a node is printed as its head, and where it has a tail as `:` and the tail after it
abbrev pub node_text : List ℕ → Option (List ℕ) → List ℕ
node_text head None = head
node_text head (Some tail) = head ++ (codes ":" ++ tail)

-- a pin of an instance
abbrev pub pin_text : List ℕ → List ℕ → List ℕ
pin_text instance pin = instance ++ (codes "/" ++ pin)

-- the cause of a fault of a library
abbrev pub cause_text : Cause → List ℕ
cause_text BadByte = codes "bad byte"
cause_text OpenText = codes "open text"
cause_text OpenComment = codes "open comment"
cause_text Unexpected = codes "unexpected"
cause_text EndInside = codes "end inside"
cause_text TooDeep = codes "too deep"
cause_text NotLibrary = codes "not library"

-- the fault of a cell
abbrev pub fault_text : CellFault → List ℕ
fault_text fault.NoSuchCell = codes "no such cell"
fault_text fault.BadUnit = codes "bad unit"
fault_text fault.BadDirection = codes "bad direction"
fault_text fault.BadNumber = codes "bad number"
fault_text fault.UnknownRelatedPin = codes "unknown related pin"
fault_text fault.UnknownTemplate = codes "unknown template"
fault_text fault.UnknownVariable = codes "unknown variable"
fault_text fault.BadAxis = codes "bad axis"
fault_text fault.BadTable = codes "bad table"
fault_text fault.NoTransition = codes "no transition"
fault_text fault.NegativeTransition = codes "negative transition"
fault_text fault.OutOfMemory = codes "out of memory"

abbrev pub edge_text : Edge → List ℕ
edge_text Rise = codes "rise"
edge_text Fall = codes "fall"

abbrev pub part_text : Part → List ℕ
part_text Delay = codes "delay"
part_text Transition = codes "transition"

abbrev pub axis_text : Which → List ℕ
axis_text Slew = codes "slew"
axis_text Load = codes "load"

-- the words of a limit that is passed
abbrev pub limit_words : LimitKind → List (List ℕ)
limit_words (limit.File key) = codes "E50 limit" ∷ codes "file" ∷ key_text key ∷ []
limit_words limit.Depth = codes "E50 limit" ∷ codes "depth" ∷ []
limit_words limit.Instances = codes "E50 limit" ∷ codes "instances" ∷ []
limit_words limit.Names = codes "E50 limit" ∷ codes "names" ∷ []
limit_words limit.Pins = codes "E50 limit" ∷ codes "pins" ∷ []
limit_words (limit.Net net) = codes "E50 limit" ∷ codes "net" ∷ net ∷ []

-- The words of a refusal in a run with so many corners: its number and its name, and then what it is about. Those of a loop are its nets,
-- one for each of its arcs.
abbrev pub words_of : ℕ → Refusal → List (List ℕ)
words_of corners (refusal.NetlistSyntax token) = codes "E01 netlist syntax" ∷ codes "token" ∷ decimal token ∷ []
words_of corners (refusal.NotStructural word token) = codes "E02 not structural" ∷ word ∷ codes "token" ∷ decimal token ∷ []
words_of corners (refusal.LibrarySyntax corner token line cause) = codes "E03 library syntax" ∷ corner_text corners corner
    ∷ codes "token" ∷ decimal token ∷ codes "line" ∷ decimal line ∷ cause_text cause ∷ []
words_of corners (refusal.SpefSyntax token) = codes "E04 spef syntax" ∷ codes "token" ∷ decimal token ∷ []
words_of corners (refusal.SpefForm word token) = codes "E05 spef form" ∷ word ∷ codes "token" ∷ decimal token ∷ []
words_of corners (refusal.RepeatedName name) = codes "E06 repeated name" ∷ name ∷ []
words_of corners (refusal.BadRange name) = codes "E07 bad range" ∷ name ∷ []
words_of corners (refusal.PortDirection name) = codes "E08 port direction" ∷ name ∷ []
words_of corners (refusal.NoTop name) = codes "E10 no top module" ∷ name ∷ []
words_of corners (refusal.UnknownCell cell corner) = codes "E11 unknown cell" ∷ cell ∷ corner_text corners corner ∷ []
words_of corners (refusal.UnknownPort instance port) = codes "E12 unknown port" ∷ instance ∷ port ∷ []
words_of corners (refusal.Width instance port want got) = codes "E13 width" ∷ instance ∷ port
    ∷ codes "want" ∷ decimal want ∷ codes "got" ∷ decimal got ∷ []
words_of corners (refusal.Recursive name) = codes "E14 recursive module" ∷ name ∷ []
words_of corners (refusal.NameClash name) = codes "E15 name clash" ∷ name ∷ []
words_of corners (refusal.InoutPin instance pin) = codes "E16 inout pin" ∷ instance ∷ pin ∷ []
words_of corners (refusal.SeveralDrivers net) = codes "E17 several drivers" ∷ net ∷ []
words_of corners (refusal.CellFault cell corner fault) = codes "E20 cell" ∷ cell ∷ corner_text corners corner ∷ fault_text fault ∷ []
words_of corners (refusal.CornerShape cell fault) = codes "E21 corner shape" ∷ cell ∷ corner_text corners fault.corner
    ∷ codes "entry" ∷ decimal fault.place ∷ []
words_of corners (refusal.SpefNumber kind token) = codes "E30 spef number" ∷ number_text kind ∷ codes "token" ∷ decimal token ∷ []
words_of corners (refusal.NameIndex kind token) = codes "E31 name index" ∷ index_text kind ∷ codes "token" ∷ decimal token ∷ []
words_of corners (refusal.RepeatedNet net) = codes "E32 repeated net" ∷ net ∷ []
words_of corners (refusal.MissingNet net) = codes "E33 missing net" ∷ net ∷ []
words_of corners (refusal.StrangePin net pin) = codes "E34 strange pin" ∷ net ∷ node_text pin.head pin.tail ∷ []
words_of corners (refusal.Unreached net node) = codes "E35 unreached node" ∷ net ∷ node_text node.head node.tail ∷ []
words_of corners (refusal.Mesh net resistor) = codes "E36 mesh" ∷ net ∷ []
words_of corners (refusal.ForeignCoupling net token) = codes "E37 foreign coupling" ∷ net ∷ codes "token" ∷ decimal token ∷ []
words_of corners (refusal.Loop nets) = codes "E40 loop" ∷ nets
words_of corners (refusal.Outside instance from to edge corner part axis value) = codes "E41 outside" ∷ instance ∷ from ∷ to
    ∷ edge_text edge ∷ corner_text corners corner ∷ part_text part ∷ axis_text axis ∷ decimal value ∷ []
words_of corners (refusal.SlewLimit net instance pin edge corner slew elmore) = codes "E42 slew limit" ∷ net ∷ pin_text instance pin
    ∷ edge_text edge ∷ corner_text corners corner ∷ signed_decimal slew.0 ∷ decimal elmore ∷ []
words_of corners (refusal.PastTime instance from to edge corner part) = codes "E43 past time" ∷ instance ∷ from ∷ to
    ∷ edge_text edge ∷ corner_text corners corner ∷ part_text part ∷ []
words_of corners (refusal.Limit kind) = limit_words kind
words_of corners (refusal.NoDriver net) = codes "E60 no driver" ∷ net ∷ []
words_of corners (refusal.ManyDrivers net) = codes "E61 several drivers" ∷ net ∷ []
words_of corners (refusal.SdfSyntax token) = codes "E62 sdf syntax" ∷ codes "token" ∷ decimal token ∷ []

-- a word behind a space
abbrev pub spaced : List ℕ → List ℕ
spaced word = codes " " ++ word

-- words, each behind a space
abbrev pub words_text : List (List ℕ) → List ℕ
words_text words = flat_map spaced words

-- the line of a refusal, in a run with so many corners
abbrev pub refusal_line : ℕ → Refusal → List ℕ
refusal_line corners refusal =
    codes "gdc:" ++ (words_text (words_of corners refusal) ++ 10 ∷ [])
