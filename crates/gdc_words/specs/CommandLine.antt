-- The words of the command line. Word 1 is the command. The rest are pairs of a key and its value, read from the left.
use Rattle.std.specs.Prelude.{◌≡◌, ℕ, ◌+◌, Bool, true, false, not, ◌||◌, IsTrue, All, Option, Some, None, Result, Ok, Err, List, [], ◌∷◌, ◌++◌, if◌then◌else◌, codes, is_some, option_map, unwrap_or}
use Rattle.std.specs.List.{find, list_any}
use Rattle.std.specs.Str.{bytes_eq}
use Rattle.gdc_words.specs.declared.commands.Command.{Command}
use Rattle.gdc_words.specs.declared.commands.Command.TheVariants.{Wires, Calc, Show, Lookup, Flat, Trial, Help, Version}
use Rattle.gdc_words.specs.declared.commands.Key.{Key}
use Rattle.corner_set.specs.declared.pick.Pick.{Pick}
use Rattle.corner_set.specs.declared.pick.Pick.TheVariants.{Min, Typ, Max}
use Rattle.gdc_words.specs.declared.commands.Key.TheVariants.{Spef, Triple, Sdf, Netlist, Top, Lib, LibMin, LibTyp, LibMax, Cell, Slew, Load, InputSlew, PortLoad, Missing, WireSlew, Outside, Shape, Size}
use Rattle.gdc_words.specs.declared.commands.Libraries.{Libraries}
use Rattle.gdc_words.specs.declared.commands.Libraries.TheVariants.{One, EachCorner}
use Rattle.corner_set.specs.declared.choices.Beyond.{Beyond}
use Rattle.corner_set.specs.declared.choices.Beyond.TheVariants.{Refuse, Edge, Extend}
use Rattle.corner_set.specs.declared.choices.Missing.{Missing as MissingNets}
use Rattle.corner_set.specs.declared.choices.Missing.TheVariants as nets
use Rattle.corner_set.specs.declared.choices.WireSlew.{WireSlew as WireMode}
use Rattle.corner_set.specs.declared.choices.WireSlew.TheVariants as wire
use Rattle.gdc_words.specs.declared.commands.Shape.{Shape as TrialShape}
use Rattle.gdc_words.specs.declared.commands.Shape.TheVariants.{Chain, Block}
use Rattle.gdc_words.specs.declared.asked.Given.{Given}
use Rattle.gdc_words.specs.declared.faults.UsageKind.{UsageKind}
use Rattle.gdc_words.specs.declared.faults.UsageKind.TheVariants.{NoCommand, UnknownCommand, UnknownWord, Repeated, MissingValue, BadValue, Mixed, MissingKey}
use Rattle.gdc_words.specs.declared.faults.UsageFault.{UsageFault}
use Rattle.gdc_words.specs.Decimals.{IsGrains}
use Rattle.gdc_words.specs.Sizes.{IsSize}

-- what the words ask for: the command, and the keys that stand, each with its value, in the order of the words
pub record Request : Type 0 where
  pub command : Command
  pub given : List Given

-- the command that a word names
abbrev pub command_of : List ℕ → Option Command
command_of word =
    if bytes_eq word (codes "wires") then Some Wires
    else if bytes_eq word (codes "calc") then Some Calc
    else if bytes_eq word (codes "show") then Some Show
    else if bytes_eq word (codes "lookup") then Some Lookup
    else if bytes_eq word (codes "flat") then Some Flat
    else if bytes_eq word (codes "trial") then Some Trial
    else if bytes_eq word (codes "--help") then Some Help
    else if bytes_eq word (codes "--version") then Some Version
    else None

-- the word of a key
abbrev pub key_word : Key → List ℕ
key_word Spef = codes "--spef"
key_word Triple = codes "--triple"
key_word Sdf = codes "--sdf"
key_word Netlist = codes "--netlist"
key_word Top = codes "--top"
key_word Lib = codes "--lib"
key_word LibMin = codes "--lib-min"
key_word LibTyp = codes "--lib-typ"
key_word LibMax = codes "--lib-max"
key_word Cell = codes "--cell"
key_word Slew = codes "--slew"
key_word Load = codes "--load"
key_word InputSlew = codes "--input-slew"
key_word PortLoad = codes "--port-load"
key_word Missing = codes "--missing"
key_word WireSlew = codes "--wire-slew"
key_word Outside = codes "--outside"
key_word Shape = codes "--shape"
key_word Size = codes "--size"

-- all keys
abbrev pub keys : List Key
keys =
    Spef ∷ Triple ∷ Sdf ∷ Netlist ∷ Top ∷ Lib ∷ LibMin ∷ LibTyp ∷ LibMax ∷ Cell ∷ Slew ∷ Load
    ∷ InputSlew ∷ PortLoad ∷ Missing ∷ WireSlew ∷ Outside ∷ Shape ∷ Size ∷ []

-- the key that a word names
abbrev pub key_of : List ℕ → Option Key
key_of word = find (λ key. bytes_eq (key_word key) word) keys

-- two keys are one key, which has one word
abbrev pub same_key : Key → Key → Bool
same_key one other = bytes_eq (key_word one) (key_word other)

-- the keys of such libraries
abbrev pub library_keys : Libraries → List Key
library_keys One = Lib ∷ []
library_keys EachCorner = LibMin ∷ LibTyp ∷ LibMax ∷ []

-- The keys that a command needs beside such libraries, in the order in which a missing one is named. The calculation alone takes a library
-- for each corner.
abbrev pub needed_keys : Command → Libraries → List Key
needed_keys Wires libraries = Spef ∷ []
needed_keys Calc libraries = Netlist ∷ Top ∷ Spef ∷ InputSlew ∷ library_keys libraries
needed_keys Show libraries = Sdf ∷ []
needed_keys Lookup libraries = Lib ∷ Cell ∷ Slew ∷ Load ∷ []
needed_keys Flat libraries = Netlist ∷ Top ∷ Lib ∷ []
needed_keys Trial libraries = Shape ∷ Size ∷ []
needed_keys Help libraries = []
needed_keys Version libraries = []

-- the keys that may stand beside them: a member of the triples is picked for one library alone
abbrev pub further_keys : Command → Libraries → List Key
further_keys Wires libraries = Triple ∷ []
further_keys Calc One = PortLoad ∷ Triple ∷ Missing ∷ WireSlew ∷ Outside ∷ []
further_keys Calc EachCorner = PortLoad ∷ Missing ∷ WireSlew ∷ Outside ∷ []
further_keys Show libraries = []
further_keys Lookup libraries = Outside ∷ []
further_keys Flat libraries = []
further_keys Trial libraries = []
further_keys Help libraries = []
further_keys Version libraries = []

-- all keys that a command takes beside such libraries
abbrev pub keys_beside : Command → Libraries → List Key
keys_beside command libraries = needed_keys command libraries ++ further_keys command libraries

-- a command takes a key, beside one library or beside one for each corner
abbrev pub takes_key : Command → Key → Bool
takes_key command key = list_any (λ taken. same_key taken key) (keys_beside command One ++ keys_beside command EachCorner)

-- the member of a triple that a word names
abbrev pub pick_of : List ℕ → Option Pick
pick_of word =
    if bytes_eq word (codes "min") then Some Min
    else if bytes_eq word (codes "typ") then Some Typ
    else if bytes_eq word (codes "max") then Some Max
    else None

-- what a word says that a net is which has no section
abbrev pub missing_of : List ℕ → Option MissingNets
missing_of word =
    if bytes_eq word (codes "refuse") then Some nets.Refuse
    else if bytes_eq word (codes "zero") then Some nets.Zero
    else None

-- what a word says that a wire does to a slew
abbrev pub wire_slew_of : List ℕ → Option WireMode
wire_slew_of word =
    if bytes_eq word (codes "none") then Some wire.Same
    else if bytes_eq word (codes "rss") then Some wire.Rss
    else None

-- what a word says is done past the end of an axis
abbrev pub beyond_of : List ℕ → Option Beyond
beyond_of word =
    if bytes_eq word (codes "refuse") then Some Refuse
    else if bytes_eq word (codes "edge") then Some Edge
    else if bytes_eq word (codes "extend") then Some Extend
    else None

-- the shape that a word names
abbrev pub shape_of : List ℕ → Option TrialShape
shape_of word =
    if bytes_eq word (codes "chain") then Some Chain
    else if bytes_eq word (codes "block") then Some Block
    else None

abbrev pub is_filled : List ℕ → Bool
is_filled [] = false
is_filled (b ∷ bytes) = true

-- the values of a key are decimals
abbrev pub is_decimal : Key → Bool
is_decimal Slew = true
is_decimal Load = true
is_decimal InputSlew = true
is_decimal PortLoad = true
is_decimal _ = false

-- A value has the form that its key wants: the name of a file, of a module or of a cell is a text that is not empty, a member of a triple,
-- what a net without a section is, what a wire does to a slew, what is done past an axis and a shape have their words, a decimal reads as
-- grains, and a size is digits.
abbrev pub IsValue : Key → List ℕ → Type 0
IsValue Spef value = IsTrue (is_filled value)
IsValue Triple value = IsTrue (is_some (pick_of value))
IsValue Sdf value = IsTrue (is_filled value)
IsValue Netlist value = IsTrue (is_filled value)
IsValue Top value = IsTrue (is_filled value)
IsValue Lib value = IsTrue (is_filled value)
IsValue LibMin value = IsTrue (is_filled value)
IsValue LibTyp value = IsTrue (is_filled value)
IsValue LibMax value = IsTrue (is_filled value)
IsValue Cell value = IsTrue (is_filled value)
IsValue Slew value = (grains : ℕ) × IsGrains value grains
IsValue Load value = (grains : ℕ) × IsGrains value grains
IsValue InputSlew value = (grains : ℕ) × IsGrains value grains
IsValue PortLoad value = (grains : ℕ) × IsGrains value grains
IsValue Missing value = IsTrue (is_some (missing_of value))
IsValue WireSlew value = IsTrue (is_some (wire_slew_of value))
IsValue Outside value = IsTrue (is_some (beyond_of value))
IsValue Shape value = IsTrue (is_some (shape_of value))
IsValue Size value = (size : ℕ) × IsSize value size

-- a key stands among these
abbrev pub is_given : List Given → Key → Bool
is_given given key = list_any (λ g. same_key g.key key) given

-- the first key of a library of a corner that stands
abbrev pub corner_key : List Given → Option Key
corner_key given = find (λ key. is_given given key) (library_keys EachCorner)

-- the libraries that are given: one for each corner where such a key stands
abbrev pub libraries_of : List Given → Libraries
libraries_of given = if is_some (corner_key given) then EachCorner else One

-- the key of one library, or of the member of a triple that one corner takes, stands together with this library of a corner
abbrev pub mixed_key : List Given → Option Key
mixed_key given = if is_given given Lib || is_given given Triple then corner_key given else None

-- the first needed key that does not stand
abbrev pub first_missing : Command → List Given → Option Key
first_missing command given = find (λ key. not (is_given given key)) (needed_keys command (libraries_of given))

-- a command needs a key beside these
abbrev pub needs_key : Command → List Given → Key → Bool
needs_key command given key = list_any (λ needed. same_key needed key) (needed_keys command (libraries_of given))

-- a fault at a word
abbrev pub fault_at : UsageKind → ℕ → UsageFault
fault_at kind place = record { kind = kind; place = place; key = None }

-- a fault of a key, which has no place among the words
abbrev pub keyed_fault : UsageKind → Key → UsageFault
keyed_fault kind key = record { kind = kind; place = 0; key = Some (key_word key) }

-- the key that a word names is one of the command's, and does not stand yet
abbrev pub new_key : Command → List Given → ℕ → Option Key → Result Key UsageFault
new_key command given place None = Err (fault_at UnknownWord place)
new_key command given place (Some key) =
    if takes_key command key then (if is_given given key then Err (fault_at Repeated place) else Ok key)
    else Err (fault_at UnknownWord place)

-- The pairs of the words from a place on, behind those that are given, or their first fault: at a key first an unknown word, then a
-- repeated
-- key, then a missing value; and then a bad value at the value.
pub data PairsFrom (command : Command) : List Given → ℕ → List (List ℕ) → Result (List Given) UsageFault → Type 0 where
  no_more : {given : List Given} {place : ℕ} → PairsFrom command given place [] (Ok given)
  bad_key : {given : List Given} {place : ℕ} {word : List ℕ} {rest : List (List ℕ)} {fault : UsageFault}
      → new_key command given place (key_of word) ≡ Err fault → PairsFrom command given place (word ∷ rest) (Err fault)
  no_value : {given : List Given} {place : ℕ} {word : List ℕ} {key : Key} → new_key command given place (key_of word) ≡ Ok key
      → PairsFrom command given place (word ∷ []) (Err (fault_at MissingValue place))
  bad_value : {given : List Given} {place : ℕ} {word value : List ℕ} {rest : List (List ℕ)} {key : Key}
      → new_key command given place (key_of word) ≡ Ok key → ¬ IsValue key value
      → PairsFrom command given place (word ∷ value ∷ rest) (Err (fault_at BadValue (place + 1)))
  and_pair : {given : List Given} {place : ℕ} {word value : List ℕ} {rest : List (List ℕ)} {key : Key}
      {answer : Result (List Given) UsageFault}
      → new_key command given place (key_of word) ≡ Ok key → IsValue key value
      → PairsFrom command (given ++ record { key = key; value = value } ∷ []) (place + 2) rest answer
      → PairsFrom command given place (word ∷ value ∷ rest) answer

-- What the words after the command ask for, or their first fault: that of a pair, then keys that do not stand together, and then the first
-- needed key that does not stand.
pub data AsksFor (command : Command) (words : List (List ℕ)) : Result Request UsageFault → Type 0 where
  bad_pair : {fault : UsageFault} → PairsFrom command [] 2 words (Err fault) → AsksFor command words (Err fault)
  mixed_keys : {given : List Given} {key : Key} → PairsFrom command [] 2 words (Ok given) → mixed_key given ≡ Some key
      → AsksFor command words (Err (keyed_fault Mixed key))
  no_key : {given : List Given} {key : Key} → PairsFrom command [] 2 words (Ok given) → mixed_key given ≡ None
      → first_missing command given ≡ Some key → AsksFor command words (Err (keyed_fault MissingKey key))
  with_keys : {given : List Given} → PairsFrom command [] 2 words (Ok given) → mixed_key given ≡ None
      → first_missing command given ≡ None → AsksFor command words (Ok (record { command = command; given = given }))

-- what the words ask for, or their first fault
pub data Asks : List (List ℕ) → Result Request UsageFault → Type 0 where
  no_command : Asks [] (Err (fault_at NoCommand 1))
  unknown_command : {word : List ℕ} {words : List (List ℕ)} → command_of word ≡ None → Asks (word ∷ words) (Err (fault_at UnknownCommand 1))
  for_command : {word : List ℕ} {words : List (List ℕ)} {command : Command} {answer : Result Request UsageFault}
      → command_of word ≡ Some command → AsksFor command words answer → Asks (word ∷ words) answer

-- no keys stand that do not stand together, every key that the command needs stands, and each value has the form that its key wants
pub record IsWhole (request : Request) : Type 0 where
  pub unmixed : mixed_key request.given ≡ None
  pub complete : first_missing request.command request.given ≡ None
  pub formed : All (λ pair. IsValue pair.key pair.value) request.given

-- the pair of the key that this word names, where it stands
abbrev pub pair_at : List Given → List ℕ → Option Given
pair_at given word = find (λ g. bytes_eq (key_word g.key) word) given

-- the value of a decimal key that stands, in grains
pub record HasGrains (given : List Given) (word : List ℕ) (grains : ℕ) : Type 0 where
  pub pair : Given
  pub stands : pair_at given word ≡ Some pair
  pub decimal : IsTrue (is_decimal pair.key)
  pub reads : IsGrains pair.value grains

-- no decimal key that this word names stands
abbrev pub HasNoGrains : List Given → List ℕ → Type 0
HasNoGrains given word = (pair : Given) → pair_at given word ≡ Some pair → is_decimal pair.key ≡ false

-- the value of the key that this word names, where it stands
abbrev pub value_at : List Given → List ℕ → Option (List ℕ)
value_at given word = option_map (λ g. g.value) (pair_at given word)

-- the value of a pair that was found
abbrev pub value_in : Option Given → List ℕ
value_in None = []
value_in (Some g) = g.value

-- the value of a key that stands
abbrev pub value_of : List Given → Key → List ℕ
value_of given key = value_in (find (λ g. same_key g.key key) given)

-- the member of a triple that counts: the typical one where no other is asked for
abbrev pub pick_in : Option Given → Pick
pick_in None = Typ
pick_in (Some g) = unwrap_or (pick_of g.value) Typ

abbrev pub pick_from : List Given → Pick
pick_from given = pick_in (find (λ g. same_key g.key Triple) given)

-- the capacitance at an output port: that of the key where it stands, and else 0
pub data IsPortLoad (given : List Given) : ℕ → Type 0 where
  given_load : (grains : ℕ) → HasGrains given (key_word PortLoad) grains → IsPortLoad given grains
  no_load : HasNoGrains given (key_word PortLoad) → IsPortLoad given 0

-- what a net is that has no section: it is refused where no other is asked for
abbrev pub missing_in : Option Given → MissingNets
missing_in None = nets.Refuse
missing_in (Some g) = unwrap_or (missing_of g.value) nets.Refuse

abbrev pub missing_from : List Given → MissingNets
missing_from given = missing_in (find (λ g. same_key g.key Missing) given)

-- what a wire does to a slew: nothing where no other is asked for
abbrev pub wire_slew_in : Option Given → WireMode
wire_slew_in None = wire.Same
wire_slew_in (Some g) = unwrap_or (wire_slew_of g.value) wire.Same

abbrev pub wire_slew_from : List Given → WireMode
wire_slew_from given = wire_slew_in (find (λ g. same_key g.key WireSlew) given)

-- what is done past the end of an axis: the look-up is refused where no other is asked for
abbrev pub beyond_in : Option Given → Beyond
beyond_in None = Refuse
beyond_in (Some g) = unwrap_or (beyond_of g.value) Refuse

abbrev pub beyond_from : List Given → Beyond
beyond_from given = beyond_in (find (λ g. same_key g.key Outside) given)
