-- A SPEF file taken one token at a time: what is waited for, and what each token then does. It is the grammar unrolled for the reader's
-- loop; the proofs show that both say the same.
use Rattle.std.specs.Prelude.{ℕ, Bool, true, false, if◌then◌else◌, List, [], ◌∷◌, ◌++◌, slice_index, Option, Some, None, Result, Ok, Err, ⊤}
use Rattle.token_fronts.specs.Tokens.{Token}
use Rattle.spef_text.specs.Classes.{word_of, is_other, is_loose, is_mark, is_two_marks, is_value, is_id, is_index, is_map_name, is_ref, is_direction}
use Rattle.delay_units.specs.Places.{is_literal}
use Rattle.spef_text.specs.Entries.{Section, Head, Reading, no_section, plain_head, with_item}
use Rattle.spef_text.specs.declared.entries.Conn.{Conn}
use Rattle.spef_text.specs.declared.entries.Cap.{Cap}
use Rattle.spef_text.specs.declared.entries.Res.{Res}
use Rattle.spef_text.specs.declared.entries.ConnAt.{ConnAt}
use Rattle.spef_text.specs.declared.entries.CapAt.{CapAt}
use Rattle.spef_text.specs.declared.entries.ResAt.{ResAt}
use Rattle.spef_text.specs.declared.entries.HeadItem.TheVariants.{Divider, Delimiter, BusDelimiter, Design, CapUnit, ResUnit, Mapped}
use Rattle.spef_text.specs.declared.words.Word.{Word}
use Rattle.spef_text.specs.declared.words.Word.TheVariants as word
use Rattle.spef_text.specs.declared.modes.Mode.{Mode}
use Rattle.spef_text.specs.declared.modes.Mode.TheVariants.{Start, Others, DesignName, Items, DividerMark, DelimiterMark, BusLeft, BusRight, CapNumber, CapWord, ResNumber, ResWord, NameMap, MapName, Sections, NetName, NetTotal, AfterTotal, Confidence, AfterConfidence, Conns, ConnNode, ConnDirection, ConnTail, ConnLoad, NodeLine, Caps, CapFirst, CapSecond, CapValue, Ress, ResFirst, ResSecond, ResValue}
use Rattle.spef_text.specs.declared.modes.Step.{Step}
use Rattle.spef_text.specs.declared.modes.Step.TheVariants.{Refuse, Go, Put, Open, Join, AddCap, AddRes, Close}

-- the file's first token
abbrev pub start_step : Option Word → Step
start_step (Some word.Spef) = Go Others
start_step _ = Refuse

-- a keyword where an item may begin
abbrev pub top_step : Option Word → Step
top_step (Some word.Free) = Go Others
top_step (Some word.Design) = Put DesignName (Design None)
top_step (Some word.Divider) = Go DividerMark
top_step (Some word.Delimiter) = Go DelimiterMark
top_step (Some word.BusDelimiter) = Go BusLeft
top_step (Some word.CapUnit) = Go CapNumber
top_step (Some word.ResUnit) = Go ResNumber
top_step (Some word.NameMap) = Go NameMap
top_step (Some word.Net) = Go NetName
top_step _ = Refuse

-- a keyword where only a net may begin
abbrev pub sections_step : Option Word → Step
sections_step (Some word.Net) = Go NetName
sections_step _ = Refuse

-- a keyword behind a net's total, and behind its confidence
abbrev pub total_step : Option Word → Step
total_step (Some word.Confidence) = Go Confidence
total_step (Some word.Conn) = Go Conns
total_step (Some word.Cap) = Go Caps
total_step (Some word.Res) = Go Ress
total_step (Some word.End) = Close None
total_step _ = Refuse

abbrev pub confident_step : Option Word → Step
confident_step (Some word.Conn) = Go Conns
confident_step (Some word.Cap) = Go Caps
confident_step (Some word.Res) = Go Ress
confident_step (Some word.End) = Close None
confident_step _ = Refuse

-- a keyword where a connection may begin, and one that ends a connection
abbrev pub conns_step : Option Word → Step
conns_step (Some word.Port) = Go (ConnNode true)
conns_step (Some word.Internal) = Go (ConnNode false)
conns_step (Some word.Node) = Go NodeLine
conns_step (Some word.Cap) = Go Caps
conns_step (Some word.Res) = Go Ress
conns_step (Some word.End) = Close None
conns_step _ = Refuse

abbrev pub left_step : ConnAt → Option Word → Step
left_step conn (Some word.Port) = Join (ConnNode true) conn
left_step conn (Some word.Internal) = Join (ConnNode false) conn
left_step conn (Some word.Node) = Join NodeLine conn
left_step conn (Some word.Cap) = Join Caps conn
left_step conn (Some word.Res) = Join Ress conn
left_step conn (Some word.End) = Close (Some conn)
left_step conn _ = Refuse

-- a token behind a connection's direction: it is loose, or this keyword
abbrev pub load_step : ConnAt → Option Word → Step
load_step conn (Some word.Load) = Go (ConnLoad conn)
load_step conn keyword = left_step conn keyword

abbrev pub tail_step : ConnAt → Bool → Option Word → Step
tail_step conn true keyword = Go (ConnTail conn)
tail_step conn false keyword = load_step conn keyword

-- a keyword where a capacitance may begin, and where a resistance may
abbrev pub caps_step : Option Word → Step
caps_step (Some word.Res) = Go Ress
caps_step (Some word.End) = Close None
caps_step _ = Refuse

abbrev pub ress_step : Option Word → Step
ress_step (Some word.End) = Close None
ress_step _ = Refuse

abbrev pub or_else : Bool → Step → Step → Step
or_else true step other = step
or_else false step other = other

abbrev pub go_if : Bool → Mode → Step
go_if test mode = or_else test (Go mode) Refuse

-- the bus marks: both in one token, or the left one
abbrev pub bus_step : List ℕ → Step
bus_step text =
    or_else (is_two_marks text) (Put Items (BusDelimiter (slice_index text 0) (slice_index text 1)))
    (go_if (is_mark text) (BusRight (slice_index text 0)))

-- what the token of this number and text does, where `mark` is the delimiter
abbrev pub next_mode : Mode → ℕ → ℕ → List ℕ → Step
next_mode Start mark number text = start_step (word_of text)
next_mode Others mark number text = or_else (is_other text) (Go Others) (top_step (word_of text))
next_mode DesignName mark number text = or_else (is_other text) (Put Others (Design (Some number))) (top_step (word_of text))
next_mode Items mark number text = top_step (word_of text)
next_mode DividerMark mark number text = or_else (is_mark text) (Put Items (Divider (slice_index text 0))) Refuse
next_mode DelimiterMark mark number text = or_else (is_mark text) (Put Items (Delimiter (slice_index text 0))) Refuse
next_mode BusLeft mark number text = bus_step text
next_mode (BusRight left) mark number text = or_else (is_mark text) (Put Items (BusDelimiter left (slice_index text 0))) Refuse
next_mode CapNumber mark number text = go_if (is_literal text) (CapWord number)
next_mode (CapWord at) mark number text = or_else (is_other text) (Put Items (CapUnit at)) Refuse
next_mode ResNumber mark number text = go_if (is_literal text) (ResWord number)
next_mode (ResWord at) mark number text = or_else (is_other text) (Put Items (ResUnit at)) Refuse
next_mode NameMap mark number text = or_else (is_index text) (Go (MapName number)) (top_step (word_of text))
next_mode (MapName index) mark number text =
    or_else (is_map_name text) (Put NameMap (Mapped (record { index = index; name = number }))) Refuse
next_mode Sections mark number text = sections_step (word_of text)
next_mode NetName mark number text = or_else (is_ref mark text) (Open number) Refuse
next_mode NetTotal mark number text = go_if (is_value text) AfterTotal
next_mode AfterTotal mark number text = total_step (word_of text)
next_mode Confidence mark number text = go_if (is_literal text) AfterConfidence
next_mode AfterConfidence mark number text = confident_step (word_of text)
next_mode Conns mark number text = conns_step (word_of text)
next_mode (ConnNode port) mark number text = go_if (is_ref mark text) (ConnDirection port number)
next_mode (ConnDirection port node) mark number text =
    go_if (is_direction text) (ConnTail (record { port = port; node = node; direction = slice_index text 0; load = None }))
next_mode (ConnTail conn) mark number text = tail_step conn (is_loose text) (word_of text)
next_mode (ConnLoad conn) mark number text =
    go_if (is_value text) (ConnTail (record { port = conn.port; node = conn.node; direction = conn.direction; load = Some number }))
next_mode NodeLine mark number text = or_else (is_loose text) (Go NodeLine) (conns_step (word_of text))
next_mode Caps mark number text = or_else (is_id text) (Go CapFirst) (caps_step (word_of text))
next_mode CapFirst mark number text = go_if (is_ref mark text) (CapSecond number)
next_mode (CapSecond first) mark number text =
    or_else (is_value text) (AddCap (record { first = first; second = None; value = number }))
    (go_if (is_ref mark text) (CapValue first number))
next_mode (CapValue first second) mark number text =
    or_else (is_value text) (AddCap (record { first = first; second = Some second; value = number })) Refuse
next_mode Ress mark number text = or_else (is_id text) (Go ResFirst) (ress_step (word_of text))
next_mode ResFirst mark number text = go_if (is_ref mark text) (ResSecond number)
next_mode (ResSecond first) mark number text = go_if (is_ref mark text) (ResValue first number)
next_mode (ResValue first second) mark number text =
    or_else (is_value text) (AddRes (record { first = first; second = second; value = number })) Refuse

-- an entry as it is said, from how it is kept
abbrev pub conn_of : ConnAt → Conn
conn_of at = record { port = at.port; node = at.node; direction = at.direction; load = at.load }

abbrev pub cap_of : CapAt → Cap
cap_of at = record { first = at.first; second = at.second; value = at.value }

abbrev pub res_of : ResAt → Res
res_of at = record { first = at.first; second = at.second; value = at.value }

-- what is waited for, and what has been read: the head, the sections that have ended, and the one that has begun
pub record State : Type 0 where
  pub mode : Mode
  pub head : Head
  pub done : List Section
  pub begun : Section

-- before the first token
abbrev pub first_state : State
first_state = record { mode = Start; head = plain_head; done = []; begun = no_section }

abbrev pub with_net : Section → ℕ → Section
with_net s net = record { net = net; conns = s.conns; caps = s.caps; ress = s.ress }

abbrev pub with_conn : Section → ConnAt → Section
with_conn s conn = record { net = s.net; conns = s.conns ++ conn_of conn ∷ []; caps = s.caps; ress = s.ress }

abbrev pub with_cap : Section → CapAt → Section
with_cap s cap = record { net = s.net; conns = s.conns; caps = s.caps ++ cap_of cap ∷ []; ress = s.ress }

abbrev pub with_res : Section → ResAt → Section
with_res s res = record { net = s.net; conns = s.conns; caps = s.caps; ress = s.ress ++ res_of res ∷ [] }

-- the section with the connection that had not ended
abbrev pub with_last : Section → Option ConnAt → Section
with_last s None = s
with_last s (Some conn) = with_conn s conn

-- the state after a step
abbrev pub state_after : State → Step → Result State ⊤
state_after s Refuse = Err tt
state_after s (Go mode) = Ok (record { mode = mode; head = s.head; done = s.done; begun = s.begun })
state_after s (Put mode item) = Ok (record { mode = mode; head = with_item s.head item; done = s.done; begun = s.begun })
state_after s (Open net) = Ok (record { mode = NetTotal; head = s.head; done = s.done; begun = with_net s.begun net })
state_after s (Join mode conn) = Ok (record { mode = mode; head = s.head; done = s.done; begun = with_conn s.begun conn })
state_after s (AddCap cap) = Ok (record { mode = Caps; head = s.head; done = s.done; begun = with_cap s.begun cap })
state_after s (AddRes res) = Ok (record { mode = Ress; head = s.head; done = s.done; begun = with_res s.begun res })
state_after s (Close last) =
    Ok (record { mode = Sections; head = s.head; done = s.done ++ with_last s.begun last ∷ []; begun = no_section })

abbrev pub next : State → Token (List ℕ) → Result State ⊤
next s token = state_after s (next_mode s.mode s.head.marks.delimiter token.number token.text)

-- whether the file may end in a mode
abbrev pub may_end : Mode → Bool
may_end Others = true
may_end DesignName = true
may_end Items = true
may_end NameMap = true
may_end Sections = true
may_end _ = false

abbrev pub finish : State → Result Reading ⊤
finish s = if may_end s.mode then Ok (record { head = s.head; sections = s.done }) else Err tt
