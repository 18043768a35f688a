-- What the tokens so far are, in the grammar's own words, for each mode: tokens that lead to the end are a file of the grammar.
use Rattle.std.proofs.Common.{◌≡◌, ℕ, Bool, true, false, List, [], ◌∷◌, ◌++◌, Option, Some, None, Result, Ok, Err, refl, subst}
use Rattle.std.specs.Prelude.{⊤}
use Rattle.token_fronts.specs.Accepting.{Accepts, ended, taken}
use Rattle.spef_text.specs.Classes.{word_of, is_other, is_loose, is_mark, is_two_marks, is_value, is_id, is_index, is_map_name, is_ref, is_direction}
use Rattle.delay_units.specs.Places.{is_literal}
use Rattle.spef_text.specs.Entries.{Section, Head, Reading, no_section, plain_head, with_item}
use Rattle.spef_text.specs.declared.entries.Conn.{Conn}
use Rattle.spef_text.specs.declared.entries.Cap.{Cap}
use Rattle.spef_text.specs.declared.entries.Res.{Res}
use Rattle.spef_text.specs.declared.entries.ConnAt.{ConnAt}
use Rattle.spef_text.specs.declared.entries.HeadItem.{HeadItem}
use Rattle.spef_text.specs.declared.entries.HeadItem.TheVariants.{Divider, Delimiter, BusDelimiter, Design, CapUnit, ResUnit, Mapped}
use Rattle.spef_text.specs.declared.words.Word.{Word}
use Rattle.spef_text.specs.declared.words.Word.TheVariants as word
use Rattle.spef_text.specs.declared.modes.Mode.{Mode}
use Rattle.spef_text.specs.declared.modes.Mode.TheVariants.{Start, Others as OthersMode, DesignName, Items as ItemsMode, DividerMark, DelimiterMark, BusLeft, BusRight, CapNumber, CapWord, ResNumber, ResWord, NameMap, MapName, Sections, NetName, NetTotal, AfterTotal, Confidence, AfterConfidence, Conns as ConnsMode, ConnNode, ConnDirection, ConnTail, ConnLoad, NodeLine, Caps, CapFirst, CapSecond, CapValue, Ress, ResFirst, ResSecond, ResValue}
use Rattle.spef_text.specs.declared.modes.Step.{Step}
use Rattle.spef_text.specs.declared.modes.Step.TheVariants.{Refuse, Go, Put, Open, AddCap, AddRes}
use Rattle.spef_text.specs.Grammar.{Tok, Is, IsOther, IsLoose, IsMark, IsLiteral, IsValue, IsId, IsIndex, IsRef, IsDirection, byte_at, Many, none, more, Others, no_other, and_other, IsMap, no_entry, and_entry, IsItem, divider, delimiter, bus_marks, bus_pair, no_design, design, cap_unit, res_unit, Items, no_item, and_item, and_free, and_map, IsTail, no_tail, and_loose, and_load, IsConn, port, internal, AreLoose, no_loose, and_loose_one, Conns, no_conn, and_conn, and_node, IsCap, to_ground, coupling, IsRes, resistor, IsConfidence, no_confidence, confidence, IsPart, no_part, part, IsSection, section, IsSpef, spef}
use Rattle.spef_text.specs.Modes.{State, first_state, with_conn, start_step, top_step, sections_step, total_step, confident_step, conns_step, load_step, tail_step, caps_step, ress_step, or_else, next_mode, state_after, next, finish}

-- the first keyword, and whole items up to here
data Headed : List Tok → Head → List Tok → Type 0 where
  headed : {keyword : Tok} {begin at_items here : List Tok} {head : Head}
      → Is word.Spef keyword → Others begin at_items → Items at_items head here
      → Headed (keyword ∷ begin) head here

-- the same, and a keyword of an item
data After (keyword : Word) : List Tok → Head → List Tok → Type 0 where
  after : {from here : List Tok} {head : Head} {token : Tok}
      → Headed from head (token ∷ here) → Is keyword token
      → After keyword from head here

data AfterLeft : List Tok → Head → ℕ → List Tok → Type 0 where
  after_left : {from here : List Tok} {head : Head} {keyword mark : Tok}
      → Headed from head (keyword ∷ mark ∷ here) → Is word.BusDelimiter keyword → IsMark mark
      → AfterLeft from head (byte_at mark 0) here

data AfterNumber (unit : Word) : List Tok → Head → ℕ → List Tok → Type 0 where
  after_number : {from here : List Tok} {head : Head} {keyword number : Tok}
      → Headed from head (keyword ∷ number ∷ here) → Is unit keyword → IsLiteral number
      → AfterNumber unit from head number.number here

-- nothing yet
data AtStart : List Tok → Head → List Tok → Type 0 where
  at_start : {from : List Tok} → AtStart from plain_head from

-- others behind the first keyword, behind a free one or behind the design's name
data InOthers : List Tok → Head → List Tok → Type 0 where
  at_first : {keyword : Tok} {begin here : List Tok}
      → Is word.Spef keyword → Others begin here
      → InOthers (keyword ∷ begin) plain_head here
  in_free : {from middle here : List Tok} {head : Head} {keyword : Tok}
      → Headed from head (keyword ∷ middle) → Is word.Free keyword → Others middle here
      → InOthers from head here
  in_design : {from middle here : List Tok} {head : Head} {keyword name : Tok}
      → Headed from head (keyword ∷ name ∷ middle) → Is word.Design keyword → IsOther name → Others middle here
      → InOthers from (with_item head (Design (Some name.number))) here

data InDesign : List Tok → Head → List Tok → Type 0 where
  unnamed : {from here : List Tok} {head : Head} {keyword : Tok}
      → Headed from head (keyword ∷ here) → Is word.Design keyword
      → InDesign from (with_item head (Design None)) here

data InMap : List Tok → Head → List Tok → Type 0 where
  in_map : {from middle here : List Tok} {before head : Head} {keyword : Tok}
      → Headed from before (keyword ∷ middle) → Is word.NameMap keyword → IsMap middle before head here
      → InMap from head here

data AfterIndex : List Tok → Head → ℕ → List Tok → Type 0 where
  after_index : {from here : List Tok} {head : Head} {index : Tok}
      → InMap from head (index ∷ here) → IsIndex index
      → AfterIndex from head index.number here

-- before the first section nothing is known of any, and between two nothing of the next
data Plain : List Section → Section → Type 0 where
  plain : Plain [] no_section

data Fresh : Section → Type 0 where
  fresh : Fresh no_section

-- the head, and whole sections up to here
data Within : List Tok → Head → List Section → List Tok → Type 0 where
  within : {from at_sections here : List Tok} {head : Head} {done : List Section}
      → Headed from head at_sections → Many (IsSection head.marks.delimiter) at_sections done here
      → Within from head done here

-- the same, and a section up to its keyword, its net's name or its total
data Opened : List Tok → Head → List Section → List Tok → Type 0 where
  opened : {from here : List Tok} {head : Head} {done : List Section} {keyword : Tok}
      → Within from head done (keyword ∷ here) → Is word.Net keyword
      → Opened from head done here

data Named : List Tok → Head → List Section → Section → List Tok → Type 0 where
  named : {from here : List Tok} {head : Head} {done : List Section} {net : Tok}
      → Opened from head done (net ∷ here) → IsRef head.marks.delimiter net
      → Named from head done (record { net = net.number; conns = []; caps = []; ress = [] }) here

data Totalled : List Tok → Head → List Section → ℕ → List Tok → Type 0 where
  totalled : {from here : List Tok} {head : Head} {done : List Section} {net total : Tok}
      → Opened from head done (net ∷ total ∷ here) → IsRef head.marks.delimiter net → IsValue total
      → Totalled from head done net.number here

-- up to behind the total, its confidence, the connections, the capacitances or the resistances
data UpToTotal : List Tok → Head → List Section → Section → List Tok → Type 0 where
  up_to_total : {from here : List Tok} {head : Head} {done : List Section} {net : ℕ}
      → Totalled from head done net here
      → UpToTotal from head done (record { net = net; conns = []; caps = []; ress = [] }) here

data AfterMark : List Tok → Head → List Section → Section → List Tok → Type 0 where
  after_mark : {from here : List Tok} {head : Head} {done : List Section} {s : Section} {keyword : Tok}
      → UpToTotal from head done s (keyword ∷ here) → Is word.Confidence keyword
      → AfterMark from head done s here

data UpToConfidence : List Tok → Head → List Section → Section → List Tok → Type 0 where
  up_to_confidence : {from at_confidence here : List Tok} {head : Head} {done : List Section} {net : ℕ}
      → Totalled from head done net at_confidence → IsConfidence at_confidence here
      → UpToConfidence from head done (record { net = net; conns = []; caps = []; ress = [] }) here

data UpToConns : List Tok → Head → List Section → Section → List Tok → Type 0 where
  up_to_conns : {from at_confidence at_conns here : List Tok} {head : Head} {done : List Section} {net : ℕ} {conns : List Conn}
      → Totalled from head done net at_confidence → IsConfidence at_confidence at_conns
      → IsPart word.Conn (Conns head.marks.delimiter) at_conns conns here
      → UpToConns from head done (record { net = net; conns = conns; caps = []; ress = [] }) here

data UpToCaps : List Tok → Head → List Section → Section → List Tok → Type 0 where
  up_to_caps : {from at_confidence at_conns at_caps here : List Tok} {head : Head} {done : List Section} {net : ℕ} {conns : List Conn} {caps : List Cap}
      → Totalled from head done net at_confidence → IsConfidence at_confidence at_conns
      → IsPart word.Conn (Conns head.marks.delimiter) at_conns conns at_caps
      → IsPart word.Cap (Many (IsCap head.marks.delimiter)) at_caps caps here
      → UpToCaps from head done (record { net = net; conns = conns; caps = caps; ress = [] }) here

data UpToRess : List Tok → Head → List Section → Section → List Tok → Type 0 where
  up_to_ress : {from at_confidence at_conns at_caps at_ress here : List Tok} {head : Head} {done : List Section} {net : ℕ} {conns : List Conn} {caps : List Cap} {ress : List Res}
      → Totalled from head done net at_confidence → IsConfidence at_confidence at_conns
      → IsPart word.Conn (Conns head.marks.delimiter) at_conns conns at_caps
      → IsPart word.Cap (Many (IsCap head.marks.delimiter)) at_caps caps at_ress
      → IsPart word.Res (Many (IsRes head.marks.delimiter)) at_ress ress here
      → UpToRess from head done (record { net = net; conns = conns; caps = caps; ress = ress }) here

-- inside the connections, the capacitances or the resistances
data InConns : List Tok → Head → List Section → Section → List Tok → Type 0 where
  in_conns : {from at_confidence begin here : List Tok} {head : Head} {done : List Section} {net : ℕ} {conns : List Conn} {keyword : Tok}
      → Totalled from head done net at_confidence → IsConfidence at_confidence (keyword ∷ begin)
      → Is word.Conn keyword → Conns head.marks.delimiter begin conns here
      → InConns from head done (record { net = net; conns = conns; caps = []; ress = [] }) here

data InCaps : List Tok → Head → List Section → Section → List Tok → Type 0 where
  in_caps : {from at_confidence at_conns begin here : List Tok} {head : Head} {done : List Section} {net : ℕ} {conns : List Conn} {caps : List Cap} {keyword : Tok}
      → Totalled from head done net at_confidence → IsConfidence at_confidence at_conns
      → IsPart word.Conn (Conns head.marks.delimiter) at_conns conns (keyword ∷ begin)
      → Is word.Cap keyword → Many (IsCap head.marks.delimiter) begin caps here
      → InCaps from head done (record { net = net; conns = conns; caps = caps; ress = [] }) here

data InRess : List Tok → Head → List Section → Section → List Tok → Type 0 where
  in_ress : {from at_confidence at_conns at_caps begin here : List Tok} {head : Head} {done : List Section} {net : ℕ} {conns : List Conn} {caps : List Cap} {ress : List Res} {keyword : Tok}
      → Totalled from head done net at_confidence → IsConfidence at_confidence at_conns
      → IsPart word.Conn (Conns head.marks.delimiter) at_conns conns at_caps
      → IsPart word.Cap (Many (IsCap head.marks.delimiter)) at_caps caps (keyword ∷ begin)
      → Is word.Res keyword → Many (IsRes head.marks.delimiter) begin ress here
      → InRess from head done (record { net = net; conns = conns; caps = caps; ress = ress }) here

-- parts of a connection
abbrev IsKind : Bool → Tok → Type 0
IsKind true = Is word.Port
IsKind false = Is word.Internal

data AtNode (is_port : Bool) : List Tok → Head → List Section → Section → List Tok → Type 0 where
  at_node : {from here : List Tok} {head : Head} {done : List Section} {s : Section} {keyword : Tok}
      → InConns from head done s (keyword ∷ here) → IsKind is_port keyword
      → AtNode is_port from head done s here

data AtDirection (is_port : Bool) : List Tok → Head → List Section → Section → ℕ → List Tok → Type 0 where
  at_direction : {from here : List Tok} {head : Head} {done : List Section} {s : Section} {name : Tok}
      → AtNode is_port from head done s (name ∷ here) → IsRef head.marks.delimiter name
      → AtDirection is_port from head done s name.number here

data InTail : List Tok → Head → List Section → Section → ConnAt → List Tok → Type 0 where
  in_tail : {from begin here : List Tok} {head : Head} {done : List Section} {s : Section} {is_port : Bool} {node : ℕ} {load : Option ℕ} {direction : Tok}
      → AtDirection is_port from head done s node (direction ∷ begin) → IsDirection direction → IsTail begin load here
      → InTail from head done s (record { port = is_port; node = node; direction = byte_at direction 0; load = load }) here

data AtLoad : List Tok → Head → List Section → Section → ConnAt → List Tok → Type 0 where
  at_load : {from here : List Tok} {head : Head} {done : List Section} {s : Section} {conn : ConnAt} {keyword : Tok}
      → InTail from head done s conn (keyword ∷ here) → Is word.Load keyword
      → AtLoad from head done s conn here

data InNode : List Tok → Head → List Section → Section → List Tok → Type 0 where
  in_node : {from begin here : List Tok} {head : Head} {done : List Section} {s : Section} {keyword : Tok}
      → InConns from head done s (keyword ∷ begin) → Is word.Node keyword → AreLoose begin here
      → InNode from head done s here

-- parts of a capacitance and of a resistance
data CapId : List Tok → Head → List Section → Section → List Tok → Type 0 where
  cap_id : {from here : List Tok} {head : Head} {done : List Section} {s : Section} {id : Tok}
      → InCaps from head done s (id ∷ here) → IsId id
      → CapId from head done s here

data CapOne : List Tok → Head → List Section → Section → ℕ → List Tok → Type 0 where
  cap_one : {from here : List Tok} {head : Head} {done : List Section} {s : Section} {node : Tok}
      → CapId from head done s (node ∷ here) → IsRef head.marks.delimiter node
      → CapOne from head done s node.number here

data CapTwo : List Tok → Head → List Section → Section → ℕ → ℕ → List Tok → Type 0 where
  cap_two : {from here : List Tok} {head : Head} {done : List Section} {s : Section} {first : ℕ} {node : Tok}
      → CapOne from head done s first (node ∷ here) → IsRef head.marks.delimiter node
      → CapTwo from head done s first node.number here

data ResId : List Tok → Head → List Section → Section → List Tok → Type 0 where
  res_id : {from here : List Tok} {head : Head} {done : List Section} {s : Section} {id : Tok}
      → InRess from head done s (id ∷ here) → IsId id
      → ResId from head done s here

data ResOne : List Tok → Head → List Section → Section → ℕ → List Tok → Type 0 where
  res_one : {from here : List Tok} {head : Head} {done : List Section} {s : Section} {node : Tok}
      → ResId from head done s (node ∷ here) → IsRef head.marks.delimiter node
      → ResOne from head done s node.number here

data ResTwo : List Tok → Head → List Section → Section → ℕ → ℕ → List Tok → Type 0 where
  res_two : {from here : List Tok} {head : Head} {done : List Section} {s : Section} {first : ℕ} {node : Tok}
      → ResOne from head done s first (node ∷ here) → IsRef head.marks.delimiter node
      → ResTwo from head done s first node.number here

-- what the tokens of `from` up to `here` are
abbrev Means : Mode → Head → List Section → Section → List Tok → List Tok → Type 0
Means Start head done begun from here = AtStart from head here × Plain done begun
Means OthersMode head done begun from here = InOthers from head here × Plain done begun
Means DesignName head done begun from here = InDesign from head here × Plain done begun
Means ItemsMode head done begun from here = Headed from head here × Plain done begun
Means DividerMark head done begun from here = After word.Divider from head here × Plain done begun
Means DelimiterMark head done begun from here = After word.Delimiter from head here × Plain done begun
Means BusLeft head done begun from here = After word.BusDelimiter from head here × Plain done begun
Means (BusRight left) head done begun from here = AfterLeft from head left here × Plain done begun
Means CapNumber head done begun from here = After word.CapUnit from head here × Plain done begun
Means (CapWord at) head done begun from here = AfterNumber word.CapUnit from head at here × Plain done begun
Means ResNumber head done begun from here = After word.ResUnit from head here × Plain done begun
Means (ResWord at) head done begun from here = AfterNumber word.ResUnit from head at here × Plain done begun
Means NameMap head done begun from here = InMap from head here × Plain done begun
Means (MapName index) head done begun from here = AfterIndex from head index here × Plain done begun
Means Sections head done begun from here = Within from head done here × Fresh begun
Means NetName head done begun from here = Opened from head done here × Fresh begun
Means NetTotal head done begun from here = Named from head done begun here
Means AfterTotal head done begun from here = UpToTotal from head done begun here
Means Confidence head done begun from here = AfterMark from head done begun here
Means AfterConfidence head done begun from here = UpToConfidence from head done begun here
Means ConnsMode head done begun from here = InConns from head done begun here
Means (ConnNode is_port) head done begun from here = AtNode is_port from head done begun here
Means (ConnDirection is_port node) head done begun from here = AtDirection is_port from head done begun node here
Means (ConnTail conn) head done begun from here = InTail from head done begun conn here
Means (ConnLoad conn) head done begun from here = AtLoad from head done begun conn here
Means NodeLine head done begun from here = InNode from head done begun here
Means Caps head done begun from here = InCaps from head done begun here
Means CapFirst head done begun from here = CapId from head done begun here
Means (CapSecond first) head done begun from here = CapOne from head done begun first here
Means (CapValue first second) head done begun from here = CapTwo from head done begun first second here
Means Ress head done begun from here = InRess from head done begun here
Means ResFirst head done begun from here = ResId from head done begun here
Means (ResSecond first) head done begun from here = ResOne from head done begun first here
Means (ResValue first second) head done begun from here = ResTwo from head done begun first second here

-- the same after a token, unless it is refused
abbrev MeansAfter : Result State ⊤ → List Tok → List Tok → Type 0
MeansAfter (Ok s) from here = Means s.mode s.head s.done s.begun from here
MeansAfter (Err refused) from here = ⊤

abbrev st : Mode → Head → List Section → Section → State
st mode head done begun = record { mode = mode; head = head; done = done; begun = begun }

-- one of two steps, by a test
either : (s : State) (from here : List Tok) (test : Bool) (does other : Step) → (test ≡ true → MeansAfter (state_after s does) from here) → (test ≡ false → MeansAfter (state_after s other) from here) → MeansAfter (state_after s (or_else test does other)) from here
either s from here test does other so not_so = by_test test refl
  where
    by_test : (b : Bool) → test ≡ b → MeansAfter (state_after s (or_else b does other)) from here
    by_test true e = so e
    by_test false e = not_so e

-- a step, if a test holds
if_so : (s : State) (from here : List Tok) (test : Bool) (does : Step) → (test ≡ true → MeansAfter (state_after s does) from here) → MeansAfter (state_after s (or_else test does Refuse)) from here
if_so s from here test does so = either s from here test does Refuse so (λ e. tt)

add_item : {from middle rest : List Tok} {head : Head} {item : HeadItem} → Headed from head middle → IsItem middle item rest → Headed from (with_item head item) rest
add_item (headed k o items) item = headed k o (and_item items item)

others_headed : {from here : List Tok} {head : Head} → InOthers from head here → Headed from head here
others_headed (at_first k o) = headed k o no_item
others_headed (in_free (headed k o items) f rest) = headed k o (and_free items f rest)
others_headed (in_design h k n rest) = add_item h (design k n rest)

others_more : {from here : List Tok} {head : Head} {token : Tok} → InOthers from head (token ∷ here) → IsOther token → InOthers from head here
others_more (at_first k o) is = at_first k (and_other o is)
others_more (in_free h f o) is = in_free h f (and_other o is)
others_more (in_design h k n o) is = in_design h k n (and_other o is)

design_headed : {from here : List Tok} {head : Head} → InDesign from head here → Headed from head here
design_headed (unnamed h k) = add_item h (no_design k)

design_named : {from here : List Tok} {head : Head} {token : Tok} → InDesign from head (token ∷ here) → IsOther token → InOthers from (with_item head (Design (Some token.number))) here
design_named (unnamed h k) is = in_design h k is no_other

map_headed : {from here : List Tok} {head : Head} → InMap from head here → Headed from head here
map_headed (in_map (headed k o items) m entries) = headed k o (and_map items m entries)

-- a keyword where an item may begin
top_moves : (mode : Mode) (head : Head) (done : List Section) (begun : Section) (from here : List Tok) (token : Tok) (keyword : Option Word) → word_of token.text ≡ keyword → Headed from head (token ∷ here) → Plain done begun → MeansAfter (state_after (st mode head done begun) (top_step keyword)) from here
top_moves mode head done begun from here token (Some word.Free) k h p = (in_free h k no_other, p)
top_moves mode head done begun from here token (Some word.Design) k h p = (unnamed h k, p)
top_moves mode head done begun from here token (Some word.Divider) k h p = (after h k, p)
top_moves mode head done begun from here token (Some word.Delimiter) k h p = (after h k, p)
top_moves mode head done begun from here token (Some word.BusDelimiter) k h p = (after h k, p)
top_moves mode head done begun from here token (Some word.CapUnit) k h p = (after h k, p)
top_moves mode head done begun from here token (Some word.ResUnit) k h p = (after h k, p)
top_moves mode head done begun from here token (Some word.NameMap) k h p = (in_map h k no_entry, p)
top_moves mode head done begun from here token (Some word.Net) k h plain = (opened (within h none) k, fresh)
top_moves mode head done begun from here token _ k h p = tt

start_moves : (head : Head) (done : List Section) (begun : Section) (from here : List Tok) (token : Tok) (keyword : Option Word) → word_of token.text ≡ keyword → AtStart from head (token ∷ here) → Plain done begun → MeansAfter (state_after (st Start head done begun) (start_step keyword)) from here
start_moves head done begun from here token (Some word.Spef) k at_start p = (at_first k no_other, p)
start_moves head done begun from here token _ k s p = tt

sections_moves : (head : Head) (done : List Section) (begun : Section) (from here : List Tok) (token : Tok) (keyword : Option Word) → word_of token.text ≡ keyword → Within from head done (token ∷ here) → Fresh begun → MeansAfter (state_after (st Sections head done begun) (sections_step keyword)) from here
sections_moves head done begun from here token (Some word.Net) k w f = (opened w k, f)
sections_moves head done begun from here token _ k w f = tt

-- a section whose parts have ended, and its end
total_confidence : {from here : List Tok} {head : Head} {done : List Section} {s : Section} → UpToTotal from head done s here → UpToConfidence from head done s here
total_confidence (up_to_total t) = up_to_confidence t no_confidence

confidence_conns : {from here : List Tok} {head : Head} {done : List Section} {s : Section} → UpToConfidence from head done s here → UpToConns from head done s here
confidence_conns (up_to_confidence t c) = up_to_conns t c no_part

all_conns : {from here : List Tok} {head : Head} {done : List Section} {s : Section} → InConns from head done s here → UpToConns from head done s here
all_conns (in_conns t c k conns) = up_to_conns t c (part k conns)

conns_caps : {from here : List Tok} {head : Head} {done : List Section} {s : Section} → UpToConns from head done s here → UpToCaps from head done s here
conns_caps (up_to_conns t c conns) = up_to_caps t c conns no_part

all_caps : {from here : List Tok} {head : Head} {done : List Section} {s : Section} → InCaps from head done s here → UpToCaps from head done s here
all_caps (in_caps t c conns k caps) = up_to_caps t c conns (part k caps)

caps_ress : {from here : List Tok} {head : Head} {done : List Section} {s : Section} → UpToCaps from head done s here → UpToRess from head done s here
caps_ress (up_to_caps t c conns caps) = up_to_ress t c conns caps no_part

all_ress : {from here : List Tok} {head : Head} {done : List Section} {s : Section} → InRess from head done s here → UpToRess from head done s here
all_ress (in_ress t c conns caps k ress) = up_to_ress t c conns caps (part k ress)

closes : {from here : List Tok} {head : Head} {done : List Section} {s : Section} {token : Tok} → UpToRess from head done s (token ∷ here) → Is word.End token → Within from head (done ++ s ∷ []) here
closes (up_to_ress (totalled (opened (within h sections) k) n v) c conns caps ress) e = within h (more sections (section k n v c conns caps ress e))

-- a part that begins
begins_conns : {from here : List Tok} {head : Head} {done : List Section} {s : Section} {token : Tok} → UpToConfidence from head done s (token ∷ here) → Is word.Conn token → InConns from head done s here
begins_conns (up_to_confidence t c) k = in_conns t c k no_conn

begins_caps : {from here : List Tok} {head : Head} {done : List Section} {s : Section} {token : Tok} → UpToConns from head done s (token ∷ here) → Is word.Cap token → InCaps from head done s here
begins_caps (up_to_conns t c conns) k = in_caps t c conns k none

begins_ress : {from here : List Tok} {head : Head} {done : List Section} {s : Section} {token : Tok} → UpToCaps from head done s (token ∷ here) → Is word.Res token → InRess from head done s here
begins_ress (up_to_caps t c conns caps) k = in_ress t c conns caps k none

-- a keyword in a section
module _ (head : Head) (done : List Section) (begun : Section) (from here : List Tok) (token : Tok) where
  confident_moves : (keyword : Option Word) → word_of token.text ≡ keyword → UpToConfidence from head done begun (token ∷ here) → MeansAfter (state_after (st AfterConfidence head done begun) (confident_step keyword)) from here
  confident_moves (Some word.Conn) k u = begins_conns u k
  confident_moves (Some word.Cap) k u = begins_caps (confidence_conns u) k
  confident_moves (Some word.Res) k u = begins_ress (conns_caps (confidence_conns u)) k
  confident_moves (Some word.End) k u = (closes (caps_ress (conns_caps (confidence_conns u))) k, fresh)
  confident_moves _ k u = tt

  total_moves : (keyword : Option Word) → word_of token.text ≡ keyword → UpToTotal from head done begun (token ∷ here) → MeansAfter (state_after (st AfterTotal head done begun) (total_step keyword)) from here
  total_moves (Some word.Confidence) k u = after_mark u k
  total_moves (Some word.Conn) k u = begins_conns (total_confidence u) k
  total_moves (Some word.Cap) k u = begins_caps (confidence_conns (total_confidence u)) k
  total_moves (Some word.Res) k u = begins_ress (conns_caps (confidence_conns (total_confidence u))) k
  total_moves (Some word.End) k u = (closes (caps_ress (conns_caps (confidence_conns (total_confidence u)))) k, fresh)
  total_moves _ k u = tt

  conns_moves : (mode : Mode) (keyword : Option Word) → word_of token.text ≡ keyword → InConns from head done begun (token ∷ here) → MeansAfter (state_after (st mode head done begun) (conns_step keyword)) from here
  conns_moves mode (Some word.Port) k i = at_node i k
  conns_moves mode (Some word.Internal) k i = at_node i k
  conns_moves mode (Some word.Node) k i = in_node i k no_loose
  conns_moves mode (Some word.Cap) k i = begins_caps (all_conns i) k
  conns_moves mode (Some word.Res) k i = begins_ress (conns_caps (all_conns i)) k
  conns_moves mode (Some word.End) k i = (closes (caps_ress (conns_caps (all_conns i))) k, fresh)
  conns_moves mode _ k i = tt

  caps_moves : (keyword : Option Word) → word_of token.text ≡ keyword → InCaps from head done begun (token ∷ here) → MeansAfter (state_after (st Caps head done begun) (caps_step keyword)) from here
  caps_moves (Some word.Res) k i = begins_ress (all_caps i) k
  caps_moves (Some word.End) k i = (closes (caps_ress (all_caps i)) k, fresh)
  caps_moves _ k i = tt

  ress_moves : (keyword : Option Word) → word_of token.text ≡ keyword → InRess from head done begun (token ∷ here) → MeansAfter (state_after (st Ress head done begun) (ress_step keyword)) from here
  ress_moves (Some word.End) k i = (closes (all_ress i) k, fresh)
  ress_moves _ k i = tt

-- a connection that ends
connection : {mark : ℕ} {begin rest : List Tok} {load : Option ℕ} {keyword node direction : Tok} (is_port : Bool) → IsKind is_port keyword → IsRef mark node → IsDirection direction → IsTail begin load rest → IsConn mark (keyword ∷ node ∷ direction ∷ begin) (record { port = is_port; node = node.number; direction = byte_at direction 0; load = load }) rest
connection true k n d t = port k n d t
connection false k n d t = internal k n d t

joined : {from here : List Tok} {head : Head} {done : List Section} {s : Section} {conn : ConnAt} → InTail from head done s conn here → InConns from head done (with_conn s conn) here
joined (in_tail {is_port = is_port} (at_direction (at_node (in_conns t c k conns) kind) n) d tail) = in_conns t c k (and_conn conns (connection is_port kind n d tail))

looses : {from here : List Tok} {head : Head} {done : List Section} {s : Section} → InNode from head done s here → InConns from head done s here
looses (in_node (in_conns t c k conns) n loose) = in_conns t c k (and_node conns n loose)

tail_loose : {from here : List Tok} {head : Head} {done : List Section} {s : Section} {conn : ConnAt} {token : Tok} → InTail from head done s conn (token ∷ here) → IsLoose token → InTail from head done s conn here
tail_loose (in_tail a d tail) is = in_tail a d (and_loose tail is)

tail_load : {from here : List Tok} {head : Head} {done : List Section} {s : Section} {conn : ConnAt} {token : Tok} → AtLoad from head done s conn (token ∷ here) → IsValue token → InTail from head done s (record { port = conn.port; node = conn.node; direction = conn.direction; load = Some token.number }) here
tail_load (at_load (in_tail a d tail) k) v = in_tail a d (and_load tail k v)

node_loose : {from here : List Tok} {head : Head} {done : List Section} {s : Section} {token : Tok} → InNode from head done s (token ∷ here) → IsLoose token → InNode from head done s here
node_loose (in_node c k loose) is = in_node c k (and_loose_one loose is)

-- capacitances and resistances that end
to_ground_ends : {from here : List Tok} {head : Head} {done : List Section} {s : Section} {first : ℕ} {token : Tok} → CapOne from head done s first (token ∷ here) → IsValue token → InCaps from head done (record { net = s.net; conns = s.conns; caps = s.caps ++ record { first = first; second = None; value = token.number } ∷ []; ress = s.ress }) here
to_ground_ends (cap_one (cap_id (in_caps t c conns k caps) i) n) v = in_caps t c conns k (more caps (to_ground i n v))

coupling_ends : {from here : List Tok} {head : Head} {done : List Section} {s : Section} {first second : ℕ} {token : Tok} → CapTwo from head done s first second (token ∷ here) → IsValue token → InCaps from head done (record { net = s.net; conns = s.conns; caps = s.caps ++ record { first = first; second = Some second; value = token.number } ∷ []; ress = s.ress }) here
coupling_ends (cap_two (cap_one (cap_id (in_caps t c conns k caps) i) n) m) v = in_caps t c conns k (more caps (coupling i n m v))

resistor_ends : {from here : List Tok} {head : Head} {done : List Section} {s : Section} {first second : ℕ} {token : Tok} → ResTwo from head done s first second (token ∷ here) → IsValue token → InRess from head done (record { net = s.net; conns = s.conns; caps = s.caps; ress = s.ress ++ record { first = first; second = second; value = token.number } ∷ [] }) here
resistor_ends (res_two (res_one (res_id (in_ress t c conns caps k ress) i) n) m) v = in_ress t c conns caps k (more ress (resistor i n m v))

-- what a token makes of the tokens so far
moves : (mode : Mode) (head : Head) (done : List Section) (begun : Section) (from here : List Tok) (token : Tok) → Means mode head done begun from (token ∷ here) → MeansAfter (state_after (st mode head done begun) (next_mode mode head.marks.delimiter token.number token.text)) from here
moves Start head done begun from here token m = start_moves head done begun from here token (word_of token.text) refl m.0 m.1
moves OthersMode head done begun from here token m =
    either (st OthersMode head done begun) from here (is_other token.text) (Go OthersMode) (top_step (word_of token.text))
    (λ is. (others_more m.0 is, m.1))
    (λ is. top_moves OthersMode head done begun from here token (word_of token.text) refl (others_headed m.0) m.1)
moves DesignName head done begun from here token m =
    either (st DesignName head done begun) from here (is_other token.text) (Put OthersMode (Design (Some token.number))) (top_step (word_of token.text))
    (λ is. (design_named m.0 is, m.1))
    (λ is. top_moves DesignName head done begun from here token (word_of token.text) refl (design_headed m.0) m.1)
moves ItemsMode head done begun from here token m = top_moves ItemsMode head done begun from here token (word_of token.text) refl m.0 m.1
moves DividerMark head done begun from here token (after h k, p) =
    if_so (st DividerMark head done begun) from here (is_mark token.text) (Put ItemsMode (Divider (byte_at token 0))) (λ is. (add_item h (divider k is), p))
moves DelimiterMark head done begun from here token (after h k, p) =
    if_so (st DelimiterMark head done begun) from here (is_mark token.text) (Put ItemsMode (Delimiter (byte_at token 0))) (λ is. (add_item h (delimiter k is), p))
moves BusLeft head done begun from here token (after h k, p) =
    either (st BusLeft head done begun) from here (is_two_marks token.text) (Put ItemsMode (BusDelimiter (byte_at token 0) (byte_at token 1))) (or_else (is_mark token.text) (Go (BusRight (byte_at token 0))) Refuse)
    (λ is. (add_item h (bus_pair k is), p))
    (λ no. if_so (st BusLeft head done begun) from here (is_mark token.text) (Go (BusRight (byte_at token 0))) (λ is. (after_left h k is, p)))
moves (BusRight left) head done begun from here token (after_left h k l, p) =
    if_so (st (BusRight left) head done begun) from here (is_mark token.text) (Put ItemsMode (BusDelimiter left (byte_at token 0))) (λ is. (add_item h (bus_marks k l is), p))
moves CapNumber head done begun from here token (after h k, p) =
    if_so (st CapNumber head done begun) from here (is_literal token.text) (Go (CapWord token.number)) (λ is. (after_number h k is, p))
moves (CapWord at) head done begun from here token (after_number h k l, p) =
    if_so (st (CapWord at) head done begun) from here (is_other token.text) (Put ItemsMode (CapUnit at)) (λ is. (add_item h (cap_unit k l is), p))
moves ResNumber head done begun from here token (after h k, p) =
    if_so (st ResNumber head done begun) from here (is_literal token.text) (Go (ResWord token.number)) (λ is. (after_number h k is, p))
moves (ResWord at) head done begun from here token (after_number h k l, p) =
    if_so (st (ResWord at) head done begun) from here (is_other token.text) (Put ItemsMode (ResUnit at)) (λ is. (add_item h (res_unit k l is), p))
moves NameMap head done begun from here token m =
    either (st NameMap head done begun) from here (is_index token.text) (Go (MapName token.number)) (top_step (word_of token.text))
    (λ is. (after_index m.0 is, m.1))
    (λ is. top_moves NameMap head done begun from here token (word_of token.text) refl (map_headed m.0) m.1)
moves (MapName at) head done begun from here token (after_index (in_map h k entries) i, p) =
    if_so (st (MapName at) head done begun) from here (is_map_name token.text) (Put NameMap (Mapped (record { index = at; name = token.number }))) (λ is. (in_map h k (and_entry entries i is), p))
moves Sections head done begun from here token m = sections_moves head done begun from here token (word_of token.text) refl m.0 m.1
moves NetName head done begun from here token (o, fresh) =
    if_so (st NetName head done begun) from here (is_ref head.marks.delimiter token.text) (Open token.number) (λ is. named o is)
moves NetTotal head done begun from here token (named o n) =
    if_so (st NetTotal head done begun) from here (is_value token.text) (Go AfterTotal) (λ is. up_to_total (totalled o n is))
moves AfterTotal head done begun from here token m = total_moves head done begun from here token (word_of token.text) refl m
moves Confidence head done begun from here token (after_mark (up_to_total t) k) =
    if_so (st Confidence head done begun) from here (is_literal token.text) (Go AfterConfidence) (λ is. up_to_confidence t (confidence k is))
moves AfterConfidence head done begun from here token m = confident_moves head done begun from here token (word_of token.text) refl m
moves ConnsMode head done begun from here token m = conns_moves head done begun from here token ConnsMode (word_of token.text) refl m
moves (ConnNode is_port) head done begun from here token m =
    if_so (st (ConnNode is_port) head done begun) from here (is_ref head.marks.delimiter token.text) (Go (ConnDirection is_port token.number)) (λ is. at_direction m is)
moves (ConnDirection is_port node) head done begun from here token m =
    if_so (st (ConnDirection is_port node) head done begun) from here (is_direction token.text) (Go (ConnTail (record { port = is_port; node = node; direction = byte_at token 0; load = None }))) (λ is. in_tail m is no_tail)
moves (ConnTail conn) head done begun from here token m = tail_moves (is_loose token.text) refl
  where
    left_moves : (keyword : Option Word) → word_of token.text ≡ keyword → MeansAfter (state_after (st ConnsMode head done (with_conn begun conn)) (conns_step keyword)) from here → MeansAfter (state_after (st (ConnTail conn) head done begun) (load_step conn keyword)) from here
    left_moves (Some word.Load) k l = at_load m k
    left_moves (Some word.Port) k l = l
    left_moves (Some word.Internal) k l = l
    left_moves (Some word.Node) k l = l
    left_moves (Some word.Cap) k l = l
    left_moves (Some word.Res) k l = l
    left_moves (Some word.End) k l = l
    left_moves _ k l = tt

    tail_moves : (b : Bool) → is_loose token.text ≡ b → MeansAfter (state_after (st (ConnTail conn) head done begun) (tail_step conn b (word_of token.text))) from here
    tail_moves true is = tail_loose m is
    tail_moves false is = left_moves (word_of token.text) refl (conns_moves head done (with_conn begun conn) from here token ConnsMode (word_of token.text) refl (joined m))
moves (ConnLoad conn) head done begun from here token m =
    if_so (st (ConnLoad conn) head done begun) from here (is_value token.text) (Go (ConnTail (record { port = conn.port; node = conn.node; direction = conn.direction; load = Some token.number }))) (λ is. tail_load m is)
moves NodeLine head done begun from here token m =
    either (st NodeLine head done begun) from here (is_loose token.text) (Go NodeLine) (conns_step (word_of token.text))
    (λ is. node_loose m is)
    (λ is. conns_moves head done begun from here token NodeLine (word_of token.text) refl (looses m))
moves Caps head done begun from here token m =
    either (st Caps head done begun) from here (is_id token.text) (Go CapFirst) (caps_step (word_of token.text))
    (λ is. cap_id m is)
    (λ is. caps_moves head done begun from here token (word_of token.text) refl m)
moves CapFirst head done begun from here token m =
    if_so (st CapFirst head done begun) from here (is_ref head.marks.delimiter token.text) (Go (CapSecond token.number)) (λ is. cap_one m is)
moves (CapSecond first) head done begun from here token m =
    either (st (CapSecond first) head done begun) from here (is_value token.text) (AddCap (record { first = first; second = None; value = token.number })) (or_else (is_ref head.marks.delimiter token.text) (Go (CapValue first token.number)) Refuse)
    (λ is. to_ground_ends m is)
    (λ no. if_so (st (CapSecond first) head done begun) from here (is_ref head.marks.delimiter token.text) (Go (CapValue first token.number)) (λ is. cap_two m is))
moves (CapValue first second) head done begun from here token m =
    if_so (st (CapValue first second) head done begun) from here (is_value token.text) (AddCap (record { first = first; second = Some second; value = token.number })) (λ is. coupling_ends m is)
moves Ress head done begun from here token m =
    either (st Ress head done begun) from here (is_id token.text) (Go ResFirst) (ress_step (word_of token.text))
    (λ is. res_id m is)
    (λ is. ress_moves head done begun from here token (word_of token.text) refl m)
moves ResFirst head done begun from here token m =
    if_so (st ResFirst head done begun) from here (is_ref head.marks.delimiter token.text) (Go (ResSecond token.number)) (λ is. res_one m is)
moves (ResSecond first) head done begun from here token m =
    if_so (st (ResSecond first) head done begun) from here (is_ref head.marks.delimiter token.text) (Go (ResValue first token.number)) (λ is. res_two m is)
moves (ResValue first second) head done begun from here token m =
    if_so (st (ResValue first second) head done begun) from here (is_value token.text) (AddRes (record { first = first; second = second; value = token.number })) (λ is. resistor_ends m is)

-- where a file may end, the tokens are a file
sections_end : {from : List Tok} {head : Head} {done : List Section} → Within from head done [] → IsSpef from (record { head = head; sections = done })
sections_end (within (headed k o items) sections) = spef k o items sections

headed_end : {from : List Tok} {head : Head} {done : List Section} {begun : Section} → Headed from head [] → Plain done begun → IsSpef from (record { head = head; sections = done })
headed_end (headed k o items) plain = spef k o items none

abbrev said : Head → List Section → Result Reading ⊤
said head done = Ok (record { head = head; sections = done })

ended_as : {from : List Tok} {head : Head} {done : List Section} (reading : Reading) → IsSpef from (record { head = head; sections = done }) → said head done ≡ Ok reading → IsSpef from reading
ended_as {from} {head} {done} reading is e =
    let same : record { head = head; sections = done } ≡ reading = cc in
    subst (λ (r : Reading). IsSpef from r) same is

ends : (mode : Mode) (head : Head) (done : List Section) (begun : Section) (from : List Tok) (reading : Reading) → Means mode head done begun from [] → finish (st mode head done begun) ≡ Ok reading → IsSpef from reading
ends OthersMode head done begun from reading m e = ended_as reading (headed_end (others_headed m.0) m.1) e
ends DesignName head done begun from reading m e = ended_as reading (headed_end (design_headed m.0) m.1) e
ends ItemsMode head done begun from reading m e = ended_as reading (headed_end m.0 m.1) e
ends NameMap head done begun from reading m e = ended_as reading (headed_end (map_headed m.0) m.1) e
ends Sections head done begun from reading m e = ended_as reading (sections_end m.0) e
ends _ head done begun from reading m e = absurd (cc)

-- the tokens so far, and those that lead from there to the end, are a file that says this
meaning_from : (s : State) (from here : List Tok) (reading : Reading) → Means s.mode s.head s.done s.begun from here → Accepts next finish s here reading → IsSpef from reading
meaning_from s from here reading m (ended e) = ends s.mode s.head s.done s.begun from reading m e
meaning_from s from here reading m (taken {after = s'} {token = token} {tokens = tokens} e leads) =
    let made = moves s.mode s.head s.done s.begun from tokens token m in
    meaning_from s' from tokens reading (subst (λ (r : Result State ⊤). MeansAfter r from tokens) e made) leads

-- tokens that lead from the start to the end are a file of the grammar
pub meaning : (tokens : List Tok) (reading : Reading) → Accepts next finish first_state tokens reading → IsSpef tokens reading
meaning tokens reading leads = meaning_from first_state tokens tokens reading (at_start, plain) leads
