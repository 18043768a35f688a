-- The texts of the grammar lead to their end: the reader refuses none of them.
use Rattle.std.proofs.Common.{◌≡◌, ℕ, Bool, true, false, List, [], ◌∷◌, ◌++◌, Option, Some, None, Ok, Err, refl, sym, ap, ap₂, ◌∙◌, ◌⊎◌, inl, inr}
use Rattle.token_fronts.specs.Accepting.{Accepts, ended, taken}
use Rattle.spef_text.specs.Classes.{word_of, is_top, is_tight, holds_of, is_index}
use Rattle.spef_text.specs.Entries.{Section, Head, Reading, no_section, plain_head, with_item}
use Rattle.spef_text.specs.declared.entries.Conn.{Conn}
use Rattle.spef_text.specs.declared.entries.Cap.{Cap}
use Rattle.spef_text.specs.declared.entries.Res.{Res}
use Rattle.spef_text.specs.declared.entries.ConnAt.{ConnAt}
use Rattle.spef_text.specs.declared.entries.HeadItem.{HeadItem}
use Rattle.spef_text.specs.declared.entries.HeadItem.TheVariants.{Divider, Delimiter, BusDelimiter, Design, CapUnit, ResUnit, Mapped}
use Rattle.spef_text.specs.declared.words.Word.{Word}
use Rattle.spef_text.specs.declared.words.Word.TheVariants as word
use Rattle.spef_text.specs.declared.modes.Mode.{Mode}
use Rattle.spef_text.specs.declared.modes.Mode.TheVariants.{Others as OthersMode, DesignName, Items as ItemsMode, DividerMark, DelimiterMark, BusLeft, BusRight, CapNumber, CapWord, ResNumber, ResWord, NameMap, MapName, Sections, NetName, AfterTotal, Confidence, AfterConfidence, Conns as ConnsMode, ConnNode, ConnDirection, ConnTail, ConnLoad, NodeLine, Caps, CapFirst, CapSecond, CapValue, Ress, ResFirst, ResSecond, ResValue}
use Rattle.spef_text.specs.declared.modes.Step.{Step}
use Rattle.spef_text.specs.declared.modes.Step.TheVariants.{Refuse, Go, Put, Open, AddCap, AddRes, Close}
use Rattle.spef_text.specs.Grammar.{Tok, Is, byte_at, Many, none, more, Others, no_other, and_other, IsMap, no_entry, and_entry, IsItem, divider, delimiter, bus_marks, bus_pair, no_design, design, cap_unit, res_unit, Items, no_item, and_item, and_free, and_map, IsTail, no_tail, and_loose, and_load, IsConn, port, internal, AreLoose, no_loose, and_loose_one, Conns, no_conn, and_conn, and_node, IsCap, to_ground, coupling, IsRes, resistor, IsConfidence, no_confidence, confidence, IsPart, no_part, part, IsSection, section, IsSpef, spef}
use Rattle.spef_text.specs.Modes.{State, first_state, conn_of, start_step, top_step, sections_step, total_step, confident_step, conns_step, tail_step, caps_step, ress_step, or_else, next_mode, state_after, next, finish}
use Rattle.spef_text.proofs.Overlaps.{top_no_other, tight_no_loose, keyword_no_id, keyword_no_index, mark_not_two, ref_no_value}

-- the tokens lead from this state to the end of a file that says this
abbrev Leads : State → List Tok → Reading → Type 0
Leads = Accepts next finish

-- a step that is taken; what it does is the equation
step : {s after : State} {token : Tok} {tokens : List Tok} {reading : Reading} (does : Step)
    → next_mode s.mode s.head.marks.delimiter token.number token.text ≡ does
    → state_after s does ≡ Ok after
    → Leads after tokens reading → Leads s (token ∷ tokens) reading
step {s = s} does e f leads = taken (ap (state_after s) e ∙ f) leads

-- where a test holds, and where it does not
yes : {test : Bool} (a b : Step) → test ≡ true → or_else test a b ≡ a
yes a b e = ap (λ t. or_else t a b) e

no : {test : Bool} (a b : Step) → test ≡ false → or_else test a b ≡ b
no a b e = ap (λ t. or_else t a b) e

-- a state of the head
abbrev top : Mode → Head → State
top mode head = record { mode = mode; head = head; done = []; begun = no_section }

-- a keyword that begins an item or a net, where the answer is no refusal
is_begin : (keyword : Option Word) → (top_step keyword ≡ Refuse) ⊎ (holds_of is_top keyword ≡ true)
is_begin (Some word.Free) = inr refl
is_begin (Some word.Design) = inr refl
is_begin (Some word.Divider) = inr refl
is_begin (Some word.Delimiter) = inr refl
is_begin (Some word.BusDelimiter) = inr refl
is_begin (Some word.CapUnit) = inr refl
is_begin (Some word.ResUnit) = inr refl
is_begin (Some word.NameMap) = inr refl
is_begin (Some word.Net) = inr refl
is_begin _ = inl refl

top_keyword : (s after : State) (keyword : Option Word) → state_after s (top_step keyword) ≡ Ok after → holds_of is_top keyword ≡ true
top_keyword s after keyword e = by_begin (is_begin keyword)
  where
    by_begin : (top_step keyword ≡ Refuse) ⊎ (holds_of is_top keyword ≡ true) → holds_of is_top keyword ≡ true
    by_begin (inl refused) = absurd (let f : Err tt ≡ Ok after = sym (ap (state_after s) refused) ∙ e in cc)
    by_begin (inr is) = is

top_no_index : (head : Head) (after : State) (text : List ℕ) (keyword : Option Word) → word_of text ≡ keyword → state_after (top ItemsMode head) (top_step keyword) ≡ Ok after → is_index text ≡ false
top_no_index head after text None is e = absurd (cc)
top_no_index head after text (Some keyword) is e = keyword_no_index text keyword is

-- where an item may stand, there may stand a net
net_step : (head : Head) (after : State) (keyword : Option Word) → state_after (top Sections head) (sections_step keyword) ≡ Ok after → state_after (top ItemsMode head) (top_step keyword) ≡ Ok after
net_step head after (Some word.Net) e = e
net_step head after _ e = absurd (cc)

-- where others may stand, the design's name or an index, there may stand what follows any item
module _ {head : Head} {reading : Reading} where
  items_others : {tokens : List Tok} → Leads (top ItemsMode head) tokens reading → Leads (top OthersMode head) tokens reading
  items_others (ended e) = ended e
  items_others (taken {after = after} {token = token} e leads) =
      step (top_step (word_of token.text)) (no _ _ (top_no_other token.text (top_keyword (top ItemsMode head) after (word_of token.text) e))) e leads

  items_design : {tokens : List Tok} → Leads (top ItemsMode head) tokens reading → Leads (top DesignName head) tokens reading
  items_design (ended e) = ended e
  items_design (taken {after = after} {token = token} e leads) =
      step (top_step (word_of token.text)) (no _ _ (top_no_other token.text (top_keyword (top ItemsMode head) after (word_of token.text) e))) e leads

  items_map : {tokens : List Tok} → Leads (top ItemsMode head) tokens reading → Leads (top NameMap head) tokens reading
  items_map (ended e) = ended e
  items_map (taken {after = after} {token = token} e leads) =
      step (top_step (word_of token.text)) (no _ _ (top_no_index head after token.text (word_of token.text) refl e)) e leads

  sections_items : {tokens : List Tok} → Leads (top Sections head) tokens reading → Leads (top ItemsMode head) tokens reading
  sections_items (ended e) = ended e
  sections_items (taken {after = after} {token = token} e leads) = taken (net_step head after (word_of token.text) e) leads

  others : {from rest : List Tok} → Others from rest → Leads (top OthersMode head) rest reading → Leads (top OthersMode head) from reading
  others no_other leads = leads
  others (and_other before is) leads = others before (step (Go OthersMode) (yes _ _ is) refl leads)

item : {head : Head} {reading : Reading} {from rest : List Tok} {it : HeadItem} → IsItem from it rest → Leads (top ItemsMode (with_item head it)) rest reading → Leads (top ItemsMode head) from reading
item (divider {mark = mark} k m) leads =
    step (Go DividerMark) (ap top_step k) refl
    (step (Put ItemsMode (Divider (byte_at mark 0))) (yes _ _ m) refl leads)
item (delimiter {mark = mark} k m) leads =
    step (Go DelimiterMark) (ap top_step k) refl
    (step (Put ItemsMode (Delimiter (byte_at mark 0))) (yes _ _ m) refl leads)
item (bus_marks {left = left} {right = right} k l r) leads =
    step (Go BusLeft) (ap top_step k) refl
    (step (Go (BusRight (byte_at left 0))) (no _ _ (mark_not_two left.text l) ∙ yes _ _ l) refl
    (step (Put ItemsMode (BusDelimiter (byte_at left 0) (byte_at right 0))) (yes _ _ r) refl leads))
item (bus_pair {both = both} k b) leads =
    step (Go BusLeft) (ap top_step k) refl
    (step (Put ItemsMode (BusDelimiter (byte_at both 0) (byte_at both 1))) (yes _ _ b) refl leads)
item (no_design k) leads = step (Put DesignName (Design None)) (ap top_step k) refl (items_design leads)
item (design {name = name} k n rest) leads =
    step (Put DesignName (Design None)) (ap top_step k) refl
    (step (Put OthersMode (Design (Some name.number))) (yes _ _ n) refl (others rest (items_others leads)))
item (cap_unit {number = number} k l u) leads =
    step (Go CapNumber) (ap top_step k) refl
    (step (Go (CapWord number.number)) (yes _ _ l) refl
    (step (Put ItemsMode (CapUnit number.number)) (yes _ _ u) refl leads))
item (res_unit {number = number} k l u) leads =
    step (Go ResNumber) (ap top_step k) refl
    (step (Go (ResWord number.number)) (yes _ _ l) refl
    (step (Put ItemsMode (ResUnit number.number)) (yes _ _ u) refl leads))

map : {from rest : List Tok} {before after : Head} {reading : Reading} → IsMap from before after rest → Leads (top NameMap after) rest reading → Leads (top NameMap before) from reading
map no_entry leads = leads
map (and_entry {index = index} {name = name} before i n) leads =
    map before
    (step (Go (MapName index.number)) (yes _ _ i) refl
    (step (Put NameMap (Mapped (record { index = index.number; name = name.number }))) (yes _ _ n) refl leads))

items : {from rest : List Tok} {head : Head} {reading : Reading} → Items from head rest → Leads (top ItemsMode head) rest reading → Leads (top ItemsMode plain_head) from reading
items no_item leads = leads
items (and_item before it) leads = items before (item it leads)
items (and_free before k rest) leads = items before (step (Go OthersMode) (ap top_step k) refl (others rest (items_others leads)))
items (and_map before k entries) leads = items before (step (Go NameMap) (ap top_step k) refl (map entries (items_map leads)))

-- a state of a section
module _ (head : Head) (done : List Section) (net : ℕ) (reading : Reading) where
  abbrev at : Mode → List Conn → List Cap → List Res → State
  at mode conns caps ress = record { mode = mode; head = head; done = done; begun = record { net = net; conns = conns; caps = caps; ress = ress } }

  abbrev mark : ℕ
  mark = head.marks.delimiter

  -- what follows a connection ends it
  left_same : (conn : ConnAt) (conns : List Conn) (after : State) (keyword : Option Word) → state_after (at ConnsMode (conns ++ conn_of conn ∷ []) [] []) (conns_step keyword) ≡ Ok after → (holds_of is_tight keyword ≡ true) × (state_after (at (ConnTail conn) conns [] []) (tail_step conn false keyword) ≡ Ok after)
  left_same conn conns after (Some word.Port) e = (refl, e)
  left_same conn conns after (Some word.Internal) e = (refl, e)
  left_same conn conns after (Some word.Node) e = (refl, e)
  left_same conn conns after (Some word.Cap) e = (refl, e)
  left_same conn conns after (Some word.Res) e = (refl, e)
  left_same conn conns after (Some word.End) e = (refl, e)
  left_same conn conns after _ e = absurd (cc)

  conn_done : {conn : ConnAt} {conns : List Conn} {tokens : List Tok} → Leads (at ConnsMode (conns ++ conn_of conn ∷ []) [] []) tokens reading → Leads (at (ConnTail conn) conns [] []) tokens reading
  conn_done (ended e) = absurd (cc)
  conn_done {conn} {conns} (taken {after = after} {token = token} e leads) =
      let same = left_same conn conns after (word_of token.text) e in
      step (tail_step conn false (word_of token.text)) (ap (λ b. tail_step conn b (word_of token.text)) (tight_no_loose token.text same.0)) same.1 leads

  tight_step : (conns : List Conn) (after : State) (keyword : Option Word) → state_after (at ConnsMode conns [] []) (conns_step keyword) ≡ Ok after → holds_of is_tight keyword ≡ true
  tight_step conns after (Some word.Port) e = refl
  tight_step conns after (Some word.Internal) e = refl
  tight_step conns after (Some word.Node) e = refl
  tight_step conns after (Some word.Cap) e = refl
  tight_step conns after (Some word.Res) e = refl
  tight_step conns after (Some word.End) e = refl
  tight_step conns after _ e = absurd (cc)

  node_done : {conns : List Conn} {tokens : List Tok} → Leads (at ConnsMode conns [] []) tokens reading → Leads (at NodeLine conns [] []) tokens reading
  node_done (ended e) = absurd (cc)
  node_done {conns} (taken {after = after} {token = token} e leads) =
      step (conns_step (word_of token.text)) (no _ _ (tight_no_loose token.text (tight_step conns after (word_of token.text) e))) e leads

  tail : {port : Bool} {node direction : ℕ} {load : Option ℕ} {conns : List Conn} {from rest : List Tok} → IsTail from load rest → Leads (at (ConnTail (record { port = port; node = node; direction = direction; load = load })) conns [] []) rest reading → Leads (at (ConnTail (record { port = port; node = node; direction = direction; load = None })) conns [] []) from reading
  tail no_tail leads = leads
  tail {port} {node} {direction} (and_loose {load = load} {token = token} before is) leads =
      let conn : ConnAt = record { port = port; node = node; direction = direction; load = load } in
      tail before (step (Go (ConnTail conn)) (ap (λ b. tail_step conn b (word_of token.text)) is) refl leads)
  tail {port} {node} {direction} (and_load {load = load} {keyword = keyword} {value = value} before k v) leads =
      let conn : ConnAt = record { port = port; node = node; direction = direction; load = load } in
      tail before
      (step (Go (ConnLoad conn)) (ap₂ (tail_step conn) (tight_no_loose keyword.text (ap (holds_of is_tight) k)) k) refl
      (step (Go (ConnTail (record { port = port; node = node; direction = direction; load = Some value.number }))) (yes _ _ v) refl leads))

  conn : {conn : Conn} {conns : List Conn} {from rest : List Tok} → IsConn mark from conn rest → Leads (at ConnsMode (conns ++ conn ∷ []) [] []) rest reading → Leads (at ConnsMode conns [] []) from reading
  conn (port {node = node} {direction = direction} k n d t) leads =
      step (Go (ConnNode true)) (ap conns_step k) refl
      (step (Go (ConnDirection true node.number)) (yes _ _ n) refl
      (step (Go (ConnTail (record { port = true; node = node.number; direction = byte_at direction 0; load = None }))) (yes _ _ d) refl
      (tail t (conn_done leads))))
  conn (internal {node = node} {direction = direction} k n d t) leads =
      step (Go (ConnNode false)) (ap conns_step k) refl
      (step (Go (ConnDirection false node.number)) (yes _ _ n) refl
      (step (Go (ConnTail (record { port = false; node = node.number; direction = byte_at direction 0; load = None }))) (yes _ _ d) refl
      (tail t (conn_done leads))))

  loose : {conns : List Conn} {from rest : List Tok} → AreLoose from rest → Leads (at NodeLine conns [] []) rest reading → Leads (at NodeLine conns [] []) from reading
  loose no_loose leads = leads
  loose (and_loose_one before is) leads = loose before (step (Go NodeLine) (yes _ _ is) refl leads)

  connections : {conns : List Conn} {from rest : List Tok} → Conns mark from conns rest → Leads (at ConnsMode conns [] []) rest reading → Leads (at ConnsMode [] [] []) from reading
  connections no_conn leads = leads
  connections (and_conn before here) leads = connections before (conn here leads)
  connections (and_node before k rest) leads = connections before (step (Go NodeLine) (ap conns_step k) refl (loose rest (node_done leads)))

  cap : {conns : List Conn} {cap : Cap} {caps : List Cap} {from rest : List Tok} → IsCap mark from cap rest → Leads (at Caps conns (caps ++ cap ∷ []) []) rest reading → Leads (at Caps conns caps []) from reading
  cap (to_ground {first = first} {value = value} i f v) leads =
      step (Go CapFirst) (yes _ _ i) refl
      (step (Go (CapSecond first.number)) (yes _ _ f) refl
      (step (AddCap (record { first = first.number; second = None; value = value.number })) (yes _ _ v) refl leads))
  cap (coupling {first = first} {second = second} {value = value} i f s v) leads =
      step (Go CapFirst) (yes _ _ i) refl
      (step (Go (CapSecond first.number)) (yes _ _ f) refl
      (step (Go (CapValue first.number second.number)) (no _ _ (ref_no_value mark second.text s) ∙ yes _ _ s) refl
      (step (AddCap (record { first = first.number; second = Some second.number; value = value.number })) (yes _ _ v) refl leads)))

  capacitances : {conns : List Conn} {caps : List Cap} {from rest : List Tok} → Many (IsCap mark) from caps rest → Leads (at Caps conns caps []) rest reading → Leads (at Caps conns [] []) from reading
  capacitances none leads = leads
  capacitances (more before here) leads = capacitances before (cap here leads)

  res : {conns : List Conn} {caps : List Cap} {res : Res} {ress : List Res} {from rest : List Tok} → IsRes mark from res rest → Leads (at Ress conns caps (ress ++ res ∷ [])) rest reading → Leads (at Ress conns caps ress) from reading
  res (resistor {first = first} {second = second} {value = value} i f s v) leads =
      step (Go ResFirst) (yes _ _ i) refl
      (step (Go (ResSecond first.number)) (yes _ _ f) refl
      (step (Go (ResValue first.number second.number)) (yes _ _ s) refl
      (step (AddRes (record { first = first.number; second = second.number; value = value.number })) (yes _ _ v) refl leads)))

  resistances : {conns : List Conn} {caps : List Cap} {ress : List Res} {from rest : List Tok} → Many (IsRes mark) from ress rest → Leads (at Ress conns caps ress) rest reading → Leads (at Ress conns caps []) from reading
  resistances none leads = leads
  resistances (more before here) leads = resistances before (res here leads)

-- a mode in which a part of a section may begin, or each that follows it
record OpensRess (mode : Mode) : Type 0 where
  ress : (mark number : ℕ) (text : List ℕ) → word_of text ≡ Some word.Res → next_mode mode mark number text ≡ Go Ress
  end : (mark number : ℕ) (text : List ℕ) → word_of text ≡ Some word.End → next_mode mode mark number text ≡ Close None

record OpensCaps (mode : Mode) : Type 0 where
  caps : (mark number : ℕ) (text : List ℕ) → word_of text ≡ Some word.Cap → next_mode mode mark number text ≡ Go Caps
  rest : OpensRess mode

record OpensConns (mode : Mode) : Type 0 where
  conns : (mark number : ℕ) (text : List ℕ) → word_of text ≡ Some word.Conn → next_mode mode mark number text ≡ Go ConnsMode
  rest : OpensCaps mode

after_total : OpensConns AfterTotal
after_total = record {
  conns = λ mark number text k. ap total_step k;
  rest = record {
    caps = λ mark number text k. ap total_step k;
    rest = record { ress = λ mark number text k. ap total_step k; end = λ mark number text k. ap total_step k };
  };
}

after_confidence : OpensConns AfterConfidence
after_confidence = record {
  conns = λ mark number text k. ap confident_step k;
  rest = record {
    caps = λ mark number text k. ap confident_step k;
    rest = record { ress = λ mark number text k. ap confident_step k; end = λ mark number text k. ap confident_step k };
  };
}

after_conns : OpensCaps ConnsMode
after_conns = record {
  caps = λ mark number text k. ap conns_step k;
  rest = record { ress = λ mark number text k. ap conns_step k; end = λ mark number text k. ap conns_step k };
}

after_caps : OpensRess Caps
after_caps = record {
  ress = λ mark number text k. no _ _ (keyword_no_id text word.Res k) ∙ ap caps_step k;
  end = λ mark number text k. no _ _ (keyword_no_id text word.End k) ∙ ap caps_step k;
}

-- the parts of a section, each with what follows it from any mode in which that may begin
module _ (head : Head) (done : List Section) (net : ℕ) (reading : Reading) where
  abbrev in_section : Mode → List Conn → List Cap → List Res → State
  in_section mode conns caps ress = record { mode = mode; head = head; done = done; begun = record { net = net; conns = conns; caps = caps; ress = ress } }

  abbrev Ends : List Conn → List Cap → List Res → List Tok → Type 0
  Ends conns caps ress rest = Leads (record { mode = Sections; head = head; done = done ++ record { net = net; conns = conns; caps = caps; ress = ress } ∷ []; begun = no_section }) rest reading

  ress_part : {mode : Mode} {conns : List Conn} {caps : List Cap} {ress : List Res} {from rest : List Tok} {end : Tok} → OpensRess mode → IsPart word.Res (Many (IsRes head.marks.delimiter)) from ress (end ∷ rest) → Is word.End end → Ends conns caps ress rest → Leads (in_section mode conns caps []) from reading
  ress_part {end = end} opens no_part is leads = step (Close None) (opens.end _ _ _ is) refl leads
  ress_part {end = end} opens (part {head = keyword} k entries) is leads =
      step (Go Ress) (opens.ress _ _ _ k) refl
      (resistances head done net reading entries
      (step (Close None) (no _ _ (keyword_no_id end.text word.End is) ∙ ap ress_step is) refl leads))

  caps_part : {mode : Mode} {conns : List Conn} {caps : List Cap} {from rest : List Tok} → OpensCaps mode → IsPart word.Cap (Many (IsCap head.marks.delimiter)) from caps rest → ((other : Mode) → OpensRess other → Leads (in_section other conns caps []) rest reading) → Leads (in_section mode conns [] []) from reading
  caps_part {mode} opens no_part follows = follows mode opens.rest
  caps_part opens (part k entries) follows =
      step (Go Caps) (opens.caps _ _ _ k) refl (capacitances head done net reading entries (follows Caps after_caps))

  conns_part : {mode : Mode} {conns : List Conn} {from rest : List Tok} → OpensConns mode → IsPart word.Conn (Conns head.marks.delimiter) from conns rest → ((other : Mode) → OpensCaps other → Leads (in_section other conns [] []) rest reading) → Leads (in_section mode [] [] []) from reading
  conns_part {mode} opens no_part follows = follows mode opens.rest
  conns_part opens (part k entries) follows =
      step (Go ConnsMode) (opens.conns _ _ _ k) refl (connections head done net reading entries (follows ConnsMode after_conns))

  with_confidence : {from rest : List Tok} → IsConfidence from rest → ((other : Mode) → OpensConns other → Leads (in_section other [] [] []) rest reading) → Leads (in_section AfterTotal [] [] []) from reading
  with_confidence no_confidence follows = follows AfterTotal after_total
  with_confidence (confidence k l) follows =
      step (Go Confidence) (ap total_step k) refl
      (step (Go AfterConfidence) (yes _ _ l) refl (follows AfterConfidence after_confidence))

abbrev between : Head → List Section → State
between head done = record { mode = Sections; head = head; done = done; begun = no_section }

a_section : (head : Head) (reading : Reading) {done : List Section} {s : Section} {from rest : List Tok} → IsSection head.marks.delimiter from s rest → Leads (between head (done ++ s ∷ [])) rest reading → Leads (between head done) from reading
a_section head reading {done} (section {net = net} k n t c conns caps ress e) leads =
    step (Go NetName) (ap sections_step k) refl
    (step (Open net.number) (yes _ _ n) refl
    (step (Go AfterTotal) (yes _ _ t) refl
    (with_confidence head done net.number reading c (λ m opens. conns_part head done net.number reading opens conns
    (λ m' opens'. caps_part head done net.number reading opens' caps
    (λ m'' opens''. ress_part head done net.number reading opens'' ress e leads))))))

all_sections : (head : Head) (reading : Reading) {done : List Section} {from rest : List Tok} → Many (IsSection head.marks.delimiter) from done rest → Leads (between head done) rest reading → Leads (between head []) from reading
all_sections head reading none leads = leads
all_sections head reading (more before here) leads = all_sections head reading before (a_section head reading here leads)

-- from the start the tokens of a file lead to what it says
pub taking : {tokens : List Tok} {reading : Reading} → IsSpef tokens reading → Leads first_state tokens reading
taking {reading = reading} (spef {head = head} k rest are sections) =
    step (Go OthersMode) (ap start_step k) refl
    (others rest (items_others (items are (sections_items (all_sections head reading sections (ended refl))))))
