-- The grammar of SPEF (IEEE 1481), a relation by cases over numbered tokens: one definition for each line of it, with a constructor for
-- each case. In each, `from` begins with what is said, and `rest` follows it.
use Rattle.std.specs.Prelude.{◌≡◌, ℕ, true, false, List, [], ◌∷◌, ◌++◌, slice_index, Option, Some, None}
use Rattle.token_fronts.specs.Tokens.{Token}
use Rattle.spef_text.specs.Classes.{word_of, is_other, is_loose, is_mark, is_two_marks, is_value, is_id, is_index, is_map_name, is_ref, is_direction}
use Rattle.delay_units.specs.Places.{is_literal}
use Rattle.spef_text.specs.Entries.{Section, Head, Reading, plain_head, with_item}
use Rattle.spef_text.specs.declared.entries.Conn.{Conn}
use Rattle.spef_text.specs.declared.entries.Cap.{Cap}
use Rattle.spef_text.specs.declared.entries.Res.{Res}
use Rattle.spef_text.specs.declared.entries.HeadItem.{HeadItem}
use Rattle.spef_text.specs.declared.entries.HeadItem.TheVariants.{Divider, Delimiter, BusDelimiter, Design, CapUnit, ResUnit, Mapped}
use Rattle.spef_text.specs.declared.words.Word.{Word}
use Rattle.spef_text.specs.declared.words.Word.TheVariants as word

abbrev pub Tok : Type 0
Tok = Token (List ℕ)

-- the token is this keyword, or is of this class
abbrev pub Is : Word → Tok → Type 0
Is keyword token = word_of token.text ≡ Some keyword

abbrev pub IsOther : Tok → Type 0
IsOther token = is_other token.text ≡ true

abbrev pub IsLoose : Tok → Type 0
IsLoose token = is_loose token.text ≡ true

abbrev pub IsMark : Tok → Type 0
IsMark token = is_mark token.text ≡ true

abbrev pub IsTwoMarks : Tok → Type 0
IsTwoMarks token = is_two_marks token.text ≡ true

abbrev pub IsLiteral : Tok → Type 0
IsLiteral token = is_literal token.text ≡ true

abbrev pub IsValue : Tok → Type 0
IsValue token = is_value token.text ≡ true

abbrev pub IsId : Tok → Type 0
IsId token = is_id token.text ≡ true

abbrev pub IsIndex : Tok → Type 0
IsIndex token = is_index token.text ≡ true

abbrev pub IsMapName : Tok → Type 0
IsMapName token = is_map_name token.text ≡ true

abbrev pub IsRef : ℕ → Tok → Type 0
IsRef delimiter token = is_ref delimiter token.text ≡ true

abbrev pub IsDirection : Tok → Type 0
IsDirection token = is_direction token.text ≡ true

-- a byte of the token
abbrev pub byte_at : Tok → ℕ → ℕ
byte_at token place = slice_index token.text place

-- { part }
pub data Many {E : Type 0} (Part : List Tok → E → List Tok → Type 0) : List Tok → List E → List Tok → Type 0 where
  none : {from : List Tok} → Many Part from [] from
  more : {from middle rest : List Tok} {entries : List E} {entry : E}
      → Many Part from entries middle
      → Part middle entry rest
      → Many Part from (entries ++ entry ∷ []) rest

-- { other }
pub data Others : List Tok → List Tok → Type 0 where
  no_other : {from : List Tok} → Others from from
  and_other : {from rest : List Tok} {token : Tok}
      → Others from (token ∷ rest) → IsOther token
      → Others from rest

-- { index name }: the entries add to the head
pub data IsMap : List Tok → Head → Head → List Tok → Type 0 where
  no_entry : {from : List Tok} {head : Head} → IsMap from head head from
  and_entry : {from rest : List Tok} {before after : Head} {index name : Tok}
      → IsMap from before after (index ∷ name ∷ rest)
      → IsIndex index → IsMapName name
      → IsMap from before (with_item after (Mapped (record { index = index.number; name = name.number }))) rest

-- item = "*DIVIDER" mark | "*DELIMITER" mark | "*BUS_DELIMITER" mark mark | "*BUS_DELIMITER" twomarks
--      | "*DESIGN" { other } | "*C_UNIT" literal word | "*R_UNIT" literal word
pub data IsItem : List Tok → HeadItem → List Tok → Type 0 where
  divider : {keyword mark : Tok} {rest : List Tok}
      → Is word.Divider keyword → IsMark mark
      → IsItem (keyword ∷ mark ∷ rest) (Divider (byte_at mark 0)) rest
  delimiter : {keyword mark : Tok} {rest : List Tok}
      → Is word.Delimiter keyword → IsMark mark
      → IsItem (keyword ∷ mark ∷ rest) (Delimiter (byte_at mark 0)) rest
  bus_marks : {keyword left right : Tok} {rest : List Tok}
      → Is word.BusDelimiter keyword → IsMark left → IsMark right
      → IsItem (keyword ∷ left ∷ right ∷ rest) (BusDelimiter (byte_at left 0) (byte_at right 0)) rest
  bus_pair : {keyword both : Tok} {rest : List Tok}
      → Is word.BusDelimiter keyword → IsTwoMarks both
      → IsItem (keyword ∷ both ∷ rest) (BusDelimiter (byte_at both 0) (byte_at both 1)) rest
  no_design : {keyword : Tok} {rest : List Tok}
      → Is word.Design keyword
      → IsItem (keyword ∷ rest) (Design None) rest
  design : {keyword name : Tok} {from rest : List Tok}
      → Is word.Design keyword → IsOther name → Others from rest
      → IsItem (keyword ∷ name ∷ from) (Design (Some name.number)) rest
  cap_unit : {keyword number unit : Tok} {rest : List Tok}
      → Is word.CapUnit keyword → IsLiteral number → IsOther unit
      → IsItem (keyword ∷ number ∷ unit ∷ rest) (CapUnit number.number) rest
  res_unit : {keyword number unit : Tok} {rest : List Tok}
      → Is word.ResUnit keyword → IsLiteral number → IsOther unit
      → IsItem (keyword ∷ number ∷ unit ∷ rest) (ResUnit number.number) rest

-- { item }, which sets the head
pub data Items : List Tok → Head → List Tok → Type 0 where
  no_item : {from : List Tok} → Items from plain_head from
  and_item : {from middle rest : List Tok} {head : Head} {item : HeadItem}
      → Items from head middle
      → IsItem middle item rest
      → Items from (with_item head item) rest
  -- free { other }
  and_free : {from middle rest : List Tok} {head : Head} {keyword : Tok}
      → Items from head (keyword ∷ middle)
      → Is word.Free keyword → Others middle rest
      → Items from head rest
  -- "*NAME_MAP" { index name }
  and_map : {from middle rest : List Tok} {before after : Head} {keyword : Tok}
      → Items from before (keyword ∷ middle)
      → Is word.NameMap keyword → IsMap middle before after rest
      → Items from after rest

-- { "*L" value | loose }: of several loads the last counts
pub data IsTail : List Tok → Option ℕ → List Tok → Type 0 where
  no_tail : {from : List Tok} → IsTail from None from
  and_loose : {from rest : List Tok} {load : Option ℕ} {token : Tok}
      → IsTail from load (token ∷ rest) → IsLoose token
      → IsTail from load rest
  and_load : {from rest : List Tok} {load : Option ℕ} {keyword value : Tok}
      → IsTail from load (keyword ∷ value ∷ rest) → Is word.Load keyword → IsValue value
      → IsTail from (Some value.number) rest

-- conn = ("*P" | "*I") ref ("I" | "O" | "B") { "*L" value | loose }
pub data IsConn (mark : ℕ) : List Tok → Conn → List Tok → Type 0 where
  port : {keyword node direction : Tok} {from rest : List Tok} {load : Option ℕ}
      → Is word.Port keyword → IsRef mark node → IsDirection direction → IsTail from load rest
      → IsConn mark (keyword ∷ node ∷ direction ∷ from)
      (record { port = true; node = node.number; direction = byte_at direction 0; load = load }) rest
  internal : {keyword node direction : Tok} {from rest : List Tok} {load : Option ℕ}
      → Is word.Internal keyword → IsRef mark node → IsDirection direction → IsTail from load rest
      → IsConn mark (keyword ∷ node ∷ direction ∷ from)
      (record { port = false; node = node.number; direction = byte_at direction 0; load = load }) rest

-- { loose }
pub data AreLoose : List Tok → List Tok → Type 0 where
  no_loose : {from : List Tok} → AreLoose from from
  and_loose_one : {from rest : List Tok} {token : Tok}
      → AreLoose from (token ∷ rest) → IsLoose token
      → AreLoose from rest

-- { conn | "*N" { loose } }, of which the latter says nothing
pub data Conns (mark : ℕ) : List Tok → List Conn → List Tok → Type 0 where
  no_conn : {from : List Tok} → Conns mark from [] from
  and_conn : {from middle rest : List Tok} {conns : List Conn} {conn : Conn}
      → Conns mark from conns middle
      → IsConn mark middle conn rest
      → Conns mark from (conns ++ conn ∷ []) rest
  and_node : {from middle rest : List Tok} {conns : List Conn} {keyword : Tok}
      → Conns mark from conns (keyword ∷ middle)
      → Is word.Node keyword → AreLoose middle rest
      → Conns mark from conns rest

-- cap = id ref value | id ref ref value
pub data IsCap (mark : ℕ) : List Tok → Cap → List Tok → Type 0 where
  to_ground : {id first value : Tok} {rest : List Tok}
      → IsId id → IsRef mark first → IsValue value
      → IsCap mark (id ∷ first ∷ value ∷ rest) (record { first = first.number; second = None; value = value.number }) rest
  coupling : {id first second value : Tok} {rest : List Tok}
      → IsId id → IsRef mark first → IsRef mark second → IsValue value
      → IsCap mark (id ∷ first ∷ second ∷ value ∷ rest)
      (record { first = first.number; second = Some second.number; value = value.number }) rest

-- res = id ref ref value
pub data IsRes (mark : ℕ) : List Tok → Res → List Tok → Type 0 where
  resistor : {id first second value : Tok} {rest : List Tok}
      → IsId id → IsRef mark first → IsRef mark second → IsValue value
      → IsRes mark (id ∷ first ∷ second ∷ value ∷ rest) (record { first = first.number; second = second.number; value = value.number }) rest

-- [ "*V" literal ]
pub data IsConfidence : List Tok → List Tok → Type 0 where
  no_confidence : {from : List Tok} → IsConfidence from from
  confidence : {keyword literal : Tok} {rest : List Tok}
      → Is word.Confidence keyword → IsLiteral literal
      → IsConfidence (keyword ∷ literal ∷ rest) rest

-- [ "*CONN" { conn } ], [ "*CAP" { cap } ], [ "*RES" { res } ]: a keyword and a list, or neither
pub data IsPart {E : Type 0} (keyword : Word) (Entries : List Tok → List E → List Tok → Type 0) : List Tok → List E
    → List Tok → Type 0 where
  no_part : {from : List Tok} → IsPart keyword Entries from [] from
  part : {head : Tok} {from rest : List Tok} {entries : List E}
      → Is keyword head → Entries from entries rest
      → IsPart keyword Entries (head ∷ from) entries rest

-- section = "*D_NET" ref value [ "*V" literal ] [ "*CONN" { conn } ] [ "*CAP" { cap } ] [ "*RES" { res } ] "*END"
pub data IsSection (mark : ℕ) : List Tok → Section → List Tok → Type 0 where
  section : {keyword net total end : Tok} {from at_conns at_caps at_ress rest : List Tok} {conns : List Conn}
      {caps : List Cap} {ress : List Res}
      → Is word.Net keyword → IsRef mark net → IsValue total
      → IsConfidence from at_conns
      → IsPart word.Conn (Conns mark) at_conns conns at_caps
      → IsPart word.Cap (Many (IsCap mark)) at_caps caps at_ress
      → IsPart word.Res (Many (IsRes mark)) at_ress ress (end ∷ rest)
      → Is word.End end
      → IsSection mark (keyword ∷ net ∷ total ∷ from) (record { net = net.number; conns = conns; caps = caps; ress = ress }) rest

-- file = "*SPEF" { other } { item } { section }: the delimiter in the sections is that of the head
pub data IsSpef : List Tok → Reading → Type 0 where
  spef : {keyword : Tok} {from at_items at_sections : List Tok} {head : Head} {sections : List Section}
      → Is word.Spef keyword
      → Others from at_items
      → Items at_items head at_sections
      → Many (IsSection head.marks.delimiter) at_sections sections []
      → IsSpef (keyword ∷ from) (record { head = head; sections = sections })
