-- The grammar of SDF (IEEE 1497-2001) as far as it is read, a relation by cases over numbered tokens: one definition for each line of it,
-- with a constructor for each case. In each, `from` begins with what is said, and `rest` follows it. What may stand as a number in a value
-- is a parameter, and what it says there.
use Rattle.std.specs.Prelude.{◌≡◌, ℕ, Bool, true, false, ◌||◌, ◌==◌, List, [], ◌∷◌, ◌++◌, Option, Some, None}
use Rattle.std.specs.Prelude.{codes}
use Rattle.std.specs.Str.{bytes_eq}
use Rattle.name_table.specs.SdfNames.{canonical}
use Rattle.token_fronts.specs.Tokens.{Token}
use Rattle.sdf_reader.specs.Tokens.{Lexeme, meaning}
use Rattle.sdf_reader.specs.Keywords.{keyword_of}
use Rattle.sdf_reader.specs.Timescales.{timescale_of}
use Rattle.sdf_reader.specs.Rows.{Head, plain_head, Place, no_value, rows_of}
use Rattle.sdf_reader.specs.Numbers.{IsValue}
use Rattle.sdf_reader.specs.declared.scan.Kind.{Kind}
use Rattle.sdf_reader.specs.declared.scan.Kind.TheVariants.{LeftParen, RightParen, Word, Quoted}
use Rattle.sdf_reader.specs.declared.words.Keyword.{Keyword}
use Rattle.sdf_reader.specs.declared.words.Keyword.TheVariants as key
use Rattle.sdf_reader.specs.declared.modes.Shape.{Shape}
use Rattle.sdf_reader.specs.declared.modes.Shape.TheVariants.{Path, Wire}
use Rattle.sdf_reader.specs.declared.rows.Value.{Value}
use Rattle.sdf_reader.specs.declared.rows.SdfRow.{SdfRow}
use Rattle.sdf_reader.specs.declared.timescales.Timescale.{Timescale}

abbrev pub Tok : Type 0
Tok = Token Lexeme

abbrev pub Is : Kind → Tok → Type 0
Is kind token = token.text.kind ≡ kind

abbrev pub is_word : Kind → Bool
is_word Word = true
is_word _ = false

-- the keyword that a token of this kind and of these bytes is, if any
abbrev pub keyword_in : Kind → List ℕ → Option Keyword
keyword_in Word bytes = keyword_of bytes
keyword_in _ bytes = None

abbrev pub IsKeyword : Keyword → Tok → Type 0
IsKeyword keyword token = keyword_in token.text.kind token.text.bytes ≡ Some keyword

abbrev pub holds_of : (Keyword → Bool) → Option Keyword → Bool
holds_of test None = false
holds_of test (Some keyword) = test keyword

-- the keywords that have forms of their own among the heads, in a cell and in a DELAY, and in an ABSOLUTE
abbrev pub own_in_heads : Keyword → Bool
own_in_heads key.Design = true
own_in_heads key.Divider = true
own_in_heads key.Timescale = true
own_in_heads key.Cell = true
own_in_heads _ = false

abbrev pub own_in_cells : Keyword → Bool
own_in_cells key.Delay = true
own_in_cells key.Absolute = true
own_in_cells _ = false

abbrev pub own_in_entries : Keyword → Bool
own_in_entries key.IoPath = true
own_in_entries key.Interconnect = true
own_in_entries _ = false

-- a word that is none of these keywords
abbrev pub IsOther : (Keyword → Bool) → Tok → Type 0
IsOther own token = (token.text.kind ≡ Word) × (holds_of own (keyword_of token.text.bytes) ≡ false)

-- a word or a text
abbrev pub is_piece : Kind → Bool
is_piece Word = true
is_piece Quoted = true
is_piece _ = false

abbrev pub IsPiece : Tok → Type 0
IsPiece token = is_piece token.text.kind ≡ true

mutual
  -- { word | text | group }
  pub data Loose : List Tok → List Tok → Type 0 where
    nothing_more : {from : List Tok} → Loose from from
    and_piece : {from rest : List Tok} {token : Tok}
        → Loose from (token ∷ rest) → IsPiece token
        → Loose from rest
    and_group : {from middle rest : List Tok}
        → Loose from middle → IsGroup middle rest
        → Loose from rest

  -- group = "(" { word | text | group } ")"
  pub data IsGroup : List Tok → List Tok → Type 0 where
    is_group : {begin close : Tok} {from rest : List Tok}
        → Is LeftParen begin → Loose from (close ∷ rest) → Is RightParen close
        → IsGroup (begin ∷ from) rest

-- over = "(" word { word | text | group } ")", a form that is passed over
pub data IsOver (own : Keyword → Bool) : List Tok → List Tok → Type 0 where
  is_over : {begin word close : Tok} {from rest : List Tok}
      → Is LeftParen begin → IsOther own word → Loose from (close ∷ rest) → Is RightParen close
      → IsOver own (begin ∷ word ∷ from) rest

-- the divider of a path: `/` or `.`
abbrev pub is_divider : ℕ → Bool
is_divider byte = byte == 47 || byte == 46

-- head = "(" "DESIGN" [ text ] ")" | "(" "DIVIDER" word ")" | "(" "TIMESCALE" word [ word ] ")" | over
pub data IsHead : List Tok → Head → Head → List Tok → Type 0 where
  with_no_design : {begin keyword close : Tok} {rest : List Tok} {head : Head}
      → Is LeftParen begin → IsKeyword key.Design keyword → Is RightParen close
      → IsHead (begin ∷ keyword ∷ close ∷ rest) head head rest
  with_design : {begin keyword text close : Tok} {rest : List Tok} {head : Head}
      → Is LeftParen begin → IsKeyword key.Design keyword → Is Quoted text → Is RightParen close
      → IsHead (begin ∷ keyword ∷ text ∷ close ∷ rest) head head rest
  with_divider : {begin keyword word close : Tok} {rest : List Tok} {head : Head} {byte : ℕ}
      → Is LeftParen begin → IsKeyword key.Divider keyword
      → Is Word word → word.text.bytes ≡ byte ∷ [] → is_divider byte ≡ true → Is RightParen close
      → IsHead (begin ∷ keyword ∷ word ∷ close ∷ rest) head (record { divider = byte; scale = head.scale }) rest
  with_timescale : {begin keyword word close : Tok} {rest : List Tok} {head : Head} {scale : Timescale}
      → Is LeftParen begin → IsKeyword key.Timescale keyword
      → Is Word word → timescale_of word.text.bytes ≡ Some scale → Is RightParen close
      → IsHead (begin ∷ keyword ∷ word ∷ close ∷ rest) head (record { divider = head.divider; scale = scale }) rest
  with_timescale_in_two : {begin keyword word other close : Tok} {rest : List Tok} {head : Head} {scale : Timescale}
      → Is LeftParen begin → IsKeyword key.Timescale keyword
      → Is Word word → Is Word other → timescale_of (word.text.bytes ++ other.text.bytes) ≡ Some scale → Is RightParen close
      → IsHead (begin ∷ keyword ∷ word ∷ other ∷ close ∷ rest) head (record { divider = head.divider; scale = scale }) rest
  head_over : {from rest : List Tok} {head : Head} → IsOver own_in_heads from rest → IsHead from head head rest

-- { head }: the last of a kind counts
pub data AreHeads : List Tok → Head → List Tok → Type 0 where
  no_head : {from : List Tok} → AreHeads from plain_head from
  and_head : {from middle rest : List Tok} {before after : Head}
      → AreHeads from before middle → IsHead middle before after rest
      → AreHeads from after rest

-- { part }: each part adds its rows
pub data Many (Part : List Tok → List SdfRow → List Tok → Type 0) : List Tok → List SdfRow → List Tok → Type 0 where
  none : {from : List Tok} → Many Part from [] from
  more : {from middle rest : List Tok} {rows others : List SdfRow}
      → Many Part from rows middle → Part middle others rest
      → Many Part from (rows ++ others) rest

-- in an IOPATH the word RETAIN is no number
abbrev pub is_retain : Shape → Option Keyword → Bool
is_retain Path (Some key.Retain) = true
is_retain _ _ = false

abbrev pub retains : Shape → Tok → Bool
retains shape token = is_retain shape (keyword_in token.text.kind token.text.bytes)

abbrev pub keyword_for : Shape → Keyword
keyword_for Path = key.IoPath
keyword_for Wire = key.Interconnect

-- the instance of a cell in a file with this divider; `*` stands for many
abbrev pub instance_of : ℕ → List ℕ → Option (List ℕ)
instance_of divider word = elim (bytes_eq word (codes "*")) [ true ↦ None | false ↦ Some (canonical divider word) ]

-- "(" "INSTANCE" [ word ] ")": left out it is empty
pub data IsInstance (divider : ℕ) : List Tok → Option (List ℕ) → List Tok → Type 0 where
  unnamed : {begin keyword close : Tok} {rest : List Tok}
      → Is LeftParen begin → IsKeyword key.Instance keyword → Is RightParen close
      → IsInstance divider (begin ∷ keyword ∷ close ∷ rest) (Some []) rest
  with_instance : {begin keyword word close : Tok} {rest : List Tok}
      → Is LeftParen begin → IsKeyword key.Instance keyword → Is Word word → Is RightParen close
      → IsInstance divider (begin ∷ keyword ∷ word ∷ close ∷ rest) (instance_of divider word.text.bytes) rest

module _ (IsNumber : Timescale → List ℕ → Value → Type 0) where
  -- value = "(" ")" | "(" triple ")"
  pub data IsValueForm (shape : Shape) (scale : Timescale) : List Tok → Value → List Tok → Type 0 where
    is_empty : {begin close : Tok} {rest : List Tok}
        → Is LeftParen begin → Is RightParen close
        → IsValueForm shape scale (begin ∷ close ∷ rest) no_value rest
    is_number : {begin word close : Tok} {rest : List Tok} {value : Value}
        → Is LeftParen begin → Is Word word → retains shape word ≡ false → IsNumber scale word.text.bytes value → Is RightParen close
        → IsValueForm shape scale (begin ∷ word ∷ close ∷ rest) value rest

  -- what an IOPATH or an INTERCONNECT begins with: its two names, and some values
  pub data Begun (scale : Timescale) : Shape → List Tok → List ℕ → List ℕ → List Value → List Tok → Type 0 where
    named : {shape : Shape} {begin keyword from to : Tok} {rest : List Tok}
        → Is LeftParen begin → IsKeyword (keyword_for shape) keyword → Is Word from → Is Word to
        → Begun scale shape (begin ∷ keyword ∷ from ∷ to ∷ rest) from.text.bytes to.text.bytes [] rest
    and_value : {shape : Shape} {all middle rest : List Tok} {from to : List ℕ} {values : List Value} {value : Value}
        → Begun scale shape all from to values middle → IsValueForm shape scale middle value rest
        → Begun scale shape all from to (values ++ value ∷ []) rest

  -- What shows that an IOPATH or an INTERCONNECT is passed over: a `(` in the place of one of an IOPATH's names, RETAIN in a value of an
  -- IOPATH, or a `(` in a value. The tokens before it are as in a form that is not; any follow.
  pub data Strays (scale : Timescale) : List Tok → List Tok → Type 0 where
    first_name : {begin keyword inner : Tok} {rest : List Tok}
        → Is LeftParen begin → IsKeyword key.IoPath keyword → Is LeftParen inner
        → Strays scale (begin ∷ keyword ∷ inner ∷ rest) (inner ∷ rest)
    second_name : {begin keyword from inner : Tok} {rest : List Tok}
        → Is LeftParen begin → IsKeyword key.IoPath keyword → Is Word from → Is LeftParen inner
        → Strays scale (begin ∷ keyword ∷ from ∷ inner ∷ rest) (inner ∷ rest)
    with_retain : {all rest : List Tok} {from to : List ℕ} {values : List Value} {begin word : Tok}
        → Begun scale Path all from to values (begin ∷ word ∷ rest)
        → Is LeftParen begin → IsKeyword key.Retain word
        → Strays scale all (begin ∷ word ∷ rest)
    in_value : {shape : Shape} {all rest : List Tok} {from to : List ℕ} {values : List Value} {begin inner : Tok}
        → Begun scale shape all from to values (begin ∷ inner ∷ rest)
        → Is LeftParen begin → Is LeftParen inner
        → Strays scale all (begin ∷ inner ∷ rest)
    behind_number : {shape : Shape} {all rest : List Tok} {from to : List ℕ} {values : List Value} {value : Value} {begin word inner : Tok}
        → Begun scale shape all from to values (begin ∷ word ∷ inner ∷ rest)
        → Is LeftParen begin → Is Word word → retains shape word ≡ false → IsNumber scale word.text.bytes value → Is LeftParen inner
        → Strays scale all (begin ∷ word ∷ inner ∷ rest)

  -- entry = "(" "IOPATH" word word values ")" | "(" "INTERCONNECT" word word values ")" | over, with at least one value
  pub data IsEntry (head : Head) (place : Place) : List Tok → List SdfRow → List Tok → Type 0 where
    is_entry : {shape : Shape} {all rest : List Tok} {from to : List ℕ} {values : List Value} {value : Value} {close : Tok}
        → Begun head.scale shape all from to (value ∷ values) (close ∷ rest) → Is RightParen close
        → IsEntry head place all (rows_of head.divider place shape from to (value ∷ values)) rest
    is_stray : {all middle rest : List Tok} {close : Tok}
        → Strays head.scale all middle → Loose middle (close ∷ rest) → Is RightParen close
        → IsEntry head place all [] rest
    entry_over : {from rest : List Tok} → IsOver own_in_entries from rest → IsEntry head place from [] rest

  -- the forms of a DELAY: "(" "ABSOLUTE" { entry } ")" | over
  pub data IsDelay (head : Head) (place : Place) : List Tok → List SdfRow → List Tok → Type 0 where
    is_absolute : {begin keyword close : Tok} {from rest : List Tok} {rows : List SdfRow}
        → Is LeftParen begin → IsKeyword key.Absolute keyword → Many (IsEntry head place) from rows (close ∷ rest) → Is RightParen close
        → IsDelay head place (begin ∷ keyword ∷ from) rows rest
    delay_over : {from rest : List Tok} → IsOver own_in_cells from rest → IsDelay head place from [] rest

  -- spec = "(" "DELAY" { "(" "ABSOLUTE" { entry } ")" | over } ")" | over
  pub data IsSpec (head : Head) (place : Place) : List Tok → List SdfRow → List Tok → Type 0 where
    is_delay : {begin keyword close : Tok} {from rest : List Tok} {rows : List SdfRow}
        → Is LeftParen begin → IsKeyword key.Delay keyword → Many (IsDelay head place) from rows (close ∷ rest) → Is RightParen close
        → IsSpec head place (begin ∷ keyword ∷ from) rows rest
    spec_over : {from rest : List Tok} → IsOver own_in_cells from rest → IsSpec head place from [] rest

  -- cell = "(" "CELL" "(" "CELLTYPE" text ")" "(" "INSTANCE" [ word ] ")" { spec } ")"
  pub data IsCell (head : Head) : List Tok → List SdfRow → List Tok → Type 0 where
    is_cell : {begin keyword begin_type type_keyword text end_type close : Tok} {from middle rest : List Tok} {instance : Option (List ℕ)}
        {rows : List SdfRow}
        → Is LeftParen begin → IsKeyword key.Cell keyword
        → Is LeftParen begin_type → IsKeyword key.CellType type_keyword → Is Quoted text → Is RightParen end_type
        → IsInstance head.divider from instance middle
        → Many (IsSpec head (record { cell = meaning text.text.bytes; instance = instance })) middle rows (close ∷ rest)
        → Is RightParen close
        → IsCell head (begin ∷ keyword ∷ begin_type ∷ type_keyword ∷ text ∷ end_type ∷ from) rows rest

  -- file = "(" "DELAYFILE" { head } { cell } ")"
  pub data IsSdfBy : List Tok → List SdfRow → Type 0 where
    is_sdf : {begin keyword close : Tok} {from middle : List Tok} {head : Head} {rows : List SdfRow}
        → Is LeftParen begin → IsKeyword key.DelayFile keyword
        → AreHeads from head middle → Many (IsCell head) middle rows (close ∷ []) → Is RightParen close
        → IsSdfBy (begin ∷ keyword ∷ from) rows

-- an SDF file
abbrev pub IsSdf : List Tok → List SdfRow → Type 0
IsSdf = IsSdfBy IsValue
