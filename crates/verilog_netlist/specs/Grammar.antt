-- The grammar of structural Verilog (IEEE 1364-2005, source text), a relation by cases over numbered tokens: one definition for
-- each line of it, with a constructor for each case. In each, `from` begins with what is said and `rest` follows it; `before` are
-- the entries that have been said up to there, and `after` those and what this says.
use Rattle.std.specs.Prelude.{◌≡◌, ℕ, suc, ◌<◌, List, [], ◌∷◌, ◌++◌, Option, Some, None}
use Rattle.token_fronts.specs.Tokens.{Token}
use Rattle.verilog_netlist.specs.Tokens.{Lexeme}
use Rattle.token_texts.specs.declared.spans.Span.{Span}
use Rattle.verilog_netlist.specs.declared.kinds.Kind.{Kind}
use Rattle.verilog_netlist.specs.declared.kinds.Kind.TheVariants as kind
use Rattle.verilog_netlist.specs.declared.entries.Direction.{Direction}
use Rattle.verilog_netlist.specs.declared.entries.Direction.TheVariants.{In, Out}
use Rattle.verilog_netlist.specs.declared.entries.Decl.{Decl}
use Rattle.verilog_netlist.specs.declared.entries.Decl.TheVariants as decl
use Rattle.verilog_netlist.specs.declared.entries.Range.{Range}
use Rattle.verilog_netlist.specs.declared.entries.Entry.{Entry}
use Rattle.verilog_netlist.specs.declared.entries.Entry.TheVariants as entry

abbrev pub Tok : Type 0
Tok = Token Lexeme

abbrev pub Is : Kind → Tok → Type 0
Is kind token = token.text.kind ≡ kind

-- the entries, and one more
abbrev pub added : List Entry → Entry → List Entry
added entries entry = entries ++ entry ∷ []

-- a line of the grammar: what `from` begins with, the entries before and after it, and the rest
abbrev pub Rule : Type 1
Rule = List Tok → List Entry → List Entry → List Tok → Type 0

-- part { "," part }
pub data Listed (Part : Rule) : List Tok → List Entry → List Entry → List Tok → Type 0 where
  one : {from rest : List Tok} {before after : List Entry}
      → Part from before after rest
      → Listed Part from before after rest
  and_one : {from middle rest : List Tok} {before between after : List Entry} {comma : Tok}
      → Listed Part from before between (comma ∷ middle) → Is kind.Comma comma → Part middle between after rest
      → Listed Part from before after rest

-- { part }
pub data Many (Part : Rule) : List Tok → List Entry → List Entry → List Tok → Type 0 where
  none : {from : List Tok} {before : List Entry} → Many Part from before before from
  more : {from middle rest : List Tok} {before between after : List Entry}
      → Many Part from before between middle → Part middle between after rest
      → Many Part from before after rest

-- [ part ]
pub data Maybe (Part : Rule) : List Tok → List Entry → List Entry → List Tok → Type 0 where
  left_out : {from : List Tok} {before : List Entry} → Maybe Part from before before from
  there : {from rest : List Tok} {before after : List Entry}
      → Part from before after rest
      → Maybe Part from before after rest

-- id, which says this of its place
pub data IsName (says : Span → Entry) : List Tok → List Entry → List Entry → List Tok → Type 0 where
  name : {id : Tok} {rest : List Tok} {before : List Entry}
      → Is kind.Name id
      → IsName says (id ∷ rest) before (added before (says id.text.at)) rest

-- direction = "input" | "output"
pub data IsDirection : Tok → Direction → Type 0 where
  input : {word : Tok} → Is kind.Input word → IsDirection word In
  output : {word : Tok} → Is kind.Output word → IsDirection word Out

-- [ "wire" ]
pub data MaybeWire : List Tok → List Tok → Type 0 where
  no_wire : {from : List Tok} → MaybeWire from from
  wire : {word : Tok} {rest : List Tok} → Is kind.Wire word → MaybeWire (word ∷ rest) rest

-- a range of these two numbers; beside the bounds stand the places of the numbers in the file
abbrev pub range_from : ℕ → Tok → ℕ → Tok → Range
range_from left first right second = record { left = left; right = right; left_at = first.text.at.start; right_at = second.text.at.start }

-- range = "[" number ":" number "]"
pub data IsRange : List Tok → Range → List Tok → Type 0 where
  range : {begin first colon second close : Tok} {rest : List Tok} {left right : ℕ}
      → Is kind.LeftBracket begin → Is (kind.Number left) first → Is kind.Colon colon → Is (kind.Number right) second
      → Is kind.RightBracket close
      → IsRange (begin ∷ first ∷ colon ∷ second ∷ close ∷ rest) (range_from left first right second) rest

-- [ range ]
pub data MaybeRange : List Tok → Option Range → List Tok → Type 0 where
  no_range : {from : List Tok} → MaybeRange from None from
  with_range : {from rest : List Tok} {bounds : Range} → IsRange from bounds rest → MaybeRange from (Some bounds) rest

-- [ range ] id { "," id }
pub data AreDeclared (by : Decl) : List Tok → List Entry → List Entry → List Tok → Type 0 where
  declared : {from at_names rest : List Tok} {before after : List Entry} {bounds : Option Range}
      → MaybeRange from bounds at_names → Listed (IsName (λ id. entry.Declared by id bounds)) at_names before after rest
      → AreDeclared by from before after rest

-- ansi = direction [ "wire" ] [ range ] id { "," id }, in a header or behind it
pub data IsAnsi (by : Direction → Decl) : List Tok → List Entry → List Entry → List Tok → Type 0 where
  ansi : {word : Tok} {from at_names rest : List Tok} {before after : List Entry} {way : Direction}
      → IsDirection word way → MaybeWire from at_names → AreDeclared (by way) at_names before after rest
      → IsAnsi by (word ∷ from) before after rest

-- header = id { "," id } | ansi { "," ansi }
pub data IsHeader : List Tok → List Entry → List Entry → List Tok → Type 0 where
  names : {from rest : List Tok} {before after : List Entry}
      → Listed (IsName (λ id. entry.Header id)) from before after rest
      → IsHeader from before after rest
  directions : {from rest : List Tok} {before after : List Entry}
      → Listed (IsAnsi (λ way. decl.InHeader way)) from before after rest
      → IsHeader from before after rest

-- "(" [ header ] ")"
pub data IsPorts : List Tok → List Entry → List Entry → List Tok → Type 0 where
  ports : {begin close : Tok} {from rest : List Tok} {before after : List Entry}
      → Is kind.LeftParen begin → Maybe IsHeader from before after (close ∷ rest) → Is kind.RightParen close
      → IsPorts (begin ∷ from) before after rest

mutual
  -- expr = id [ "[" number [ ":" number ] "]" ] | constant | "{" expr { "," expr } "}", inside so many `{`
  pub data IsExpr : ℕ → List Tok → List Entry → List Entry → List Tok → Type 0 where
    whole : {depth : ℕ} {id : Tok} {rest : List Tok} {before : List Entry}
        → Is kind.Name id
        → IsExpr depth (id ∷ rest) before (added before (entry.Whole id.text.at)) rest
    bit : {depth : ℕ} {id begin index close : Tok} {rest : List Tok} {before : List Entry} {place : ℕ}
        → Is kind.Name id → Is kind.LeftBracket begin → Is (kind.Number place) index → Is kind.RightBracket close
        → IsExpr depth (id ∷ begin ∷ index ∷ close ∷ rest) before (added before (entry.Bit id.text.at place)) rest
    part : {depth : ℕ} {id : Tok} {from rest : List Tok} {before : List Entry} {bounds : Range}
        → Is kind.Name id → IsRange from bounds rest
        → IsExpr depth (id ∷ from) before (added before (entry.Part id.text.at bounds)) rest
    constant : {depth : ℕ} {token : Tok} {rest : List Tok} {before : List Entry}
        → Is kind.Constant token
        → IsExpr depth (token ∷ rest) before (added before (entry.Constant token.text.at)) rest
    in_braces : {depth : ℕ} {begin close : Tok} {from rest : List Tok} {before after : List Entry}
        → depth < 16 → Is kind.LeftBrace begin → AreExprs (suc depth) from before after (close ∷ rest) → Is kind.RightBrace close
        → IsExpr depth (begin ∷ from) before after rest

  -- expr { "," expr }
  pub data AreExprs : ℕ → List Tok → List Entry → List Entry → List Tok → Type 0 where
    one_expr : {depth : ℕ} {from rest : List Tok} {before after : List Entry}
        → IsExpr depth from before after rest
        → AreExprs depth from before after rest
    and_expr : {depth : ℕ} {from middle rest : List Tok} {before between after : List Entry} {comma : Tok}
        → AreExprs depth from before between (comma ∷ middle) → Is kind.Comma comma → IsExpr depth middle between after rest
        → AreExprs depth from before after rest

-- connection = "." id "(" [ expr ] ")"
pub data IsConnection : List Tok → List Entry → List Entry → List Tok → Type 0 where
  connection : {dot port begin close : Tok} {from rest : List Tok} {before after : List Entry}
      → Is kind.Dot dot → Is kind.Name port
      → Is kind.LeftParen begin → Maybe (IsExpr 0) from (added before (entry.Port port.text.at)) after (close ∷ rest)
      → Is kind.RightParen close
      → IsConnection (dot ∷ port ∷ begin ∷ from) before after rest

-- instance = id "(" [ connection { "," connection } ] ")", of this cell or module
pub data IsInstance (cell : Span) : List Tok → List Entry → List Entry → List Tok → Type 0 where
  instance : {id begin close : Tok} {from rest : List Tok} {before after : List Entry}
      → Is kind.Name id
      → Is kind.LeftParen begin
      → Maybe (Listed IsConnection) from (added before (entry.Instance cell id.text.at)) after (close ∷ rest)
      → Is kind.RightParen close
      → IsInstance cell (id ∷ begin ∷ from) before after rest

-- item = ansi ";" | "wire" [ range ] id { "," id } ";" | id instance { "," instance } ";"
pub data IsItem : List Tok → List Entry → List Entry → List Tok → Type 0 where
  directed : {end : Tok} {from rest : List Tok} {before after : List Entry}
      → IsAnsi (λ way. decl.Port way) from before after (end ∷ rest) → Is kind.Semicolon end
      → IsItem from before after rest
  wires : {word end : Tok} {from rest : List Tok} {before after : List Entry}
      → Is kind.Wire word → AreDeclared decl.Wire from before after (end ∷ rest) → Is kind.Semicolon end
      → IsItem (word ∷ from) before after rest
  instances : {cell end : Tok} {from rest : List Tok} {before after : List Entry}
      → Is kind.Name cell → Listed (IsInstance cell.text.at) from before after (end ∷ rest) → Is kind.Semicolon end
      → IsItem (cell ∷ from) before after rest

-- module = "module" id [ "(" [ header ] ")" ] ";" { item } "endmodule"
pub data IsModule : List Tok → List Entry → List Entry → List Tok → Type 0 where
  is_module : {word id semicolon end : Tok} {from items rest : List Tok} {before between after : List Entry}
      → Is kind.Module word → Is kind.Name id
      → Maybe IsPorts from (added before (entry.Module id.text.at)) between (semicolon ∷ items) → Is kind.Semicolon semicolon
      → Many IsItem items between after (end ∷ rest) → Is kind.EndModule end
      → IsModule (word ∷ id ∷ from) before after rest

-- file = { module }: the tokens say these entries
abbrev pub IsNetlist : List Tok → List Entry → Type 0
IsNetlist tokens entries = Many IsModule tokens [] entries []
