-- The grammar of Liberty (Liberty User Guide), a relation by cases over numbered tokens: one definition for each line of it, with a
-- constructor for each case. In each, `from` begins with what is said, and `rest` follows it. Groups may stand in one another up to a
-- limit, the library being the first.
use Rattle.std.specs.Prelude.{◌≡◌, ℕ, ◌+◌, ◌<◌, Bool, true, false, not, ◌&&◌, List, [], ◌∷◌, ◌++◌, ⊤}
use Rattle.std.specs.Str.{bytes_eq}
use Rattle.std.specs.Prelude.{codes}
use Rattle.token_fronts.specs.Tokens.{Token}
use Rattle.liberty_groups.specs.Tokens.{Lexeme}
use Rattle.liberty_groups.specs.Groups.{Attribute, Group, group, Groups, no_group, and_group}
use Rattle.liberty_groups.specs.declared.scan.Kind.{Kind}
use Rattle.liberty_groups.specs.declared.scan.Kind.TheVariants.{Word, Quoted, LeftParen, RightParen, LeftBrace, RightBrace, Colon, Semicolon, Comma}

abbrev pub Tok : Type 0
Tok = Token Lexeme

abbrev pub Is : Kind → Tok → Type 0
Is kind token = token.text.kind ≡ kind

-- a word or a text
abbrev pub is_piece : Kind → Bool
is_piece Word = true
is_piece Quoted = true
is_piece _ = false

abbrev pub is_word : Kind → Bool
is_word Word = true
is_word _ = false

abbrev pub IsPiece : Tok → Type 0
IsPiece token = is_piece token.text.kind ≡ true

-- a word or a text that goes on with a value: one that is not fresh
abbrev pub goes_on_with : Lexeme → Bool
goes_on_with lexeme = is_piece lexeme.kind && not lexeme.fresh

-- the name of a statement: a word, and not `include_file`
abbrev pub is_name : Lexeme → Bool
is_name lexeme = is_word lexeme.kind && not (bytes_eq lexeme.bytes (codes "include_file"))

abbrev pub IsName : Tok → Type 0
IsName token = is_name token.text ≡ true

-- the word `library`
abbrev pub is_library : Lexeme → Bool
is_library lexeme = is_word lexeme.kind && bytes_eq lexeme.bytes (codes "library")

abbrev pub IsLibrary : Tok → Type 0
IsLibrary token = is_library token.text ≡ true

-- value = (word | text) { (word | text) }, in which no token but the first is fresh: they are joined by one space
pub data Joined : List Tok → List ℕ → List Tok → Type 0 where
  one_piece : {token : Tok} {rest : List Tok} → IsPiece token → Joined (token ∷ rest) token.text.bytes rest
  and_piece : {from rest : List Tok} {value : List ℕ} {token : Tok}
      → Joined from value (token ∷ rest) → goes_on_with token.text ≡ true
      → Joined from (value ++ 32 ∷ token.text.bytes) rest

-- what follows a value does not go on with it
abbrev pub EndsValue : List Tok → Type 0
EndsValue [] = ⊤
EndsValue (token ∷ rest) = goes_on_with token.text ≡ false

-- { word | text | "," }: the commas say nothing
pub data Items : List Tok → List (List ℕ) → List Tok → Type 0 where
  no_item : {from : List Tok} → Items from [] from
  and_item : {from rest : List Tok} {items : List (List ℕ)} {token : Tok}
      → Items from items (token ∷ rest) → IsPiece token
      → Items from (items ++ token.text.bytes ∷ []) rest
  and_comma : {from rest : List Tok} {items : List (List ℕ)} {token : Tok}
      → Items from items (token ∷ rest) → Is Comma token
      → Items from items rest

-- args = "(" { word | text | "," } ")"
pub data IsArgs : List Tok → List (List ℕ) → List Tok → Type 0 where
  args : {begin close : Tok} {from rest : List Tok} {items : List (List ℕ)}
      → Is LeftParen begin → Items from items (close ∷ rest) → Is RightParen close
      → IsArgs (begin ∷ from) items rest

mutual
  -- { ";" | name ":" value | name args | name args body }, in a group of this depth: its attributes and the groups in it
  pub data Statements (limit : ℕ) : ℕ → List Tok → List Attribute → Groups → List Tok → Type 0 where
    no_statement : {depth : ℕ} {from : List Tok} → Statements limit depth from [] no_group from
    and_semicolon : {depth : ℕ} {from rest : List Tok} {attributes : List Attribute} {groups : Groups} {token : Tok}
        → Statements limit depth from attributes groups (token ∷ rest) → Is Semicolon token
        → Statements limit depth from attributes groups rest
    and_simple : {depth : ℕ} {from middle rest : List Tok} {attributes : List Attribute} {groups : Groups}
        {name colon : Tok} {value : List ℕ}
        → Statements limit depth from attributes groups (name ∷ colon ∷ middle)
        → IsName name → Is Colon colon → Joined middle value rest → EndsValue rest
        → Statements limit depth from (attributes ++ record { name = name.text.bytes; values = value ∷ [] } ∷ []) groups rest
    and_complex : {depth : ℕ} {from middle rest : List Tok} {attributes : List Attribute} {groups : Groups} {name : Tok}
        {values : List (List ℕ)}
        → Statements limit depth from attributes groups (name ∷ middle)
        → IsName name → IsArgs middle values rest
        → Statements limit depth from (attributes ++ record { name = name.text.bytes; values = values } ∷ []) groups rest
    and_inner : {depth : ℕ} {from middle body rest : List Tok} {attributes inner : List Attribute} {groups deeper : Groups} {name : Tok}
        {args : List (List ℕ)}
        → Statements limit depth from attributes groups (name ∷ middle)
        → IsName name → IsArgs middle args body
        → depth < limit → IsBody limit (depth + 1) body inner deeper rest
        → Statements limit depth from attributes (and_group groups (group name.text.bytes args inner deeper)) rest

  -- body = "{" { statement } "}"
  pub data IsBody (limit : ℕ) : ℕ → List Tok → List Attribute → Groups → List Tok → Type 0 where
    body : {depth : ℕ} {begin close : Tok} {from rest : List Tok} {attributes : List Attribute} {groups : Groups}
        → Is LeftBrace begin → Statements limit depth from attributes groups (close ∷ rest) → Is RightBrace close
        → IsBody limit depth (begin ∷ from) attributes groups rest

-- { ";" }
pub data Semicolons : List Tok → List Tok → Type 0 where
  no_semicolon : {from : List Tok} → Semicolons from from
  and_one : {from rest : List Tok} {token : Tok}
      → Semicolons from (token ∷ rest) → Is Semicolon token
      → Semicolons from rest

-- file = "library" args body { ";" }
pub data IsLibertyTo (limit : ℕ) : List Tok → Group → Type 0 where
  liberty : {library : Tok} {from at_body behind : List Tok} {args : List (List ℕ)} {attributes : List Attribute} {groups : Groups}
      → IsLibrary library → IsArgs from args at_body → IsBody limit 1 at_body attributes groups behind → Semicolons behind []
      → IsLibertyTo limit (library ∷ from) (group library.text.bytes args attributes groups)

-- a Liberty file: sixteen groups may stand in one another
abbrev pub IsLiberty : List Tok → Group → Type 0
IsLiberty = IsLibertyTo 16
