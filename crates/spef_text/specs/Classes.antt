-- The classes of one token of a SPEF file (IEEE 1481): its keyword, and what it may stand for. A broken token is in no class.
use Rattle.std.specs.Prelude.{ℕ, ◌+◌, Bool, true, false, not, ◌&&◌, ◌||◌, ◌==◌, nat_le, nat_lt, List, [], ◌∷◌, take, drop, position, Option, Some, None, if◌then◌else◌, codes}
use Rattle.std.specs.List.{list_all, prefix_len}
use Rattle.std.specs.Str.{bytes_eq}
use Rattle.std.specs.Char.{is_ascii_digit, is_ascii_uppercase, is_ascii_alphanumeric}
use Rattle.delay_units.specs.Literal.{without_leading_zeros}
use Rattle.delay_units.specs.Places.{is_literal}
use Rattle.spef_text.specs.Tokens.{is_broken, is_nothing}
use Rattle.spef_text.specs.declared.words.Word.{Word}
use Rattle.spef_text.specs.declared.words.Word.TheVariants.{Spef, Free, Design, Divider, Delimiter, BusDelimiter, CapUnit, ResUnit, NameMap, Net, Refused, Induc, Load, Port, Internal, Node, Conn, Cap, Res, End, Confidence}

-- each keyword that the grammar tells from others, and what it stands for there
abbrev pub keywords : List (List ℕ × Word)
keywords =
    (codes "*I", Internal)
    ∷ (codes "*P", Port)
    ∷ (codes "*N", Node)
    ∷ (codes "*L", Load)
    ∷ (codes "*V", Confidence)
    ∷ (codes "*CONN", Conn)
    ∷ (codes "*CAP", Cap)
    ∷ (codes "*RES", Res)
    ∷ (codes "*END", End)
    ∷ (codes "*D_NET", Net)
    ∷ (codes "*SPEF", Spef)
    ∷ (codes "*DESIGN", Design)
    ∷ (codes "*DATE", Free)
    ∷ (codes "*VENDOR", Free)
    ∷ (codes "*PROGRAM", Free)
    ∷ (codes "*VERSION", Free)
    ∷ (codes "*DESIGN_FLOW", Free)
    ∷ (codes "*DIVIDER", Divider)
    ∷ (codes "*DELIMITER", Delimiter)
    ∷ (codes "*BUS_DELIMITER", BusDelimiter)
    ∷ (codes "*T_UNIT", Free)
    ∷ (codes "*C_UNIT", CapUnit)
    ∷ (codes "*R_UNIT", ResUnit)
    ∷ (codes "*L_UNIT", Free)
    ∷ (codes "*NAME_MAP", NameMap)
    ∷ (codes "*POWER_NETS", Free)
    ∷ (codes "*GROUND_NETS", Free)
    ∷ (codes "*PORTS", Free)
    ∷ (codes "*PHYSICAL_PORTS", Free)
    ∷ (codes "*R_NET", Refused)
    ∷ (codes "*R_PNET", Refused)
    ∷ (codes "*D_PNET", Refused)
    ∷ (codes "*DEFINE", Refused)
    ∷ (codes "*PDEFINE", Refused)
    ∷ (codes "*INDUC", Induc)
    ∷ []

-- what stands in the table beside the text
abbrev pub lookup : List (List ℕ × Word) → List ℕ → Option Word
lookup [] text = None
lookup (keyword ∷ later) text = if bytes_eq keyword.0 text then Some keyword.1 else lookup later text

-- the keyword that a token is, if any; keywords are in capitals
unfoldable pub word_of : List ℕ → Option Word
word_of text = lookup keywords text

-- the keyword of a star and one letter, if there is one
abbrev pub lone_word : ℕ → Option Word
lone_word byte =
    if byte == 73 then Some Internal
    else (if byte == 80 then Some Port
    else (if byte == 78 then Some Node
    else (if byte == 76 then Some Load
    else (if byte == 86 then Some Confidence
    else None))))

-- the same, found in fewer steps: each keyword is a star and one letter, or begins with a star and a capital
abbrev pub sifted_word : List ℕ → Option Word
sifted_word [] = None
sifted_word (first ∷ []) = None
sifted_word (first ∷ letter ∷ []) = if first == 42 then lone_word letter else None
sifted_word (first ∷ second ∷ third ∷ rest) = if first == 42
    && is_ascii_uppercase second then lookup keywords (first ∷ second ∷ third ∷ rest) else None

-- a keyword of the file's head, or `*D_NET`, or one that is refused there
abbrev pub is_top : Word → Bool
is_top Induc = false
is_top Load = false
is_top Port = false
is_top Internal = false
is_top Node = false
is_top Conn = false
is_top Cap = false
is_top Res = false
is_top End = false
is_top Confidence = false
is_top _ = true

-- a keyword that ends what stands loose in a connection
abbrev pub is_tight : Word → Bool
is_tight Confidence = false
is_tight _ = true

abbrev pub holds_of : (Word → Bool) → Option Word → Bool
holds_of test None = false
holds_of test (Some word) = test word

-- a token that is no keyword of the head
unfoldable pub is_other : List ℕ → Bool
is_other text = not (is_broken text) && not (holds_of is_top (word_of text))

-- a token that may stand in a connection behind what is read of it
unfoldable pub is_loose : List ℕ → Bool
is_loose text = not (is_broken text) && not (holds_of is_tight (word_of text))

-- a byte from 33 to 126 that is no letter, digit, `_`, `"`, `*` or backslash
abbrev pub marks : ℕ → Bool
marks byte = nat_le 33 byte && nat_le byte 126 && not (is_ascii_alphanumeric byte || byte == 95 || byte == 34 || byte == 42 || byte == 92)

unfoldable pub is_mark : List ℕ → Bool
is_mark [] = false
is_mark (byte ∷ []) = marks byte
is_mark (byte ∷ next ∷ rest) = false

unfoldable pub is_two_marks : List ℕ → Bool
is_two_marks [] = false
is_two_marks (left ∷ []) = false
is_two_marks (left ∷ right ∷ []) = marks left && marks right
is_two_marks (left ∷ right ∷ next ∷ rest) = false

abbrev pub is_colon : ℕ → Bool
is_colon byte = byte == 58

-- two literals with a colon between them, parted at the first colon
abbrev pub are_two_literals : List ℕ → Option ℕ → Bool
are_two_literals text None = false
are_two_literals text (Some colon) = is_literal (take colon text) && is_literal (drop (colon + 1) text)

-- a literal, or three with colons between them
abbrev pub is_value_parted : List ℕ → Option ℕ → Bool
is_value_parted text None = is_literal text
is_value_parted text (Some colon) =
    is_literal (take colon text) && are_two_literals (drop (colon + 1) text) (position is_colon (drop (colon + 1) text))

unfoldable pub is_value : List ℕ → Bool
is_value text = is_value_parted text (position is_colon text)

-- one or more decimal digits
unfoldable pub is_id : List ℕ → Bool
is_id text = not (is_nothing text) && list_all is_ascii_digit text

-- `*` and digits
unfoldable pub is_index : List ℕ → Bool
is_index [] = false
is_index (first ∷ rest) = first == 42 && is_id rest

-- what may follow the digits of an index in a reference: nothing, or the delimiter and at least one byte
abbrev pub is_tail : ℕ → List ℕ → Bool
is_tail delimiter [] = true
is_tail delimiter (first ∷ rest) = first == delimiter && not (is_nothing rest)

-- digits, and behind them such a tail
abbrev pub is_indexed : ℕ → List ℕ → Bool
is_indexed delimiter text =
    let digits = prefix_len is_ascii_digit text in
    nat_lt 0 digits && is_tail delimiter (drop digits text)

-- neither `*` nor `"` begins it
unfoldable pub is_name : List ℕ → Bool
is_name [] = false
is_name (first ∷ rest) = not (first == 42) && not (first == 34) && not (is_broken (first ∷ rest))

-- what stands for the name of an index in the name map
unfoldable pub is_map_name : List ℕ → Bool
is_map_name text = is_name text

-- an index, an index with the delimiter and a tail, or a name that has not the form of a value
unfoldable pub is_ref : ℕ → List ℕ → Bool
is_ref delimiter [] = false
is_ref delimiter (first ∷ rest) =
    if first == 42 then is_indexed delimiter rest
    else is_name (first ∷ rest) && not (is_value (first ∷ rest))

-- `I`, `O` or `B`
unfoldable pub is_direction : List ℕ → Bool
is_direction [] = false
is_direction (byte ∷ []) = byte == 73 || byte == 79 || byte == 66
is_direction (byte ∷ next ∷ rest) = false

-- the digits of an index without the zeros in front
abbrev pub index_digits : List ℕ → List ℕ
index_digits text = without_leading_zeros (drop 1 text)
