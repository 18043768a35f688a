-- How names are spelled in SDF (IEEE 1497-2001, identifiers and hierarchical paths).
use Rattle.std.specs.Prelude.{ℕ, Bool, ◌||◌, ◌==◌, List, [], ◌∷◌, if◌then◌else◌}
use Rattle.std.specs.Char.{is_ascii_alphanumeric}
use Rattle.std.specs.List.{flat_map}
use Rattle.name_table.specs.Characters.{Character, bare, escaped, characters}
use Rattle.edge_io.specs.Bytes.{slash, left_bracket, backslash, right_bracket}

-- a letter, a digit or `_`
abbrev pub is_plain : ℕ → Bool
is_plain byte = is_ascii_alphanumeric byte || byte == 95

-- a byte of a name: a plain one stands as it is, any other has a backslash before it
abbrev pub spelled : ℕ → List ℕ
spelled byte = if is_plain byte then byte ∷ [] else backslash ∷ byte ∷ []

-- a name as one part of a path
abbrev pub part : List ℕ → List ℕ
part name = flat_map spelled name

-- a character of a name that is read: a bare divider is `/`, bare brackets stay, and so do plain bytes, from which a
-- backslash is dropped; every other byte has one backslash before it
abbrev pub respelled : ℕ → Character → List ℕ
respelled divider (escaped byte) = spelled byte
respelled divider (bare byte) =
    if byte == divider then slash ∷ []
    else if byte == left_bracket || byte == right_bracket then byte ∷ []
    else spelled byte

-- the canonical spelling of a name that is read, in a file with this divider
abbrev pub canonical : ℕ → List ℕ → List ℕ
canonical divider word = flat_map (respelled divider) (characters word)
