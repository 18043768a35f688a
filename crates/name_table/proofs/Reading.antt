-- A word that is read byte by byte: its characters so far, and whether it stands inside an escape.
use Rattle.std.proofs.Common.{◌≡◌, ◌≢◌, ℕ, ◌+◌, ◌<◌, Bool, true, false, List, [], ◌∷◌, ◌++◌, length, take, get_or, refl, sym, ap, ◌∙◌, append_assoc}
use Rattle.std.specs.Prelude.{◌==◌}
use Rattle.std.specs.List.{flat_map}
use Rattle.std.proofs.lemmas.Bool.Decides.{Decides-eqb}
use Rattle.std.proofs.lemmas.Grind.{flat_map-append}
use Rattle.std.proofs.lemmas.List.{take_more, append-nil}
use Rattle.name_table.specs.Characters.{Character, bare, escaped, characters, after_backslash}
use Rattle.edge_io.specs.Bytes.{backslash}

-- whether the next byte is inside an escape, after one byte and after a word
abbrev pub goes_inside : Bool → ℕ → Bool
goes_inside true byte = false
goes_inside false byte = byte == backslash

abbrev pub inside_from : Bool → List ℕ → Bool
inside_from within [] = within
inside_from within (byte ∷ rest) = inside_from (goes_inside within byte) rest

abbrev pub ends_inside : List ℕ → Bool
ends_inside word = inside_from false word

-- the character that a byte ends, if it does
abbrev pub ended : Bool → ℕ → List Character
ended true byte = escaped byte ∷ []
ended false byte = elim (byte == backslash) [ true ↦ [] | false ↦ bare byte ∷ [] ]

-- the characters of a word that begins inside an escape or outside
abbrev pub reading : Bool → List ℕ → List Character
reading true word = after_backslash word
reading false word = characters word

reading-cons : (within : Bool) (byte : ℕ) (rest : List ℕ) → reading within (byte ∷ rest) ≡ ended within byte ++ reading (goes_inside within byte) rest
reading-cons true byte rest = refl
reading-cons false byte rest = by (byte == backslash)
  where
    by : (slashed : Bool) → (elim slashed as (λ _. List Character) [ true ↦ after_backslash rest | false ↦ bare byte ∷ characters rest ]) ≡ (elim slashed as (λ _. List Character) [ true ↦ [] | false ↦ bare byte ∷ [] ]) ++ reading slashed rest
    by true = refl
    by false = refl

reading-append : (within : Bool) (word more : List ℕ) → reading within (word ++ more) ≡ reading within word ++ reading (inside_from within word) more
reading-append true [] more = refl
reading-append false [] more = refl
reading-append within (byte ∷ rest) more =
    reading-cons within byte (rest ++ more)
    ∙ ap (λ more. ended within byte ++ more) (reading-append (goes_inside within byte) rest more)
    ∙ sym (append_assoc (ended within byte) (reading (goes_inside within byte) rest) (reading (inside_from within (byte ∷ rest)) more))
    ∙ ap (λ front. front ++ reading (inside_from within (byte ∷ rest)) more) (sym (reading-cons within byte rest))

reading-one : (within : Bool) (byte : ℕ) → reading within (byte ∷ []) ≡ ended within byte
reading-one true byte = refl
reading-one false byte = refl

-- one more byte
pub characters_push : (word : List ℕ) (byte : ℕ) → characters (word ++ byte ∷ []) ≡ characters word ++ ended (ends_inside word) byte
characters_push word byte = reading-append false word (byte ∷ []) ∙ ap (λ last. characters word ++ last) (reading-one (ends_inside word) byte)

inside_from-push : (within : Bool) (word : List ℕ) (byte : ℕ) → inside_from within (word ++ byte ∷ []) ≡ goes_inside (inside_from within word) byte
inside_from-push within [] byte = refl
inside_from-push within (first ∷ rest) byte = inside_from-push (goes_inside within first) rest byte

pub ends_inside_push : (word : List ℕ) (byte : ℕ) → ends_inside (word ++ byte ∷ []) ≡ goes_inside (ends_inside word) byte
ends_inside_push word byte = inside_from-push false word byte

pub bare_ended : (byte : ℕ) → (byte == backslash) ≡ false → ended false byte ≡ bare byte ∷ []
bare_ended byte plain = ap (λ slashed. elim slashed as (λ _. List Character) [ true ↦ [] | false ↦ bare byte ∷ [] ]) plain

slash_ended : (byte : ℕ) → (byte == backslash) ≡ true → ended false byte ≡ []
slash_ended byte is = ap (λ slashed. elim slashed as (λ _. List Character) [ true ↦ [] | false ↦ bare byte ∷ [] ]) is

-- a test that is false where the numbers differ
pub not_equal : (one other : ℕ) → one ≢ other → (one == other) ≡ false
not_equal one other differ = by (one == other) refl
  where
    by : (same : Bool) → (one == other) ≡ same → same ≡ false
    by true is = absurd (differ ((Decides-eqb one other).0 is))
    by false is = refl

-- one more byte of a word that is read to a place: its characters
characters_more : (word : List ℕ) (place : ℕ) → place < length word → characters (take (place + 1) word) ≡ characters (take place word) ++ ended (ends_inside (take place word)) (get_or word place 0)
characters_more word place within = ap characters (take_more word place 0 within) ∙ characters_push (take place word) (get_or word place 0)

pub read_escaped : (word : List ℕ) (place : ℕ) → place < length word → ends_inside (take place word) ≡ true → characters (take (place + 1) word) ≡ characters (take place word) ++ escaped (get_or word place 0) ∷ []
read_escaped word place within inside = characters_more word place within ∙ ap (λ in_it. characters (take place word) ++ ended in_it (get_or word place 0)) inside

pub read_slash : (word : List ℕ) (place : ℕ) → place < length word → ends_inside (take place word) ≡ false → get_or word place 0 ≡ backslash → characters (take (place + 1) word) ≡ characters (take place word)
read_slash word place within outside is = characters_more word place within ∙ (λ i. characters (take place word) ++ ended (outside i) (is i)) ∙ append-nil (characters (take place word))

pub read_bare : (word : List ℕ) (place : ℕ) → place < length word → ends_inside (take place word) ≡ false → get_or word place 0 ≢ backslash → characters (take (place + 1) word) ≡ characters (take place word) ++ bare (get_or word place 0) ∷ []
read_bare word place within outside other =
    characters_more word place within ∙ ap (λ in_it. characters (take place word) ++ ended in_it (get_or word place 0)) outside
    ∙ ap (λ last. characters (take place word) ++ last) (bare_ended (get_or word place 0) (not_equal (get_or word place 0) backslash other))

-- and whether it ends inside an escape
pub ends_inside_more : (word : List ℕ) (place : ℕ) → place < length word → ends_inside (take (place + 1) word) ≡ goes_inside (ends_inside (take place word)) (get_or word place 0)
ends_inside_more word place within = ap ends_inside (take_more word place 0 within) ∙ ends_inside_push (take place word) (get_or word place 0)

pub leaves_escape : (word : List ℕ) (place : ℕ) → place < length word → ends_inside (take place word) ≡ true → ends_inside (take (place + 1) word) ≡ false
leaves_escape word place within inside = ends_inside_more word place within ∙ ap (λ in_it. goes_inside in_it (get_or word place 0)) inside

pub enters_escape : (word : List ℕ) (place : ℕ) → place < length word → ends_inside (take place word) ≡ false → get_or word place 0 ≡ backslash → ends_inside (take (place + 1) word) ≡ true
enters_escape word place within outside is = ends_inside_more word place within ∙ (λ i. goes_inside (outside i) (is i))

pub stays_outside : (word : List ℕ) (place : ℕ) → place < length word → ends_inside (take place word) ≡ false → get_or word place 0 ≢ backslash → ends_inside (take (place + 1) word) ≡ false
stays_outside word place within outside other = ends_inside_more word place within ∙ ap (λ in_it. goes_inside in_it (get_or word place 0)) outside ∙ not_equal (get_or word place 0) backslash other

-- what is made of the characters, when there is one more
pub flat_map-push : {A B : Type 0} (of : A → List B) (items : List A) (last : A) → flat_map of (items ++ last ∷ []) ≡ flat_map of items ++ of last
flat_map-push of items last = flat_map-append of items (last ∷ []) ∙ ap (λ text. flat_map of items ++ text) (append-nil (of last))
