-- A quick test that most names do not pass: reserved words begin with two small letters, of these, go on with small letters, 0 and 1, and
-- have at most twelve bytes.
use Rattle.std.specs.Prelude.{ℕ, Bool, false, ◌&&◌, ◌||◌, ◌==◌, ◌-◌, nat_le, List, [], ◌∷◌, length, slice_get, Option, Some, None, codes}
use Rattle.std.specs.List.{list_all, list_any}
use Rattle.verilog_netlist.specs.Tokens.{is_within}

abbrev pub is_small : ℕ → Bool
is_small byte = is_within 97 122 byte

-- the second letters of reserved words that begin with `a`, with `b`, and so on
abbrev pub second_letters : List (List ℕ)
second_letters =
    codes "lnsu"
    ∷ codes "eu"
    ∷ codes "am"
    ∷ codes "ei"
    ∷ codes "lnv"
    ∷ codes "ou"
    ∷ codes "e"
    ∷ []
    ∷ codes "fn"
    ∷ codes "o"
    ∷ []
    ∷ codes "o"
    ∷ codes "eo"
    ∷ codes "aemo"
    ∷ codes "ru"
    ∷ codes "amoru"
    ∷ []
    ∷ codes "cenpt"
    ∷ codes "cimptu"
    ∷ codes "air"
    ∷ []
    ∷ codes "e"
    ∷ codes "aehio"
    ∷ codes "no"
    ∷ []
    ∷ []
    ∷ []

abbrev pub is_among : Option (List ℕ) → ℕ → Bool
is_among None letter = false
is_among (Some letters) letter = list_any (λ other. other == letter) letters

abbrev pub may_begin : List (List ℕ) → ℕ → ℕ → Bool
may_begin table first second = is_among (slice_get table (first - 97)) second

abbrev pub goes_on_reserved : ℕ → Bool
goes_on_reserved byte = is_small byte || byte == 48 || byte == 49

abbrev pub may_be_reserved : List ℕ → Bool
may_be_reserved [] = false
may_be_reserved (first ∷ []) = false
may_be_reserved (first ∷ second ∷ rest) =
    is_small first && is_small second && nat_le (length rest) 10 && may_begin second_letters first second && list_all goes_on_reserved rest
