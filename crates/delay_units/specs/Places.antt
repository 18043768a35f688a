-- The places in a decimal literal: a text is one where its bytes lead over them to a place where a literal may end.
use Rattle.std.specs.Prelude.{◌==◌, ◌||◌, ℕ, Bool, true, false, List, [], ◌∷◌, Option, Some, None, if◌then◌else◌}
use Rattle.std.specs.Char.{is_ascii_digit}

-- the places in a literal: before its sign, behind it, in the digits before the point, behind a point with no digit
-- before it, in the digits behind the point, behind the mark of the exponent, behind its sign, in its digits
pub data Place : Type 0 where
  at_start : Place
  past_sign : Place
  in_whole : Place
  past_point : Place
  in_fraction : Place
  past_mark : Place
  past_exponent_sign : Place
  in_exponent : Place

abbrev pub is_sign : ℕ → Bool
is_sign c = (c == 43) || (c == 45)

abbrev pub is_mark : ℕ → Bool
is_mark c = (c == 101) || (c == 69)

-- the place behind one more byte, where a literal may go on with it
abbrev pub place_after : Place → ℕ → Option Place
place_after at_start c =
    if is_ascii_digit c then Some in_whole else (if c == 46 then Some past_point else (if is_sign c then Some past_sign else None))
place_after past_sign c = if is_ascii_digit c then Some in_whole else (if c == 46 then Some past_point else None)
place_after in_whole c =
    if is_ascii_digit c then Some in_whole else (if c == 46 then Some in_fraction else (if is_mark c then Some past_mark else None))
place_after past_point c = if is_ascii_digit c then Some in_fraction else None
place_after in_fraction c = if is_ascii_digit c then Some in_fraction else (if is_mark c then Some past_mark else None)
place_after past_mark c = if is_ascii_digit c then Some in_exponent else (if is_sign c then Some past_exponent_sign else None)
place_after past_exponent_sign c = if is_ascii_digit c then Some in_exponent else None
place_after in_exponent c = if is_ascii_digit c then Some in_exponent else None

-- a literal may end there
abbrev pub may_end : Place → Bool
may_end in_whole = true
may_end in_fraction = true
may_end in_exponent = true
may_end _ = false

-- the place behind these bytes
abbrev pub place_behind : Option Place → List ℕ → Option Place
place_behind p [] = p
place_behind None (c ∷ cs) = None
place_behind (Some p) (c ∷ cs) = place_behind (place_after p c) cs

abbrev pub ends_literal : Option Place → Bool
ends_literal None = false
ends_literal (Some place) = may_end place

-- a decimal literal: the places of a literal lead over the text to one where it may end
unfoldable pub is_literal : List ℕ → Bool
is_literal text = ends_literal (place_behind (Some at_start) text)
