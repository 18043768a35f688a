-- Ranges, selects, constants and connections that are bad.
use Rattle.std.specs.Prelude.{◌≡◌, ℕ, zero, suc, ◌+◌, ◌-◌, Bool, true, false, not, ◌&&◌, ◌||◌, ◌==◌, nat_lt, min, if◌then◌else◌, List, [], ◌∷◌, length, take, drop, count_by, slice_get, Option, Some, None}
use Rattle.std.specs.Str.{bytes_eq}
use Rattle.token_texts.specs.Runs.{run_length}
use Rattle.token_texts.specs.Spans.{text_at}
use Rattle.verilog_netlist.specs.Tokens.{is_digit, value_after, bound_of}
use Rattle.verilog_netlist.specs.Firsts.{IsFirst}
use Rattle.verilog_netlist.specs.Namespaces.{begins_module}
use Rattle.verilog_netlist.specs.declared.declared.Declaration.{Declaration}
use Rattle.verilog_netlist.specs.declared.entries.Decl.{Decl}
use Rattle.verilog_netlist.specs.declared.entries.Decl.TheVariants as decl
use Rattle.verilog_netlist.specs.declared.entries.Range.{Range}
use Rattle.verilog_netlist.specs.declared.entries.Entry.{Entry}
use Rattle.verilog_netlist.specs.declared.entries.Entry.TheVariants.{Declared, Port, Whole, Bit, Part, Constant}

-- bounds of ranges and selects are at most this
abbrev pub largest_bound : ℕ
largest_bound = 1048575

-- a range, a constant and a connection have at most so many bits
abbrev pub most_bits : ℕ
most_bits = 65536

-- how far two numbers are from each other
abbrev pub distance : ℕ → ℕ → ℕ
distance one other = if nat_lt one other then other - one else one - other

abbrev pub width_of : Range → ℕ
width_of range = distance range.left range.right + 1

abbrev pub has_large_bound : Range → Bool
has_large_bound range = nat_lt largest_bound range.left || nat_lt largest_bound range.right

-- the digits that begin at a place of the file
abbrev pub digits_at : List ℕ → ℕ → List ℕ
digits_at bytes place = let from = drop place bytes in take (run_length is_digit from) from

-- How many bits a range of the file has, by its numbers as they are written. Where it has more than a connection may have, it counts
-- one more than that.
abbrev pub written_width : List ℕ → Range → ℕ
written_width bytes range =
    min (suc most_bits) (distance (value_after 0 (digits_at bytes range.left_at)) (value_after 0 (digits_at bytes range.right_at)) + 1)

-- the same, where bounds that are not past the limit are their numbers
abbrev pub bits_across : List ℕ → Range → ℕ
bits_across bytes range = if has_large_bound range then written_width bytes range else width_of range

-- a range past the limits
abbrev pub is_past_limits : Range → Bool
is_past_limits range = has_large_bound range || nat_lt most_bits (width_of range)

abbrev pub is_wire : Decl → Bool
is_wire decl.Wire = true
is_wire _ = false

abbrev pub one_range : Option Range → Option Range → Bool
one_range None None = true
one_range (Some one) (Some other) = (one.left == other.left) && (one.right == other.right)
one_range _ _ = false

-- one is by a direction and the other by `wire`, and their ranges differ
abbrev pub differ : Declaration → Declaration → Bool
differ one other = not (one_range one.range other.range) && not (if is_wire one.by then is_wire other.by else not (is_wire other.by))

abbrev pub differs_from : Option Declaration → Declaration → Bool
differs_from None this = false
differs_from (Some first) this = differ first this

abbrev pub is_past : Option Range → Bool
is_past None = false
is_past (Some range) = is_past_limits range

-- a declaration with a range past the limits, or with another range than the first declaration of the name, which is of the other kind
abbrev pub is_bad_declaration : Option Declaration → Declaration → Bool
is_bad_declaration first this = is_past this.range || differs_from first this

-- a bit outside a range
abbrev pub is_outside : Range → ℕ → Bool
is_outside range place =
    if nat_lt range.left range.right then nat_lt place range.left || nat_lt range.right place
    else nat_lt place range.right || nat_lt range.left place

-- the range of a declared name
abbrev pub declared_range : Option Declaration → Option Range
declared_range None = None
declared_range (Some first) = first.range

-- a bit of a name that is undeclared or has no range, or a bit that is past the bounds or outside the range
abbrev pub is_bad_bit : Option Range → ℕ → Bool
is_bad_bit None place = true
is_bad_bit (Some range) place = nat_lt largest_bound place || is_outside range place

-- bounds that run against those of the range
abbrev pub runs_against : Range → Range → Bool
runs_against range select =
    if nat_lt range.left range.right then nat_lt select.right select.left else nat_lt select.left select.right

abbrev pub is_bad_part : Option Range → Range → Bool
is_bad_part None select = true
is_bad_part (Some range) select =
    has_large_bound select || is_outside range select.left || is_outside range select.right || runs_against range select

-- the digits before the `'` of a constant
abbrev pub constant_width : List ℕ → ℕ
constant_width text = bound_of (take (run_length is_digit text) text)

abbrev pub is_bad_width : ℕ → Bool
is_bad_width width = (width == 0) || nat_lt most_bits width

-- how many bits an expression has, as the names are declared; a name without a range, also an undeclared one, has one
abbrev pub whole_width : Option Range → ℕ
whole_width None = 1
whole_width (Some range) = width_of range

-- the same, of a name in the file
abbrev pub whole_bits : List ℕ → Option Range → ℕ
whole_bits bytes None = 1
whole_bits bytes (Some range) = bits_across bytes range

module _ (bytes : List ℕ) (find : List ℕ → Option Declaration) where
  abbrev pub bits_of : Entry → Option ℕ
  bits_of (Whole name) = Some (whole_bits bytes (declared_range (find (text_at bytes name))))
  bits_of (Bit name place) = Some 1
  bits_of (Part name select) = Some (bits_across bytes select)
  bits_of (Constant token) = Some (constant_width (text_at bytes token))
  bits_of _ = None

  abbrev pub and_more : Option ℕ → ℕ → ℕ
  and_more None more = 0
  and_more (Some bits) more = bits + more

  -- the bits of all expressions at the front of these entries
  abbrev pub joined_width : List Entry → ℕ
  joined_width [] = 0
  joined_width (entry ∷ behind) = and_more (bits_of entry) (joined_width behind)

  -- whether an entry is bad, with these entries behind it
  abbrev pub is_bad_entry : List Entry → Entry → Bool
  is_bad_entry behind (Declared by name bounds) = is_bad_declaration (find (text_at bytes name)) (record { by = by; range = bounds })
  is_bad_entry behind (Port name) = nat_lt most_bits (joined_width behind)
  is_bad_entry behind (Bit name place) = is_bad_bit (declared_range (find (text_at bytes name))) place
  is_bad_entry behind (Part name select) = is_bad_part (declared_range (find (text_at bytes name))) select
  is_bad_entry behind (Constant token) = is_bad_width (constant_width (text_at bytes token))
  is_bad_entry behind _ = false

-- which module a place is in: as many have begun up to there
abbrev pub module_at : List Entry → ℕ → ℕ
module_at entries place = count_by begins_module (take (place + 1) entries)

-- what an entry in the module `here` declares, if it declares this name and that module is asked for
abbrev pub declares : List ℕ → ℕ → List ℕ → ℕ → Option Entry → Option Declaration
declares bytes asked name here (Some (Declared by span bounds)) =
    if (asked == here) && bytes_eq name (text_at bytes span) then Some (record { by = by; range = bounds }) else None
declares bytes asked name here _ = None

abbrev pub or_first : Option Declaration → Option Declaration → Option Declaration
or_first (Some first) later = Some first
or_first None later = later

-- the first declaration of a name in a module, among so many entries
abbrev pub first_declared : List ℕ → List Entry → ℕ → List ℕ → ℕ → Option Declaration
first_declared bytes entries asked name zero = None
first_declared bytes entries asked name (suc n) =
    or_first (first_declared bytes entries asked name n) (declares bytes asked name (module_at entries n) (slice_get entries n))

-- the first declaration of a name in the module of this place, before the place or behind it
abbrev pub declared_by : List ℕ → List Entry → ℕ → List ℕ → Option Declaration
declared_by bytes entries place name = first_declared bytes entries (module_at entries place) name (length entries)

-- the entry at this place is bad
pub record IsBadRange (bytes : List ℕ) (entries : List Entry) (place : ℕ) : Type 0 where
  pub entry : Entry
  pub stands : slice_get entries place ≡ Some entry
  pub bad : is_bad_entry bytes (declared_by bytes entries place) (drop (place + 1) entries) entry ≡ true

-- the first such entry, or none
abbrev pub IsFirstBadRange : List ℕ → List Entry → Option ℕ → Type 0
IsFirstBadRange bytes entries = IsFirst (IsBadRange bytes entries)
