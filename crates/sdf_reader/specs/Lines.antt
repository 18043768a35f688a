-- The lines that tell the rows of a file, and how much they are.
use Rattle.std.specs.Prelude.{ℕ, ◌+◌, Bool, true, false, ◌&&◌, List, [], ◌∷◌, ◌++◌, ℤ, pos, ◌+ℤ◌, int_le, Option, Some, None, if◌then◌else◌, codes, decimal}
use Rattle.std.specs.Int.{int_max}
use Rattle.std.specs.List.{flat_map}
use Rattle.delay_units.specs.declared.quantities.Femto.{Femto}
use Rattle.delay_units.specs.Printing.{femto_text, signed_fixed_text}
use Rattle.sdf_reader.specs.declared.rows.Value.{Value}
use Rattle.sdf_reader.specs.declared.rows.SdfRow.{SdfRow}
use Rattle.sdf_reader.specs.declared.rows.SdfRow.TheVariants.{Wire, Path}

-- a member of a value, in picoseconds with three decimals, or `-` where it is left out
abbrev pub member_text : Option Femto → List ℕ
member_text None = codes "-"
member_text (Some time) = femto_text time

abbrev pub same_time : ℤ → ℤ → Bool
same_time one other = int_le one other && int_le other one

abbrev pub same_member : Option Femto → Option Femto → Bool
same_member None None = true
same_member (Some one) (Some other) = same_time one.0 other.0
same_member _ _ = false

abbrev pub is_single : Value → Bool
is_single value = same_member value.min value.typ && same_member value.typ value.max

abbrev pub members_text : Value → List ℕ
members_text value = member_text value.min ++ (58 ∷ member_text value.typ) ++ 58 ∷ member_text value.max

-- a value: one member where all are equal, or else the three with colons between them
abbrev pub value_text : Value → List ℕ
value_text value = if is_single value then member_text value.min else members_text value

abbrev pub same_value : Value → Value → Bool
same_value one other = same_member one.min other.min && same_member one.typ other.typ && same_member one.max other.max

-- both values of a path, or of a wire whose rise and fall differ
abbrev pub both_text : Value → Value → List ℕ
both_text rise fall = value_text rise ++ codes " " ++ value_text fall

-- the values of a wire: one where its rise and its fall are equal
abbrev pub wire_values_text : Value → Value → List ℕ
wire_values_text rise fall = if same_value rise fall then value_text rise else both_text rise fall

-- an instance, or `-` where it is empty
abbrev pub instance_text : List ℕ → List ℕ
instance_text [] = codes "-"
instance_text (first ∷ rest) = first ∷ rest

-- two names, each with a blank behind it
abbrev pub names_text : List ℕ → List ℕ → List ℕ
names_text from to = from ++ (codes " " ++ (to ++ codes " "))

-- the line of a row, with its end
abbrev pub wire_line : List ℕ → List ℕ → Value → Value → List ℕ
wire_line from to rise fall = codes "wire " ++ names_text from to ++ wire_values_text rise fall ++ 10 ∷ []

abbrev pub path_names_text : List ℕ → List ℕ → List ℕ → List ℕ
path_names_text instance from to = codes "path " ++ (instance_text instance ++ codes " ") ++ names_text from to

abbrev pub path_line : List ℕ → List ℕ → List ℕ → Value → Value → List ℕ
path_line instance from to rise fall = path_names_text instance from to ++ both_text rise fall ++ 10 ∷ []

abbrev pub row_line : SdfRow → List ℕ
row_line (Wire from to rise fall) = wire_line from to rise fall
row_line (Path cell instance from to rise fall) = path_line instance from to rise fall

-- the lines of the rows
abbrev pub rows_text : List SdfRow → List ℕ
rows_text rows = flat_map row_line rows

-- how many rows are wires, and how many are paths
abbrev pub wire_count : List SdfRow → ℕ
wire_count [] = 0
wire_count (Wire from to rise fall ∷ rows) = wire_count rows + 1
wire_count (Path cell instance from to rise fall ∷ rows) = wire_count rows

abbrev pub path_count : List SdfRow → ℕ
path_count [] = 0
path_count (Wire from to rise fall ∷ rows) = path_count rows
path_count (Path cell instance from to rise fall ∷ rows) = path_count rows + 1

-- the typical time of a value, or 0
abbrev pub time_or_zero : Option Femto → ℤ
time_or_zero None = pos 0
time_or_zero (Some time) = time.0

-- what a row adds to the sum: the typical time of a wire's rise, and of a path's rise and fall
abbrev pub row_sum : SdfRow → ℤ
row_sum (Wire from to rise fall) = time_or_zero rise.typ
row_sum (Path cell instance from to rise fall) = time_or_zero rise.typ +ℤ time_or_zero fall.typ

abbrev pub sum_of : List SdfRow → ℤ
sum_of [] = pos 0
sum_of (row ∷ rows) = row_sum row +ℤ sum_of rows

-- the members of a row's values that are there
abbrev pub member_list : Option Femto → List ℤ
member_list None = []
member_list (Some time) = time.0 ∷ []

abbrev pub value_members : Value → List ℤ
value_members value = member_list value.min ++ member_list value.typ ++ member_list value.max

abbrev pub row_members : SdfRow → List ℤ
row_members (Wire from to rise fall) = value_members rise ++ value_members fall
row_members (Path cell instance from to rise fall) = value_members rise ++ value_members fall

-- the larger of two times, or the one that is there
abbrev pub larger : Option ℤ → Option ℤ → Option ℤ
larger None other = other
larger (Some time) None = Some time
larger (Some time) (Some other) = Some (int_max time other)

-- the largest of some times
abbrev pub largest : List ℤ → Option ℤ
largest [] = None
largest (time ∷ times) = larger (Some time) (largest times)

-- the largest member of the values of some rows
abbrev pub largest_of : List SdfRow → Option ℤ
largest_of rows = largest (flat_map row_members rows)

-- a time, or `-` where there is none
abbrev pub time_text : Option ℤ → List ℕ
time_text None = codes "-"
time_text (Some time) = signed_fixed_text 3 time

abbrev pub counts_text : ℕ → ℕ → List ℕ
counts_text wires paths = codes "wires " ++ (decimal wires ++ (codes " paths " ++ decimal paths))

-- the line of a summary, with its end; the sum has all its digits
abbrev pub summary_text : ℕ → ℕ → ℤ → Option ℤ → List ℕ
summary_text wires paths sum most = counts_text wires paths ++ codes " sum " ++ signed_fixed_text 3 sum ++ codes " largest "
    ++ time_text most ++ 10 ∷ []

-- the line of the summary of rows
abbrev pub summary_line : List SdfRow → List ℕ
summary_line rows = summary_text (wire_count rows) (path_count rows) (sum_of rows) (largest_of rows)
