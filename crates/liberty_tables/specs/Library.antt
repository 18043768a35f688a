-- Which groups and attributes of a Liberty library count: of several attributes of one name in a group the last, of several groups of one
-- name and first argument the first.
use Rattle.std.specs.Prelude.{ℕ, Bool, false, ◌&&◌, codes, List, slice_get, filter, find, bytes_eq, Option, Some, None}
use Rattle.liberty_groups.specs.Groups.{Group, name_of, args_of, attributes_of, groups_of}
use Rattle.liberty_tables.specs.Attributes.{values_of, simple_of}

abbrev pub is_named : List ℕ → Group → Bool
is_named name inner = bytes_eq (name_of inner) name

-- the groups of a name in a group
unfoldable pub groups_named : List ℕ → Group → List Group
groups_named name outer = filter (is_named name) (groups_of outer)

-- the first of them, whatever its arguments
unfoldable pub first_group : List ℕ → Group → Option Group
first_group name outer = find (is_named name) (groups_of outer)

-- its first argument
abbrev pub first_arg : Group → Option (List ℕ)
first_arg inner = slice_get (args_of inner) 0

abbrev pub is_text : List ℕ → Option (List ℕ) → Bool
is_text text None = false
is_text text (Some other) = bytes_eq other text

abbrev pub is_for : List ℕ → List ℕ → Group → Bool
is_for name arg inner = is_named name inner && is_text arg (first_arg inner)

-- the group of a name and a first argument
unfoldable pub group_for : List ℕ → List ℕ → Group → Option Group
group_for name arg outer = find (is_for name arg) (groups_of outer)

-- the values of an attribute, and the one value of a simple attribute
unfoldable pub values_in : List ℕ → Group → Option (List (List ℕ))
values_in key outer = values_of key (attributes_of outer)

unfoldable pub value_in : List ℕ → Group → Option (List ℕ)
value_in key outer = simple_of key (attributes_of outer)

-- the cell of a name
abbrev pub cell_group : Group → List ℕ → Option Group
cell_group library cell = group_for (codes "cell") cell library
