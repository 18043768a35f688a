-- The attributes of a group: of several of one name the last counts.
use Rattle.std.specs.Prelude.{ℕ, List, [], ◌∷◌, Option, Some, None, if◌then◌else◌, unwrap_or, slice_get}
use Rattle.std.specs.Str.{bytes_eq}
use Rattle.std.specs.Option.{option_map}
use Rattle.liberty_groups.specs.Groups.{Attribute}

-- the values of an attribute, unless one of its name stands behind it
abbrev pub unless_later : List ℕ → Attribute → Option (List (List ℕ)) → Option (List (List ℕ))
unless_later key attribute (Some values) = Some values
unless_later key attribute None = if bytes_eq attribute.name key then Some attribute.values else None

-- the values of the last attribute of this name
abbrev pub values_of : List ℕ → List Attribute → Option (List (List ℕ))
values_of key [] = None
values_of key (attribute ∷ rest) = unless_later key attribute (values_of key rest)

-- the first of some values, and an empty text where there is none
abbrev pub first_value : List (List ℕ) → List ℕ
first_value values = unwrap_or (slice_get values 0) []

-- the one value of a simple attribute, as `direction : input`: its first, where more are written
abbrev pub simple_of : List ℕ → List Attribute → Option (List ℕ)
simple_of key attributes = option_map first_value (values_of key attributes)
