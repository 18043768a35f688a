-- What a Liberty file says: a tree of groups.
use Rattle.std.specs.Prelude.{ℕ, List, [], ◌∷◌, ◌++◌}

-- An attribute: its name, and its values. A simple one, `name : value`, has one.
pub record Attribute : Type 0 where
  pub name : List ℕ
  pub values : List (List ℕ)

mutual
  -- A group: its name, its arguments, its attributes and the groups in it, each in the order of the file.
  pub data Group : Type 0 where
    group : List ℕ → List (List ℕ) → List Attribute → Groups → Group

  -- groups in the order of the file
  pub data Groups : Type 0 where
    no_group : Groups
    and_group : Groups → Group → Groups

abbrev pub name_of : Group → List ℕ
name_of (group name args attributes groups) = name

abbrev pub args_of : Group → List (List ℕ)
args_of (group name args attributes groups) = args

abbrev pub attributes_of : Group → List Attribute
attributes_of (group name args attributes groups) = attributes

-- the groups as a list
abbrev pub list_of : Groups → List Group
list_of no_group = []
list_of (and_group groups last) = list_of groups ++ last ∷ []

abbrev pub groups_of : Group → List Group
groups_of (group name args attributes groups) = list_of groups
