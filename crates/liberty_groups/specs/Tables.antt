-- The groups and attributes of a Liberty file in flat tables, and the trees that they are.
use Rattle.std.specs.Prelude.{◌≡◌, ◌≢◌, ℕ, ◌+◌, ◌-◌, ◌<◌, List, [], ◌∷◌, ◌++◌, length, get_or, ⊤}
use Rattle.std.specs.List.{All}
use Rattle.liberty_groups.specs.Groups.{Attribute, Group, group, Groups, no_group, and_group}

-- a group in its table: its name, its arguments, its attributes, and the numbers of the groups in it, each in the order of the file
pub record Row : Type 0 where
  pub name : List ℕ
  pub args : List (List ℕ)
  pub attributes : List Attribute
  pub children : List ℕ

-- the groups, each behind those that stand in it, the library last; and the attributes of all of them
pub record Tables : Type 0 where
  pub rows : List Row
  pub attributes : List Attribute

-- what is said of a number that no group has
abbrev pub nothing : Group
nothing = group [] [] [] no_group

abbrev pub no_attribute : Attribute
no_attribute = record { name = []; values = [] }

-- the groups of these numbers, behind those before them
abbrev pub gathered : List Group → Groups → List ℕ → Groups
gathered trees before [] = before
gathered trees before (number ∷ numbers) = gathered trees (and_group before (get_or trees number nothing)) numbers

-- the tree of a row, of which the groups in it are given
abbrev pub tree_in : List Group → Row → Group
tree_in trees row = group row.name row.args row.attributes (gathered trees no_group row.children)

abbrev pub trees_behind : List Group → List Row → List Group
trees_behind trees [] = trees
trees_behind trees (row ∷ rows) = trees_behind (trees ++ tree_in trees row ∷ []) rows

-- the tree of each row
abbrev pub trees_of : List Row → List Group
trees_of rows = trees_behind [] rows

-- the group of a number
abbrev pub group_at : Tables → ℕ → Group
group_at tables number = get_or (trees_of tables.rows) number nothing

-- the attribute of a number
abbrev pub attribute_at : Tables → ℕ → Attribute
attribute_at tables number = get_or tables.attributes number no_attribute

-- the tree of the whole file: its last group
abbrev pub tree_of : Tables → Group
tree_of tables = group_at tables (length tables.rows - 1)

abbrev pub IsGroup : Tables → ℕ → Type 0
IsGroup tables number = number < length tables.rows

abbrev pub IsAttribute : Tables → ℕ → Type 0
IsAttribute tables number = number < length tables.attributes

-- the last of some attributes that has this name
pub record IsLastOf (key : List ℕ) (attributes : List Attribute) (attribute : Attribute) : Type 0 where
  pub before : List Attribute
  pub behind : List Attribute
  pub split : attributes ≡ before ++ attribute ∷ behind
  pub named : attribute.name ≡ key
  pub last : All (λ (other : Attribute). other.name ≢ key) behind

abbrev pub HasNone : List ℕ → List Attribute → Type 0
HasNone key attributes = All (λ (attribute : Attribute). attribute.name ≢ key) attributes

-- the groups in each of some rows come before it, of which the first has this number
abbrev pub AreBehindFrom : ℕ → List Row → Type 0
AreBehindFrom number [] = ⊤
AreBehindFrom number (row ∷ rows) = All (λ (inner : ℕ). inner < number) row.children × AreBehindFrom (number + 1) rows

abbrev pub AreBehind : List Row → Type 0
AreBehind rows = AreBehindFrom 0 rows
