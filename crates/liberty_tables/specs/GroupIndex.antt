-- An index of the groups of one name by their first arguments: of several with one first argument the first counts.
use Rattle.std.specs.Prelude.{◌≡◌, ℕ, if◌then◌else◌, List, [], ◌∷◌, ◌++◌, length, slice_get, find, All, Contains, Option, Some, None}
use Rattle.liberty_groups.specs.Groups.{Group}
use Rattle.liberty_groups.specs.Tables.{Tables, group_at, IsGroup}
use Rattle.liberty_groups.specs.declared.rows.GroupId.{GroupId}
use Rattle.liberty_tables.specs.Library.{is_named, first_arg, is_for}

-- the first argument of a group of this name; no other group has one
abbrev pub arg_of : List ℕ → Group → Option (List ℕ)
arg_of name inner = if is_named name inner then first_arg inner else None

-- the first arguments of the groups of this name among some groups, and at the place of each the first group that has it
pub record AreIndexed (tree : Tables) (name : List ℕ) (groups : List Group) (args : List (List ℕ)) (ids : List GroupId) : Type 0 where
  pub even : length ids ≡ length args
  pub held : (place : ℕ) (arg : List ℕ) (id : GroupId) → slice_get args place ≡ Some arg → slice_get ids place ≡ Some id
      → find (is_for name arg) groups ≡ Some (group_at tree id.0)
  pub absent : (arg : List ℕ) → ¬ Contains args arg → find (is_for name arg) groups ≡ None
  pub within : All (λ (id : GroupId). IsGroup tree id.0) ids

-- a group is added under its first argument, unless that is held
pub data Adds (arg : List ℕ) (id : GroupId) (args : List (List ℕ)) (ids : List GroupId) (args' : List (List ℕ)) (ids' : List GroupId)
    : Type 0 where
  is_held : Contains args arg → args' ≡ args → ids' ≡ ids → Adds arg id args ids args' ids'
  is_added : ¬ Contains args arg → args' ≡ args ++ arg ∷ [] → ids' ≡ ids ++ id ∷ [] → Adds arg id args ids args' ids'
