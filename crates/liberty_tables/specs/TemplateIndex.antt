-- The templates of a library, each read once.
use Rattle.std.specs.Prelude.{◌≡◌, ℕ, List, [], slice_get, Option, Some, IfSome, codes}
use Rattle.std.specs.List.{AllZip}
use Rattle.std.specs.Option.{option_map}
use Rattle.liberty_groups.specs.Groups.{Attribute, Group, attributes_of, groups_of}
use Rattle.liberty_groups.specs.Tables.{Tables, tree_of, group_at}
use Rattle.liberty_groups.specs.declared.rows.GroupId.{GroupId}
use Rattle.liberty_tables.specs.GroupIndex.{AreIndexed}
use Rattle.liberty_tables.specs.TableModel.{PointsMean}
use Rattle.liberty_tables.specs.Templates.{template_of, variables_of}
use Rattle.liberty_tables.specs.declared.library_units.LibraryUnits.{LibraryUnits}
use Rattle.liberty_tables.specs.declared.table_names.TableNames.{TableNames}
use Rattle.liberty_tables.specs.declared.templates.Template.{Template}
use Rattle.liberty_tables.specs.declared.templates.Templates.{Templates}

-- what a template of these attributes says to a table that has no index of its own: its variables, if they are known ones, and their axes
pub record IsReadOf (called : TableNames) (units : LibraryUnits) (attributes : List Attribute) (template : Option Template) : Type 0 where
  pub variables : option_map (λ t. t.variables) template ≡ variables_of called attributes
  pub first : IfSome template (λ t. PointsMean called units (codes "index_1") [] attributes t.variables.first t.first)
  pub second : IfSome template (λ t. PointsMean called units (codes "index_2") [] attributes t.variables.second t.second)

-- the same of the group of a number
abbrev pub IsReadAt : Tables → TableNames → LibraryUnits → GroupId → Option Template → Type 0
IsReadAt tree called units id template = IsReadOf called units (attributes_of (group_at tree id.0)) template

-- The templates of the library of a tree, and at the place of each what it says. The built-in one has no attribute.
pub record AreTemplates (tree : Tables) (called : TableNames) (units : LibraryUnits) (templates : Templates) : Type 0 where
  pub indexed : AreIndexed tree (codes "lu_table_template") (groups_of (tree_of tree)) templates.index.args templates.index.groups.items
  pub read : AllZip (IsReadAt tree called units) templates.index.groups.items templates.read.items
  pub built_in : IsReadOf called units [] templates.built_in

-- what the template that a table names says
pub record IsNamedBy (called : TableNames) (units : LibraryUnits) (library table : Group) (template : Option Template) : Type 0 where
  pub attributes : List Attribute
  pub named : template_of library table ≡ Some attributes
  pub read : IsReadOf called units attributes template

-- at some place a name stands, and what the template of this name says
pub record IsUnder (names : List (List ℕ)) (templates : List (Option Template)) (name : List ℕ) (template : Option Template) : Type 0 where
  pub place : ℕ
  pub named : slice_get names place ≡ Some name
  pub here : slice_get templates place ≡ Some template
