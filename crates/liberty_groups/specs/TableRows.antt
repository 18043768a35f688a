-- What the fields of the tables say.
use Rattle.std.specs.Prelude.{◌≡◌, ℕ, ◌<◌, ◌≤◌, ◌^◌, List, [], ◌++◌, length, map, get_or, slice_range}
use Rattle.std.specs.List.{All}
use Rattle.liberty_groups.specs.Groups.{Attribute}
use Rattle.liberty_groups.specs.Tables.{Row, Tables, AreBehind}
use Rattle.liberty_groups.specs.declared.rows.Span.{Span}
use Rattle.liberty_groups.specs.declared.rows.AttributeRow.{AttributeRow}
use Rattle.liberty_groups.specs.declared.rows.GroupRow.{GroupRow}
use Rattle.liberty_groups.specs.declared.rows.GroupId.{GroupId}

-- the part of a table that a span names
abbrev pub part_of : {A : Type 0} → List A → Span → List A
part_of items span = slice_range items span.from span.end

abbrev pub number_of : GroupId → ℕ
number_of id = id.0

-- the name of which a row has the number
abbrev pub name_in : List (List ℕ) → AttributeRow → List ℕ
name_in names row = get_or names row.name.0 []

abbrev pub attribute_of : List (List ℕ) → List (List ℕ) → AttributeRow → Attribute
attribute_of names texts row = record { name = name_in names row; values = part_of texts row.values }

abbrev pub row_of : List (List ℕ) → List Attribute → List GroupId → GroupRow → Row
row_of texts attributes children row = record {
  name = row.name;
  args = part_of texts row.args;
  attributes = part_of attributes row.attributes;
  children = map number_of (part_of children row.children);
}

abbrev pub attributes_in : List (List ℕ) → List (List ℕ) → List AttributeRow → List Attribute
attributes_in names texts rows = map (attribute_of names texts) rows

abbrev pub tables_of : List (List ℕ) → List (List ℕ) → List AttributeRow → List GroupId → List GroupRow → Tables
tables_of names texts attributes children groups =
    record {
      rows = map (row_of texts (attributes_in names texts attributes) children) groups;
      attributes = attributes_in names texts attributes;
    }

-- a span within a table of so many entries
abbrev pub IsSpanIn : ℕ → Span → Type 0
IsSpanIn count span = (span.from ≤ span.end) × (span.end ≤ count)

pub record LiesIn (names texts : ℕ) (row : AttributeRow) : Type 0 where
  pub name : row.name.0 < names
  pub values : IsSpanIn texts row.values

pub record IsRowIn (texts attributes children : ℕ) (row : GroupRow) : Type 0 where
  pub args : IsSpanIn texts row.args
  pub own : IsSpanIn attributes row.attributes
  pub inner : IsSpanIn children row.children

-- every span and every number of a name lies in its table, the numbers fit, and the groups in a group come before it
pub record AreTables (names texts : List (List ℕ)) (attributes : List AttributeRow) (children : List GroupId)
    (groups : List GroupRow) : Type 0 where
  pub values : All (LiesIn (length names) (length texts)) attributes
  pub spans : All (IsRowIn (length texts) (length attributes) (length children)) groups
  pub order : AreBehind (tables_of names texts attributes children groups).rows
  pub many : length groups ≤ 2 ^ 32

-- tables in which all has ended: the library stands in them, too
pub record AreWhole (names texts : List (List ℕ)) (attributes : List AttributeRow) (children : List GroupId)
    (groups : List GroupRow) : Type 0 where
  pub tables : AreTables names texts attributes children groups
  pub root : 0 < length (tables_of names texts attributes children groups).rows

-- a table to which some entries, or none, have been added
abbrev pub IsGrown : {A : Type 0} → List A → List A → Type 0
IsGrown {A} old new = (more : List A) × (new ≡ old ++ more)
