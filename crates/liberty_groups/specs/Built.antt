-- What has been read, as the builder keeps it.
use Rattle.std.specs.Prelude.{length}
use Rattle.std.specs.List.{All}
use Rattle.liberty_groups.specs.Building.{Built}
use Rattle.liberty_groups.specs.Tables.{Tables, trees_of}
use Rattle.liberty_groups.specs.TableRows.{tables_of, AreTables, AreWhole}
use Rattle.liberty_groups.specs.Opened.{frames_of, IsOpenIn}
use Rattle.liberty_groups.specs.declared.flat.FlatTree.{FlatTree}
use Rattle.liberty_groups.specs.declared.builder.Builder.{Builder}

abbrev pub tables_in : FlatTree → Tables
tables_in f = tables_of f.names f.texts.items f.attributes.items f.children.items f.groups.items

abbrev pub AreSound : FlatTree → Type 0
AreSound f = AreTables f.names f.texts.items f.attributes.items f.children.items f.groups.items

abbrev pub IsWhole : FlatTree → Type 0
IsWhole f = AreWhole f.names f.texts.items f.attributes.items f.children.items f.groups.items

abbrev pub built_of : Builder → Built
built_of b = record {
  name = b.name.items;
  parts = b.parts.items;
  frames = frames_of b.flat.names b.flat.texts.items (trees_of (tables_in b.flat).rows) b.open_groups.items;
}

pub record IsBuilt (b : Builder) : Type 0 where
  pub tables : AreSound b.flat
  pub opened : All (IsOpenIn (length b.flat.names) (length b.flat.texts.items) (length b.flat.groups.items)) b.open_groups.items
