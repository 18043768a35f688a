-- A library with its index.
use Rattle.std.specs.Prelude.{Result, IfOk, IfErr, codes}
use Rattle.liberty_groups.specs.Groups.{groups_of}
use Rattle.liberty_groups.specs.Tables.{Tables, tree_of}
use Rattle.liberty_tables.specs.GroupIndex.{AreIndexed}
use Rattle.liberty_tables.specs.declared.faults.CellFault.{CellFault}
use Rattle.liberty_tables.specs.declared.group_index.GroupIndex.{GroupIndex}
use Rattle.timing_arcs.specs.CellFaults.{unit_questions, IsRefusal}
use Rattle.timing_arcs.specs.LibraryBasis.{IsBasis}
use Rattle.timing_arcs.specs.declared.library_basis.LibraryBasis.{LibraryBasis}

-- what all cells stand on, or why none has a model; and the first cell of each name
pub record IsIndexed (tree : Tables) (basis : Result LibraryBasis CellFault) (index : GroupIndex) : Type 0 where
  pub known : IfOk basis (IsBasis tree)
  pub refused : IfErr basis (IsRefusal (tree_of tree) unit_questions)
  pub cells : AreIndexed tree (codes "cell") (groups_of (tree_of tree)) index.args index.groups.items
