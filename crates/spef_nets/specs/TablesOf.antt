-- What the fields of `Tables` are.
use Rattle.std.specs.Prelude.{◌≡◌, ℕ, List, [], ◌∷◌, ◌++◌}
use Rattle.spef_text.specs.SpefFiles.{SpefText}
use Rattle.spef_text.specs.Heads.{HeadText}
use Rattle.spef_nets.specs.Nodes.{nodes_at}
use Rattle.spef_nets.specs.NodeNames.{NameNodes}
use Rattle.spef_nets.specs.NetElements.{NetElements}
use Rattle.spef_nets.specs.Rows.{with_rows, rows_in}
use Rattle.spef_nets.specs.RowsOf.{rows_of}
use Rattle.spef_nets.specs.Tables.{start, end_of, nets_from, AreTabled}
use Rattle.spef_nets.specs.declared.tables.Tables.{Tables}

-- the nets of these names
abbrev pub nets_in : SpefText → ℕ → List (List ℕ) → Tables → List NetElements
nets_in file count nets tables = nets_from file count start tables.ends.items nets tables.nodes.items (rows_of tables.elements)

abbrev pub HoldNets : SpefText → HeadText → ℕ → List (List ℕ) → Tables → Type 0
HoldNets file head count nets tables = AreTabled file head count nets tables.ends.items tables.nodes.items (rows_of tables.elements)

-- the rows of one more net were put behind those of the others
pub record AddsNet (file : SpefText) (old new : Tables) (net : NetElements) : Type 0 where
  pub tokens : List ℕ
  pub named : NameNodes file tokens
  pub are : nodes_at file tokens ≡ net.nodes
  pub nodes : new.nodes.items ≡ old.nodes.items ++ tokens
  pub rows : rows_of new.elements ≡ with_rows (rows_of old.elements) (rows_in net)
  pub ends : new.ends.items ≡ old.ends.items ++ end_of new.nodes.items (rows_of new.elements) net.written ∷ []
