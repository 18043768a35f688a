-- The elements of all nets in one set of lists: the rows of each net stand behind those of the net before it, and an end tells where they
-- stop.
use Rattle.std.specs.Prelude.{◌≡◌, ℕ, ◌*◌, ◌≤◌, List, [], ◌∷◌, length, All}
use Rattle.std.specs.List.{between}
use Rattle.spef_text.specs.SpefFiles.{SpefText}
use Rattle.spef_text.specs.Heads.{HeadText}
use Rattle.spef_nets.specs.Nodes.{nodes_at}
use Rattle.spef_nets.specs.NodeNames.{AreSpelled}
use Rattle.spef_nets.specs.NetElements.{NetElements, AreWhole}
use Rattle.spef_nets.specs.Rows.{Rows, net_in}
use Rattle.spef_nets.specs.declared.tables.NetEnd.{NetEnd}

-- where the rows of the first net begin
abbrev pub start : NetEnd
start = record { nodes = 0; conns = 0; caps = 0; joints = 0; written = 0 }

-- where all rows end, those of a net last of whose capacitances so many are written
abbrev pub end_of : List ℕ → Rows → ℕ → NetEnd
end_of tokens rows written = record {
  nodes = length tokens;
  conns = length rows.conns;
  caps = length rows.caps;
  joints = length rows.joints;
  written = written;
}

-- each row has its values
pub record AreFilled (count : ℕ) (rows : Rows) : Type 0 where
  pub loads : length rows.loads ≡ length rows.conns * count
  pub farads : length rows.farads ≡ length rows.caps * count
  pub ohms : length rows.ohms ≡ length rows.joints * count

-- the rows between two ends
abbrev pub rows_between : ℕ → NetEnd → NetEnd → Rows → Rows
rows_between count from to rows = record {
  conns = between from.conns to.conns rows.conns;
  loads = between (from.conns * count) (to.conns * count) rows.loads;
  caps = between from.caps to.caps rows.caps;
  farads = between (from.caps * count) (to.caps * count) rows.farads;
  joints = between from.joints to.joints rows.joints;
  ohms = between (from.joints * count) (to.joints * count) rows.ohms;
}

-- the net of a name between two ends; its nodes are what the tokens name
abbrev pub net_between : SpefText → ℕ → NetEnd → NetEnd → List ℕ → List ℕ → Rows → NetElements
net_between file count from to net tokens rows =
    net_in net (nodes_at file (between from.nodes to.nodes tokens)) (rows_between count from to rows) to.written

-- the nets of these names behind an end
abbrev pub nets_from : SpefText → ℕ → NetEnd → List NetEnd → List (List ℕ) → List ℕ → Rows → List NetElements
nets_from file count from [] nets tokens rows = []
nets_from file count from (to ∷ ends) [] tokens rows = []
nets_from file count from (to ∷ ends) (net ∷ nets) tokens rows =
    net_between file count from to net tokens rows ∷ nets_from file count to ends nets tokens rows

pub record IsBehind (from to : NetEnd) : Type 0 where
  pub nodes : from.nodes ≤ to.nodes
  pub conns : from.conns ≤ to.conns
  pub caps : from.caps ≤ to.caps
  pub joints : from.joints ≤ to.joints

-- an end is behind no row
pub record IsWithin (end : NetEnd) (tokens : List ℕ) (rows : Rows) : Type 0 where
  pub nodes : end.nodes ≤ length tokens
  pub conns : end.conns ≤ length rows.conns
  pub caps : end.caps ≤ length rows.caps
  pub joints : end.joints ≤ length rows.joints

-- no row is behind it
pub record IsLast (end : NetEnd) (tokens : List ℕ) (rows : Rows) : Type 0 where
  pub nodes : end.nodes ≡ length tokens
  pub conns : end.conns ≡ length rows.conns
  pub caps : end.caps ≡ length rows.caps
  pub joints : end.joints ≡ length rows.joints

-- no net ends before the one in front of it, and the last one where all rows end
abbrev pub AreInOrder : NetEnd → List NetEnd → List ℕ → Rows → Type 0
AreInOrder from [] tokens rows = IsLast from tokens rows
AreInOrder from (to ∷ ends) tokens rows = IsBehind from to × AreInOrder to ends tokens rows

-- the lists hold a whole net for each of these names
pub record AreTabled (file : SpefText) (head : HeadText) (count : ℕ) (nets : List (List ℕ)) (ends : List NetEnd) (tokens : List ℕ)
    (rows : Rows) : Type 0 where
  pub spelled : AreSpelled file head tokens
  pub named : length nets ≡ length ends
  pub order : AreInOrder start ends tokens rows
  pub filled : AreFilled count rows
  pub whole : All (AreWhole count) (nets_from file count start ends nets tokens rows)
