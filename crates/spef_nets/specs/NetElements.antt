-- The elements of a net as a section keeps them: nodes by number, values row after row, and in each row by corner.
use Rattle.std.specs.Prelude.{◌≡◌, ℕ, ◌*◌, ◌<◌, ◌≤◌, List, length, map, All}
use Rattle.delay_units.specs.Bounds.{most_farads, most_ohms}
use Rattle.delay_units.specs.declared.quantities.Farads.{Farads}
use Rattle.delay_units.specs.declared.quantities.Ohms.{Ohms}
use Rattle.name_table.specs.declared.spef_names.NodeName.{NodeName}
use Rattle.spef_nets.specs.Nodes.{AreDistinctNodes}
use Rattle.spef_nets.specs.declared.parts.Listed.{Listed}
use Rattle.spef_nets.specs.declared.parts.Ends.{Ends}

pub record NetElements : Type 0 where
  -- the net's name
  pub net : List ℕ
  pub nodes : List NodeName
  pub conns : List Listed
  -- the load of each connection, at each corner
  pub loads : List Farads
  -- the node of each capacitance
  pub caps : List ℕ
  pub farads : List Farads
  -- the nodes of each resistor
  pub joints : List Ends
  pub ohms : List Ohms
  -- how many capacitances are written
  pub written : ℕ

-- each row has its values, each number is that of a node, no value is past its bound, no two nodes are one, and a written capacitance
-- counts at two places at the most
pub record AreWhole (count : ℕ) (net : NetElements) : Type 0 where
  pub load_rows : length net.loads ≡ length net.conns * count
  pub cap_rows : length net.farads ≡ length net.caps * count
  pub res_rows : length net.ohms ≡ length net.joints * count
  pub listed : All (λ conn. conn.node < length net.nodes) net.conns
  pub counted : All (λ node. node < length net.nodes) net.caps
  pub joined : All (λ joint. (joint.a < length net.nodes) × (joint.b < length net.nodes)) net.joints
  pub small_loads : All (λ value. value.0 ≤ most_farads) net.loads
  pub small_caps : All (λ value. value.0 ≤ most_farads) net.farads
  pub small_ress : All (λ value. value.0 ≤ most_ohms) net.ohms
  pub distinct : AreDistinctNodes net.nodes
  pub few_caps : length net.caps ≤ 2 * net.written

abbrev pub net_names : List NetElements → List (List ℕ)
net_names nets = map (λ net. net.net) nets
