-- The electrical elements of a net in one corner. Its nodes are of any type: names, say, or numbers.
use Rattle.std.specs.Prelude.{ℕ, List, ◌∷◌}

-- a resistor between two nodes, in grains of 10^-6 ohm; one of 0 ohm is a resistor like others
pub record NetResistor (N : Type 0) : Type 0 where
  pub from : N
  pub to : N
  pub ohms : ℕ

-- a capacitance between a node and ground, in grains of 10^-21 F
pub record NetCapacitance (N : Type 0) : Type 0 where
  pub node : N
  pub farads : ℕ

-- The elements of a net: the node of its driver, its other nodes in order (those of its other pins first), its resistors in
-- order, and its capacitances. These are the capacitors to ground, each coupling capacitor once for each of its two nodes
-- that belongs to the net, as if its other end were ground, and for each sink its load.
pub record NetElements (N : Type 0) : Type 0 where
  pub driver : N
  pub others : List N
  pub resistors : List (NetResistor N)
  pub capacitances : List (NetCapacitance N)

-- the nodes of a net, the driver's first
abbrev pub nodes_of : {N : Type 0} → NetElements N → List N
nodes_of net = net.driver ∷ net.others
