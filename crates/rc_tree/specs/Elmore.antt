-- The Elmore delay of a node of a net (W. C. Elmore, The Transient Response of Damped Linear Networks, 1948), as a sum over
-- pairs of a resistor and a capacitance.
use Rattle.std.specs.Prelude.{◌≡◌, ℕ, ◌*◌, ◌<◌, Bool, ◌&&◌, if◌then◌else◌, length, sum_by, Decides}
use Rattle.std.specs.List.{enumerate_from}
use Rattle.rc_tree.specs.NetElements.{NetElements}
use Rattle.rc_tree.specs.RcTree.{CutsOff}

-- a test tells, of the resistor at a place and of a node, whether the one cuts the other off
abbrev pub TellsCuts : {N : Type 0} → NetElements N → (ℕ → N → Bool) → Type 0
TellsCuts {N} net cuts = (place : ℕ) (node : N) → place < length net.resistors → Decides (cuts place node) (CutsOff net place node)

-- the resistance that two nodes share: the sum of the resistors that cut off both, in grains of 10^-6 ohm
abbrev pub shared_resistance : {N : Type 0} → (ℕ → N → Bool) → NetElements N → N → N → ℕ
shared_resistance cuts net a b = sum_by (λ at. if cuts at.0 a && cuts at.0 b then at.1.ohms else 0) (enumerate_from 0 net.resistors)

-- the sum, over all capacitances, of the resistance that the node shares with the capacitance's node times the capacitance
abbrev pub elmore_sum : {N : Type 0} → (ℕ → N → Bool) → NetElements N → N → ℕ
elmore_sum cuts net node = sum_by (λ at. shared_resistance cuts net node at.node * at.farads) net.capacitances

-- the Elmore delay of a node, in units of 10^-27 s and not rounded
pub record IsElmore {N : Type 0} (net : NetElements N) (node : N) (delay : ℕ) : Type 0 where
  pub cuts : ℕ → N → Bool
  pub tells : TellsCuts net cuts
  pub sum : delay ≡ elmore_sum cuts net node

-- no node of the net has two Elmore delays
abbrev pub OneElmore : {N : Type 0} → NetElements N → Type 0
OneElmore {N} net = (node : N) (v w : ℕ) → IsElmore net node v → IsElmore net node w → v ≡ w
