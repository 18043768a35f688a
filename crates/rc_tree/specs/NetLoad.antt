-- The load of a net.
use Rattle.std.specs.Prelude.{ℕ, sum_by}
use Rattle.rc_tree.specs.NetElements.{NetElements}

-- the load of a net is the sum of its capacitances, in grains of 10^-21 F
abbrev pub net_load : {N : Type 0} → NetElements N → ℕ
net_load net = sum_by (λ at. at.farads) net.capacitances
