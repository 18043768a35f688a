-- The sum that two passes over a tree make: upward the capacitance that each resistor cuts off, downward the delays.
use Rattle.std.specs.Prelude.{◌≡◌, ℕ, ◌*◌, Bool, if◌then◌else◌, sum_by}
use Rattle.std.specs.List.{enumerate_from}
use Rattle.rc_tree.specs.NetElements.{NetElements}
use Rattle.rc_tree.specs.Elmore.{TellsCuts, elmore_sum}

-- the capacitance that the resistor at a place cuts off
abbrev pub farads_cut_off : {N : Type 0} → (ℕ → N → Bool) → NetElements N → ℕ → ℕ
farads_cut_off cuts net place = sum_by (λ at. if cuts place at.node then at.farads else 0) net.capacitances

-- the sum, over the resistors that cut the node off, of the resistance times the capacitance that the resistor cuts off
abbrev pub resistor_sum : {N : Type 0} → (ℕ → N → Bool) → NetElements N → N → ℕ
resistor_sum cuts net node = sum_by (λ at. if cuts at.0 node then at.1.ohms * farads_cut_off cuts net at.0 else 0)
    (enumerate_from 0 net.resistors)

-- the sum over pairs of a resistor and a capacitance is the sum over resistors
abbrev pub TwoPassLaw : {N : Type 0} → NetElements N → Type 0
TwoPassLaw {N} net = (cuts : ℕ → N → Bool) → TellsCuts net cuts → (node : N) → elmore_sum cuts net node ≡ resistor_sum cuts net node
