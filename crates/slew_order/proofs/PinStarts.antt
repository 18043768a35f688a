-- Where the pins of each instance begin: sums of their counts.
use Rattle.std.proofs.Common.{◌≡◌, ℕ, ◌+◌, List, [], ◌∷◌, ◌++◌}
use Rattle.net_delays.specs.NetTimes.{AreSums}
use Rattle.net_delays.proofs.Starts.{SumsSoFar, no_sums, more_sums, all_sums}

pub no_pins : (sizes : ℕ → ℕ) → SumsSoFar sizes [] 0 0
no_pins sizes = no_sums sizes

pub more_pins : (sizes : ℕ → ℕ) (starts : List ℕ) (sum many next : ℕ) → next ≡ sum + sizes many
    → SumsSoFar sizes starts sum many → SumsSoFar sizes (starts ++ sum ∷ []) next (many + 1)
more_pins sizes starts sum many next is held = more_sums sizes starts sum many next is held

pub all_pins : (sizes : ℕ → ℕ) (starts : List ℕ) (sum many : ℕ) → SumsSoFar sizes starts sum many → AreSums sizes many (starts ++ sum ∷ [])
all_pins sizes starts sum many held = all_sums sizes starts sum many held
