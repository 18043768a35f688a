-- Resistors between nodes that are numbers.
use Rattle.std.specs.Prelude.{◌≡◌, ℕ, ◌<◌, ◌⊎◌}

-- one of so many resistors, that at place e, which has its ends at a e and b e, joins two nodes
abbrev pub Joined : ℕ → (ℕ → ℕ) → (ℕ → ℕ) → ℕ → ℕ → ℕ → Type 0
Joined many a b e x y = (e < many) × (((a e ≡ x) × (b e ≡ y)) ⊎ ((b e ≡ x) × (a e ≡ y)))
