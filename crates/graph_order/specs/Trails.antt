-- Walks that are gone backwards.
use Rattle.std.specs.Prelude.{◌≡◌, ℕ, ◌<◌, List, [], ◌∷◌, length, slice_index}

-- the links lead back from the first node to the second: a walk from the second to the first, last link first
abbrev pub LeadsBack : List ℕ → List ℕ → ℕ → List ℕ → ℕ → Type 0
LeadsBack sources targets b [] a = b ≡ a
LeadsBack sources targets b (link ∷ trail) a =
    (link < length sources) × (slice_index targets link ≡ b) × LeadsBack sources targets (slice_index sources link) trail a

-- at least one link, and they lead back from the node to itself
abbrev pub IsBackCycle : List ℕ → List ℕ → ℕ → List ℕ → Type 0
IsBackCycle sources targets node trail = (0 < length trail) × LeadsBack sources targets node trail node
