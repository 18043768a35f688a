-- The depth behind an attribute and behind a group that ends.
use Rattle.std.proofs.Common.{◌≡◌, ℕ, ◌+◌, ◌<◌, ◌≤◌, List, [], ◌∷◌, length, refl, arith}
use Rattle.liberty_groups.specs.Modes.{Frame, add_attribute, closed}
use Rattle.liberty_groups.specs.declared.modes.Mode.TheVariants as mode

pub same_depth : (name : List ℕ) (values : List (List ℕ)) (frames : List Frame) → length frames ≡ length (add_attribute name values frames)
same_depth name values [] = refl
same_depth name values (frame ∷ outer) = refl

-- the last group ends, or an inner one
pub closed_last : (frames : List Frame) → length frames ≤ 1 → ((closed frames).mode ≡ mode.End) × (length (closed frames).frames ≡ length frames)
closed_last [] le = (refl, refl)
closed_last (frame ∷ []) le = (refl, refl)
closed_last (frame ∷ outer ∷ more) le = absurd (omega arith)

pub closed_inner : (frames : List Frame) → 1 < length frames → ((closed frames).mode ≡ mode.Body) × (length (closed frames).frames + 1 ≡ length frames)
closed_inner [] lt = absurd (omega arith)
closed_inner (frame ∷ []) lt = absurd (omega arith)
closed_inner (frame ∷ outer ∷ more) lt = (refl, omega arith)

pub closed_plain : (frames : List Frame) → ((closed frames).name ≡ []) × ((closed frames).parts ≡ [])
closed_plain [] = (refl, refl)
closed_plain (frame ∷ []) = (refl, refl)
closed_plain (frame ∷ outer ∷ more) = (refl, refl)
