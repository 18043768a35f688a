-- A text without a byte that is escaped stays as it is.
use Rattle.std.proofs.Common.{◌≡◌, ℕ, Bool, true, false, if◌then◌else◌, ◌||◌, List, [], ◌∷◌, ◌++◌, flat_map, refl, ap₂}
use Rattle.std.specs.List.{list_any}
use Rattle.sdf_writer.specs.SdfText.{escaped}
use Rattle.sdf_writer.specs.Escapes.{is_escaped}

neither : (here behind : Bool) → (here || behind) ≡ false → (here ≡ false) × (behind ≡ false)
neither true behind none = absurd (cc)
neither false behind none = (refl, none)

pub none_escaped : (text : List ℕ) → list_any is_escaped text ≡ false → flat_map escaped text ≡ text
none_escaped [] none = refl
none_escaped (byte ∷ text) none =
    let both = neither (is_escaped byte) (list_any is_escaped text) none in
    ap₂ (λ (test : Bool) (rest : List ℕ). (if test then 92 ∷ byte ∷ [] else byte ∷ []) ++ rest) both.0 (none_escaped text both.1)
