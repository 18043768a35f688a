-- A byte that is not another.
use Rattle.std.proofs.Common.{◌≡◌, ℕ, Bool, true, false, ◌==◌, refl}
use Rattle.std.proofs.lemmas.Bool.{eqb-true}

pub not_byte : (b n : ℕ) → (b ≡ n → ⊥) → (b == n) ≡ false
not_byte b n h = by (b == n) refl
  where
    by : (t : Bool) → (b == n) ≡ t → (b == n) ≡ false
    by true e = absurd (h (eqb-true b n e))
    by false e = e
