-- What a function finds that decides numbers, where a word says one and where it says none.
use Rattle.std.proofs.Common.{◌≡◌, ℕ, List, Option, Some, None, refl}
use Rattle.sdf_reader.specs.Numbers.{IsValue}
use Rattle.sdf_reader.specs.Modes.{Decides}
use Rattle.sdf_reader.specs.declared.rows.Value.{Value}
use Rattle.sdf_reader.specs.declared.timescales.Timescale.{Timescale}

pub found_none : (number : Timescale → List ℕ → Option Value) → Decides IsValue number → (scale : Timescale) (word : List ℕ) → ((value : Value) → IsValue scale word value → ⊥) → number scale word ≡ None
found_none number decides scale word none = by (number scale word) refl
  where
    by : (found : Option Value) → number scale word ≡ found → number scale word ≡ None
    by None e = e
    by (Some value) e = absurd (none value (decides.means scale word value e))
