-- The three members of a triple as corners, by their numbers.
use Rattle.std.specs.Prelude.{◌≡◌, ℕ, zero, suc, ◌<◌, ◌≤◌, Option, Some, None, refl}
use Rattle.std.proofs.Common.{arith}
use Rattle.corner_set.specs.declared.pick.Pick.{Pick}
use Rattle.corner_set.specs.declared.pick.Pick.TheVariants.{Min, Typ, Max}

abbrev pub number_of_member : Pick → ℕ
number_of_member Min = 0
number_of_member Typ = 1
number_of_member Max = 2

abbrev pub member_at : ℕ → Option Pick
member_at zero = Some Min
member_at (suc zero) = Some Typ
member_at (suc (suc zero)) = Some Max
member_at (suc (suc (suc number))) = None

pub member_below : (member : Pick) → number_of_member member < 3
member_below Min = omega arith
member_below Typ = omega arith
member_below Max = omega arith

pub member_there : (member : Pick) → member_at (number_of_member member) ≡ Some member
member_there Min = refl
member_there Typ = refl
member_there Max = refl

pub number_there : (number : ℕ) → number < 3 → (member : Pick) × (member_at number ≡ Some member) × (number_of_member member ≡ number)
number_there zero below = (Min, refl, refl)
number_there (suc zero) below = (Typ, refl, refl)
number_there (suc (suc zero)) below = (Max, refl, refl)
number_there (suc (suc (suc number))) below = absurd (omega arith)

pub none_there : (number : ℕ) → 3 ≤ number → member_at number ≡ None
none_there zero past = absurd (omega arith)
none_there (suc zero) past = absurd (omega arith)
none_there (suc (suc zero)) past = absurd (omega arith)
none_there (suc (suc (suc number))) past = refl
