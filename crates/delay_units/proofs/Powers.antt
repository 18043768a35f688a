-- The table of powers of ten.
use Rattle.std.proofs.Common.{◌≡◌, ℕ, zero, suc, ◌*◌, ◌^◌, ◌<◌, ◌≤◌, List, [], ◌∷◌, length, slice_index_or, refl, ap, sym, ◌∙◌, arith}
use Rattle.std.proofs.Math.Nat.{mul_assoc, mul_comm, mul-one, one-mul}
use Rattle.delay_units.proofs.PowerLemmas.{ten_suc}

-- the first is this power, and each further one ten times the one before
abbrev pub RiseFrom : ℕ → List ℕ → Type 0
RiseFrom power [] = Unit {0}
RiseFrom power (item ∷ items) = (item ≡ power) × RiseFrom (power * 10) items

pub item_is : (items : List ℕ) (power k : ℕ) → RiseFrom power items → k < length items → slice_index_or items k 0 ≡ power * 10 ^ k
item_is [] power k rise within = absurd (omega (arith, within))
item_is (item ∷ items) power zero rise within = rise.0 ∙ sym (mul-one power)
item_is (item ∷ items) power (suc k) rise within =
    item_is items (power * 10) k rise.1 (omega (arith, within)) ∙ mul_assoc power 10 (10 ^ k) ∙ ap (λ x. power * x) (mul_comm 10 (10 ^ k) ∙ sym (ten_suc k))

abbrev pub powers : List ℕ
powers = 1 ∷ 10 ∷ 100 ∷ 1000 ∷ 10000 ∷ 100000 ∷ 1000000 ∷ 10000000 ∷ 100000000 ∷ 1000000000 ∷ 10000000000 ∷ 100000000000
    ∷ 1000000000000 ∷ 10000000000000 ∷ 100000000000000 ∷ 1000000000000000 ∷ 10000000000000000 ∷ 100000000000000000 ∷ 1000000000000000000 ∷ []

pub power_at : (k : ℕ) → k ≤ 18 → slice_index_or powers k 0 ≡ 10 ^ k
power_at k small = item_is powers 1 k rise (omega (arith, small)) ∙ one-mul (10 ^ k) where
  rise : RiseFrom 1 powers
  rise = (refl, (refl, (refl, (refl, (refl, (refl, (refl, (refl, (refl, (refl, (refl, (refl, (refl, (refl, (refl, (refl, (refl, (refl, (refl, tt)))))))))))))))))))
