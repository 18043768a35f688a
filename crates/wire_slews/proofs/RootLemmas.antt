-- A number has one root.
use Rattle.std.proofs.Common.{◌≡◌, ℕ, zero, suc, ◌+◌, ◌*◌, ◌<◌, ◌≤◌, arith, ⊎_elim, ◌⊎◌, inl, inr}
use Rattle.std.proofs.lemmas.Bool.{cases_lt}
use Rattle.std.proofs.Math.Nat.{mul-le-mul}
use Rattle.wire_slews.specs.Roots.{IsRoot}

pub square_grows : (a b : ℕ) → a ≤ b → a * a ≤ b * b
square_grows a b le = mul-le-mul le le

root_below : (n a b : ℕ) → IsRoot n a → IsRoot n b → a ≤ b
root_below n a b one other =
    ⊎_elim (λ less. absurd (omega (arith, square_grows (b + 1) a (omega (arith, less)), one.least, other.most))) (λ le. le) (cases_lt b a)

pub one_root : (n a b : ℕ) → IsRoot n a → IsRoot n b → a ≡ b
one_root n a b one other = omega (arith, root_below n a b one other, root_below n b a other one)

-- the root of the next number is the same or the next one
next_root : (n r : ℕ) → IsRoot n r → (suc n < (r + 1) * (r + 1)) ⊎ ((r + 1) * (r + 1) ≤ suc n) → (s : ℕ) × IsRoot (suc n) s
next_root n r root (inl less) = (r, record { least = omega (arith, root.least); most = less })
next_root n r root (inr more) =
    let grows : (r + 1) * (r + 1) < ((r + 1) + 1) * ((r + 1) + 1) = grind arith in
    (r + 1, record { least = more; most = omega (arith, root.most, grows) })

pub some_root : (n : ℕ) → (r : ℕ) × IsRoot n r
some_root zero = (0, record { least = omega arith; most = omega arith })
some_root (suc n) =
    let before = some_root n in
    next_root n before.0 before.1 (cases_lt (suc n) ((before.0 + 1) * (before.0 + 1)))
