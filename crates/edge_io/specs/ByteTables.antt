-- A table of 256 bytes as a class of bytes: each byte of the class stands at its own place, and a comma at every other place.
use Rattle.std.proofs.Common.{◌≡◌, ℕ, zero, suc, ◌<◌, Bool, true, false, ◌&&◌, not, nat_eq, get_or, List, refl, arith, inl, inr}
use Rattle.std.specs.Bool.{beq}
use Rattle.std.proofs.lemmas.Bool.{cases_eq}
use Rattle.edge_io.specs.Bytes.{comma}

abbrev pub is_listed : List ℕ → ℕ → Bool
is_listed table byte = not (nat_eq (get_or table byte 0) comma)

-- two classes agree below n
unfoldable pub agree_below : (ℕ → Bool) → (ℕ → Bool) → ℕ → Bool
agree_below f g zero = true
agree_below f g (suc n) = beq (f n) (g n) && agree_below f g n

both_of : (x y rest : Bool) → (beq x y && rest) ≡ true → (x ≡ y) × (rest ≡ true)
both_of true true rest h = (refl, h)
both_of true false rest h = cc
both_of false true rest h = cc
both_of false false rest h = (refl, h)

agree_at : (f g : ℕ → Bool) (n : ℕ) → agree_below f g n ≡ true → (b : ℕ) → b < n → f b ≡ g b
unfolding agree_below
agree_at f g zero h b lt = absurd (omega arith)
agree_at f g (suc n) h b lt =
    let both = both_of (f n) (g n) (agree_below f g n) h in
    elim (cases_eq b n) [ inl same ↦ rw same both.0 | inr other ↦ agree_at f g n both.1 b (omega arith) ]

-- a table that agrees with a class at each of the 256 bytes tells the class
pub from_table : (table : List ℕ) (class : ℕ → Bool) (byte : ℕ) → byte < 256 → agree_below (is_listed table) class 256 ≡ true
    → is_listed table byte ≡ class byte
from_table table class byte lt h = agree_at (is_listed table) class 256 h byte lt
