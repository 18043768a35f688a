-- What a mask of 16 bytes says of each of them.
use Rattle.std.proofs.Common.{◌≡◌, ℕ, ◌+◌, ◌^◌, ◌<◌, ◌≤◌, zero, suc, w64, Bool, true, false, ◌&&◌, ◌||◌, cond, leb, eqb, max, List, length, get_or, take, drop, map, refl, sym, ap, ◌∙◌, arith}
use Rattle.std.proofs.lemmas.Bool.{leb-false, lt-leb}
use Rattle.std.proofs.lemmas.List.{get_or-map}
use Rattle.std.proofs.lemmas.Nat.Bits.{bit_at_or, bit_at-zero, bit_at-trailing_zeros}
use Rattle.std.proofs.lemmas.Simd.{bit_mask_l, length-chunk, get_or-chunk}
use Rattle.std.specs.Int.{bit_at, trailing_zeros}
use Rattle.std.specs.Int.Bits.{bit_or}
use Rattle.std.specs.Simd.Lanes.{mask_l}
use Rattle.token_texts.specs.Blanks.{is_blank}
use Rattle.spef_text.specs.Tokens.{is_backslash}
use Rattle.token_texts.specs.ByteLemmas.{not_byte}

bit_off : (b : Bool) → cond {A = ℕ} b 1 0 ≡ 0 → b ≡ false
bit_off true off = absurd (omega (arith, off))
bit_off false off = refl

-- a bit that is not set
lane_off : (t : ℕ → Bool) (lanes : List ℕ) (k : ℕ) → k < length lanes → bit_at (mask_l (map t lanes)) k ≡ 0 → t (get_or lanes k 0) ≡ false
lane_off t lanes k lt off = bit_off _ (sym (bit_mask_l (map t lanes) k ∙ ap (λ b. cond b 1 0) (get_or-map t lanes k 0 false lt)) ∙ off)

-- a byte above a space is no blank
above_space : (b : ℕ) → leb b 32 ≡ false → is_blank b ≡ false
above_space b high =
    let above : 32 < b = leb-false b 32 high in
    let no_control : leb b 13 ≡ false = lt-leb b 13 (omega (arith, above)) in
    let no_space : eqb b 32 ≡ false = not_byte b 32 (λ e. omega (arith, e, above)) in
    both (leb 9 b) (leb b 13) (eqb b 32) no_control no_space
  where
    both : (p q r : Bool) → q ≡ false → r ≡ false → ((p && q) || r) ≡ false
    both true q r e f = simp (e, f)
    both false q r e f = f

-- what the bits of two masks say: a byte is above a space, and no backslash
pub neither_set : (bytes : List ℕ) (place k : ℕ) → place + 16 ≤ length bytes → k < 16
    → bit_at (bit_or (mask_l (map (λ b. leb b 32) (take 16 (drop place bytes)))) (mask_l (map (λ b. eqb b 92) (take 16 (drop place bytes))))) k ≡ 0
    → (is_blank (get_or bytes (place + k) 0) ≡ false) × (is_backslash (get_or bytes (place + k) 0) ≡ false)
neither_set bytes place k within lt off =
    let lanes = take 16 (drop place bytes) in
    let low = mask_l (map (λ b. leb b 32) lanes) in
    let slashes = mask_l (map (λ b. eqb b 92) lanes) in
    let long : length lanes ≡ 16 = length-chunk place 16 bytes within in
    let more : bit_at (bit_or low slashes) k ≡ max (bit_at low k) (bit_at slashes k) = bit_at_or low slashes k in
    let low_off : bit_at low k ≡ 0 = omega (arith, more, off) in
    let slash_off : bit_at slashes k ≡ 0 = omega (arith, more, off) in
    let here : get_or lanes k 0 ≡ get_or bytes (place + k) 0 = get_or-chunk place 16 bytes k 0 lt in
    let high : leb (get_or lanes k 0) 32 ≡ false = lane_off (λ b. leb b 32) lanes k (omega (arith, long, lt)) low_off in
    let other : eqb (get_or lanes k 0) 92 ≡ false = lane_off (λ b. eqb b 92) lanes k (omega (arith, long, lt)) slash_off in
    (ap is_blank (sym here) ∙ above_space (get_or lanes k 0) high, ap is_backslash (sym here) ∙ other)

-- no bit below the lowest one is set
pub below_lowest : (m k : ℕ) → m < 2 ^ 64 → k < trailing_zeros w64 m → bit_at m k ≡ 0
below_lowest zero k fits lt = bit_at-zero k
below_lowest (suc m) k fits lt = (bit_at-trailing_zeros w64 (suc m) (omega arith) fits).2 k lt
