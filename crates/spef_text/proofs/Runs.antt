-- Runs of bytes that are no blanks.
use Rattle.std.proofs.Common.{◌≡◌, ℕ, ◌+◌, ◌<◌, ◌≤◌, true, false, ◌==◌, not, List, [], ◌∷◌, length, get_or, sym, ap, true≢false, ◌∙◌, arith}
use Rattle.token_texts.specs.Blanks.{is_blank}
use Rattle.token_texts.specs.RunLemmas.{EscapedSoFar, escaped_goes_far}
use Rattle.spef_text.specs.Tokens.{is_backslash, is_solid}

-- so many bytes more that are no blank and no backslash
pub run_goes_far : (whole : List ℕ) (place n : ℕ) → EscapedSoFar is_solid whole place → place + n ≤ length whole
    → ((k : ℕ) → k < n → (is_blank (get_or whole (place + k) 0) ≡ false) × (is_backslash (get_or whole (place + k) 0) ≡ false))
    → EscapedSoFar is_solid whole (place + n)
run_goes_far whole place n h within plain =
    escaped_goes_far is_solid whole place n h within (λ k lt. (ap not (plain k lt).0, λ e. true≢false (sym (ap is_backslash e) ∙ (plain k lt).1)))

pub some_bytes : (bytes : List ℕ) → (length bytes == 0) ≡ false → 0 < length bytes
some_bytes [] h = absurd (let t : true ≡ false = h in cc)
some_bytes (b ∷ bytes) h = omega arith
