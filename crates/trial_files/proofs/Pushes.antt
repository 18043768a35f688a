-- Texts that are put at the end one after another.
use Rattle.std.proofs.Common.{◌≡◌, ℕ, List, ◌++◌, append_assoc}

pub four_pushed : (start first second third fourth : List ℕ) {one two three four : List ℕ} → one ≡ start ++ first
    → two ≡ one ++ second → three ≡ two ++ third → four ≡ three ++ fourth
    → four ≡ start ++ (first ++ (second ++ (third ++ fourth)))
four_pushed start first second third fourth e f g h =
    rw (h, g, f, e) (simp append_assoc)
