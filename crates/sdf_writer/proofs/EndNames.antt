-- A text whose first part is the path of an instance, and whose rest is a divider and the name of a pin.
use Rattle.std.proofs.Common.{◌≡◌, ℕ, ◌-◌, ◌≤◌, true, List, ◌∷◌, ◌++◌, length, take, drop, get_or, ap₂, sym, ◌∙◌, bytes_eq, arith, length-drop}
use Rattle.std.proofs.lemmas.List.{drop_more, take_all}
use Rattle.std.proofs.lemmas.Slice.Eq.{bytes_eq-Decides}
use Rattle.edge_io.specs.Bytes.{slash}

pub pin_name_is : (text instance pin front back : List ℕ) → text ≡ front ++ back → 1 ≤ length back → get_or back 0 0 ≡ slash
    → bytes_eq (take (length back - 1) (drop 1 back)) pin ≡ true → bytes_eq front instance ≡ true → text ≡ instance ++ slash ∷ pin
pin_name_is text instance pin front back parts long divided pins instances =
    let same = (bytes_eq-Decides front instance).0 instances in
    let whole = take_all (length back - 1) (drop 1 back) (let left = length-drop 1 back in omega arith) in
    let rest = sym whole ∙ (bytes_eq-Decides (take (length back - 1) (drop 1 back)) pin).0 pins in
    parts ∙ ap₂ (λ (f b : List ℕ). f ++ b) same (drop_more back 0 0 long ∙ ap₂ (λ (n : ℕ) (b : List ℕ). n ∷ b) divided rest)
