-- Sums over the places of resistors, and that a node has one Elmore delay at most.
use Rattle.std.proofs.Common.{◌≡◌, ℕ, suc, ◌+◌, ◌*◌, Bool, ◌&&◌, if◌then◌else◌, List, [], ◌∷◌, Some, sum_by, refl, sym, ◌∙◌, ap, ap₂, arith, add-zero}
use Rattle.std.specs.List.{slice_get, enumerate_from}
use Rattle.std.proofs.lemmas.List.Sums.{sum_by-cons}
use Rattle.std.proofs.lemmas.Option.{slice_get_within}
use Rattle.std.proofs.lemmas.Bool.Decides.{same_from_decides}
use Rattle.rc_tree.specs.NetElements.{NetResistor, NetElements}
use Rattle.rc_tree.specs.Elmore.{TellsCuts, shared_resistance, OneElmore}

pub sum_same : {X : Type 0} (f g : X → ℕ) (xs : List X) → ((x : X) → f x ≡ g x) → sum_by f xs ≡ sum_by g xs
sum_same f g [] each = refl
sum_same f g (x ∷ xs) each = sum_by-cons f x xs ∙ ap₂ ◌+◌ (each x) (sum_same f g xs each) ∙ sym (sum_by-cons g x xs)

pub sum_nothing : {X : Type 0} (f : X → ℕ) (xs : List X) → ((x : X) → f x ≡ 0) → sum_by f xs ≡ 0
sum_nothing f [] each = refl
sum_nothing f (x ∷ xs) each = sum_by-cons f x xs ∙ omega (arith, each x, sum_nothing f xs each)

-- two sums over the elements of a list and their places, where the terms are the same
pub places_same : {X : Type 0} (f g : ℕ → X → ℕ) (n : ℕ) (xs : List X) → ((k : ℕ) (x : X) → slice_get xs k ≡ Some x → f (n + k) x ≡ g (n + k) x) → sum_by (λ at. f at.0 at.1) (enumerate_from n xs) ≡ sum_by (λ at. g at.0 at.1) (enumerate_from n xs)
places_same f g n [] each = refl
places_same f g n (x ∷ xs) each =
    let here : f n x ≡ g n x = ap (λ m. f m x) (sym (add-zero n)) ∙ each 0 x refl ∙ ap (λ m. g m x) (add-zero n) in
    let later = places_same f g (n + 1) xs (λ k y at.
    let place : n + 1 + k ≡ n + suc k = omega arith in
    ap (λ m. f m y) place ∙ each (suc k) y at ∙ ap (λ m. g m y) (sym place)) in
    sum_by-cons (λ at. f at.0 at.1) (n, x) (enumerate_from (n + 1) xs) ∙ ap₂ ◌+◌ here later ∙ sym (sum_by-cons (λ at. g at.0 at.1) (n, x) (enumerate_from (n + 1) xs))

-- and one where the places do not count
pub places_gone : {X : Type 0} (f : X → ℕ) (n : ℕ) (xs : List X) → sum_by (λ at. f at.1) (enumerate_from n xs) ≡ sum_by f xs
places_gone f n [] = refl
places_gone f n (x ∷ xs) = sum_by-cons (λ at. f at.1) (n, x) (enumerate_from (n + 1) xs) ∙ ap (λ m. f x + m) (places_gone f (n + 1) xs) ∙ sym (sum_by-cons f x xs)

-- what a resistor adds to a shared resistance
abbrev pub shares : {N : Type 0} → (ℕ → N → Bool) → N → N → ℕ → NetResistor N → ℕ
shares cuts a b place resistor = if cuts place a && cuts place b then resistor.ohms else 0

shares_same : {N : Type 0} (net : NetElements N) (cuts other : ℕ → N → Bool) → TellsCuts net cuts → TellsCuts net other → (a b : N) (place : ℕ) (resistor : NetResistor N) → slice_get net.resistors place ≡ Some resistor → shares cuts a b place resistor ≡ shares other a b place resistor
shares_same net cuts other tells tells' a b place resistor at =
    let below = slice_get_within net.resistors place resistor at in
    ap₂ (λ s t. if s && t then resistor.ohms else 0)
    (same_from_decides (cuts place a) (other place a) (tells place a below) (tells' place a below))
    (same_from_decides (cuts place b) (other place b) (tells place b below) (tells' place b below))

-- no node has two Elmore delays
pub one_elmore : {N : Type 0} (net : NetElements N) → OneElmore net
one_elmore net node v w first second =
    first.sum
    ∙ sum_same (λ at. shared_resistance first.cuts net node at.node * at.farads) (λ at. shared_resistance second.cuts net node at.node * at.farads) net.capacitances
    (λ at. ap (λ r. r * at.farads) (places_same (shares first.cuts node at.node) (shares second.cuts node at.node) 0 net.resistors
    (λ k x e. shares_same net first.cuts second.cuts first.tells second.tells node at.node (0 + k) x (ap (slice_get net.resistors) (zero_first k) ∙ e))))
    ∙ sym second.sum
  where
    zero_first : (k : ℕ) → 0 + k ≡ k
    zero_first k = omega arith
