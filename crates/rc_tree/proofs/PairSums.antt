-- The sum over pairs of a resistor and a capacitance is the sum over resistors.
use Rattle.std.proofs.Common.{◌≡◌, ℕ, ◌+◌, ◌*◌, Bool, true, false, ◌&&◌, if◌then◌else◌, List, [], ◌∷◌, sum_by, refl, sym, ◌∙◌, ap, ap₂, arith, zero-mul, mul-zero, add-mul, mul-add}
use Rattle.std.specs.List.{enumerate_from}
use Rattle.std.proofs.lemmas.List.Sums.{sum_by-cons}
use Rattle.rc_tree.specs.NetElements.{NetCapacitance, NetElements}
use Rattle.rc_tree.specs.TwoPasses.{farads_cut_off, TwoPassLaw}
use Rattle.rc_tree.proofs.ElmoreSums.{sum_same, sum_nothing}

both_sums : {X : Type 0} (f g : X → ℕ) (xs : List X) → sum_by (λ x. f x + g x) xs ≡ sum_by f xs + sum_by g xs
both_sums f g [] = omega arith
both_sums f g (x ∷ xs) =
    let one = sum_by-cons (λ y. f y + g y) x xs in let two = sum_by-cons f x xs in let three = sum_by-cons g x xs in let rest = both_sums f g xs in
    omega (arith, one, two, three, rest)

times_sum : {X : Type 0} (f : X → ℕ) (c : ℕ) (xs : List X) → sum_by (λ x. f x * c) xs ≡ sum_by f xs * c
times_sum f c [] = sym (zero-mul c)
times_sum f c (x ∷ xs) = sum_by-cons (λ y. f y * c) x xs ∙ ap (λ s. f x * c + s) (times_sum f c xs) ∙ sym (add-mul (f x) (sum_by f xs) c) ∙ ap (λ s. s * c) (sym (sum_by-cons f x xs))

-- the sums may be taken in either order
turned : {X Y : Type 0} (g : X → Y → ℕ) (f : Y → ℕ) (xs : List X) (ys : List Y) → sum_by (λ y. sum_by (λ x. g x y) xs * f y) ys ≡ sum_by (λ x. sum_by (λ y. g x y * f y) ys) xs
turned g f xs [] = sym (sum_nothing (λ x. 0) xs (λ x. refl))
turned g f xs (y ∷ ys) =
    sum_by-cons (λ z. sum_by (λ x. g x z) xs * f z) y ys
    ∙ ap₂ ◌+◌ (sym (times_sum (λ x. g x y) (f y) xs)) (turned g f xs ys)
    ∙ sym (both_sums (λ x. g x y * f y) (λ x. sum_by (λ z. g x z * f z) ys) xs)
    ∙ sum_same (λ x. g x y * f y + sum_by (λ z. g x z * f z) ys) (λ x. sum_by (λ z. g x z * f z) (y ∷ ys)) xs (λ x. sym (sum_by-cons (λ z. g x z * f z) y ys))

cut_part : {N : Type 0} (cuts : N → Bool) (here : Bool) (ohms : ℕ) (caps : List (NetCapacitance N)) → sum_by (λ at. (if here && cuts at.node then ohms else 0) * at.farads) caps ≡ if here then ohms * sum_by (λ at. if cuts at.node then at.farads else 0) caps else 0
cut_part cuts false ohms caps = sum_nothing (λ at. 0 * at.farads) caps (λ at. zero-mul at.farads)
cut_part cuts true ohms [] = sym (mul-zero ohms)
cut_part cuts true ohms (at ∷ caps) =
    sum_by-cons (λ q. (if cuts q.node then ohms else 0) * q.farads) at caps
    ∙ ap₂ ◌+◌ (part (cuts at.node) at.farads) (cut_part cuts true ohms caps)
    ∙ sym (mul-add ohms (if cuts at.node then at.farads else 0) (sum_by (λ q. if cuts q.node then q.farads else 0) caps))
    ∙ ap (λ s. ohms * s) (sym (sum_by-cons (λ q. if cuts q.node then q.farads else 0) at caps))
  where
    part : (b : Bool) (f : ℕ) → (if b then ohms else 0) * f ≡ ohms * (if b then f else 0)
    part true f = refl
    part false f = zero-mul f ∙ sym (mul-zero ohms)

pub two_pass_law : {N : Type 0} (net : NetElements N) → TwoPassLaw net
two_pass_law net cuts tells node =
    turned (λ at q. if cuts at.0 node && cuts at.0 q.node then at.1.ohms else 0) (λ q. q.farads) (enumerate_from 0 net.resistors) net.capacitances
    ∙ sum_same (λ at. sum_by (λ q. (if cuts at.0 node && cuts at.0 q.node then at.1.ohms else 0) * q.farads) net.capacitances) (λ at. if cuts at.0 node then at.1.ohms * farads_cut_off cuts net at.0 else 0) (enumerate_from 0 net.resistors)
    (λ at. cut_part (λ v. cuts at.0 v) (cuts at.0 node) at.1.ohms net.capacitances)
