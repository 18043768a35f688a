-- Lists that are related element by element.
use Rattle.std.specs.Prelude.{◌≡◌, List, [], ◌∷◌, refl}
use Rattle.std.specs.List.{AllZip}
use Rattle.std.proofs.Common.{ap₂}

-- where each element is related to one thing alone, a list is related to one list alone
pub one_zip : {X Y : Type 0} (P : X → Y → Type 0) → ((x : X) (y z : Y) → P x y → P x z → y ≡ z) → (xs : List X) (ys zs : List Y)
    → AllZip P xs ys → AllZip P xs zs → ys ≡ zs
one_zip P unique [] [] [] r s = refl
one_zip P unique [] [] (z ∷ zs) r s = absurd s
one_zip P unique [] (y ∷ ys) zs r s = absurd r
one_zip P unique (x ∷ xs) [] zs r s = absurd r
one_zip P unique (x ∷ xs) (y ∷ ys) [] r s = absurd s
one_zip P unique (x ∷ xs) (y ∷ ys) (z ∷ zs) r s = ap₂ (λ h t. h ∷ t) (unique x y z r.0 s.0) (one_zip P unique xs ys zs r.1 s.1)
