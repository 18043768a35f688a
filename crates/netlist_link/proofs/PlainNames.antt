-- Names that SDF spells as they are.
use Rattle.std.proofs.Common.{◌≡◌, ℕ, ◌+◌, true, List, [], ◌∷◌, ◌++◌, take, Some, refl, sym, ap, ap₂, ◌∙◌}
use Rattle.std.specs.Prelude.{slice_get}
use Rattle.std.proofs.lemmas.Grind.{flat_map-append}
use Rattle.name_table.specs.SdfNames.{is_plain, spelled, part}
use Rattle.netlist_link.proofs.Pushing.{take_push}

pub plain_more : (name : List ℕ) (i byte : ℕ) → slice_get name i ≡ Some byte → is_plain byte ≡ true → part (take i name) ≡ take i name
    → part (take (i + 1) name) ≡ take (i + 1) name
plain_more name i byte here plain so_far =
    let taken = take_push name i byte here in
    let one : part (byte ∷ []) ≡ byte ∷ [] = rw plain refl in
    ap part taken ∙ flat_map-append spelled (take i name) (byte ∷ []) ∙ ap₂ (λ (a b : List ℕ). a ++ b) so_far one ∙ sym taken
