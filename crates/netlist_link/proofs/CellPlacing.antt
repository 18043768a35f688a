-- The place of a cell more.
use Rattle.std.proofs.Common.{◌≡◌, ℕ, ◌+◌, ⊎_elim, List, [], ◌∷◌, ◌++◌, Some, sym, ap, ◌∙◌, subst, arith}
use Rattle.std.specs.Prelude.{slice_get, slice_index, Contains}
use Rattle.std.proofs.lemmas.Bool.{cases_lt}
use Rattle.std.proofs.lemmas.Option.{same_Some}
use Rattle.std.proofs.lemmas.List.{length_push, get_or_append_left, get_or_at}
use Rattle.netlist_link.specs.CellPlaces.{IsPlaceOf, HoldCellPlaces}

pub places_more : (cell_names names : List (List ℕ)) (n : ℕ) (places places' : List ℕ) (name : List ℕ) (place : ℕ)
    → HoldCellPlaces cell_names names n places → slice_get names n ≡ Some name → (Contains cell_names name → IsPlaceOf cell_names name place)
    → places' ≡ places ++ place ∷ [] → HoldCellPlaces cell_names names (n + 1) places'
places_more cell_names names n places places' name place so_far here is pushed =
    let count = so_far.count in
    let longer = length_push places place in
    subst (HoldCellPlaces cell_names names (n + 1)) (sym pushed) (record {
      count = omega arith;
      each = λ j other below there held. ⊎_elim
          (λ less. subst (IsPlaceOf cell_names other) (sym (get_or_append_left places (place ∷ []) 0 j (omega (arith, less))))
          (so_far.each j other less there held))
          (λ past. let same : j ≡ n = omega (arith, below, past) in
          let name_is : name ≡ other = same_Some name other (sym here ∙ sym (ap (slice_get names) same) ∙ there) in
          subst (λ (i : ℕ). IsPlaceOf cell_names other (slice_index (places ++ place ∷ []) i)) (sym same)
          (subst (IsPlaceOf cell_names other) (sym (get_or_at places place [] 0 n count))
          (subst (λ (text : List ℕ). Contains cell_names text → IsPlaceOf cell_names text place) name_is is held)))
          (cases_lt j n);
    })
