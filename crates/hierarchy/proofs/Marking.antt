-- Names that are marked stand among those that are used.
use Rattle.std.proofs.Common.{◌≡◌, ℕ, Bool, true, false, List, [], ◌∷◌, ◌++◌, length, get_or, set, Some, inl, inr, refl, sym, ap, ◌∙◌, subst, true≢false, replicate}
use Rattle.std.specs.Prelude.{slice_get, Contains}
use Rattle.std.specs.List.{list_any}
use Rattle.std.specs.Str.{bytes_eq}
use Rattle.std.specs.Cmp.{decided}
use Rattle.std.proofs.lemmas.Bool.{cases_eq}
use Rattle.std.proofs.lemmas.Map.Views.{list_any-from_Contains, Contains-from_any}
use Rattle.std.proofs.lemmas.Option.{slice_get_within, same_Some}
use Rattle.std.proofs.lemmas.List.{length-replicate, get_or-replicate, length-set, get_or-set_other}
use Rattle.std.proofs.lemmas.List.Elements.{Contains-append_left, Contains-push}
use Rattle.std.proofs.lemmas.Slice.Eq.{bytes_eq-Decides}
use Rattle.hierarchy.specs.InstanceCells.{AreMarked}

pub none_marked : (names : List (List ℕ)) (marks : List Bool) (used : List (List ℕ)) → marks ≡ replicate (length names) false
    → AreMarked names marks used
none_marked names marks used none = record {
  count = ap length none ∙ length-replicate (length names) false;
  each = λ n name here marked. absurd (true≢false (sym marked ∙ ap (λ (l : List Bool). get_or l n false) none
      ∙ get_or-replicate (length names) n false false (slice_get_within names n name here)));
}

-- what a table of names does with a text more
module _ (used used' : List (List ℕ)) (text : List ℕ) (kept : Contains used text → used' ≡ used)
    (added : ¬ Contains used text → used' ≡ used ++ text ∷ []) where
  is_used : Contains used' text
  is_used = by (list_any (bytes_eq text) used) refl
    where
      by : (b : Bool) → list_any (bytes_eq text) used ≡ b → Contains used' text
      by true e =
          let held = Contains-from_any {eq = bytes_eq} (λ x y. (bytes_eq-Decides x y).0) text used e in
          subst (λ (l : List (List ℕ)). Contains l text) (sym (kept held)) held
      by false e =
          let fresh = added (λ h. true≢false (sym (list_any-from_Contains {eq = bytes_eq} (decided bytes_eq bytes_eq-Decides) text used h) ∙ e)) in
          subst (λ (l : List (List ℕ)). Contains l text) (sym fresh) (Contains-push used text)

  stays_used : (other : List ℕ) → Contains used other → Contains used' other
  stays_used other before = by (list_any (bytes_eq text) used) refl
    where
      by : (b : Bool) → list_any (bytes_eq text) used ≡ b → Contains used' other
      by true e = subst (λ (l : List (List ℕ)). Contains l other)
          (sym (kept (Contains-from_any {eq = bytes_eq} (λ x y. (bytes_eq-Decides x y).0) text used e))) before
      by false e = subst (λ (l : List (List ℕ)). Contains l other)
          (sym (added (λ h. true≢false (sym (list_any-from_Contains {eq = bytes_eq} (decided bytes_eq bytes_eq-Decides) text used h) ∙ e))))
          (Contains-append_left used (text ∷ []) other before)

  pub marked_more : (names : List (List ℕ)) (marks : List Bool) (n : ℕ) → AreMarked names marks used → slice_get names n ≡ Some text
      → AreMarked names (set marks n true) used'
  marked_more names marks n are here = record {
    count = length-set marks n true ∙ are.count;
    each = λ j name there marked. elim (cases_eq j n) [
      | inl same ↦
          let name_is : text ≡ name = same_Some text name (sym here ∙ ap (slice_get names) (sym same) ∙ there) in
          subst (Contains used') name_is is_used
      | inr differ ↦ stays_used name (are.each j name there (sym (get_or-set_other marks n j true false differ) ∙ marked))
    ];
  }
