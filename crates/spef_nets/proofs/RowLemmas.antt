-- Rows of values, when there is one more.
use Rattle.std.proofs.Common.{◌≡◌, ℕ, ◌+◌, ◌*◌, ◌<◌, List, [], ◌∷◌, ◌++◌, length, ◌⊎◌, inl, inr, ⊎_elim, refl, sym, ap, ◌∙◌, subst, arith, length-append, append-nil, append_assoc}
use Rattle.std.specs.Prelude.{Option, Some, slice_get, All}
use Rattle.std.proofs.lemmas.Bool.{cases_eq}
use Rattle.std.proofs.lemmas.List.Elements.{All-append, All-push}
use Rattle.corner_set.specs.declared.pick.Pick.{Pick}
use Rattle.spef_nets.specs.Sections.{Corners, HasValue}
use Rattle.spef_nets.specs.Drafts.{AddsRow, AddsUpto, AreRows}
use Rattle.spef_nets.proofs.Lists.{get_left, get_right, get_last, get_push}

module _ {I T E : Type 0} (corners : Corners I) where
  pub no_rows : (P : E → Pick → T → Type 0) → AreRows corners [] [] P
  no_rows P = record { rows = omega arith; each = λ row element corner e. absurd (cc) }

  pub rows_push : (P : E → Pick → T → Type 0) (Q : Pick → T → Type 0) (grid after : List T) (elements : List E) (element : E) → AreRows corners grid elements P → AddsRow corners grid after Q
      → ((pick : Pick) (value : T) → Q pick value → P element pick value) → AreRows corners after (elements ++ element ∷ []) P
  rows_push P Q grid after elements element are adds means = record { rows = count; each = each }
    where
      count : length after ≡ length (elements ++ element ∷ []) * corners.count
      count =
          let one = length-append elements (element ∷ []) in
          let two = length-append grid adds.row in
          let whole : length after ≡ length (grid ++ adds.row) = ap length adds.is in
          let three : length after ≡ length elements * corners.count + corners.count = omega (arith, whole, two, are.rows, adds.holds.count) in
          let four : (length elements + 1) * corners.count ≡ length elements * corners.count + corners.count = grind arith in
          three ∙ sym four ∙ ap (λ n. n * corners.count) (sym one)

      old : (row : ℕ) (it : E) (corner : I) → slice_get elements row ≡ Some it → HasValue corners.count after row (corners.number corner) (P it (corners.member corner))
      old row it corner e =
          let has = are.each row it corner e in
          record {
            value = has.value;
            stands = ap (λ l. slice_get l (row * corners.count + corners.number corner)) adds.is ∙ get_left grid adds.row (row * corners.count + corners.number corner) has.value has.stands;
            meets = has.meets;
          }

      new : (corner : I) → HasValue corners.count after (length elements) (corners.number corner) (P element (corners.member corner))
      new corner =
          let has = adds.holds.each corner in
          record {
            value = has.0;
            stands = ap (λ l. slice_get l (length elements * corners.count + corners.number corner)) adds.is
                ∙ ap (λ n. slice_get (grid ++ adds.row) (n + corners.number corner)) (sym are.rows) ∙ get_right grid adds.row (corners.number corner) ∙ has.1;
            meets = means (corners.member corner) has.0 has.2;
          }

      each : (row : ℕ) (it : E) (corner : I) → slice_get (elements ++ element ∷ []) row ≡ Some it → HasValue corners.count after row (corners.number corner) (P it (corners.member corner))
      each row it corner e = ⊎_elim
          (λ l. old row it corner l)
          (λ r. subst (λ (x : E). HasValue corners.count after row (corners.number corner) (P x (corners.member corner))) r.1
          (subst (λ (n : ℕ). HasValue corners.count after n (corners.number corner) (P element (corners.member corner))) (sym r.0) (new corner)))
          (get_push elements element row it e)

module _ {I T : Type 0} (corners : Corners I) where
  pub small_push : (S : T → Type 0) (Q : Pick → T → Type 0) (grid after : List T) → All S grid → AddsRow corners grid after Q → ((pick : Pick) (value : T) → Q pick value → S value) → All S after
  small_push S Q grid after all adds means =
      let row : All S adds.row = λ k d h. let some = adds.holds.only k d h in means some.0 _ some.1 in
      subst (λ (l : List T). All S l) (sym adds.is) (All-append S grid adds.row all row)

-- a row that is put at the end value by value
module _ {I T : Type 0} (corners : Corners I) (P : Pick → T → Type 0) (old : List T) where
  pub row_begins : AddsUpto corners old old P 0
  row_begins = record { row = []; is = sym (append-nil old); count = refl; each = λ corner h. absurd (omega arith); only = λ k d h. absurd (omega arith) }

  pub row_grows : (corner_of : ℕ → Option I) → ((corner : I) → corner_of (corners.number corner) ≡ Some corner) → (new after : List T) (many : ℕ) (corner : I) (value : T) → AddsUpto corners old new P many
      → corner_of many ≡ Some corner → P (corners.member corner) value → after ≡ new ++ value ∷ [] → AddsUpto corners old after P (many + 1)
  row_grows corner_of corner_is new after many corner value adds here holds pushed = record {
    row = adds.row ++ value ∷ [];
    is = pushed ∙ ap (λ l. l ++ value ∷ []) adds.is ∙ append_assoc old adds.row (value ∷ []);
    count = length-append adds.row (value ∷ []) ∙ ap (λ n. n + 1) adds.count;
    each = each;
    only = All-push (λ v. (pick : Pick) × P pick v) adds.row value adds.only (corners.member corner, holds);
  }
    where
      some_is : (one other : I) → Some one ≡ Some other → one ≡ other
      some_is one other e = cc

      each : (it : I) → corners.number it < many + 1 → (v : T) × (slice_get (adds.row ++ value ∷ []) (corners.number it) ≡ Some v) × P (corners.member it) v
      each it below = by (cases_eq (corners.number it) many)
        where
          by : (corners.number it ≡ many) ⊎ (corners.number it ≡ many → ⊥) → (v : T) × (slice_get (adds.row ++ value ∷ []) (corners.number it) ≡ Some v) × P (corners.member it) v
          by (inl same) =
              let its : it ≡ corner = some_is it corner (sym (corner_is it) ∙ ap corner_of same ∙ here) in
              (value, ap (slice_get (adds.row ++ value ∷ [])) (same ∙ sym adds.count) ∙ get_last adds.row value, subst (λ (x : I). P (corners.member x) value) (sym its) holds)
          by (inr other) =
              let has = adds.each it (omega (arith, below, other)) in
              (has.0, get_left adds.row (value ∷ []) (corners.number it) has.0 has.1, has.2)

  pub row_ends : (new : List T) → AddsUpto corners old new P corners.count → ((corner : I) → corners.number corner < corners.count) → AddsRow corners old new P
  row_ends new adds below = record { row = adds.row; is = adds.is; holds = record { count = adds.count; each = λ corner. adds.each corner (below corner); only = adds.only } }
