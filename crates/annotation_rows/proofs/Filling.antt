-- A grid of one row that is filled corner by corner.
use Rattle.std.proofs.Common.{◌≡◌, ℕ, ◌+◌, ◌^◌, ◌<◌, ◌≤◌, ◌∙◌, ap, ap₂, sym, refl, subst, List, [], ◌∷◌, ◌++◌, length, length-set, take, set, unsigned_abs, arith}
use Rattle.std.proofs.lemmas.List.{take_more_set, take_all}
use Rattle.std.proofs.lemmas.List.FromFn.{map-range_with_len_more}
use Rattle.corner_set.specs.Places.{place}
use Rattle.delay_units.specs.declared.Femto.{Femto}
use Rattle.sdf_writer.specs.Bounds.{AreWithin}
use Rattle.annotation_rows.specs.WireRows.{at_corners}

-- of so many places the first so many have these values, which are printed
pub record IsFilled (value : ℕ → Femto) (count many : ℕ) (values : List Femto) : Type 0 where
  pub len : length values ≡ count
  pub done : take many values ≡ at_corners value many
  pub within : AreWithin (take many values)

within_append : (times : List Femto) (time : Femto) → AreWithin times → unsigned_abs time.0 ≤ 10 ^ 27 → AreWithin (times ++ time ∷ [])
within_append [] time all small = (small, tt)
within_append (first ∷ times) time all small = (all.0, within_append times time all.1 small)

pub filled_none : (value : ℕ → Femto) (count : ℕ) (values : List Femto) → length values ≡ count → IsFilled value count 0 values
filled_none value count values len = record { len = len; done = refl; within = tt }

pub filled_more : (value : ℕ → Femto) (count many : ℕ) (values after : List Femto) (time : Femto) → many < count → IsFilled value count many values
    → after ≡ set values (place count 0 many) time → time ≡ value many → unsigned_abs time.0 ≤ 10 ^ 27 → IsFilled value count (many + 1) after
filled_more value count many values after time below filled is time_is small =
    let at : place count 0 many ≡ many = omega arith in
    let now : after ≡ set values many time = is ∙ ap (λ k. set values k time) at in
    let more : take (many + 1) after ≡ take many values ++ time ∷ [] =
    ap (λ xs. take (many + 1) xs) now ∙ take_more_set values many time (omega (arith, below, filled.len)) in
    record {
      len = ap length now ∙ length-set values many time ∙ filled.len;
      done = more ∙ ap₂ (λ xs x. xs ++ x ∷ []) filled.done time_is ∙ sym (map-range_with_len_more value 0 many many (omega arith));
      within = subst AreWithin (sym more) (within_append (take many values) time filled.within small);
    }

-- all of them
pub filled_all : (value : ℕ → Femto) (count many : ℕ) (values : List Femto) → many ≡ count → IsFilled value count many values → values ≡ at_corners value count
filled_all value count many values all filled =
    sym (take_all many values (omega (arith, all, filled.len))) ∙ filled.done ∙ ap (λ n. at_corners value n) all

pub filled_within : (value : ℕ → Femto) (count many : ℕ) (values : List Femto) → many ≡ count → IsFilled value count many values → AreWithin values
filled_within value count many values all filled =
    subst AreWithin (take_all many values (omega (arith, all, filled.len))) filled.within
