-- The words of a TIMESCALE byte by byte.
use Rattle.std.proofs.Common.{◌≡◌, ℕ, ◌+◌, ◌<◌, Bool, true, false, cond, List, [], ◌∷◌, ◌++◌, length, drop, get_or, Option, Some, None, refl, sym, ap, ◌∙◌}
use Rattle.std.specs.Bool.{⊤}
use Rattle.std.specs.Str.{bytes_eq}
use Rattle.std.proofs.lemmas.Slice.Eq.{bytes_eq-Decides}
use Rattle.std.proofs.lemmas.List.{drop_more}
use Rattle.sdf_reader.specs.ScalePlaces.{place_after, place_on, place_behind}
use Rattle.sdf_reader.specs.Timescales.{scale_in, timescales, timescale_of}
use Rattle.sdf_reader.specs.declared.timescales.Timescale.{Timescale}
use Rattle.sdf_reader.specs.declared.timescales.ScalePlace.{ScalePlace}
use Rattle.sdf_reader.specs.declared.timescales.ScalePlace.TheVariants.{Start, Done}
use Rattle.sdf_reader.proofs.Clashes.{never_some, same_some}

-- behind a byte that cannot go on, none can
pub place_on_none : (bytes : List ℕ) → place_on None bytes ≡ None
place_on_none [] = refl
place_on_none (byte ∷ bytes) = refl

pub behind_dead : (whole : List ℕ) (k : ℕ) (self place : ScalePlace) → place_behind self whole ≡ place_on (Some place) (drop k whole) → k < length whole → place_after place (get_or whole k 0) ≡ None → None ≡ place_behind self whole
behind_dead whole k self place h lt e =
    sym (h ∙ ap (place_on (Some place)) (drop_more whole k 0 lt) ∙ ap (λ p. place_on p (drop (k + 1) whole)) e ∙ place_on_none (drop (k + 1) whole))

-- what the first words lead to, the others go on from
pub place_on_append : (found : Option ScalePlace) (word other : List ℕ) → place_on found (word ++ other) ≡ place_on (place_on found word) other
place_on_append found [] other = refl
place_on_append None (byte ∷ word) other = sym (place_on_none other)
place_on_append (Some place) (byte ∷ word) other = place_on_append (place_after place byte) word other

-- each row of the table is read to its end
abbrev AreRead : List (List ℕ × Timescale) → Type 0
AreRead [] = ⊤
AreRead (known ∷ later) = (place_behind Start known.0 ≡ Some (Done known.1)) × AreRead later

found_read : (table : List (List ℕ × Timescale)) → AreRead table → (bytes : List ℕ) (scale : Timescale) → scale_in table bytes ≡ Some scale → place_behind Start bytes ≡ Some (Done scale)
found_read [] are bytes scale e = never_some e
found_read (known ∷ later) are bytes scale e = by (found_read later are.1 bytes scale) (bytes_eq known.0 bytes) refl
  where
    by : (scale_in later bytes ≡ Some scale → place_behind Start bytes ≡ Some (Done scale)) → (same : Bool) → bytes_eq known.0 bytes ≡ same → place_behind Start bytes ≡ Some (Done scale)
    by later_read true is =
        let found : Some known.1 ≡ Some scale = sym (ap (λ t. cond t (Some known.1) (scale_in later bytes)) is) ∙ e in
        ap (place_behind Start) (sym ((bytes_eq-Decides known.0 bytes).0 is)) ∙ are.0 ∙ ap (λ s. Some (Done s)) (same_some found)
    by later_read false is = later_read (sym (ap (λ t. cond t (Some known.1) (scale_in later bytes)) is) ∙ e)

all_read : AreRead timescales
all_read = (
  refl,
  (
    refl,
    (
      refl,
      (
        refl,
        (
          refl,
          (
            refl,
            (
              refl,
              (
                refl,
                (
                  refl,
                  (
                    refl,
                    (
                      refl,
                      (
                        refl,
                        (
                          refl,
                          (
                            refl,
                            (
                              refl,
                              (
                                refl,
                                (
                                  refl,
                                  (
                                    refl,
                                    (
                                      refl,
                                      (
                                        refl,
                                        (
                                          refl,
                                          (
                                            refl,
                                            (
                                              refl,
                                              (
                                                refl,
                                                (
                                                  refl,
                                                  (
                                                    refl,
                                                    (
                                                      refl,
                                                      (
                                                        refl,
                                                        (
                                                          refl,
                                                          (
                                                            refl,
                                                            (refl, (refl, (refl, (refl, (refl, (refl, tt)))))),
                                                          ),
                                                        ),
                                                      ),
                                                    ),
                                                  ),
                                                ),
                                              ),
                                            ),
                                          ),
                                        ),
                                      ),
                                    ),
                                  ),
                                ),
                              ),
                            ),
                          ),
                        ),
                      ),
                    ),
                  ),
                ),
              ),
            ),
          ),
        ),
      ),
    ),
  ),
)

-- the words of a timescale are read to their end
pub scale_read : (bytes : List ℕ) (scale : Timescale) → timescale_of bytes ≡ Some scale → place_behind Start bytes ≡ Some (Done scale)
unfolding timescale_of
scale_read bytes scale e = found_read timescales all_read bytes scale e

-- read in two words, the first leads to a place, and the second from there to the end
pub scale_read_in_two : (word other : List ℕ) (scale : Timescale) → timescale_of (word ++ other) ≡ Some scale → (place : ScalePlace) × (place_behind Start word ≡ Some place) × (place_behind place other ≡ Some (Done scale))
scale_read_in_two word other scale e = by (place_behind Start word) refl
  where
    whole : place_on (place_behind Start word) other ≡ Some (Done scale)
    whole = sym (place_on_append (Some Start) word other) ∙ scale_read (word ++ other) scale e

    by : (found : Option ScalePlace) → place_behind Start word ≡ found → (place : ScalePlace) × (place_behind Start word ≡ Some place) × (place_behind place other ≡ Some (Done scale))
    by None is = let none : None ≡ Some (Done scale) = sym (place_on_none other) ∙ ap (λ f. place_on f other) (sym is) ∙ whole in never_some none
    by (Some place) is = (place, is, ap (λ f. place_on f other) (sym is) ∙ whole)
