-- The words of a TIMESCALE that are read to their end are in its table.
use Rattle.std.proofs.Common.{◌≡◌, ℕ, Bool, true, false, cond, ◌==◌, List, [], ◌∷◌, ◌++◌, Option, Some, None, refl, sym, ap, ◌∙◌, subst, append_assoc, append-nil}
use Rattle.std.proofs.lemmas.Bool.{eqb-true}
use Rattle.sdf_reader.specs.ScalePlaces.{tenfold, behind_number, more_zeros, place_after, place_on, place_behind}
use Rattle.sdf_reader.specs.Timescales.{timescale_of}
use Rattle.sdf_reader.proofs.ScaleWords.{place_on_none, place_on_append}
use Rattle.sdf_reader.specs.declared.timescales.Count.{Count}
use Rattle.sdf_reader.specs.declared.timescales.Count.TheVariants.{One, Ten, Hundred}
use Rattle.sdf_reader.specs.declared.timescales.TimeUnit.{TimeUnit}
use Rattle.sdf_reader.specs.declared.timescales.TimeUnit.TheVariants.{Second, Millisecond, Microsecond, Nanosecond, Picosecond, Femtosecond}
use Rattle.sdf_reader.specs.declared.timescales.Timescale.{Timescale}
use Rattle.sdf_reader.specs.declared.timescales.ScalePlace.{ScalePlace}
use Rattle.sdf_reader.specs.declared.timescales.ScalePlace.TheVariants.{Start, Whole, Point, Fraction, Letter, Done}
use Rattle.sdf_reader.proofs.Clashes.{never_some, same_some}

-- the digits of a number
abbrev digits : Count → List ℕ
digits One = 49 ∷ []
digits Ten = 49 ∷ 48 ∷ []
digits Hundred = 49 ∷ 48 ∷ 48 ∷ []

-- a number, with its fraction or without it
abbrev number : Bool → Count → List ℕ
number false count = digits count
number true count = digits count ++ 46 ∷ 48 ∷ []

-- a unit up to its `s`
abbrev letters : TimeUnit → List ℕ
letters Second = []
letters Millisecond = 109 ∷ []
letters Microsecond = 117 ∷ []
letters Nanosecond = 110 ∷ []
letters Picosecond = 112 ∷ []
letters Femtosecond = 102 ∷ []

-- the bytes before a place
abbrev LeadsTo : ScalePlace → List ℕ → Type 0
LeadsTo Start bytes = bytes ≡ []
LeadsTo (Whole count) bytes = bytes ≡ digits count
LeadsTo (Point count) bytes = bytes ≡ digits count ++ 46 ∷ []
LeadsTo (Fraction count) bytes = bytes ≡ digits count ++ 46 ∷ 48 ∷ []
LeadsTo (Letter count unit) bytes = (long : Bool) × (bytes ≡ number long count ++ letters unit)
LeadsTo (Done scale) bytes = (long : Bool) × (bytes ≡ (number long scale.count ++ letters scale.unit) ++ 115 ∷ [])

-- what a place becomes
arrives : (place next : ScalePlace) (bytes : List ℕ) → ◌≡◌ {A = Option ScalePlace} (Some place) (Some next) → LeadsTo place bytes → LeadsTo next bytes
arrives place next bytes e leads = subst (λ (p : ScalePlace). LeadsTo p bytes) (same_some e) leads

with_byte : (bytes others : List ℕ) (byte known : ℕ) → bytes ≡ others → (byte == known) ≡ true → bytes ++ byte ∷ [] ≡ others ++ known ∷ []
with_byte bytes others byte known e is = ap (λ l. l ++ byte ∷ []) e ∙ ap (λ b. others ++ b ∷ []) (eqb-true byte known is)

a_unit : (long : Bool) (count : Count) (unit : TimeUnit) (byte known : ℕ) (bytes : List ℕ) (next : ScalePlace) → letters unit ≡ known ∷ [] → bytes ≡ number long count → (byte == known) ≡ true
    → ◌≡◌ {A = Option ScalePlace} (Some (Letter count unit)) (Some next) → LeadsTo next (bytes ++ byte ∷ [])
a_unit long count unit byte known bytes next one e is step =
    arrives (Letter count unit) next (bytes ++ byte ∷ []) step (long, with_byte bytes (number long count) byte known e is ∙ ap (λ l. number long count ++ l) (sym one))

-- behind a number
unit_after : (long : Bool) (count : Count) (byte : ℕ) (bytes : List ℕ) (next : ScalePlace) → bytes ≡ number long count → behind_number count byte ≡ Some next → LeadsTo next (bytes ++ byte ∷ [])
unit_after long count byte bytes next e step = by (byte == 115) (byte == 109) (byte == 117) (byte == 110) (byte == 112) (byte == 102) refl refl refl refl refl refl step
  where
    by : (s m u n p f : Bool) → (byte == 115) ≡ s → (byte == 109) ≡ m → (byte == 117) ≡ u → (byte == 110) ≡ n → (byte == 112) ≡ p → (byte == 102) ≡ f
        → cond s (Some (Done (record { count = count; unit = Second }))) (cond m (Some (Letter count Millisecond)) (cond u (Some (Letter count Microsecond)) (cond n (Some (Letter count Nanosecond)) (cond p (Some (Letter count Picosecond)) (cond f (Some (Letter count Femtosecond)) None))))) ≡ Some next
        → LeadsTo next (bytes ++ byte ∷ [])
    by true m u n p f is _ _ _ _ _ step =
        arrives (Done (record { count = count; unit = Second })) next (bytes ++ byte ∷ []) step (long, with_byte bytes (number long count) byte 115 e is ∙ ap (λ l. l ++ 115 ∷ []) (sym (append-nil (number long count))))
    by false true u n p f _ is _ _ _ _ step = a_unit long count Millisecond byte 109 bytes next refl e is step
    by false false true n p f _ _ is _ _ _ step = a_unit long count Microsecond byte 117 bytes next refl e is step
    by false false false true p f _ _ _ is _ _ step = a_unit long count Nanosecond byte 110 bytes next refl e is step
    by false false false false true f _ _ _ _ is _ step = a_unit long count Picosecond byte 112 bytes next refl e is step
    by false false false false false true _ _ _ _ _ is step = a_unit long count Femtosecond byte 102 bytes next refl e is step
    by false false false false false false _ _ _ _ _ _ step = never_some step

-- one byte more
zero_after : (count : Count) (byte : ℕ) (bytes : List ℕ) (next : ScalePlace) → bytes ≡ digits count → (byte == 48) ≡ true → more_zeros (tenfold count) ≡ Some next → LeadsTo next (bytes ++ byte ∷ [])
zero_after One byte bytes next e is step = arrives (Whole Ten) next (bytes ++ byte ∷ []) step (with_byte bytes (digits One) byte 48 e is)
zero_after Ten byte bytes next e is step = arrives (Whole Hundred) next (bytes ++ byte ∷ []) step (with_byte bytes (digits Ten) byte 48 e is)
zero_after Hundred byte bytes next e is step = never_some step

whole_after : (zero point : Bool) (count : Count) (byte : ℕ) (bytes : List ℕ) (next : ScalePlace) → bytes ≡ digits count → (byte == 48) ≡ zero → (byte == 46) ≡ point
    → cond zero (more_zeros (tenfold count)) (cond point (Some (Point count)) (behind_number count byte)) ≡ Some next → LeadsTo next (bytes ++ byte ∷ [])
whole_after true point count byte bytes next e is _ step = zero_after count byte bytes next e is step
whole_after false true count byte bytes next e _ is step = arrives (Point count) next (bytes ++ byte ∷ []) step (with_byte bytes (digits count) byte 46 e is)
whole_after false false count byte bytes next e _ _ step = unit_after false count byte bytes next e step

start_after : (one : Bool) (byte : ℕ) (bytes : List ℕ) (next : ScalePlace) → bytes ≡ [] → (byte == 49) ≡ one → cond one (Some (Whole One)) None ≡ Some next → LeadsTo next (bytes ++ byte ∷ [])
start_after true byte bytes next e is step = arrives (Whole One) next (bytes ++ byte ∷ []) step (with_byte bytes [] byte 49 e is)
start_after false byte bytes next e is step = never_some step

point_after : (zero : Bool) (count : Count) (byte : ℕ) (bytes : List ℕ) (next : ScalePlace) → bytes ≡ digits count ++ 46 ∷ [] → (byte == 48) ≡ zero → cond zero (Some (Fraction count)) None ≡ Some next → LeadsTo next (bytes ++ byte ∷ [])
point_after true count byte bytes next e is step =
    arrives (Fraction count) next (bytes ++ byte ∷ []) step (with_byte bytes (digits count ++ 46 ∷ []) byte 48 e is ∙ append_assoc (digits count) (46 ∷ []) (48 ∷ []))
point_after false count byte bytes next e is step = never_some step

letter_after : (ends long : Bool) (count : Count) (unit : TimeUnit) (byte : ℕ) (bytes : List ℕ) (next : ScalePlace) → bytes ≡ number long count ++ letters unit → (byte == 115) ≡ ends
    → cond ends (Some (Done (record { count = count; unit = unit }))) None ≡ Some next → LeadsTo next (bytes ++ byte ∷ [])
letter_after true long count unit byte bytes next e is step =
    arrives (Done (record { count = count; unit = unit })) next (bytes ++ byte ∷ []) step (long, with_byte bytes (number long count ++ letters unit) byte 115 e is)
letter_after false long count unit byte bytes next e is step = never_some step

place_leads : (place next : ScalePlace) (byte : ℕ) (bytes : List ℕ) → LeadsTo place bytes → place_after place byte ≡ Some next → LeadsTo next (bytes ++ byte ∷ [])
place_leads Start next byte bytes leads step = start_after (byte == 49) byte bytes next leads refl step
place_leads (Whole count) next byte bytes leads step = whole_after (byte == 48) (byte == 46) count byte bytes next leads refl refl step
place_leads (Point count) next byte bytes leads step = point_after (byte == 48) count byte bytes next leads refl step
place_leads (Fraction count) next byte bytes leads step = unit_after true count byte bytes next leads step
place_leads (Letter count unit) next byte bytes leads step = letter_after (byte == 115) leads.0 count unit byte bytes next leads.1 refl step
place_leads (Done scale) next byte bytes leads step = never_some step

-- more bytes
on_leads : (place next : ScalePlace) (before bytes : List ℕ) → LeadsTo place before → place_on (Some place) bytes ≡ Some next → LeadsTo next (before ++ bytes)
on_leads place next before [] leads e = arrives place next (before ++ []) e (subst (LeadsTo place) (sym (append-nil before)) leads)
on_leads place next before (byte ∷ bytes) leads e = by (λ behind. on_leads behind next (before ++ byte ∷ []) bytes) (place_after place byte) refl e
  where
    by : ((behind : ScalePlace) → LeadsTo behind (before ++ byte ∷ []) → place_on (Some behind) bytes ≡ Some next → LeadsTo next ((before ++ byte ∷ []) ++ bytes))
        → (found : Option ScalePlace) → place_after place byte ≡ found → place_on found bytes ≡ Some next → LeadsTo next (before ++ byte ∷ bytes)
    by later (Some behind) is e = subst (LeadsTo next) (append_assoc before (byte ∷ []) bytes) (later behind (place_leads place behind byte before leads is) e)
    by later None is e = let none : None ≡ Some next = sym (place_on_none bytes) ∙ e in never_some none

-- each number with each unit is in the table
in_table : (long : Bool) (count : Count) (unit : TimeUnit) → timescale_of ((number long count ++ letters unit) ++ 115 ∷ []) ≡ Some (record { count = count; unit = unit })
unfolding timescale_of
in_table false One Second = refl
in_table false One Millisecond = refl
in_table false One Microsecond = refl
in_table false One Nanosecond = refl
in_table false One Picosecond = refl
in_table false One Femtosecond = refl
in_table false Ten Second = refl
in_table false Ten Millisecond = refl
in_table false Ten Microsecond = refl
in_table false Ten Nanosecond = refl
in_table false Ten Picosecond = refl
in_table false Ten Femtosecond = refl
in_table false Hundred Second = refl
in_table false Hundred Millisecond = refl
in_table false Hundred Microsecond = refl
in_table false Hundred Nanosecond = refl
in_table false Hundred Picosecond = refl
in_table false Hundred Femtosecond = refl
in_table true One Second = refl
in_table true One Millisecond = refl
in_table true One Microsecond = refl
in_table true One Nanosecond = refl
in_table true One Picosecond = refl
in_table true One Femtosecond = refl
in_table true Ten Second = refl
in_table true Ten Millisecond = refl
in_table true Ten Microsecond = refl
in_table true Ten Nanosecond = refl
in_table true Ten Picosecond = refl
in_table true Ten Femtosecond = refl
in_table true Hundred Second = refl
in_table true Hundred Millisecond = refl
in_table true Hundred Microsecond = refl
in_table true Hundred Nanosecond = refl
in_table true Hundred Picosecond = refl
in_table true Hundred Femtosecond = refl

-- what is read to its end, the table has
pub read_scale : (bytes : List ℕ) (scale : Timescale) → place_behind Start bytes ≡ Some (Done scale) → timescale_of bytes ≡ Some scale
read_scale bytes scale e =
    let leads : LeadsTo (Done scale) bytes = on_leads Start (Done scale) [] bytes refl e in
    ap timescale_of leads.1 ∙ in_table leads.0 scale.count scale.unit

pub read_scale_in_two : (word other : List ℕ) (place : ScalePlace) (scale : Timescale) → place_behind Start word ≡ Some place → place_behind place other ≡ Some (Done scale) → timescale_of (word ++ other) ≡ Some scale
read_scale_in_two word other place scale e f = read_scale (word ++ other) scale (place_on_append (Some Start) word other ∙ ap (λ found. place_on found other) e ∙ f)
