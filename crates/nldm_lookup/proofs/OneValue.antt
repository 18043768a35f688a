-- Whichever neighbours are taken, a lookup has one answer.
use Rattle.std.proofs.Common.{◌≡◌, ℕ, ◌+◌, ◌-◌, ◌<◌, ◌≤◌, ◌∙◌, ap, sym, refl, subst, List, length, slice_get, Some, Ok, Err, ℤ, pos, ◌+ℤ◌, ◌-ℤ◌, ◌*ℤ◌, ◌≤ℤ◌, unsigned_abs, arith, ⊎_elim, ◌⊎◌, inl, inr}
use Rattle.std.proofs.lemmas.Int.{ints}
use Rattle.std.proofs.lemmas.Bool.{cases_lt}
use Rattle.std.proofs.lemmas.Option.{slice_get_within}
use Rattle.std.proofs.Math.Nat.{eq-or-lt_of_le}
use Rattle.std.proofs.Math.IntN.{*ℤ_comm, *ℤ-zero}
use Rattle.delay_units.specs.Rounding.{IsRounding, OneRounding}
use Rattle.nldm_lookup.specs.Axes.{IsAxis}
use Rattle.nldm_lookup.specs.Betweens.{Between, AreNeighbours, neighbours, IsBetween, sole, inside, edge, extend, width}
use Rattle.nldm_lookup.specs.Tables.{TimingTable, IsTable, value_at}
use Rattle.nldm_lookup.specs.Interpolant.{weighed, attos_in, not_below, IsQuotient, quotient, IsInterpolant, IsLookupEnd, slew_outside, load_outside, far_load, far_value, OneLookup}
use Rattle.nldm_lookup.specs.Rows.{row_at, rows_at}
use Rattle.corner_set.specs.declared.choices.Beyond.{Beyond}
use Rattle.corner_set.specs.declared.choices.Beyond.TheVariants.{Refuse, Extend}
use Rattle.nldm_lookup.specs.declared.faults.LookupEnd.{LookupEnd}
use Rattle.nldm_lookup.specs.declared.grain.Grain.{Grain}
use Rattle.nldm_lookup.specs.declared.grain.Grain.TheVariants.{Atto, Femto}
use Rattle.nldm_lookup.proofs.Ends.{later, IsEnd, at_first, at_last, passed_end, many_points, one_passed, not_past, refused_within, some_width}
use Rattle.nldm_lookup.specs.Betweens.{IsPassed}
use Rattle.nldm_lookup.proofs.Gaps.{same_point}
use Rattle.nldm_lookup.proofs.Scaling.{sum_scale, scale_times, swapped, product_some}
use Rattle.nldm_lookup.proofs.Weighing.{by_rows}
use Rattle.nldm_lookup.proofs.Roundings.{rounding_scaled}

-- the values of two neighbours by their weights
abbrev mixed : (ℕ → ℤ) → Between → ℤ
mixed values between = (values between.place *ℤ between.low) +ℤ (values (between.place + 1) *ℤ between.high)

-- mixed values are the same by either neighbours, each by the other's width
abbrev Agree : Between → Between → Type 0
Agree one other = (values : ℕ → ℤ) → mixed values one *ℤ width other ≡ mixed values other *ℤ width one

agree_self : (between : Between) → Agree between between
agree_self between values = refl

agree_turned : (one other : Between) → Agree one other → Agree other one
agree_turned one other agree values = sym (agree values)

-- where the outer weights of two pairs are nothing their shared point counts alone
shared : (a s c low high low' high' : ℤ) → low ≡ pos 0 → high' ≡ pos 0
    → ((a *ℤ low) +ℤ (s *ℤ high)) *ℤ (low' +ℤ high') ≡ ((s *ℤ low') +ℤ (c *ℤ high')) *ℤ (low +ℤ high)
shared a s c low high low' high' none none' =
    let x : a *ℤ low ≡ pos 0 = ap (λ n. a *ℤ n) none ∙ *ℤ-zero a in
    let y : c *ℤ high' ≡ pos 0 = ap (λ n. c *ℤ n) none' ∙ *ℤ-zero c in
    let one : (a *ℤ low) +ℤ (s *ℤ high) ≡ s *ℤ high = omega (arith, ints, x) in
    let other : (s *ℤ low') +ℤ (c *ℤ high') ≡ s *ℤ low' = omega (arith, ints, y) in
    let wide : low +ℤ high ≡ high = omega (arith, ints, none) in
    let wide' : low' +ℤ high' ≡ low' = omega (arith, ints, none') in
    ap (λ m. m *ℤ (low' +ℤ high')) one ∙ ap (λ n. (s *ℤ high) *ℤ n) wide' ∙ swapped s high low'
    ∙ sym (ap (λ m. m *ℤ (low +ℤ high)) other ∙ ap (λ n. (s *ℤ low') *ℤ n) wide)

abbrev pair_of : (place lower upper at : ℕ) → Between
pair_of place lower upper at = record { place = place; low = pos upper -ℤ pos at; high = pos at -ℤ pos lower }

-- at a point that two pairs share they agree
next_pair : (place lower upper lower' upper' at : ℕ) → upper ≡ at → lower' ≡ at → Agree (pair_of place lower upper at) (pair_of (place + 1) lower' upper' at)
next_pair place lower upper lower' upper' at same same' values =
    shared (values place) (values (place + 1)) (values ((place + 1) + 1)) (pos upper -ℤ pos at) (pos at -ℤ pos lower) (pos upper' -ℤ pos at) (pos at -ℤ pos lower')
    (omega (arith, ints, same)) (omega (arith, ints, same'))

by_order : {P : Type 0} → (n m : ℕ) → (n < m → P) → (n ≡ m → P) → (m < n → P) → P
by_order n m less same more = ⊎_elim (λ above. more above) (λ below. ⊎_elim (λ e. same e) (λ l. less l) (eq-or-lt_of_le below)) (cases_lt m n)

-- the weights are at the number around which the neighbours are, or this number is an end
abbrev AtOrEnd : List ℕ → ℕ → ℕ → Type 0
AtOrEnd points near at = (near ≡ at) ⊎ IsEnd points near

-- around an end there is one pair
no_later_pair : (points : List ℕ) → IsAxis points → (near place place' lower upper lower' upper' : ℕ) → IsEnd points near → place < place'
    → slice_get points place ≡ Some lower → slice_get points (place + 1) ≡ Some upper → slice_get points place' ≡ Some lower' → slice_get points (place' + 1) ≡ Some upper'
    → near ≤ upper → lower' ≤ near → ⊥
no_later_pair points axis near place place' lower upper lower' upper' (at_first start) less p q p' q' b a' =
    absurd (omega (arith, a', later points axis 0 place' near lower' (omega (arith, less)) start p'))
no_later_pair points axis near place place' lower upper lower' upper' (at_last end) less p q p' q' b a' =
    absurd (omega (arith, b, later points axis (place + 1) (length points - 1) upper near (omega (arith, less, slice_get_within points (place' + 1) upper' q')) q end))

-- of two pairs around one number, the later is the next one at most
later_pair : (points : List ℕ) → IsAxis points → (near at place place' lower upper lower' upper' : ℕ) → AtOrEnd points near at → place < place'
    → slice_get points place ≡ Some lower → slice_get points (place + 1) ≡ Some upper → slice_get points place' ≡ Some lower' → slice_get points (place' + 1) ≡ Some upper'
    → near ≤ upper → lower' ≤ near → Agree (pair_of place lower upper at) (pair_of place' lower' upper' at)
later_pair points axis near at place place' lower upper lower' upper' (inr end) less p q p' q' b a' =
    absurd (no_later_pair points axis near place place' lower upper lower' upper' end less p q p' q' b a')
later_pair points axis near at place place' lower upper lower' upper' (inl same) less p q p' q' b a' =
    ⊎_elim
    (λ next.
    let meets : upper ≡ lower' = same_point points place' upper lower' (subst (λ n. slice_get points n ≡ Some upper) next q) p' in
    subst (λ n. Agree (pair_of place lower upper at) (pair_of n lower' upper' at)) next
    (next_pair place lower upper lower' upper' at (omega (arith, same, b, a', meets)) (omega (arith, same, b, a', meets))))
    (λ further. absurd (omega (arith, b, a', later points axis (place + 1) place' upper lower' further q p')))
    (eq-or-lt_of_le (omega (arith, less)))

same_pair : (points : List ℕ) → (place lower upper lower' upper' at : ℕ)
    → slice_get points place ≡ Some lower → slice_get points (place + 1) ≡ Some upper → slice_get points place ≡ Some lower' → slice_get points (place + 1) ≡ Some upper'
    → Agree (pair_of place lower upper at) (pair_of place lower' upper' at)
same_pair points place lower upper lower' upper' at p q p' q' =
    subst (λ u. Agree (pair_of place lower upper at) (pair_of place lower' u at)) (same_point points (place + 1) upper upper' q q')
    (subst (λ l. Agree (pair_of place lower upper at) (pair_of place l upper at)) (same_point points place lower lower' p p') (agree_self (pair_of place lower upper at)))

same_place : (points : List ℕ) → (place place' lower upper lower' upper' at : ℕ) → place ≡ place'
    → slice_get points place ≡ Some lower → slice_get points (place + 1) ≡ Some upper → slice_get points place' ≡ Some lower' → slice_get points (place' + 1) ≡ Some upper'
    → Agree (pair_of place lower upper at) (pair_of place' lower' upper' at)
same_place points place place' lower upper lower' upper' at same p q p' q' =
    subst (λ n. Agree (pair_of place lower upper at) (pair_of n lower' upper' at)) same
    (same_pair points place lower upper lower' upper' at p q
    (subst (λ n. slice_get points n ≡ Some lower') (sym same) p') (subst (λ n. slice_get points (n + 1) ≡ Some upper') (sym same) q'))

agree_around : (points : List ℕ) (near at : ℕ) (one other : Between) → IsAxis points → AtOrEnd points near at
    → AreNeighbours points near at one → AreNeighbours points near at other → Agree one other
agree_around points near at one other axis around (neighbours place lower upper p q a b) (neighbours place' lower' upper' p' q' a' b') =
    by_order place place'
    (λ less. later_pair points axis near at place place' lower upper lower' upper' around less p q p' q' b a')
    (λ same. same_place points place place' lower upper lower' upper' at same p q p' q')
    (λ more. agree_turned _ _ (later_pair points axis near at place' place lower' upper' lower upper around more p' q' p q b' a))

two_points : (points : List ℕ) (near at : ℕ) (between : Between) → length points ≡ 1 → AreNeighbours points near at between → ⊥
two_points points near at between one (neighbours place lower upper p q a b) = absurd (omega (arith, one, slice_get_within points (place + 1) upper q))

-- two ways in which a quantity is taken agree
agree : (points : List ℕ) (quantity : ℕ) (beyond : Beyond) (one other : Between) → IsAxis points → IsBetween points quantity beyond one → IsBetween points quantity beyond other → Agree one other
agree points quantity beyond one other axis (sole a) (sole b) = agree_self (record { place = 0; low = pos 1; high = pos 0 })
agree points quantity beyond one other axis (sole a) (inside around) = absurd (two_points points quantity quantity other a around)
agree points quantity beyond one other axis (sole a) (edge past around) = absurd (omega (arith, a, many_points points quantity _ past))
agree points quantity beyond one other axis (sole a) (extend past around) = absurd (omega (arith, a, many_points points quantity _ past))
agree points quantity beyond one other axis (inside around) (sole b) = absurd (two_points points quantity quantity one b around)
agree points quantity beyond one other axis (inside around) (inside around') = agree_around points quantity quantity one other axis (inl refl) around around'
agree points quantity beyond one other axis (inside around) (edge past around') = absurd (not_past points quantity quantity _ one axis around past)
agree points quantity beyond one other axis (inside around) (extend past around') = absurd (not_past points quantity quantity _ one axis around past)
agree points quantity beyond one other axis (edge past around) (sole b) = absurd (omega (arith, b, many_points points quantity _ past))
agree points quantity beyond one other axis (edge past around) (inside around') = absurd (not_past points quantity quantity _ other axis around' past)
agree points quantity beyond one other axis (edge {passed = end} past around) (edge {passed = end'} past' around') =
    agree_around points end end one other axis (inl refl) around
    (subst (λ e. AreNeighbours points e e other) (sym (one_passed points quantity end end' axis past past')) around')
agree points quantity beyond one other axis (extend past around) (sole b) = absurd (omega (arith, b, many_points points quantity _ past))
agree points quantity beyond one other axis (extend past around) (inside around') = absurd (not_past points quantity quantity _ other axis around' past)
agree points quantity beyond one other axis (extend {passed = end} past around) (extend {passed = end'} past' around') =
    agree_around points end quantity one other axis (inr (passed_end points quantity end past)) around
    (subst (λ e. AreNeighbours points e quantity other) (sym (one_passed points quantity end end' axis past past')) around')

scaled_row : (x y a b weight : ℤ) → x *ℤ a ≡ y *ℤ b → (x *ℤ weight) *ℤ a ≡ (y *ℤ weight) *ℤ b
scaled_row x y a b weight same = swapped x weight a ∙ ap (λ n. n *ℤ weight) same ∙ swapped y b weight

both_sums : {a b c d : ℤ} → a ≡ c → b ≡ d → a +ℤ b ≡ c +ℤ d
both_sums {b = b} {c = c} one other = ap (λ z. z +ℤ b) one ∙ ap (λ z. c +ℤ z) other

-- the weighed values by the weights of the load taken anew
by_load : (table : TimingTable) (slew load load' : Between) → Agree load load' → rows_at table slew load *ℤ width load' ≡ rows_at table slew load' *ℤ width load
by_load table slew load load' agree =
    let one = scaled_row (row_at table slew.place load) (row_at table slew.place load') (width load') (width load) slew.low (agree (λ at. value_at table slew.place at)) in
    let other = scaled_row (row_at table (slew.place + 1) load) (row_at table (slew.place + 1) load') (width load') (width load) slew.high (agree (λ at. value_at table (slew.place + 1) at)) in
    let left = sum_scale (row_at table slew.place load *ℤ slew.low) (row_at table (slew.place + 1) load *ℤ slew.high) (width load') in
    let right = sum_scale (row_at table slew.place load' *ℤ slew.low) (row_at table (slew.place + 1) load' *ℤ slew.high) (width load) in
    left ∙ both_sums one other ∙ sym right

-- the same of the slew
by_slew : (table : TimingTable) (slew slew' load : Between) → Agree slew slew' → rows_at table slew load *ℤ width slew' ≡ rows_at table slew' load *ℤ width slew
by_slew table slew slew' load agree = agree (λ place. row_at table place load)

-- both
by_both : (table : TimingTable) (slew slew' load load' : Between) → Agree slew slew' → Agree load load'
    → weighed table slew load *ℤ (width slew' *ℤ width load') ≡ weighed table slew' load' *ℤ (width slew *ℤ width load)
by_both table slew slew' load load' on_slew on_load =
    let a = width slew in
    let b = width load in
    let a' = width slew' in
    let b' = width load' in
    ap (λ n. n *ℤ (a' *ℤ b')) (sym (by_rows table slew load))
    ∙ scale_times (rows_at table slew load) a' b'
    ∙ ap (λ n. n *ℤ b') (by_slew table slew slew' load on_slew)
    ∙ swapped (rows_at table slew' load) a b'
    ∙ ap (λ n. n *ℤ a) (by_load table slew' load load' on_load)
    ∙ swapped (rows_at table slew' load') b a
    ∙ sym (scale_times (rows_at table slew' load') a b)
    ∙ ap (λ n. n *ℤ (a *ℤ b)) (by_rows table slew' load')

-- two roundings of one quotient
one_of : {n d : ℤ} {v w : ℤ} (x : ℤ) → ((y : ℤ) → IsRounding n d y → y ≡ x) → IsRounding n d v → IsRounding n d w → v ≡ w
one_of x only first second = only _ first ∙ sym (only _ second)

one_rounded : OneRounding → (n m v w d e j k : ℤ) → pos 1 ≤ℤ j → pos 1 ≤ℤ k → n *ℤ k ≡ m *ℤ j → d *ℤ k ≡ e *ℤ j → pos 1 ≤ℤ d
    → IsRounding n d v → IsRounding m e w → v ≡ w
one_rounded law n m v w d e j k some_j some_k same_n same_d some_d one other =
    let first = rounding_scaled n v d k some_k one in
    let second = subst (λ x. IsRounding x (d *ℤ k) w) (sym same_n) (subst (λ x. IsRounding (m *ℤ j) x w) (sym same_d) (rounding_scaled m w e j some_j other)) in
    let below = product_some d k some_d some_k in
    let found = law (n *ℤ k) (d *ℤ k) (omega (arith, ints, below)) in
    one_of found.0 found.2 first second

pub some_attos : (grain : Grain) → pos 1 ≤ℤ pos (attos_in grain)
some_attos Atto = omega (arith, ints)
some_attos Femto = omega (arith, ints)

crossed : (a b g : ℤ) → (a *ℤ g) *ℤ b ≡ (b *ℤ g) *ℤ a
crossed a b g = swapped a g b ∙ ap (λ z. z *ℤ g) (*ℤ_comm a b) ∙ swapped b a g

one_quotient : OneRounding → (table : TimingTable) (slew load : ℕ) (grain : Grain) (beyond : Beyond) (value other : ℤ) → IsTable table
    → IsQuotient table slew load grain beyond value → IsQuotient table slew load grain beyond other → value ≡ other
one_quotient law table slew load grain beyond value other whole (quotient on_slew on_load a b one) (quotient on_slew' on_load' a' b' two) =
    let ws = some_width table.slew slew beyond on_slew whole.slew a in
    let wl = some_width table.load load beyond on_load whole.load b in
    let ws' = some_width table.slew slew beyond on_slew' whole.slew a' in
    let wl' = some_width table.load load beyond on_load' whole.load b' in
    one_rounded law (weighed table on_slew on_load) (weighed table on_slew' on_load') value other
    ((width on_slew *ℤ width on_load) *ℤ pos (attos_in grain)) ((width on_slew' *ℤ width on_load') *ℤ pos (attos_in grain))
    (width on_slew *ℤ width on_load) (width on_slew' *ℤ width on_load')
    (product_some _ _ ws wl) (product_some _ _ ws' wl')
    (by_both table on_slew on_slew' on_load on_load' (agree table.slew slew beyond on_slew on_slew' whole.slew a a') (agree table.load load beyond on_load on_load' whole.load b b'))
    (crossed (width on_slew *ℤ width on_load) (width on_slew' *ℤ width on_load') (pos (attos_in grain)))
    (product_some _ _ (product_some _ _ ws wl) (some_attos grain)) one two

pub one_interpolant : OneRounding → (table : TimingTable) (slew load : ℕ) (grain : Grain) (beyond : Beyond) (value other : ℤ) → IsTable table
    → IsInterpolant table slew load grain beyond value → IsInterpolant table slew load grain beyond other → value ≡ other
one_interpolant law table slew load grain beyond value other whole one two =
    one.kept ∙ ap (not_below beyond grain) (one_quotient law table slew load grain beyond one.rounded two.rounded whole one.quotient two.quotient) ∙ sym two.kept

-- a lookup that has a value was not refused
slew_within : (table : TimingTable) (slew load : ℕ) (grain : Grain) (value : ℤ) → IsTable table → IsQuotient table slew load grain Refuse value → ¬ IsPassed table.slew slew
slew_within table slew load grain value whole (quotient on_slew on_load a b rounds) = refused_within table.slew slew on_slew whole.slew a

load_within : (table : TimingTable) (slew load : ℕ) (grain : Grain) (value : ℤ) → IsTable table → IsQuotient table slew load grain Refuse value → ¬ IsPassed table.load load
load_within table slew load grain value whole (quotient on_slew on_load a b rounds) = refused_within table.load load on_load whole.load b

pub value_or_end : OneRounding → (table : TimingTable) (slew load : ℕ) (grain : Grain) (beyond : Beyond) (value : ℤ) (end : LookupEnd) → IsTable table
    → IsInterpolant table slew load grain beyond value → IsLookupEnd table slew load grain beyond end → ⊥
value_or_end law table slew load grain beyond value end whole is (slew_outside past) = slew_within table slew load grain is.rounded whole is.quotient past
value_or_end law table slew load grain beyond value end whole is (load_outside within past) = load_within table slew load grain is.rounded whole is.quotient past
value_or_end law table slew load grain beyond value end whole is (far_load too_far) = is.near too_far
value_or_end law table slew load grain beyond value end whole is (far_value rounded rounds large) =
    let same = is.kept ∙ ap (not_below Extend grain) (one_quotient law table slew load grain Extend is.rounded rounded whole is.quotient rounds) in
    absurd (omega (arith, is.small, large, ap unsigned_abs same))

one_end : (table : TimingTable) (slew load : ℕ) (grain : Grain) (beyond : Beyond) (one other : LookupEnd)
    → IsLookupEnd table slew load grain beyond one → IsLookupEnd table slew load grain beyond other → one ≡ other
one_end table slew load grain beyond one other (slew_outside past) (slew_outside past') = refl
one_end table slew load grain beyond one other (slew_outside past) (load_outside within past') = absurd (within past)
one_end table slew load grain beyond one other (load_outside within past) (slew_outside past') = absurd (within past')
one_end table slew load grain beyond one other (load_outside within past) (load_outside within' past') = refl
one_end table slew load grain beyond one other (far_load too_far) (far_load too_far') = refl
one_end table slew load grain beyond one other (far_load too_far) (far_value v is large) = refl
one_end table slew load grain beyond one other (far_value v is large) (far_load too_far) = refl
one_end table slew load grain beyond one other (far_value v is large) (far_value v' is' large') = refl

-- the law
pub one_lookup_lem : OneRounding → OneLookup
one_lookup_lem law table slew load grain beyond (Ok value) (Ok other) whole one two = ap Ok (one_interpolant law table slew load grain beyond value other whole one two)
one_lookup_lem law table slew load grain beyond (Ok value) (Err end) whole one two = absurd (value_or_end law table slew load grain beyond value end whole one two)
one_lookup_lem law table slew load grain beyond (Err end) (Ok value) whole one two = absurd (value_or_end law table slew load grain beyond value end whole two one)
one_lookup_lem law table slew load grain beyond (Err end) (Err other) whole one two = ap Err (one_end table slew load grain beyond end other one two)
