-- Where the sinks of nets begin, and the rows of grids that they have.
use Rattle.std.proofs.Common.{◌≡◌, ℕ, zero, suc, ◌+◌, ◌-◌, ◌*◌, ◌<◌, ◌≤◌, ◌∙◌, ap, sym, refl, subst, List, [], ◌∷◌, ◌++◌, length, length-append, get_or, ext_get_or, replicate, slice_get, unwrap_or, inl, inr, arith}
use Rattle.std.specs.Prelude.{All}
use Rattle.std.proofs.Math.Nat.{mul-le-mul_right}
use Rattle.std.proofs.Math.Seq.{get_or-append_seam}
use Rattle.std.proofs.lemmas.Bool.{cases_lt, cases_eq}
use Rattle.std.proofs.lemmas.List.{get_or_append_left, length-replicate}
use Rattle.std.proofs.lemmas.Option.{unwrap_or-slice_get}
use Rattle.std.proofs.lemmas.List.Elements.{All-replicate}
use Rattle.delay_units.specs.declared.quantities.Farads.{Farads}
use Rattle.netlist_link.specs.FlatNetlist.{FlatNetlist}
use Rattle.net_delays.specs.NetTimes.{NetTimes, AreNetTimes, AreSums, AreStarts, HasNet, HasSink, start_in, nets_in, sinks_in, elmore_limit}

-- the starts of so many groups, and then the sum of their sizes
pub record SumsSoFar (sizes : ℕ → ℕ) (starts : List ℕ) (sum many : ℕ) : Type 0 where
  pub len : length starts ≡ many
  pub first : start_in (starts ++ sum ∷ []) 0 ≡ 0
  pub next : (group : ℕ) → group < many → start_in (starts ++ sum ∷ []) (group + 1) ≡ start_in (starts ++ sum ∷ []) group + sizes group

pub no_sums : (sizes : ℕ → ℕ) → SumsSoFar sizes [] 0 0
no_sums sizes = record { len = refl; first = refl; next = λ group below. absurd (omega (arith, below)) }

pub more_sums : (sizes : ℕ → ℕ) (starts : List ℕ) (sum many next : ℕ) → next ≡ sum + sizes many
    → SumsSoFar sizes starts sum many → SumsSoFar sizes (starts ++ sum ∷ []) next (many + 1)
more_sums sizes starts sum many next is held =
    let longer : length (starts ++ sum ∷ []) ≡ many + 1 = length-append starts (sum ∷ []) ∙ ap (λ n. n + 1) held.len in
    let left : (group : ℕ) → group < many + 1 → start_in ((starts ++ sum ∷ []) ++ next ∷ []) group ≡ start_in (starts ++ sum ∷ []) group =
    λ group below. get_or_append_left (starts ++ sum ∷ []) (next ∷ []) 0 group (omega (arith, below, longer)) in
    let end : start_in ((starts ++ sum ∷ []) ++ next ∷ []) (many + 1) ≡ next =
    ap (start_in ((starts ++ sum ∷ []) ++ next ∷ [])) (sym longer) ∙ get_or-append_seam (starts ++ sum ∷ []) next [] 0 in
    let here : start_in (starts ++ sum ∷ []) many ≡ sum =
    ap (start_in (starts ++ sum ∷ [])) (sym held.len) ∙ get_or-append_seam starts sum [] 0 in
    record {
      len = longer;
      first = left 0 (omega arith) ∙ held.first;
      next = λ group below. elim (cases_eq group many) [
        | inl same ↦ ap (λ n. start_in ((starts ++ sum ∷ []) ++ next ∷ []) (n + 1)) same ∙ end ∙ is
            ∙ ap (λ s. s + sizes many) (sym here)
            ∙ ap (λ n. start_in (starts ++ sum ∷ []) n + sizes n) (sym same)
            ∙ ap (λ s. s + sizes group) (sym (left group below))
        | inr other ↦ left (group + 1) (omega (arith, below, other)) ∙ held.next group (omega (arith, below, other))
            ∙ ap (λ s. s + sizes group) (sym (left group below))
      ];
    }

pub all_sums : (sizes : ℕ → ℕ) (starts : List ℕ) (sum many : ℕ) → SumsSoFar sizes starts sum many → AreSums sizes many (starts ++ sum ∷ [])
all_sums sizes starts sum many held = record { len = length-append starts (sum ∷ []) ∙ ap (λ n. n + 1) held.len; first = held.first; next = held.next }

-- a later net does not begin before
starts_climb : (starts : List ℕ) → ((net : ℕ) → net + 1 < length starts → start_in starts net ≤ start_in starts (net + 1))
    → (net more : ℕ) → net + more < length starts → start_in starts net ≤ start_in starts (net + more)
starts_climb starts rise net zero within =
    let same : start_in starts (net + zero) ≡ start_in starts net = ap (start_in starts) (let e : net + zero ≡ net = omega arith in e) in
    omega (arith, same)
starts_climb starts rise net (suc more) within =
    let before = starts_climb starts rise net more (omega (arith, within)) in
    let last = rise (net + more) (omega (arith, within)) in
    let at : net + more + 1 ≡ net + suc more = omega arith in
    subst (λ n. start_in starts net ≤ start_in starts n) at (omega (arith, before, last))

pub starts_rise : (starts : List ℕ) → ((net : ℕ) → net + 1 < length starts → start_in starts net ≤ start_in starts (net + 1))
    → (net other : ℕ) → net ≤ other → other < length starts → start_in starts net ≤ start_in starts other
starts_rise starts rise net other below within =
    let at : net + (other - net) ≡ other = omega (arith, below) in
    subst (λ n. start_in starts net ≤ start_in starts n) at (starts_climb starts rise net (other - net) (omega (arith, within, at)))

-- a row below so many has its corners in a grid of them
pub row_within : (count row rows size : ℕ) → row < rows → rows * count ≤ size → row * count + count ≤ size
row_within count row rows size below fits =
    let more : (row + 1) * count ≤ rows * count = mul-le-mul_right count (let h : row + 1 ≤ rows = omega (arith, below) in h) in
    let is : (row + 1) * count ≡ row * count + count = grind arith in
    omega (arith, more, is, fits)

-- the row of a net
pub load_row : (count : ℕ) (times : NetTimes) (net : ℕ) → AreNetTimes count times → HasNet times net → net * count + count ≤ length times.loads
load_row count times net whole has =
    let len = whole.loads in
    row_within count net (nets_in times) (length times.loads) (omega (arith, has)) (omega (arith, len))

-- the sinks of the nets before a net are among all
pub starts_within : (times : NetTimes) → ((net : ℕ) → net + 1 < length times.starts → start_in times.starts net ≤ start_in times.starts (net + 1))
    → (net : ℕ) → net < length times.starts → start_in times.starts net ≤ sinks_in times
starts_within times rise net within = starts_rise times.starts rise net (nets_in times) (omega (arith, within)) (omega (arith, within))

-- the row of a sink
pub sink_row : (count : ℕ) (times : NetTimes) (net sink : ℕ) → AreNetTimes count times → HasSink times net sink
    → (start_in times.starts net + sink) * count + count ≤ length times.elmores
sink_row count times net sink whole has =
    let len = whole.elmores in
    let below = starts_within times whole.rise (net + 1) has.0 in
    row_within count (start_in times.starts net + sink) (sinks_in times) (length times.elmores) (omega (arith, has.1, below)) (omega (arith, len))

-- two sinks have one row only if they are one
pub one_sink : (count : ℕ) (times : NetTimes) (net sink other of : ℕ) → AreNetTimes count times → HasSink times net sink → HasSink times other of
    → start_in times.starts other + of ≡ start_in times.starts net + sink → (other ≡ net) × (of ≡ sink)
one_sink count times net sink other of whole has its row = elim (cases_eq other net) [
  | inl same ↦
      let start : start_in times.starts other ≡ start_in times.starts net = ap (start_in times.starts) same in
      (same, omega (arith, row, start))
  | inr apart ↦ elim (cases_lt other net) [
    | inl below ↦ absurd (omega (arith, row, its.1, starts_rise times.starts whole.rise (other + 1) net (omega (arith, below)) (omega (arith, has.0))))
    | inr above ↦ absurd (omega (arith, row, has.1, starts_rise times.starts whole.rise (net + 1) other (omega (arith, above, apart)) (omega (arith, its.0))))
  ]
]

-- a list of one value has it at each place, as has what is past it
pub replicated : {X : Type 0} (n i : ℕ) (x : X) → get_or (replicate n x) i x ≡ x
replicated zero i x = refl
replicated (suc n) zero x = refl
replicated (suc n) (suc i) x = replicated n i x

-- what is read at a place is the same where the places have the same
pub same_read : {X : Type 0} (xs ys : List X) (i : ℕ) (d : X) → slice_get xs i ≡ slice_get ys i → get_or xs i d ≡ get_or ys i d
same_read xs ys i d same = sym (unwrap_or-slice_get xs i d) ∙ ap (λ x. unwrap_or x d) same ∙ unwrap_or-slice_get ys i d

-- sums rise
pub sums_rise : (sizes : ℕ → ℕ) (many : ℕ) (starts : List ℕ) → AreSums sizes many starts
    → (group : ℕ) → group + 1 < length starts → start_in starts group ≤ start_in starts (group + 1)
sums_rise sizes many starts are group within =
    let some : group < many = omega (arith, within, are.len) in
    omega (arith, are.next group some)

-- nothing but 0 for the nets and sinks of a netlist
pub new_times : (count : ℕ) (netlist : FlatNetlist) (starts : List ℕ) (fill : Farads) (nets sinks : ℕ) (loads : List Farads) (elmores : List ℕ) → AreStarts netlist starts
    → nets ≡ length netlist.nets → sinks ≡ start_in starts nets → loads ≡ replicate (nets * count) fill → elmores ≡ replicate (sinks * count) 0
    → AreNetTimes count (record { starts = starts; loads = loads; elmores = elmores })
new_times count netlist starts fill nets sinks loads elmores are is all filled none =
    let last : nets ≡ length starts - 1 = omega (arith, are.len, is) in
    let some : sinks ≡ start_in starts (length starts - 1) = all ∙ ap (start_in starts) last in
    record {
      loads = ap length filled ∙ length-replicate (nets * count) fill ∙ ap (λ n. n * count) last;
      rise = sums_rise _ _ starts are;
      elmores = ap length none ∙ length-replicate {A = ℕ} (sinks * count) 0 ∙ ap (λ n. n * count) some;
      small = subst (λ list. All (λ elmore. elmore < elmore_limit) list) (sym none) (All-replicate (λ elmore. elmore < elmore_limit) (sinks * count) 0 (omega arith));
    }

-- two places of groups are one only if both are
pub one_row : (sizes : ℕ → ℕ) (many : ℕ) (starts : List ℕ) → AreSums sizes many starts → (group place other at : ℕ) → group < many → other < many → place < sizes group → at < sizes other
    → start_in starts other + at ≡ start_in starts group + place → (other ≡ group) × (at ≡ place)
one_row sizes many starts are group place other at within with_other small small_other row = elim (cases_eq other group) [
  | inl same ↦
      let start : start_in starts other ≡ start_in starts group = ap (start_in starts) same in
      (same, omega (arith, row, start))
  | inr apart ↦ elim (cases_lt other group) [
    | inl below ↦ absurd (
        let end = are.next other with_other in
        let climb = starts_rise starts (sums_rise sizes many starts are) (other + 1) group (omega (arith, below)) (omega (arith, within, are.len)) in
        omega (arith, row, small_other, end, climb))
    | inr above ↦ absurd (
        let end = are.next group within in
        let climb = starts_rise starts (sums_rise sizes many starts are) (group + 1) other (omega (arith, above, apart)) (omega (arith, with_other, are.len)) in
        omega (arith, row, small, end, climb))
  ]
]

-- a place of a group is below the sum
pub row_below : (sizes : ℕ → ℕ) (many : ℕ) (starts : List ℕ) → AreSums sizes many starts → (group place : ℕ) → group < many → place < sizes group
    → start_in starts group + place < start_in starts many
row_below sizes many starts are group place within small =
    let end = are.next group within in
    let climb = starts_rise starts (sums_rise sizes many starts are) (group + 1) many (omega (arith, within)) (omega (arith, are.len)) in
    omega (arith, small, end, climb)

-- the sums of sizes are one
module _ (sizes : ℕ → ℕ) (many : ℕ) (one other : List ℕ) (some : AreSums sizes many one) (more : AreSums sizes many other) where
  one_start : (group : ℕ) → group ≤ many → start_in one group ≡ start_in other group
  one_start zero within = some.first ∙ sym more.first
  one_start (suc group) within =
      let before = one_start group (omega (arith, within)) in
      let next : group + 1 ≡ suc group = omega arith in
      ap (start_in one) (sym next) ∙ some.next group (omega (arith, within)) ∙ ap (λ n. n + sizes group) before
      ∙ sym (more.next group (omega (arith, within))) ∙ ap (start_in other) next

  pub one_sums : one ≡ other
  one_sums = ext_get_or 0 one other (some.len ∙ sym more.len) (λ group within. one_start group (omega (arith, within, some.len)))

-- the group and the place of a row
pub record RowOf (sizes : ℕ → ℕ) (many : ℕ) (starts : List ℕ) (row : ℕ) : Type 0 where
  pub group : ℕ
  pub place : ℕ
  pub within : group < many
  pub small : place < sizes group
  pub row_is : row ≡ start_in starts group + place

module _ (sizes : ℕ → ℕ) (many : ℕ) (starts : List ℕ) (are : AreSums sizes many starts) (row : ℕ) where
  row_among : (first : ℕ) → first ≤ many → row < start_in starts first → RowOf sizes many starts row
  row_among zero few below = absurd (let none = are.first in omega (arith, below, none))
  row_among (suc group) few below = elim (cases_lt row (start_in starts group)) [
    | inl before ↦ row_among group (omega (arith, few)) before
    | inr from ↦
        let next : suc group ≡ group + 1 = omega arith in
        let end : start_in starts (suc group) ≡ start_in starts group + sizes group = ap (start_in starts) next ∙ are.next group (omega (arith, few)) in
        record {
          group = group;
          place = row - start_in starts group;
          within = omega (arith, few);
          small = omega (arith, below, from, end);
          row_is = omega (arith, from);
        }
  ]

  pub row_found : row < start_in starts many → RowOf sizes many starts row
  row_found below = row_among many (omega arith) below

-- the row and the corner of a place of a grid
pub record CornerOf (count rows at : ℕ) : Type 0 where
  pub row : ℕ
  pub corner : ℕ
  pub within : row < rows
  pub below : corner < count
  pub at_is : at ≡ row * count + corner

pub corner_found : (count rows at : ℕ) → at < rows * count → CornerOf count rows at
corner_found count zero at below = absurd (let none : zero * count ≡ 0 = grind arith in omega (arith, below, none))
corner_found count (suc rows) at below = elim (cases_lt at (rows * count)) [
  | inl before ↦
      let found = corner_found count rows at before in
      record { row = found.row; corner = found.corner; within = (let few = found.within in omega (arith, few)); below = found.below; at_is = found.at_is }
  | inr from ↦
      let more : suc rows * count ≡ rows * count + count = grind arith in
      record { row = rows; corner = at - rows * count; within = omega arith; below = omega (arith, below, from, more); at_is = omega (arith, from) }
]
