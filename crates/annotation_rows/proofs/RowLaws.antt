-- A path has a row just where it is live, and its values are its delays.
use Rattle.std.proofs.Common.{◌≡◌, ◌⊎◌, ℕ, zero, suc, ◌+◌, ◌<◌, ◌≤◌, ◌==◌, ◌||◌, Bool, true, false, if◌then◌else◌, ◌∙◌, ap, sym, refl, subst, List, [], ◌∷◌, length, map, get_or, Option, Some, None, is_some, ℤ, pos, inl, inr, true≢false, arith}
use Rattle.std.specs.Prelude.{IsSome, int_lt}
use Rattle.std.specs.List.{range_with_len}
use Rattle.std.proofs.lemmas.Bool.{cases_lt, eq-eqb, false≢true}
use Rattle.cell_models.specs.declared.edge.Edge.{Edge}
use Rattle.cell_models.specs.declared.edge.Edge.TheVariants.{Rise, Fall}
use Rattle.delay_units.specs.declared.Femto.{Femto}
use Rattle.hierarchy.specs.Walks.{joined_from}
use Rattle.slew_order.specs.FlatArcs.{arc_count}
use Rattle.slew_order.specs.LivePaths.{HasInput, is_between, larger, largest}
use Rattle.slew_order.proofs.LiveArcs.{live_delays}
use Rattle.annotation_rows.specs.CellPaths.{arc_in, path_of}
use Rattle.annotation_rows.specs.PathRows.{TimedDesign, all_times, arc_delay, cell_arcs, delay_of_path, edge_delays, if_delayed, path_row, rows_at, states_of, with_time}
use Rattle.annotation_rows.specs.RowLaws.{IsSlewed, IsFirstArc, IsLiveAt, LiveRows, NoValueNoDelay, ValuesAreDelays, arc_place}
use Rattle.annotation_rows.specs.WireRows.{at_corners}
use Rattle.annotation_rows.proofs.CornerInputs.{delay_has_input, input_at_each}
use Rattle.annotation_rows.proofs.EdgeTimes.{all_from, times_missing}

-- the larger of two delays is there where one is
larger_left : (one other : Option ℤ) → IsSome one → IsSome (larger one other)
larger_left None other some = absurd (false≢true some)
larger_left (Some value) None some = refl
larger_left (Some value) (Some other) some = of (int_lt value other)
  where
    of : (b : Bool) → IsSome (if b then Some other else Some value)
    of true = refl
    of false = refl

larger_right : (one other : Option ℤ) → IsSome other → IsSome (larger one other)
larger_right None other some = some
larger_right (Some value) other some = larger_left (Some value) other refl

-- so is the largest of several
largest_there : (delay : ℕ → Option ℤ) (from n k : ℕ) → from ≤ k → k < from + n → IsSome (delay k) → IsSome (largest (joined_from (λ k. delay k ∷ []) from n))
largest_there delay from zero k low high some = absurd (omega (arith, low, high))
largest_there delay from (suc n) k low high some = elim (cases_lt from k) [
  | inl later ↦ larger_right (delay from) (largest (joined_from (λ k. delay k ∷ []) (suc from) n)) (largest_there delay (suc from) n k (omega (arith, later)) (omega (arith, high)) some)
  | inr at ↦ larger_left (delay from) (largest (joined_from (λ k. delay k ∷ []) (suc from) n)) (let same : k ≡ from = omega (arith, at, low) in subst (λ j. IsSome (delay j)) same some)
]

-- and where it is there one of them is
larger_one : (one other : Option ℤ) → IsSome (larger one other) → IsSome one ⊎ IsSome other
larger_one None other some = inr some
larger_one (Some value) other some = inl refl

largest_one : (delay : ℕ → Option ℤ) (from n : ℕ) → IsSome (largest (joined_from (λ k. delay k ∷ []) from n)) → (k : ℕ) × (k < from + n) × IsSome (delay k)
largest_one delay from zero some = absurd (false≢true some)
largest_one delay from (suc n) some = elim (larger_one (delay from) (largest (joined_from (λ k. delay k ∷ []) (suc from) n)) some) [
  | inl here ↦ (from, omega arith, here)
  | inr later ↦ (let found = largest_one delay (suc from) n later in let low = found.1 in (found.0, omega (arith, low), found.2))
]

if_some : (b : Bool) (value : Option ℤ) → IsSome (if b then value else None) → (b ≡ true) × IsSome value
if_some true value some = (refl, some)
if_some false value some = absurd (false≢true some)

-- the times of all corners are there where each is
all_there : (value : ℕ → Option ℤ) (count : ℕ) → ((corner : ℕ) → corner < count → IsSome (value corner)) → IsSome (all_times (at_corners value count))
all_there value count each = ap (λ (times : Option (List Femto)). is_some times) (all_from value 0 count (λ corner low high. each corner (omega (arith, high))))

each_there : (value : ℕ → Option ℤ) (count corner : ℕ) → IsSome (all_times (at_corners value count)) → corner < count → IsSome (value corner)
each_there value count corner all below = by (value corner) refl
  where
    by : (found : Option ℤ) → value corner ≡ found → IsSome found
    by None is = absurd (false≢true (ap (λ (times : Option (List Femto)). is_some times) (sym (times_missing value count corner below is)) ∙ all))
    by (Some delay) is = refl

-- the value at a corner
cons_time : (first : Option ℤ) (behind : List (Option ℤ)) (times : List Femto) → all_times (first ∷ behind) ≡ Some times
    → (value : ℤ) × (rest : List Femto) × (first ≡ Some value) × (all_times behind ≡ Some rest) × (times ≡ record { 0 = value } ∷ rest)
cons_time None behind times is = absurd (let clash = is in cc)
cons_time (Some value) behind times is = by (all_times behind) refl is
  where
    by : (rest : Option (List Femto)) → all_times behind ≡ rest → with_time value rest ≡ Some times
        → (v : ℤ) × (rest : List Femto) × (let one : Option ℤ = Some value in one ≡ Some v) × (all_times behind ≡ Some rest) × (times ≡ record { 0 = v } ∷ rest)
    by None held is = absurd (let clash = is in cc)
    by (Some rest) held is = (value, rest, refl, held, sym (let both = is in cc))

times_are : (value : ℕ → Option ℤ) (from n k : ℕ) (times : List Femto) → k < n → all_times (map value (range_with_len from n)) ≡ Some times
    → value (from + k) ≡ Some (get_or times k (record { 0 = pos 0 })).0
times_are value from zero k times below is = absurd (omega (arith, below))
times_are value from (suc n) zero times below is =
    let first = cons_time (value from) (map value (range_with_len (from + 1) n)) times is in
    let at : from + 0 ≡ from = omega arith in
    ap value at ∙ first.2 ∙ sym (ap (λ (xs : List Femto). Some (get_or xs 0 (record { 0 = pos 0 })).0) first.4)
times_are value from (suc n) (suc k) times below is =
    let first = cons_time (value from) (map value (range_with_len (from + 1) n)) times is in
    let at : from + suc k ≡ (from + 1) + k = omega arith in
    ap value at ∙ times_are value (from + 1) n k first.1 (omega (arith, below)) first.3
    ∙ sym (ap (λ (xs : List Femto). Some (get_or xs (suc k) (record { 0 = pos 0 })).0) first.4)

pub values_are_delays : ValuesAreDelays
values_are_delays design instance arc corner edge values is below =
    let at : 0 + corner ≡ corner = omega arith in
    sym (ap (λ k. delay_of_path design instance arc edge k) at)
    ∙ times_are (delay_of_path design instance arc edge) 0 design.source.count corner values below is

module _ (design : TimedDesign) (slewed : IsSlewed design) (instance arc : ℕ) where
  abbrev from : ℕ
  from = (arc_in (cell_arcs design instance) arc).from

  abbrev to : ℕ
  to = (arc_in (cell_arcs design instance) arc).to

  -- an arc of the path with a worst input slew
  record IsFed (edge : Edge) (corner : ℕ) : Type 0 where
    fed : ℕ
    within : fed < arc_count design.source.netlist design.source.cells instance
    between : is_between design.source corner (states_of design corner) instance from to fed ≡ true
    input : HasInput design.source corner (states_of design corner) (arc_place instance fed) edge

  has_fed : (edge : Edge) (corner : ℕ) → instance < length design.source.netlist.instances → corner < design.source.count → IsSome (delay_of_path design instance arc edge corner) → IsFed edge corner
  has_fed edge corner there below some =
      let found = largest_one (λ k. if is_between design.source corner (states_of design corner) instance from to k then arc_delay design instance k edge corner else None)
      0 (arc_count design.source.netlist design.source.cells instance) some in
      let parts = if_some (is_between design.source corner (states_of design corner) instance from to found.0) (arc_delay design instance found.0 edge corner) found.2 in
      let low = found.1 in
      let within : found.0 < arc_count design.source.netlist design.source.cells instance = omega (arith, low) in
      record {
        fed = found.0;
        within = within;
        between = parts.0;
        input = delay_has_input design.source design.tables slewed.slews slewed.shaped (arc_place instance found.0) (there, within) edge corner below parts.1;
      }

  fed_has : (edge : Edge) (one corner : ℕ) → instance < length design.source.netlist.instances → one < design.source.count → corner < design.source.count → IsFed edge one
      → IsSome (delay_of_path design instance arc edge corner)
  fed_has edge one corner there below also fed =
      let input = input_at_each design.source design.tables slewed.slews slewed.shaped (arc_place instance fed.fed) (there, fed.within) edge one corner below also fed.input in
      let delay = live_delays design.source design.tables slewed.slews (arc_place instance fed.fed) edge corner (there, fed.within) also input in
      largest_there (λ k. if is_between design.source corner (states_of design corner) instance from to k then arc_delay design instance k edge corner else None)
      0 (arc_count design.source.netlist design.source.cells instance) fed.fed (omega arith) (let low = fed.within in omega (arith, low))
      (ap (λ b. is_some (if b then arc_delay design instance fed.fed edge corner else None)) fed.between ∙ ap (λ (o : Option ℤ). is_some o) delay.1)

  fed_at_all : (edge : Edge) (one : ℕ) → instance < length design.source.netlist.instances → one < design.source.count → IsFed edge one → IsSome (edge_delays design instance arc edge)
  fed_at_all edge one there below fed =
      all_there (delay_of_path design instance arc edge) design.source.count (λ corner also. fed_has edge one corner there below also fed)

  delayed_row : is_some (edge_delays design instance arc Rise) || is_some (edge_delays design instance arc Fall) ≡ true → path_of (cell_arcs design instance) arc ≡ arc
      → rows_at design instance arc ≡ path_row design instance arc ∷ []
  delayed_row some first =
      ap (λ b. if b then if_delayed (path_row design instance arc) else []) (eq-eqb (path_of (cell_arcs design instance) arc) arc first)
      ∙ ap (λ b. if b then path_row design instance arc ∷ [] else []) some

  either : (one other : Bool) → (one ≡ true) ⊎ (other ≡ true) → (one || other) ≡ true
  either true other some = refl
  either false true some = refl
  either false false (inl one) = one
  either false false (inr other) = other

  or_one : (one other : Bool) → (one || other) ≡ true → (one ≡ true) ⊎ (other ≡ true)
  or_one true other some = inl refl
  or_one false other some = inr some

  edge_some : (edge : Edge) → IsSome (edge_delays design instance arc edge) → (is_some (edge_delays design instance arc Rise) || is_some (edge_delays design instance arc Fall)) ≡ true
  edge_some Rise some = either (is_some (edge_delays design instance arc Rise)) (is_some (edge_delays design instance arc Fall)) (inl some)
  edge_some Fall some = either (is_some (edge_delays design instance arc Rise)) (is_some (edge_delays design instance arc Fall)) (inr some)

  live_row : (corner : ℕ) → corner < design.source.count → IsFirstArc design instance arc → IsLiveAt design instance arc corner → rows_at design instance arc ≡ path_row design instance arc ∷ []
  live_row corner below is live =
      delayed_row (edge_some live.edge (fed_at_all live.edge corner is.there.0 below (record { fed = live.arc; within = live.within; between = live.between; input = live.input }))) is.first

  -- a row that is there has a delay at an edge
  row_some : (first some : Bool) → (if first then (if some then path_row design instance arc ∷ [] else []) else []) ≡ path_row design instance arc ∷ [] → some ≡ true
  row_some true true is = refl
  row_some true false is = absurd (let clash = is in cc)
  row_some false some is = absurd (let clash = is in cc)

  live_by : (edge : Edge) (corner : ℕ) → corner < design.source.count → instance < length design.source.netlist.instances → IsSome (edge_delays design instance arc edge) → IsLiveAt design instance arc corner
  live_by edge corner below there some =
      let fed = has_fed edge corner there below (each_there (delay_of_path design instance arc edge) design.source.count corner some below) in
      record { arc = fed.fed; edge = edge; within = fed.within; between = fed.between; input = fed.input }

  row_live : (corner : ℕ) → corner < design.source.count → IsFirstArc design instance arc → rows_at design instance arc ≡ path_row design instance arc ∷ [] → IsLiveAt design instance arc corner
  row_live corner below is row =
      let some = row_some (path_of (cell_arcs design instance) arc == arc) (is_some (edge_delays design instance arc Rise) || is_some (edge_delays design instance arc Fall)) row in
      elim (or_one (is_some (edge_delays design instance arc Rise)) (is_some (edge_delays design instance arc Fall)) some) [
        | inl rise ↦ live_by Rise corner below is.there.0 rise
        | inr fall ↦ live_by Fall corner below is.there.0 fall
      ]

pub live_rows : LiveRows
live_rows design slewed instance arc corner is below = (live_row design slewed instance arc corner below is, row_live design slewed instance arc corner below is)

pub no_value_no_delay : NoValueNoDelay
no_value_no_delay design slewed instance arc corner edge there none below = by (delay_of_path design instance arc edge corner) refl
  where
    by : (found : Option ℤ) → delay_of_path design instance arc edge corner ≡ found → found ≡ None
    by None is = refl
    by (Some delay) is =
        let fed = has_fed design slewed instance arc edge corner there below (ap (λ (o : Option ℤ). is_some o) is) in
        absurd (true≢false (sym (fed_at_all design slewed instance arc edge corner there below fed) ∙ ap (λ (o : Option (List Femto)). is_some o) none))
