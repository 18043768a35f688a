-- What the passes keep, as far as they have come.
use Rattle.std.proofs.Common.{◌≡◌, ◌≢◌, ℕ, zero, suc, ◌+◌, ◌-◌, ◌*◌, ◌<◌, ◌≤◌, List, length, slice_set, Some, refl, sym, ◌∙◌, ap, ap₂, subst, arith, one-mul, zero-mul, inl, inr}
use Rattle.std.proofs.lemmas.Bool.{cases_eq}
use Rattle.corner_set.specs.Places.{place, value_at}
use Rattle.delay_units.specs.declared.quantities.Farads.{Farads}
use Rattle.rc_tree.specs.Sums.{sum_below, one}
use Rattle.rc_tree.specs.TreeSums.{gathered, farads_below, delay_of}
use Rattle.delay_units.specs.Bounds.{most_ohms}
use Rattle.rc_tree.specs.Arenas.{Arena, IsArena, node_count, parent_of, most_elements, most_load}
use Rattle.rc_tree.proofs.Sums.{one-is, one-other}
use Rattle.rc_tree.proofs.Passes.{gathered_none, gathered_step, gathered_most, delay_root, delay_step, delay_most}
use Rattle.rc_tree.proofs.ArenaNets.{farads_read, arena_load, arena_down}
use Rattle.elmore_pass.specs.Columns.{column, farads_of, ohms_of, KeepsOthers}
use Rattle.elmore_pass.proofs.Columns.{place_in, column_same, column_other, keeps_others, keeps_both, keeps_none}

-- a function of the node, of which so much is known
abbrev pub Agrees : ℕ → (ℕ → ℕ) → (ℕ → ℕ) → Type 0
Agrees n f g = (node : ℕ) → node < n → f node ≡ g node

-- the capacitances of the first nodes are in their places
pub record Placing (count : ℕ) (arena : Arena) (number : ℕ) (before values : List ℕ) (node : ℕ) : Type 0 where
  pub others : KeepsOthers count before values number
  pub placed : Agrees node (column count values number) (farads_of count arena number)

pub placing_start : (count : ℕ) (arena : Arena) (number : ℕ) (before : List ℕ) → Placing count arena number before before 0
placing_start count arena number before = record { others = keeps_none count before number; placed = λ i h. absurd (omega arith) }

pub placing_step : (count : ℕ) (arena : Arena) (number : ℕ) (before values after : List ℕ) (node : ℕ) (x : Farads) → number < count → node_count arena * count ≤ length before → node < node_count arena
    → value_at count arena.farads node number ≡ Some x → after ≡ slice_set values (place count node number) x.0 → Placing count arena number before values node → Placing count arena number before after (node + 1)
placing_step count arena number before values after node x within room below at is placing =
    subst (λ l. Placing count arena number before l (node + 1)) (sym is) (record {
      others = keeps_both count before values (slice_set values (place count node number) x.0) number placing.others (keeps_others count values node number x.0 within);
      placed = λ i h. elim (cases_eq i node) [
        | inl e ↦ ap (column count (slice_set values (place count node number) x.0) number) e ∙ column_same count values node number x.0 (place_in count (node_count arena) (length values) node number room' below within) ∙ sym (farads_read count arena.farads node number x at) ∙ ap (farads_of count arena number) (sym e)
        | inr ne ↦ let ne' : i ≢ node = ne in column_other count values node number x.0 i within ne ∙ placing.placed i (omega arith)
      ];
    })
  where
    room' : node_count arena * count ≤ length values
    room' = let size = placing.others.size in omega (arith, size, room)

-- each node from the least on has given what it had to its parent
pub record Gathering (count : ℕ) (arena : Arena) (number : ℕ) (before values : List ℕ) (least : ℕ) : Type 0 where
  pub others : KeepsOthers count before values number
  pub gathered_so : Agrees (node_count arena) (column count values number) (gathered (parent_of arena) (node_count arena) (farads_of count arena number) least)

pub gathering_start : (count : ℕ) (arena : Arena) (number : ℕ) (before : List ℕ) → Agrees (node_count arena) (column count before number) (farads_of count arena number) → Gathering count arena number before before (node_count arena)
gathering_start count arena number before placed = record {
  others = keeps_none count before number;
  gathered_so = λ i h. placed i h ∙ sym (gathered_none (parent_of arena) (node_count arena) (farads_of count arena number) i h);
}

-- all the capacitance of the tree at a corner
pub all_farads : (count : ℕ) (arena : Arena) → IsArena count arena → (number : ℕ) → number < count → sum_below (node_count arena) (farads_of count arena number) ≤ most_load
all_farads count arena whole number within = let all = arena_load count arena number in let most = whole.small_load number within in omega (arith, all, most)

pub gathering_fits : (count : ℕ) (arena : Arena) → IsArena count arena → (number : ℕ) (before values : List ℕ) (node : ℕ) → number < count → 0 < node → node < node_count arena → Gathering count arena number before values (suc node)
    → column count values number (parent_of arena node) + column count values number node ≤ most_load
gathering_fits count arena whole number before values node within some below gathering =
    let down = arena_down count arena whole in
    let less = down node some in
    let f = farads_of count arena number in
    let p = parent_of arena node in
    let at_p = gathering.gathered_so p (omega arith) in
    let at_n = gathering.gathered_so node below in
    let step : gathered (parent_of arena) (node_count arena) f node p ≡ gathered (parent_of arena) (node_count arena) f (suc node) p + gathered (parent_of arena) (node_count arena) f (suc node) node =
    gathered_step (parent_of arena) down (node_count arena) f node p some
    ∙ ap (λ o. gathered (parent_of arena) (node_count arena) f (suc node) p + o * gathered (parent_of arena) (node_count arena) f (suc node) node) (one-is p p refl)
    ∙ ap (λ o. gathered (parent_of arena) (node_count arena) f (suc node) p + o) (one-mul (gathered (parent_of arena) (node_count arena) f (suc node) node)) in
    let most = gathered_most (parent_of arena) down (node_count arena) f node p some in
    let all = all_farads count arena whole number within in
    omega (arith, at_p, at_n, step, most, all)

pub gathering_step : (count : ℕ) (arena : Arena) → IsArena count arena → (number : ℕ) (before values after : List ℕ) (node : ℕ) → number < count → node_count arena * count ≤ length before → 0 < node → node < node_count arena
    → after ≡ slice_set values (place count (parent_of arena node) number) (column count values number (parent_of arena node) + column count values number node)
    → Gathering count arena number before values (suc node) → Gathering count arena number before after node
gathering_step count arena whole number before values after node within room some below is gathering =
    subst (λ l. Gathering count arena number before l node) (sym is) (record {
      others = keeps_both count before values (slice_set values (place count p number) v) number gathering.others (keeps_others count values p number v within);
      gathered_so = λ i h. elim (cases_eq i p) [
        | inl e ↦ ap (column count (slice_set values (place count p number) v) number) e ∙ column_same count values p number v (place_in count (node_count arena) (length values) p number room' p_below within)
            ∙ ap₂ ◌+◌ (gathering.gathered_so p p_below ∙ ap G (sym e)) (gathering.gathered_so node below ∙ sym (one-mul (G node)) ∙ ap (λ o. o * G node) (sym (one-is i p e))) ∙ sym (step i)
        | inr ne ↦ column_other count values p number v i within ne ∙ gathering.gathered_so i h ∙ plus (G i) (one i p * G node) (ap (λ o. o * G node) (one-other i p ne) ∙ zero-mul (G node)) ∙ sym (step i)
      ];
    })
  where
    p : ℕ
    p = parent_of arena node

    v : ℕ
    v = column count values number (parent_of arena node) + column count values number node

    G : ℕ → ℕ
    G i = gathered (parent_of arena) (node_count arena) (farads_of count arena number) (suc node) i

    p_below : parent_of arena node < node_count arena
    p_below = let less = arena_down count arena whole node some in omega (arith, less, below)

    room' : node_count arena * count ≤ length values
    room' = let size = gathering.others.size in omega (arith, size, room)

    step : (i : ℕ) → gathered (parent_of arena) (node_count arena) (farads_of count arena number) node i ≡ gathered (parent_of arena) (node_count arena) (farads_of count arena number) (suc node) i + one i (parent_of arena node) * gathered (parent_of arena) (node_count arena) (farads_of count arena number) (suc node) node
    step i = gathered_step (parent_of arena) (arena_down count arena whole) (node_count arena) (farads_of count arena number) node i some

    plus : (x y : ℕ) → y ≡ 0 → x ≡ x + y
    plus x y e = omega arith

-- the first nodes have their delays, the others still the capacitance below them
pub record Spreading (count : ℕ) (arena : Arena) (number : ℕ) (before values : List ℕ) (node : ℕ) : Type 0 where
  pub others : KeepsOthers count before values number
  pub delays : Agrees node (column count values number) (delay_of (parent_of arena) (node_count arena) (ohms_of count arena number) (farads_of count arena number))
  pub below : (i : ℕ) → node ≤ i → i < node_count arena → column count values number i ≡ farads_below (parent_of arena) (node_count arena) (farads_of count arena number) i

pub spreading_start : (count : ℕ) (arena : Arena) → IsArena count arena → (number : ℕ) (before after : List ℕ) → number < count → node_count arena * count ≤ length before → 0 < node_count arena
    → after ≡ slice_set before (place count 0 number) 0 → Agrees (node_count arena) (column count before number) (farads_below (parent_of arena) (node_count arena) (farads_of count arena number)) → Spreading count arena number before after 1
spreading_start count arena whole number before after within room some is gathered_so =
    subst (λ l. Spreading count arena number before l 1) (sym is) (record {
      others = keeps_others count before 0 number 0 within;
      delays = λ i h. let e : i ≡ 0 = omega arith in
          ap (column count (slice_set before (place count 0 number) 0) number) e ∙ column_same count before 0 number 0 (place_in count (node_count arena) (length before) 0 number room some within)
          ∙ sym (delay_root (parent_of arena) (arena_down count arena whole) (node_count arena) (ohms_of count arena number) (farads_of count arena number) some (whole.root number within))
          ∙ ap (delay_of (parent_of arena) (node_count arena) (ohms_of count arena number) (farads_of count arena number)) (sym e);
      below = λ i from h. let ne : i ≢ 0 = omega arith in column_other count before 0 number 0 i within ne ∙ gathered_so i h;
    })

-- an Elmore delay is no more than this
pub delay_bound : (count : ℕ) (arena : Arena) → IsArena count arena → (number node : ℕ) → number < count → 0 < node_count arena → delay_of (parent_of arena) (node_count arena) (ohms_of count arena number) (farads_of count arena number) node ≤ most_elements * (most_ohms * most_load)
delay_bound count arena whole number node within some = by (node_count arena) refl
  where
    by : (n : ℕ) → n ≡ node_count arena → delay_of (parent_of arena) (node_count arena) (ohms_of count arena number) (farads_of count arena number) node ≤ most_elements * (most_ohms * most_load)
    by zero is = absurd (omega arith)
    by (suc n) is =
        let ohms = ohms_of count arena number in
        let farads = farads_of count arena number in
        let small : (j : ℕ) → j < suc n → ohms j ≤ most_ohms = λ j h. whole.small_ohms j number (omega (arith, is, h)) within in
        let all = all_farads count arena whole number within in
        let all' : sum_below (suc n) farads ≤ most_load = subst (λ k. sum_below k farads ≤ most_load) (sym is) all in
        let most : delay_of (parent_of arena) (suc n) ohms farads node ≤ n * (most_ohms * most_load) = delay_most (parent_of arena) (arena_down count arena whole) n ohms farads most_ohms most_load node (whole.root number within) small all' in
        let same : delay_of (parent_of arena) (suc n) ohms farads node ≡ delay_of (parent_of arena) (node_count arena) ohms farads node = ap (λ k. delay_of (parent_of arena) k ohms farads node) is in
        let few = whole.few in
        omega (arith, most, same, few, is)

delay_at : (count : ℕ) (arena : Arena) → IsArena count arena → (number : ℕ) (before values : List ℕ) (node : ℕ) → 0 < node → node < node_count arena → Spreading count arena number before values node
    → column count values number (parent_of arena node) + ohms_of count arena number node * column count values number node ≡ delay_of (parent_of arena) (node_count arena) (ohms_of count arena number) (farads_of count arena number) node
delay_at count arena whole number before values node some below spreading =
    let less = arena_down count arena whole node some in
    ap₂ (λ d b. d + ohms_of count arena number node * b) (spreading.delays (parent_of arena node) less) (spreading.below node (omega arith) below)
    ∙ sym (delay_step (parent_of arena) (arena_down count arena whole) (node_count arena) (ohms_of count arena number) (farads_of count arena number) node some below)

pub spreading_fits : (count : ℕ) (arena : Arena) → IsArena count arena → (number : ℕ) (before values : List ℕ) (node : ℕ) → number < count → 0 < node → node < node_count arena → Spreading count arena number before values node
    → column count values number (parent_of arena node) + ohms_of count arena number node * column count values number node ≤ most_elements * (most_ohms * most_load)
spreading_fits count arena whole number before values node within some below spreading =
    let is = delay_at count arena whole number before values node some below spreading in
    let most = delay_bound count arena whole number node within (omega arith) in
    omega (arith, is, most)

pub spreading_step : (count : ℕ) (arena : Arena) → IsArena count arena → (number : ℕ) (before values after : List ℕ) (node : ℕ) → number < count → node_count arena * count ≤ length before → 0 < node → node < node_count arena
    → after ≡ slice_set values (place count node number) (column count values number (parent_of arena node) + ohms_of count arena number node * column count values number node)
    → Spreading count arena number before values node → Spreading count arena number before after (node + 1)
spreading_step count arena whole number before values after node within room some below is spreading =
    subst (λ l. Spreading count arena number before l (node + 1)) (sym is) (record {
      others = keeps_both count before values (slice_set values (place count node number) v) number spreading.others (keeps_others count values node number v within);
      delays = λ i h. elim (cases_eq i node) [
        | inl e ↦ ap (column count (slice_set values (place count node number) v) number) e ∙ column_same count values node number v (place_in count (node_count arena) (length values) node number room' below within)
            ∙ delay_at count arena whole number before values node some below spreading ∙ ap (delay_of (parent_of arena) (node_count arena) (ohms_of count arena number) (farads_of count arena number)) (sym e)
        | inr ne ↦ let ne' : i ≢ node = ne in column_other count values node number v i within ne ∙ spreading.delays i (omega arith)
      ];
      below = λ i from h. let ne : i ≢ node = omega arith in column_other count values node number v i within ne ∙ spreading.below i (omega arith) h;
    })
  where
    v : ℕ
    v = column count values number (parent_of arena node) + ohms_of count arena number node * column count values number node

    room' : node_count arena * count ≤ length values
    room' = let size = spreading.others.size in omega (arith, size, room)

pub gathering_at : (count : ℕ) (arena : Arena) (number : ℕ) (before values : List ℕ) (least node : ℕ) → 0 < least → node ≡ least - 1 → Gathering count arena number before values least → Gathering count arena number before values (suc node)
gathering_at count arena number before values least node some is gathering = subst (λ k. Gathering count arena number before values k) (let e : least ≡ suc node = omega (arith, some, is) in e) gathering
