-- The elements of a tree as it is kept.
use Rattle.std.proofs.Common.{◌≡◌, ℕ, ◌+◌, ◌<◌, ◌≤◌, List, Some, sym, ◌∙◌, ap, ap₂, arith, inl, inr}
use Rattle.std.proofs.lemmas.Bool.{cases_lt}
use Rattle.std.proofs.lemmas.List.{get_or_past}
use Rattle.std.proofs.lemmas.Option.{get_or_from_slice_get}
use Rattle.corner_set.specs.Places.{place, value_at}
use Rattle.delay_units.specs.declared.quantities.Farads.{Farads}
use Rattle.delay_units.specs.declared.quantities.Ohms.{Ohms}
use Rattle.rc_tree.specs.NetLoad.{net_load}
use Rattle.rc_tree.specs.Sums.{sum_below}
use Rattle.rc_tree.specs.Values.{farads_at, ohms_at}
use Rattle.rc_tree.specs.Arenas.{Arena, IsArena, node_count, parent_of, arena_elements, most_load}
use Rattle.rc_tree.proofs.Sums.{sum_cong, sum_range, sum_more, sum_mono}
use Rattle.rc_tree.proofs.Above.{Down}

pub farads_read : (count : ℕ) (values : List Farads) (row number : ℕ) (x : Farads) → value_at count values row number ≡ Some x → farads_at count values row number ≡ x.0
farads_read count values row number x at = ap (λ v. v.0) (get_or_from_slice_get values (place count row number) x (record { 0 = 0 }) at)

pub ohms_read : (count : ℕ) (values : List Ohms) (row number : ℕ) (x : Ohms) → value_at count values row number ≡ Some x → ohms_at count values row number ≡ x.0
ohms_read count values row number x at = ap (λ v. v.0) (get_or_from_slice_get values (place count row number) x (record { 0 = 0 }) at)

plain : (k : ℕ) → 0 + k ≡ k
plain k = omega arith

pub arena_load : (count : ℕ) (arena : Arena) (number : ℕ) → net_load (arena_elements count arena number) ≡ sum_below (node_count arena) (λ node. farads_at count arena.farads node number)
arena_load count arena number =
    sum_range (λ at. at.farads) (λ node. record { node = node; farads = farads_at count arena.farads node number }) 0 (node_count arena)
    ∙ sum_cong (node_count arena) (λ k. farads_at count arena.farads (0 + k) number) (λ k. farads_at count arena.farads k number) (λ k h. ap (λ j. farads_at count arena.farads j number) (plain k))

-- the sum up to a node
pub load_step : (count : ℕ) (values : List Farads) (number node sum : ℕ) (x : Farads) → sum ≡ sum_below node (λ j. farads_at count values j number) → value_at count values node number ≡ Some x → sum + x.0 ≡ sum_below (node + 1) (λ j. farads_at count values j number)
load_step count values number node sum x so_far at =
    ap₂ ◌+◌ so_far (sym (farads_read count values node number x at)) ∙ sym (sum_more node (λ j. farads_at count values j number))

pub load_most : (count : ℕ) (arena : Arena) → IsArena count arena → (number node sum : ℕ) (x : Farads) → number < count → node < node_count arena → sum ≡ sum_below node (λ j. farads_at count arena.farads j number) → value_at count arena.farads node number ≡ Some x → sum + x.0 ≤ most_load
load_most count arena whole number node sum x below within so_far at =
    let step = load_step count arena.farads number node sum x so_far at in
    let f : ℕ → ℕ = λ j. farads_at count arena.farads j number in
    let rest : sum_below (node + 1) f ≤ sum_below (node_count arena) f = sum_mono (node + 1) (node_count arena) f (omega arith) in
    let all = arena_load count arena number in
    let most = whole.small_load number below in
    omega (arith, step, rest, all, most)

pub load_end : (count : ℕ) (arena other : Arena) → arena ≡ other → (number sum : ℕ) → sum ≡ sum_below (node_count arena) (λ j. farads_at count arena.farads j number) → sum ≡ net_load (arena_elements count other number)
load_end count arena other is number sum so_far = so_far ∙ sym (arena_load count arena number) ∙ ap (λ a. net_load (arena_elements count a number)) is

pub load_end_most : (count : ℕ) (arena : Arena) → IsArena count arena → (number : ℕ) → number < count → (sum : ℕ) → sum ≡ sum_below (node_count arena) (λ j. farads_at count arena.farads j number) → sum ≤ most_load
load_end_most count arena whole number below sum so_far =
    let all = arena_load count arena number in
    let most = whole.small_load number below in
    omega (arith, so_far, all, most)

-- past the last node there is none, and its parent reads as 0
pub arena_down : (count : ℕ) (arena : Arena) → IsArena count arena → Down (parent_of arena)
arena_down count arena whole node some = elim (cases_lt node (node_count arena)) [
  | inl below ↦ whole.down node some below
  | inr past ↦ let none : parent_of arena node ≡ 0 = get_or_past arena.parents node 0 past in omega (arith, none, some)
]
