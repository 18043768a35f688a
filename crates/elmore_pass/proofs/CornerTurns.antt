-- The delays of a tree, corner after corner.
use Rattle.std.proofs.Common.{◌≡◌, ◌≢◌, ℕ, ◌+◌, ◌*◌, ◌<◌, ◌≤◌, List, length, Some, sym, ◌∙◌, ap, subst, arith, inl, inr}
use Rattle.std.proofs.lemmas.Bool.{cases_eq}
use Rattle.std.proofs.lemmas.Option.{slice_get-get_or}
use Rattle.corner_set.specs.Places.{place}
use Rattle.rc_tree.specs.TreeSums.{delay_of}
use Rattle.rc_tree.specs.Arenas.{Arena, IsArena, node_count, parent_of}
use Rattle.rc_tree.proofs.ArenaElmore.{arena_delay}
use Rattle.elmore_pass.specs.Columns.{column, farads_of, ohms_of, KeepsOthers}
use Rattle.elmore_pass.specs.Delays.{HasDelay}
use Rattle.elmore_pass.proofs.Columns.{place_in}
use Rattle.elmore_pass.proofs.States.{delay_bound}

-- the delays of a corner are in their places
abbrev pub IsDelayed : ℕ → Arena → List ℕ → ℕ → Type 0
IsDelayed count arena values number = (node : ℕ) → node < node_count arena → column count values number node
    ≡ delay_of (parent_of arena) (node_count arena) (ohms_of count arena number) (farads_of count arena number) node

pub delayed_step : (count : ℕ) (arena : Arena) (before after : List ℕ) (corner number : ℕ) → corner ≡ number → number < count → KeepsOthers count before after corner → IsDelayed count arena after corner
    → ((k : ℕ) → k < number → IsDelayed count arena before k) → (k : ℕ) → k < number + 1 → IsDelayed count arena after k
delayed_step count arena before after corner number is within keeps here so_far k below = elim (cases_eq k number) [
  | inl e ↦ subst (λ j. IsDelayed count arena after j) (is ∙ sym e) here
  | inr ne ↦ λ node node_below.
      let ne' : k ≢ number = ne in
      let k_below : k < number = omega arith in
      keeps.others node k (omega (arith, k_below, within)) (λ e. ne (e ∙ is)) ∙ so_far k k_below node node_below
]

pub has_delay : (count : ℕ) (arena : Arena) → IsArena count arena → (values : List ℕ) (size number node : ℕ) → length values ≡ size → node_count arena * count ≤ size → number < count → node < node_count arena → IsDelayed count arena values number → HasDelay count arena values node number
has_delay count arena whole values size number node is room within below delayed =
    let d = delay_of (parent_of arena) (node_count arena) (ohms_of count arena number) (farads_of count arena number) node in
    let most = delay_bound count arena whole number node within (omega arith) in
    record {
      delay = d;
      held = slice_get-get_or values (place count node number) 0 (place_in count (node_count arena) (length values) node number (omega (arith, is, room)) below within) ∙ ap Some (delayed node below);
      elmore = arena_delay count arena whole number within (omega arith) node below;
      small = omega (arith, most);
    }
