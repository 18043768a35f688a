-- The Elmore delays of a tree as it is kept.
use Rattle.std.proofs.Common.{◌≡◌, ℕ, zero, suc, ◌+◌, ◌-◌, ◌*◌, ◌<◌, map, slice_get, Some, refl, sym, ◌∙◌, ap, subst, arith, inl}
use Rattle.std.specs.List.{range_with_len}
use Rattle.std.proofs.lemmas.List.FromFn.{length-map-range_with_len}
use Rattle.std.proofs.lemmas.Option.{same_Some}
use Rattle.rc_tree.specs.Elmore.{IsElmore}
use Rattle.rc_tree.specs.TreeSums.{pair_sum, delay_of}
use Rattle.rc_tree.specs.Values.{farads_at, ohms_at}
use Rattle.rc_tree.specs.Arenas.{Arena, IsArena, node_count, parent_of, arena_elements}
use Rattle.rc_tree.proofs.Sums.{sum_cong, sum_range}
use Rattle.rc_tree.proofs.Passes.{delay_pairs}
use Rattle.rc_tree.proofs.Walks.{Spans}
use Rattle.rc_tree.proofs.Drawn.{Drawn}
use Rattle.rc_tree.proofs.Elements.{Numbered, Weighs, elmore_is}
use Rattle.rc_tree.proofs.ArenaNets.{arena_down, arena_load}

-- what a stretch of numbers is mapped to, at a place
pub range_at : {X : Type 0} (f : ℕ → X) (a n e : ℕ) → e < n → slice_get (map f (range_with_len a n)) e ≡ Some (f (a + e))
range_at f a zero e below = absurd (omega arith)
range_at f a (suc n) zero below = ap (λ k. Some (f k)) (let e : a ≡ a + 0 = omega arith in e)
range_at f a (suc n) (suc e) below = range_at f (a + 1) n e (omega arith) ∙ ap (λ k. Some (f k)) (let is : a + 1 + e ≡ a + suc e = omega arith in is)

module _ (count : ℕ) (arena : Arena) (whole : IsArena count arena) (number : ℕ) (within : number < count) (some : 0 < node_count arena) where
  pub drawn : Drawn (arena_elements count arena number) (λ j. j) (node_count arena) (node_count arena - 1) (λ e. parent_of arena (1 + e)) (λ e. 1 + e)
  drawn = record {
    some = some;
    driver = refl;
    count = length-map-range_with_len (λ node. record { from = parent_of arena node; to = node; ohms = ohms_at count arena.ohms node number }) 1 (node_count arena - 1);
    joints = λ e below. (record { from = parent_of arena (1 + e); to = 1 + e; ohms = ohms_at count arena.ohms (1 + e) number }, range_at (λ node. record { from = parent_of arena node; to = node; ohms = ohms_at count arena.ohms node number }) 1 (node_count arena - 1) e below, refl, refl);
    within = λ e below. let less = arena_down count arena whole (1 + e) (omega arith) in (omega arith, omega arith);
    one = λ i j i_below j_below same. same;
  }

  pub spans : Spans (node_count arena) (node_count arena - 1) (λ e. parent_of arena (1 + e)) (λ e. 1 + e) (parent_of arena) (λ j. j - 1) (λ e. 1 + e)
  spans = record {
    some = some;
    down = arena_down count arena whole;
    joins = λ j j_some below. (omega arith, inl (ap (parent_of arena) (let e : 1 + (j - 1) ≡ j = omega arith in e), (let e : 1 + (j - 1) ≡ j = omega arith in e)));
    links = λ e below. (omega arith, omega arith, omega arith);
    vias = λ j j_some below. omega arith;
  }

  numbered : Numbered (λ (j : ℕ). j) (node_count arena) (λ j. j)
  numbered = record { there = λ i below. refl; back = λ v below. refl }

  plain : (k : ℕ) → 0 + k ≡ k
  plain k = omega arith

  weighs : Weighs (arena_elements count arena number) (λ j. j) (node_count arena) (λ j. j - 1) (λ j. ohms_at count arena.ohms j number) (λ j. farads_at count arena.farads j number)
  weighs = record {
    none = whole.root number within;
    ohms = λ j j_some below x at.
        let is : 1 + (j - 1) ≡ j = omega arith in
        ap (λ r. r.ohms) (same_Some x (record { from = parent_of arena (1 + (j - 1)); to = 1 + (j - 1); ohms = ohms_at count arena.ohms (1 + (j - 1)) number })
        (sym at ∙ range_at (λ node. record { from = parent_of arena node; to = node; ohms = ohms_at count arena.ohms node number }) 1 (node_count arena - 1) (j - 1) (omega arith)))
        ∙ ap (λ k. ohms_at count arena.ohms k number) is;
    caps = λ h. sum_range (λ at. h at.node * at.farads) (λ node. record { node = node; farads = farads_at count arena.farads node number }) 0 (node_count arena)
        ∙ sum_cong (node_count arena) (λ k. h (0 + k) * farads_at count arena.farads (0 + k) number) (λ k. h k * farads_at count arena.farads k number) (λ k below. ap (λ j. h j * farads_at count arena.farads j number) (plain k));
    load = arena_load count arena number;
  }

  pub arena_pairs : (node : ℕ) → node < node_count arena → IsElmore (arena_elements count arena number) node (pair_sum (parent_of arena) (node_count arena) (λ j. ohms_at count arena.ohms j number) (λ j. farads_at count arena.farads j number) node)
  arena_pairs node below =
      elmore_is (arena_elements count arena number) (λ j. j) (node_count arena) (node_count arena - 1) (λ e. parent_of arena (1 + e)) (λ e. 1 + e) (parent_of arena) (λ j. j - 1) (λ e. 1 + e)
      (λ j. ohms_at count arena.ohms j number) (λ j. farads_at count arena.farads j number) (λ j. j) drawn spans numbered weighs node below

  -- what the two passes leave is the Elmore delay
  pub arena_delay : (node : ℕ) → node < node_count arena → IsElmore (arena_elements count arena number) node (delay_of (parent_of arena) (node_count arena) (λ j. ohms_at count arena.ohms j number) (λ j. farads_at count arena.farads j number) node)
  arena_delay node below =
      subst (λ v. IsElmore (arena_elements count arena number) node v) (sym (delay_pairs (parent_of arena) (node_count arena) (λ j. ohms_at count arena.ohms j number) (λ j. farads_at count arena.farads j number) node)) (arena_pairs node below)
