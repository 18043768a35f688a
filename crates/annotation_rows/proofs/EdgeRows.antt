-- The delays of a path at an edge, by the grid of the largest delays.
use Rattle.std.proofs.Common.{◌≡◌, ℕ, zero, suc, ◌+◌, ◌*◌, ◌<◌, ◌≤◌, ◌==◌, Bool, true, false, if◌then◌else◌, ◌∙◌, ap, ap₂, sym, refl, subst, List, [], ◌∷◌, map, length, Option, Some, None, ℤ, arith}
use Rattle.std.specs.Prelude.{int_lt}
use Rattle.std.specs.List.{range_with_len}
use Rattle.cell_models.specs.declared.edge.Edge.{Edge}
use Rattle.hierarchy.specs.Walks.{joined_from}
use Rattle.slew_order.specs.LivePaths.{larger, largest}
use Rattle.net_delays.proofs.Starts.{row_within}
use Rattle.annotation_rows.specs.CellPaths.{path_of}
use Rattle.annotation_rows.specs.WireRows.{at_corners}
use Rattle.annotation_rows.specs.PathRows.{TimedDesign, IsPrinted, all_times, arc_delay, cell_arcs, delay_of_path, edge_delays}
use Rattle.annotation_rows.specs.PathTables.{AreBests, best_of, delay_on, kept_at}
use Rattle.annotation_rows.proofs.ArcDelays.{printed}
use Rattle.annotation_rows.proofs.Leading.{best_is_path}

pub one_of : (b : Bool) (one other : Option ℤ) → IsPrinted one → IsPrinted other → IsPrinted (if b then one else other)
one_of true one other small also = small
one_of false one other small also = also

printed_larger : (one other : Option ℤ) → IsPrinted one → IsPrinted other → IsPrinted (larger one other)
printed_larger None other small also = also
printed_larger (Some value) None small also = small
printed_larger (Some value) (Some other) small also = one_of (int_lt value other) (Some other) (Some value) also small

pub printed_from : (delay : ℕ → Option ℤ) (from n : ℕ) → ((k : ℕ) → IsPrinted (delay k)) → IsPrinted (largest (joined_from (λ k. delay k ∷ []) from n))
printed_from delay from zero each = tt
printed_from delay from (suc n) each = printed_larger (delay from) (largest (joined_from (λ k. delay k ∷ []) (suc from) n)) (each from) (printed_from delay (suc from) n each)

printed_best : (design : TimedDesign) (instance : ℕ) (edge : Edge) (many path corner : ℕ) → IsPrinted (best_of design instance edge many path corner)
printed_best design instance edge many path corner =
    printed_from (delay_on design instance edge path corner) 0 many
    (λ arc. one_of (path_of (cell_arcs design instance) arc == path) (arc_delay design instance arc edge corner) None (printed design instance arc edge corner) tt)

range_same : (one other : ℕ → Option ℤ) (from n : ℕ) → ((k : ℕ) → k < from + n → one k ≡ other k) → map one (range_with_len from n) ≡ map other (range_with_len from n)
range_same one other from zero each = refl
range_same one other from (suc n) each = ap₂ (λ x xs. x ∷ xs) (each from (omega arith)) (range_same one other (from + 1) n (λ k high. each k (omega (arith, high))))

module _ (design : TimedDesign) (instance : ℕ) (edge : Edge) (count arc : ℕ) (values : List (Option ℤ)) (same : count ≡ design.source.count)
    (within : arc < length (cell_arcs design instance)) (bests : AreBests design instance edge (length (cell_arcs design instance)) values) where
  pub has_row : arc * count + count ≤ length values
  has_row = row_within count arc (length (cell_arcs design instance)) (length values) within
      (let len = bests.len ∙ ap (λ n. length (cell_arcs design instance) * n) (sym same) in omega (arith, len))

  kept_is : (corner : ℕ) → corner < count → kept_at count values arc corner ≡ best_of design instance edge (length (cell_arcs design instance)) arc corner
  kept_is corner below = ap (λ n. kept_at n values arc corner) same ∙ bests.each arc corner within (omega (arith, below, same))

  pub kept_printed : (corner : ℕ) → corner < count → IsPrinted (kept_at count values arc corner)
  kept_printed corner below = subst IsPrinted (sym (kept_is corner below)) (printed_best design instance edge (length (cell_arcs design instance)) arc corner)

  pub edge_is : path_of (cell_arcs design instance) arc ≡ arc → edge_delays design instance arc edge ≡ all_times (at_corners (kept_at count values arc) count)
  edge_is first =
      ap (λ n. all_times (at_corners (delay_of_path design instance arc edge) n)) (sym same)
      ∙ ap all_times (range_same (delay_of_path design instance arc edge) (kept_at count values arc) 0 count
      (λ corner below. sym (kept_is corner (omega (arith, below)) ∙ best_is_path design instance edge arc corner first within)))
