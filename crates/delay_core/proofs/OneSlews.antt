-- The phases of the slews have one answer.
use Rattle.std.proofs.Common.{◌≡◌, inl, inr, List}
use Rattle.cell_models.specs.NamedSets.{NamedCells}
use Rattle.netlist_link.specs.FlatNetlist.{FlatNetlist}
use Rattle.slew_order.specs.SlewLaws.{IsLoop, IsSameSlewEnd}
use Rattle.slew_order.specs.declared.ends.SlewEnd.{SlewEnd}
use Rattle.slew_order.specs.declared.ends.SlewEnd.TheVariants.{OutOfMemory}
use Rattle.slew_order.proofs.OneSlewEnd.{slews_or_end, one_slew_end}
use Rattle.slew_order.proofs.OneTables.{one_slews}
use Rattle.refusals.specs.SameAnswers.{SameRefusal, some_loop}
use Rattle.refusals.specs.declared.refusal.Refusal.{Refusal}
use Rattle.delay_core.specs.OneTiming.{OneSlews}
use Rattle.delay_core.specs.SlewPhase.{IsSlewRefusal, is_loop, is_outside, is_past_time, is_slew_limit, are_slews, no_slews}

module _ (netlist : FlatNetlist) (cells : List NamedCells) where
  -- an end that is refused is none of memory
  never_short : (end : SlewEnd) (refusal : Refusal) → IsSlewRefusal netlist cells end refusal → end ≡ OutOfMemory → ⊥
  never_short _ _ (is_loop cycle) short = cc
  never_short _ _ (is_outside at edge corner part past) short = cc
  never_short _ _ (is_past_time at edge corner part) short = cc
  never_short _ _ (is_slew_limit net sink instance pin edge corner slew elmore stands) short = cc

  -- an end has one refusal
  one_refusal : (one other : SlewEnd) (some more : Refusal) → IsSlewRefusal netlist cells one some → IsSlewRefusal netlist cells other more → one ≡ other → some ≡ more
  one_refusal _ _ _ _ (is_loop cycle) (is_loop other) same = cc
  one_refusal _ _ _ _ (is_outside at edge corner part past) (is_outside b e c p q) same = cc
  one_refusal _ _ _ _ (is_past_time at edge corner part) (is_past_time b e c p) same = cc
  one_refusal _ _ _ _ (is_slew_limit net sink instance pin edge corner slew elmore stands) (is_slew_limit n k i p e c s m there) same = cc
  one_refusal _ _ _ _ (is_loop cycle) (is_outside b e c p q) same = cc
  one_refusal _ _ _ _ (is_loop cycle) (is_past_time b e c p) same = cc
  one_refusal _ _ _ _ (is_loop cycle) (is_slew_limit n k i p e c s m there) same = cc
  one_refusal _ _ _ _ (is_outside at edge corner part past) (is_loop other) same = cc
  one_refusal _ _ _ _ (is_outside at edge corner part past) (is_past_time b e c p) same = cc
  one_refusal _ _ _ _ (is_outside at edge corner part past) (is_slew_limit n k i p e c s m there) same = cc
  one_refusal _ _ _ _ (is_past_time at edge corner part) (is_loop other) same = cc
  one_refusal _ _ _ _ (is_past_time at edge corner part) (is_outside b e c p q) same = cc
  one_refusal _ _ _ _ (is_past_time at edge corner part) (is_slew_limit n k i p e c s m there) same = cc
  one_refusal _ _ _ _ (is_slew_limit net sink instance pin edge corner slew elmore stands) (is_loop other) same = cc
  one_refusal _ _ _ _ (is_slew_limit net sink instance pin edge corner slew elmore stands) (is_outside b e c p q) same = cc
  one_refusal _ _ _ _ (is_slew_limit net sink instance pin edge corner slew elmore stands) (is_past_time b e c p) same = cc

  -- two loops are refused by whichever
  two_loops : (one other : SlewEnd) (some more : Refusal) → IsSlewRefusal netlist cells one some → IsSlewRefusal netlist cells other more → IsLoop one → IsLoop other → SameRefusal some more
  two_loops _ _ _ _ (is_loop cycle) (is_loop other) r s = inr (some_loop _ _)
  two_loops _ _ _ _ (is_loop cycle) (is_outside b e c p q) r s = let is = s.1 in cc
  two_loops _ _ _ _ (is_loop cycle) (is_past_time b e c p) r s = let is = s.1 in cc
  two_loops _ _ _ _ (is_loop cycle) (is_slew_limit n k i p e c m l there) r s = let is = s.1 in cc
  two_loops _ _ _ _ (is_outside at edge corner part past) b r s = let is = r.1 in cc
  two_loops _ _ _ _ (is_past_time at edge corner part) b r s = let is = r.1 in cc
  two_loops _ _ _ _ (is_slew_limit net sink instance pin edge corner slew elmore stands) b r s = let is = r.1 in cc

  -- ends that are the same have refusals that are
  same_refusals : (one other : SlewEnd) (some more : Refusal) → IsSlewRefusal netlist cells one some → IsSlewRefusal netlist cells other more → IsSameSlewEnd one other → SameRefusal some more
  same_refusals one other some more r s same = elim same [
    | inl short ↦ absurd (never_short one some r short)
    | inr rest ↦ elim rest [
      | inl short ↦ absurd (never_short other more s short)
      | inr last ↦ elim last [
        | inl equal ↦ inl (one_refusal one other some more r s equal)
        | inr loops ↦ two_loops one other some more r s loops.0 loops.1
      ]
    ]
  ]

pub one_slews_answer : OneSlews
one_slews_answer source _ _ (are_slews a r) (are_slews b s) = one_slews source a b r s
one_slews_answer source _ _ (are_slews a r) (no_slews end refusal s t) = absurd (never_short source.netlist source.cells end refusal t (slews_or_end source a end r s))
one_slews_answer source _ _ (no_slews end refusal s t) (are_slews a r) = absurd (never_short source.netlist source.cells end refusal t (slews_or_end source a end r s))
one_slews_answer source _ _ (no_slews one some r p) (no_slews other more s q) = same_refusals source.netlist source.cells one other some more p q (one_slew_end source one other r s)
