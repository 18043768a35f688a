-- The digits that the longer number has before the other, and one digit more of both.
use Rattle.std.proofs.Common.{◌-◌, min, length, refl, sym, ap, ap₂, ◌∙◌, ◌++◌, arith}
use Rattle.std.proofs.lemmas.List.{take-append-drop}
use Rattle.verilog_netlist.specs.Tokens.{past_bounds, value_after}
use Rattle.verilog_netlist.proofs.Bounds.{value_behind, distance_more, distance_ends}
use Rattle.verilog_netlist.proofs.scan.distance.Goals as goal

pub loop-place-init : goal.loop-place-init
loop-place-init c =
    let longer = c.args.longer.now in
    let front = c.split_at.result.0.now in
    let rest = c.split_at.result.1.now in
    let whole = ap₂ (λ a b. a ++ b) c.split_at.ensures.front c.split_at.ensures.back ∙ take-append-drop (length longer - length c.args.shorter.now) longer in
    record {
      one = value_after 0 front;
      other = 0;
      one_is = sym (value_behind 0 front rest) ∙ ap (value_after 0) whole;
      other_is = refl;
      ahead = let is = c.bound_of-above.ensures in omega arith;
      behind = omega arith;
    }

pub loop-place-preserved : goal.loop-place-preserved
loop-place-preserved c =
    let x = c.from.ensures ∙ c.saturating_sub.ensures in
    let y = c.from-in-loop-place.ensures ∙ c.saturating_sub-in-loop-place.ensures in
    let x_fits = c.type_inv.rest c.loop-place.place in
    let y_fits = c.type_inv.shorter c.loop-place.place in
    distance_more c.args.longer.now c.args.shorter.now c.split_at.result.1.now c.loop-place.above c.loop-place.below c.loop-place.place c.from.result c.from-in-loop-place.result
    c.loop-place.invariant (let test = c.loop-place-test.true in let len = c.split_at.ensures.back_len in let fits = c.requires in omega arith) c.loop-place-test.true x y (omega arith) (omega arith) _ _
    (c.min-above.ensures ∙ ap (λ n. min n past_bounds) c.saturating_sub-in-loop-place-2.ensures)
    (c.min-below.ensures ∙ ap (λ n. min n past_bounds) c.saturating_sub-in-loop-place-3.ensures)

pub returns : goal.returns
returns c =
    c.max.ensures
    ∙ distance_ends c.args.longer.now c.args.shorter.now c.split_at.result.1.now c.loop-place.above c.loop-place.below c.loop-place.place c.loop-place.invariant
    (let test = c.loop-place-test.false in let len = c.split_at.ensures.back_len in let fits = c.requires in omega arith) c.loop-place-test.false
