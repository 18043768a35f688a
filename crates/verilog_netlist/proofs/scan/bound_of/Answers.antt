-- One digit more.
use Rattle.std.proofs.Common.{ℕ, ◌+◌, ◌*◌, sym, ap, ◌∙◌, subst, min}
use Rattle.verilog_netlist.specs.Tokens.{past_bounds}
use Rattle.verilog_netlist.proofs.Bounds.{ValueSoFar, value_more}
use Rattle.verilog_netlist.proofs.scan.bound_of.Goals as goal

pub loop-digit-preserved : goal.loop-digit-preserved
loop-digit-preserved c =
    let digit = c.from.ensures ∙ c.saturating_sub.ensures in
    let value = c.min-value.ensures ∙ ap (λ (n : ℕ). min (c.loop-digit.value * 10 + n) past_bounds) digit in
    subst (λ (v : ℕ). ValueSoFar c.args.digits.now v (c.loop-digit.digit-index + 1)) (sym value)
    (value_more c.args.digits.now c.loop-digit.value c.loop-digit.digit-index c.loop-digit.invariant c.loop-digit-test.true)
