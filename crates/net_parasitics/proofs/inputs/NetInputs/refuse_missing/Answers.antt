use Rattle.std.proofs.Common.{◌≡◌, length, sym, ap, subst, ◌∙◌, arith, inl, inr, true≢false}
use Rattle.std.proofs.lemmas.Bool.{cases_eq}
use Rattle.net_parasitics.specs.Inputs.{Inputs}
use Rattle.net_parasitics.specs.NetTrees.{IsMissing}
use Rattle.net_parasitics.specs.NetSteps.{first_missing}
use Rattle.net_parasitics.proofs.inputs.NetInputs.refuse_missing.Goals as goal

-- src/nets.rt
pub loop-net-init : goal.loop-net-init
loop-net-init g c = λ net less. absurd (omega (arith, less))

pub returns-then-is_missing-clause-refused : goal.returns-then-is_missing-clause-refused
returns-then-is_missing-clause-refused g c = first_missing c.loop-net.net (c.is_missing.ensures.0 c.if-is_missing.true) c.loop-net.invariant

pub loop-net-preserved : goal.loop-net-preserved
loop-net-preserved g c = λ net less. elim (cases_eq net c.loop-net.net) [
  | inl same ↦ λ missing. true≢false (sym (c.is_missing.ensures.1 (subst (IsMissing c.args.self.now) same missing)) ∙ c.if-is_missing.false)
  | inr other ↦ c.loop-net.invariant net (omega (arith, less, other))
]

pub returns-clause-none : goal.returns-clause-none
returns-clause-none g c = λ net missing.
    let many : c.net_count-net-end.result ≡ length c.args.self.now.netlist.nets =
    c.net_count-net-end.ensures.count ∙ ap (λ (i : Inputs). length i.netlist.nets) c.self.view_is in
    c.loop-net.invariant net (let there = missing.wired.there in omega (arith, there, many, c.loop-net-test.false)) missing
