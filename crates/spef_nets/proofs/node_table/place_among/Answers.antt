use Rattle.std.proofs.Common.{◌≡◌, length, take, ap, sym, ◌∙◌, arith}
use Rattle.std.proofs.Math.Seq.{take-length}
use Rattle.name_table.specs.NodeKeys.{among, same_key}
use Rattle.spef_nets.proofs.FewKeys.{found_key, none_among_more}
use Rattle.spef_nets.proofs.node_table.place_among.Goals as goal

-- src/node_table.rt
pub returns-then-eq-clause-found : goal.returns-then-eq-clause-found
returns-then-eq-clause-found c =
    found_key c.args.few.now c.loop-place.place c.index-few-place.result c.args.key.now c.loop-place-test.true
    (ap (same_key c.args.key.now) (sym c.index-few-place.is) ∙ sym c.eq.ensures ∙ c.if-eq.true)

pub loop-place-preserved : goal.loop-place-preserved
loop-place-preserved c =
    none_among_more c.args.few.now c.loop-place.place c.index-few-place.result c.args.key.now c.loop-place-test.true
    (ap (same_key c.args.key.now) (sym c.index-few-place.is) ∙ sym c.eq.ensures ∙ c.if-eq.false) c.loop-place.invariant

pub returns-clause-absent : goal.returns-clause-absent
returns-clause-absent c =
    let at : c.loop-place.place ≡ length c.args.few.now = omega arith in
    ap (among c.args.key.now) (sym (ap (λ n. take n c.args.few.now) at ∙ take-length c.args.few.now)) ∙ c.loop-place.invariant
