-- The pin that is found, and pins that were looked through.
use Rattle.std.proofs.Common.{Some, sym, ap, ◌∙◌, arith}
use Rattle.std.proofs.lemmas.List.Folds.{list_any_none}
use Rattle.name_table.specs.NodeKeys.{same_key}
use Rattle.name_table.specs.SameKeys.{same_key_is}
use Rattle.rc_tree.proofs.few_pins.FewPins.place_of.Goals as goal

-- src/few_pins.rt
pub returns-then-eq-clause-found : goal.returns-then-eq-clause-found
returns-then-eq-clause-found c =
    c.key.ensures ∙ ap Some (sym (same_key_is c.args.key.now c.key.result (sym c.eq-in-loop-place.ensures ∙ c.if-eq.true)))

pub returns-clause-absent : goal.returns-clause-absent
returns-clause-absent c =
    list_any_none (same_key c.args.key.now) c.args.self.now (λ k d below. c.loop-place.invariant k d (omega (arith, below, c.loop-place-test.false, c.len-place-end.ensures)))
