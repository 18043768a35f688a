use Rattle.std.proofs.Common.{Some, sym, ap, ◌∙◌}
use Rattle.name_table.specs.SameKeys.{same_key_is}
use Rattle.rc_tree.proofs.few_pins.FewPins.stands_at.Goals as goal

-- src/few_pins.rt
pub returns-then-place-self : goal.returns-then-place-self
returns-then-place-self c = λ same. c.key.ensures ∙ ap Some (sym (same_key_is c.args.key.now c.key.result (sym c.eq-then-place-self.ensures ∙ same)))
