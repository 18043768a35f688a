use Rattle.std.proofs.Common.{sym, subst}
use Rattle.cell_models.specs.declared.edge.Edge.TheVariants.{Rise, Fall}
use Rattle.slew_states.specs.PinState.{IsSmall}
use Rattle.slew_states.proofs.Joins.{small_join}
use Rattle.slew_states.proofs.joining.join_arc.Goals as goal

-- src/joining.rt
pub returns-clause-small : goal.returns-clause-small
returns-clause-small g c = elim [
  | Rise ↦ subst IsSmall (sym c.join.ensures) (small_join c.arc_state-rise.result c.args.others.rise c.arc_state-rise.ensures.small (c.requires.others Rise))
  | Fall ↦ subst IsSmall (sym c.join-2.ensures) (small_join c.arc_state-fall.result c.args.others.fall c.arc_state-fall.ensures.small (c.requires.others Fall))
]
