use Rattle.liberty_groups.specs.Tables.{tree_of, group_at}
use Rattle.timing_arcs.proofs.DirectionLemmas.{input_some, input_sound, input_none, other_some, other_sound}
use Rattle.timing_arcs.proofs.pins.grains_of.Goals as goal

pub returns-in-Input-clause-some : goal.returns-in-Input-clause-some
returns-in-Input-clause-some c = input_some (tree_of c.args.tree.now) (group_at c.args.tree.now c.args.pin.0) c.args.unit.now c.args.direction c.capacitance_of.result c.in-Input.is c.requires.unit c.capacitance_of.ensures.some

pub returns-in-Input-clause-sound : goal.returns-in-Input-clause-sound
returns-in-Input-clause-sound c = input_sound (tree_of c.args.tree.now) (group_at c.args.tree.now c.args.pin.0) c.args.unit.now c.args.direction c.capacitance_of.result c.requires.direction c.in-Input.is c.requires.unit c.capacitance_of.ensures.some

pub returns-in-Input-clause-none : goal.returns-in-Input-clause-none
returns-in-Input-clause-none c = input_none (tree_of c.args.tree.now) (group_at c.args.tree.now c.args.pin.0) c.args.unit.now c.args.direction c.capacitance_of.result c.requires.direction c.in-Input.is c.requires.unit c.capacitance_of.ensures.none

pub returns-in_default : goal.returns-in_default
returns-in_default c = record {
  some = other_some (tree_of c.args.tree.now) (group_at c.args.tree.now c.args.pin.0) c.args.direction c.in_default.not-Input;
  sound = other_sound (tree_of c.args.tree.now) (group_at c.args.tree.now c.args.pin.0) c.args.direction c.requires.direction c.in_default.not-Input;
  none = tt;
}
