-- One instance more of the module.
use Rattle.std.proofs.Common.{◌<◌, length, replicate, false, sym, ap, ◌∙◌, arith}
use Rattle.std.proofs.lemmas.Option.{slice_get_within}
use Rattle.hierarchy.specs.Hierarchy.{instance_count}
use Rattle.hierarchy.proofs.Marking.{none_marked}
use Rattle.hierarchy.proofs.OneFile.{own_few, own_more, own_all}
use Rattle.hierarchy.proofs.uses.cells_of_one.Goals as goal

pub number-number-requires : goal.number-number-requires
number-number-requires c = record {
  modules = c.args.modules.now;
  are = c.requires.cells;
  within = c.requires.within;
  place = rw (sym c.instance_count-instance-end.ensures) c.loop-instance-test.true;
}

pub use_name-requires-clause-room : goal.use_name-requires-clause-room
use_name-requires-clause-room c =
    let place : c.loop-instance.instance < instance_count c.args.modules.now c.args.top =
    rw (sym c.instance_count-instance-end.ensures) c.loop-instance-test.true in
    own_few c.args.modules.now c.requires.one c.args.top c.requires.within c.requires.walkable c.loop-instance.instance c.loop-instance.names place
    c.loop-instance.invariant.0

pub use_name-requires-clause-within : goal.use_name-requires-clause-within
use_name-requires-clause-within c =
    let place : c.loop-instance.instance < instance_count c.args.modules.now c.args.top =
    rw (sym c.instance_count-instance-end.ensures) c.loop-instance-test.true in
    slice_get_within c.args.cells.now.names c.number-number.result _ (c.number-number.ensures c.args.modules.now c.requires.cells c.requires.within place)

pub loop-instance-init : goal.loop-instance-init
loop-instance-init c =
    let many = c.len.ensures.len ∙ ap length c.names.ensures in (
      c.new-names.ensures,
      none_marked c.args.cells.now.names c.in_ok-marks.marks.items c.new-names.result
          (c.in_ok-marks.ensures ∙ ap (λ n. replicate n false) many),
    )

pub loop-instance-preserved : goal.loop-instance-preserved
loop-instance-preserved c =
    let place : c.loop-instance.instance < instance_count c.args.modules.now c.args.top =
    rw (sym c.instance_count-instance-end.ensures) c.loop-instance-test.true in
    let here = c.number-number.ensures c.args.modules.now c.requires.cells c.requires.within place in (
      own_more c.args.modules.now c.requires.one c.args.top c.requires.within c.requires.walkable c.loop-instance.instance c.loop-instance.names _ place
          c.loop-instance.invariant.0 (λ held. c.in_ok-use_name.ensures.held _ here held) (λ fresh. c.in_ok-use_name.ensures.added _ here fresh),
      c.in_ok-use_name.ensures.marked,
    )

pub returns : goal.returns
returns c =
    own_all c.args.modules.now c.requires.one c.args.top c.requires.within c.requires.walkable c.loop-instance.instance c.loop-instance.names
    (omega (arith, c.instance_count-instance-end.ensures, c.loop-instance-test.false)) c.loop-instance.invariant.0
