-- A row grows by the module of an instance, where it is of one.
use Rattle.std.proofs.Common.{◌<◌, sym, ap, ◌∙◌}
use Rattle.hierarchy.specs.Hierarchy.{instance_count}
use Rattle.hierarchy.proofs.Rows.{row_more, row_same}
use Rattle.hierarchy.proofs.lowers.lowers_in.Goals as goal
use Rattle.hierarchy.proofs.lowers.lowers_in.Goals.{in-Some+in_ok-push, in_default}

pub lower-requires : goal.lower-requires
lower-requires c = record { modules = c.args.modules.now; are = c.requires.cells; within = c.requires.within; place = rw (sym c.instance_count-k-end.ensures) c.loop-k-test.true }

pub loop-k-preserved : goal.loop-k-preserved
loop-k-preserved c =
    let modules = c.args.modules.now in
    let place : c.loop-k.k < instance_count modules c.args.m = rw (sym c.instance_count-k-end.ensures) c.loop-k-test.true in
    elim c.match-lower.branch [
      | in-Some+in_ok-push w ↦
          row_more modules c.args.m c.loop-k.k c.loop-k.row.items c.match-lower.row.items c.loop-k.invariant w.in-Some.lower
          (w.in-Some.ensures.named modules c.requires.cells c.requires.within place)
          (w.in-Some.ensures.within modules c.requires.cells c.requires.within place) (ap (λ v. v.items) w.row-is ∙ w.in_ok-push.ensures.ok)
      | in_default w ↦
          row_same modules c.args.m c.loop-k.k c.loop-k.row.items c.match-lower.row.items c.loop-k.invariant
          (w.in_default.ensures.none modules c.requires.cells c.requires.within place) (ap (λ v. v.items) w.row-is)
    ]
