use Rattle.std.proofs.Common.{◌<◌, length, Option, ℕ, sym, ap, subst, ◌∙◌, arith}
use Rattle.std.specs.Prelude.{IfSome}
use Rattle.wire_phases.specs.NetPins.{conn_of, IsDriverEnd}
use Rattle.wire_phases.proofs.PinLists.{next_drivers, next_within, two_drivers, one_driver}
use Rattle.wire_phases.proofs.net_pins.driver_of.Goals as goal

pub returns-in-Err-clause-err : goal.returns-in-Err-clause-err
returns-in-Err-clause-err c =
    let several = c.in-Err.ensures in
    subst (IsDriverEnd c.args.net.now) (sym several.3)
    (two_drivers c.args.net.now c.loop-place.place several.0 c.conn.result c.conn.ensures.conn several.2
    (subst (λ (o : Option ℕ). IfSome o (λ driver. driver < length c.args.net.now.conns)) several.1 c.loop-place.invariant.1) (c.loop-place.invariant.0 ∙ ap (conn_of c.args.net.now) several.1))

pub returns-in-Some-clause-ok : goal.returns-in-Some-clause-ok
returns-in-Some-clause-ok c =
    one_driver c.args.net.now c.loop-place.place c.in-Some.driver (omega (arith, c.loop-place-test.false, c.conn_count-place-end.ensures)) (c.loop-place.invariant.0 ∙ ap (conn_of c.args.net.now) c.in-Some.is)
    (subst (λ (o : Option ℕ). IfSome o (λ driver. driver < length c.args.net.now.conns)) c.in-Some.is c.loop-place.invariant.1)

pub loop-place-preserved : goal.loop-place-preserved
loop-place-preserved c = (
  next_drivers c.args.net.now c.loop-place.place c.conn.result c.loop-place.found c.in-Ok.next c.conn.ensures.conn c.loop-place.invariant.0 c.in-Ok.ensures,
  next_within c.args.net.now c.loop-place.place c.conn.result c.loop-place.found c.in-Ok.next c.loop-place.invariant.1 c.conn.ensures.conn c.in-Ok.ensures,
)
