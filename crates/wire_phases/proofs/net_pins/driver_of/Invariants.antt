use Rattle.std.proofs.Common.{◌≡◌, ◌<◌, length, take}
use Rattle.std.specs.Prelude.{IfSome, filter}
use Rattle.wire_phases.specs.WireNets.{drives}
use Rattle.wire_phases.specs.NetPins.{conn_of}
use Rattle.wire_phases.proofs.net_pins.driver_of.Given as goal

abbrev pub invariant-loop-place : goal.invariant-loop-place
invariant-loop-place l =
    (filter drives (take l.place l.net.conns) ≡ conn_of l.net l.found) × IfSome l.found (λ driver. driver < length l.net.conns)
