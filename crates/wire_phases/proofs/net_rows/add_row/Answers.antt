use Rattle.std.proofs.Common.{sym, subst, ◌+◌, ◌*◌, ◌<◌, ◌∙◌, arith}
use Rattle.rc_tree.specs.ListedPins.{listed_pins}
use Rattle.elmore_pass.specs.Delays.{delay_limit}
use Rattle.refusals.proofs.Places.{within}
use Rattle.wire_phases.proofs.TreeRows.{delay_is, one_within, adds_row}
use Rattle.wire_phases.proofs.net_rows.add_row.Goals as goal

pub value-elmore-requires : goal.value-elmore-requires
value-elmore-requires g c =
    let delay = c.requires.delays c.sink.result.0 c.sink.ensures.within in
    let below = within c.args.delays.now (c.sink.result.0 * 1 + 0) delay.delay delay.held in
    omega (arith, below)

pub sink_femto-requires : goal.sink_femto-requires
sink_femto-requires g c =
    let delay = c.requires.delays c.sink.result.0 c.sink.ensures.within in
    subst (λ v. v < delay_limit) (delay_is c.args.tree.now c.args.delays.now c.sink.result.0 c.value-elmore.result delay c.value-elmore.ensures.value) delay.small

pub add_wire-requires-clause-within : goal.add_wire-requires-clause-within
add_wire-requires-clause-within g c = one_within c.put_delay.new.delay.values c.sink_femto.result c.put_delay.ensures c.sink_femto.ensures.printed

pub returns-clause-row : goal.returns-clause-row
returns-clause-row g c =
    let delay = c.requires.delays c.sink.result.0 c.sink.ensures.within in
    let is = delay_is c.args.tree.now c.args.delays.now c.sink.result.0 c.value-elmore.result delay c.value-elmore.ensures.value in
    let (name, at, spelled) = c.in_ok-to.ensures in
    adds_row (listed_pins 1 c.args.net.now c.args.pins.now.driver) c.args.tree.now c.args.sink c.sink.result name c.value-elmore.result c.sink_femto.result c.put_delay.new.delay.values c.in_ok-from.from c.in_ok-to.to c.args.rows.now c.add_wire.new.self c.args.delays.now c.add_wire.result
    c.sink.ensures.sink at delay is c.sink_femto.ensures.rounded c.put_delay.ensures (c.in_ok-from.ensures ∙ c.bytes.ensures ∙ c.requires.from) (sym spelled) c.add_wire.ensures.ok
