use Rattle.std.proofs.Common.{◌≡◌, length, ap, arith}
use Rattle.netlist_link.specs.FlatBitTables.{visits_of}
use Rattle.netlist_link.proofs.KeepingBits.{visits_begin, visits_done}
use Rattle.netlist_link.proofs.flat_bits.flat_bits.Goals as goal

pub loop-v-init : goal.loop-v-init
loop-v-init c = visits_begin c.args.design.now _ c.in_ok-place_names.ensures c.new.ensures.items c.in_ok-with_capacity.ensures.items c.in_ok-with_capacity-2.ensures.items

pub returns : goal.returns
returns c =
    let d = c.args.design.now in
    let walk = c.requires.sound.walk in
    let done : c.loop-v.v ≡ length (visits_of d) =
    (let end = ap length c.visits-v-end.ensures in let count = walk.visits_count in let test = c.loop-v-test.false in let fits = c.loop-v.auto.v-end in omega arith) in
    visits_done d c.loop-v.bits c.loop-v.v done c.loop-v.invariant
