use Rattle.std.proofs.Common.{◌≡◌, length, refl, ◌∙◌, arith}
use Rattle.netlist_link.specs.FlatBitTables.{names_of}
use Rattle.netlist_link.proofs.KeepingBits.{start_step, visit_step}
use Rattle.netlist_link.proofs.KeepingSteps.{visited}
use Rattle.netlist_link.proofs.flat_bits.FlatBits.add_visit.Goals as goal

pub loop-i-init : goal.loop-i-init
loop-i-init c =
    let old = c.args.self.now in
    let len : c.len.result ≡ length old.bits.items = (let len = c.len.ensures in let ok = old.bits.ok in omega arith) in
    start_step c.args.design.now c.args.v c.in_ok-to_u32.field-0 old _ c.requires.held refl refl refl c.in_ok-push.ensures.ok (c.in_ok-to_u32.ensures ∙ len)

pub returns : goal.returns
returns c =
    let d = c.args.design.now in
    let count = c.requires.joined.count in
    let done : c.loop-i.i ≡ length (names_of d c.args.v) =
    (let test = c.loop-i-test.false in let fits = c.loop-i.auto.i-end in omega arith) in
    visit_step d c.args.v c.loop-i.self c.loop-i.i (visited d c.requires.sound.walk c.args.v c.requires.visited d.walk.now.visits refl) done c.loop-i.invariant
