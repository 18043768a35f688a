use Rattle.std.proofs.Common.{◌≡◌, ℕ, ◌<◌, length, ap, subst, arith}
use Rattle.netlist_link.specs.NamePlaces.{HoldPlaces}
use Rattle.netlist_link.proofs.NamePlacing.{module_more}
use Rattle.netlist_link.proofs.flat_bits.place_names.Goals as goal

pub loop-m-init : goal.loop-m-init
loop-m-init c = record { bits_are = c.new-2.ensures.items; starts_len = ap length c.new.ensures.items; starts_are = λ m below. absurd (omega arith) }

pub loop-m-preserved : goal.loop-m-preserved
loop-m-preserved c =
    let below : c.loop-m.m < length c.args.modules.now = (let end = c.module_count-m-end.ensures in let test = c.loop-m-test.true in omega arith) in
    module_more c.args.modules.now c.loop-m.m below c.loop-m.places c.add_module.new.places c.loop-m.invariant
    c.in_ok-add_module.ensures.starts c.in_ok-add_module.ensures.bits

pub returns : goal.returns
returns c =
    let done : c.loop-m.m ≡ length c.args.modules.now =
    (let end = c.module_count-m-end.ensures in let test = c.loop-m-test.false in let fits = c.loop-m.auto.m-end in omega arith) in
    subst (λ (n : ℕ). HoldPlaces c.args.modules.now n c.loop-m.places) done c.loop-m.invariant
