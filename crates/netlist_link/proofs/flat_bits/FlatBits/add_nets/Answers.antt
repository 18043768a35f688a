use Rattle.std.proofs.Common.{◌≡◌, ℕ, ◌<◌, [], ◌++◌, map, length, Some, refl, sym, ap, ◌∙◌, subst, arith}
use Rattle.verilog_netlist.specs.NetModules.{module_at, name_at}
use Rattle.verilog_netlist.specs.Ranges.{whole_width}
use Rattle.netlist_link.specs.BitTables.{module_of, IsBitOf}
use Rattle.netlist_link.specs.FlatBitTables.{HoldBits}
use Rattle.netlist_link.specs.declared.flat_bits.NetPlace.{NetPlace}
use Rattle.netlist_link.proofs.KeepingSteps.{own_bits, no_targets_more, no_nets_more, own_push, module_read, visited}
use Rattle.netlist_link.proofs.BitPlaces.{named_within}
use Rattle.netlist_link.proofs.flat_bits.FlatBits.add_nets.Goals as goal

pub width-bit-end-requires-clause-within : goal.width-bit-end-requires-clause-within
width-bit-end-requires-clause-within c =
    let d = c.args.design.now in
    let is = module_read d c.requires.sound.walk c.args.visit c.requires.within c.visits.result.now c.visits.ensures in
    subst (λ (m : ℕ). m < length d.modules.now) (sym is) (named_within d.modules.now (module_of d c.args.visit) c.args.name c.requires.name)

pub width-bit-end-requires-clause-place : goal.width-bit-end-requires-clause-place
width-bit-end-requires-clause-place c =
    let d = c.args.design.now in
    let is = module_read d c.requires.sound.walk c.args.visit c.requires.within c.visits.result.now c.visits.ensures in
    subst (λ (m : ℕ). c.args.name < length (module_at d.modules.now m).names) (sym is) c.requires.name

pub loop-bit-init : goal.loop-bit-init
loop-bit-init c = λ started targets nets held.
    no_nets_more c.args.design.now started (targets ++ []) nets c.args.self.now (no_targets_more c.args.design.now started targets nets c.args.self.now held)

pub loop-bit-preserved : goal.loop-bit-preserved
loop-bit-preserved c = λ started targets nets held.
    let d = c.args.design.now in
    let visit = c.args.visit in
    let name = c.args.name in
    let i = c.loop-bit.bit in
    let place : NetPlace = record { visit = c.in_ok-in_visit.in_visit; name = c.in_ok-named.named; bit = i } in
    let own = own_bits d visit name i in
    let is = module_read d c.requires.sound.walk visit c.requires.within c.visits.result.now c.visits.ensures in
    let width = c.width-bit-end.ensures.width ∙ ap (λ (m : ℕ). whole_width (name_at d.modules.now m name).range) is in
    let base : IsBitOf d visit name i = record {
      visit_below = visited d c.requires.sound.walk visit c.requires.within d.walk.now.visits refl;
      name_below = c.requires.name;
      bit_below = (let test = c.loop-bit-test.true in omega arith);
    } in
    let inside : IsBitOf d place.visit place.name place.bit =
    subst (λ (v : ℕ). IsBitOf d v place.name i) (sym c.in_ok-in_visit.ensures)
    (subst (λ (n : ℕ). IsBitOf d visit n i) (sym c.in_ok-named.ensures) base) in
    own_push d started targets nets c.add_net.new.self visit name i place c.in_ok-in_visit.ensures c.in_ok-named.ensures refl
    (c.in_ok-add_net.ensures d started (targets ++ map Some own) (nets ++ own) (c.loop-bit.invariant started targets nets held) inside)

pub returns : goal.returns
returns c = λ started targets nets held.
    let d = c.args.design.now in
    let visit = c.args.visit in
    let name = c.args.name in
    let is = module_read d c.requires.sound.walk visit c.requires.within c.visits.result.now c.visits.ensures in
    let width = c.width-bit-end.ensures.width ∙ ap (λ (m : ℕ). whole_width (name_at d.modules.now m name).range) is in
    let done : c.loop-bit.bit ≡ whole_width (name_at d.modules.now (module_of d visit) name).range =
    (let test = c.loop-bit-test.false in let fits = c.loop-bit.auto.bit-end in omega arith) in
    subst (λ (n : ℕ). HoldBits d started (targets ++ map Some (own_bits d visit name n)) (nets ++ own_bits d visit name n) c.loop-bit.self) done
    (c.loop-bit.invariant started targets nets held)
