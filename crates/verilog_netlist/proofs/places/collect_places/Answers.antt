-- One entry more, and the end.
use Rattle.std.proofs.Common.{◌≡◌, ℕ, length, get_or, refl, subst, arith}
use Rattle.verilog_netlist.specs.PartPlaces.{no_entry, HoldsPlaces}
use Rattle.verilog_netlist.proofs.Placing.{places_next, places_end}
use Rattle.verilog_netlist.proofs.places.collect_places.Goals as goal

pub loop-place-preserved : goal.loop-place-preserved
loop-place-preserved c =
    places_next c.args.entries.now c.loop-place.place c.loop-place-test.true c.loop-place.places c.add.new.self c.loop-place.invariant (get_or c.args.entries.now c.loop-place.place no_entry) refl c.in_ok-add.ensures

pub returns : goal.returns
returns c =
    let end : c.loop-place.place ≡ length c.args.entries.now = let past = c.loop-place-test.false in let few = c.loop-place.auto.place-end in omega arith in
    places_end c.args.entries.now c.loop-place.places c.add_module.new.self (subst (λ (n : ℕ). HoldsPlaces c.args.entries.now n c.loop-place.places) end c.loop-place.invariant) c.in_ok-add_module.ensures.modules
