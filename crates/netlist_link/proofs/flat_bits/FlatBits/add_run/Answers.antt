use Rattle.std.proofs.Common.{◌≡◌, ℕ, ◌+◌, List, ◌++◌, map, refl, sym, ◌∙◌, subst, arith}
use Rattle.verilog_netlist.specs.NetModules.{bits_from, bit_after}
use Rattle.verilog_netlist.specs.declared.runs.Bit.{Bit}
use Rattle.netlist_link.specs.FlatBits.{NetBit}
use Rattle.netlist_link.specs.FlatPins.{wired}
use Rattle.netlist_link.specs.PathTables.{top_of}
use Rattle.netlist_link.specs.BitTables.{path_of, IsBitIn}
use Rattle.netlist_link.specs.FlatBitTables.{IsKept, HoldBits}
use Rattle.netlist_link.proofs.KeepingBits.{still_kept, number_to}
use Rattle.netlist_link.proofs.KeepingSteps.{no_targets_more, module_read, visited}
use Rattle.netlist_link.proofs.JoinedBits.{run_push, run_inside}
use Rattle.netlist_link.proofs.flat_bits.FlatBits.add_run.Goals as goal

pub loop-number-init : goal.loop-number-init
loop-number-init c = λ started targets nets held. no_targets_more c.args.design.now started targets nets c.args.self.now held

pub kept-net-requires : goal.kept-net-requires
kept-net-requires c =
    let d = c.args.design.now in
    let visit = c.args.visit in
    let w = wired d.modules.now (top_of d.walk.now) (path_of d visit) in
    record {
      within = record {
        design = d;
        has = still_kept d visit c.args.self.now c.loop-number.self (map w (bits_from c.args.run.first c.loop-number.number)) c.requires.has
            c.loop-number.invariant;
        module_is = module_read d c.requires.sound.walk visit c.requires.visited c.visits.result.now c.visits.ensures;
        inside = subst (IsBitIn d visit) (sym c.bit.ensures) (run_inside d visit c.args.run.first c.args.run.count c.loop-number.number
            (visited d c.requires.sound.walk visit c.requires.visited d.walk.now.visits refl) c.requires.within
            (let test = c.loop-number-test.true in omega arith));
      };
    }

pub loop-number-preserved : goal.loop-number-preserved
loop-number-preserved c = λ started targets nets held.
    let d = c.args.design.now in
    let visit = c.args.visit in
    let first = c.args.run.first in
    let number = c.loop-number.number in
    let w = wired d.modules.now (top_of d.walk.now) (path_of d visit) in
    let so_far = c.loop-number.invariant started targets nets held in
    let has = still_kept d visit c.args.self.now c.loop-number.self (map w (bits_from first number)) c.requires.has c.loop-number.invariant in
    let inside : IsBitIn d visit c.bit.result =
    subst (IsBitIn d visit) (sym c.bit.ensures) (run_inside d visit first c.args.run.count number
    (visited d c.requires.sound.walk visit c.requires.visited d.walk.now.visits refl) c.requires.within (let test = c.loop-number-test.true in omega arith)) in
    let is : IsKept nets (w (bit_after first number)) c.kept-net.result =
    subst (λ (kept : List NetBit). IsKept kept (w (bit_after first number)) c.kept-net.result) (sym has.held.nets_are ∙ so_far.nets_are)
    (subst (λ (b : Bit). IsKept has.nets (w b) c.kept-net.result) c.bit.ensures
    (c.kept-net.ensures.on d has (module_read d c.requires.sound.walk visit c.requires.visited c.visits.result.now c.visits.ensures) inside)) in
    number_to d started (targets ++ map w (bits_from first number)) nets c.loop-number.self _ so_far (targets ++ map w (bits_from first (number + 1)))
    (w (bit_after first number)) c.kept-net.result (run_push w targets first number) refl refl refl c.in_ok-push.ensures.ok is

pub returns : goal.returns
returns c = λ started targets nets held.
    let d = c.args.design.now in
    let w = wired d.modules.now (top_of d.walk.now) (path_of d c.args.visit) in
    let done : c.loop-number.number ≡ c.args.run.count =
    (let test = c.loop-number-test.false in let fits = c.loop-number.auto.number-end in omega arith) in
    subst (λ (n : ℕ). HoldBits d started (targets ++ map w (bits_from c.args.run.first n)) nets c.loop-number.self) done
    (c.loop-number.invariant started targets nets held)
