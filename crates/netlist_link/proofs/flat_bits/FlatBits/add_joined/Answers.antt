use Rattle.std.proofs.Common.{◌≡◌, ℕ, List, ◌++◌, map, take, length, get_or, Option, Some, ap, ◌∙◌, subst, arith}
use Rattle.verilog_netlist.specs.NetModules.{module_at, runs_at, bits_of_run, bits_in}
use Rattle.verilog_netlist.specs.SoundModules.{AreWithin}
use Rattle.hierarchy.specs.declared.walking.Visit.{Visit}
use Rattle.netlist_link.specs.FlatBits.{NetBit}
use Rattle.netlist_link.specs.FlatPins.{wired}
use Rattle.netlist_link.specs.PathTables.{top_of, no_visit, visit_at, around_at}
use Rattle.netlist_link.specs.BitTables.{path_of}
use Rattle.netlist_link.specs.FlatBitTables.{HoldBits, connection_of}
use Rattle.netlist_link.proofs.KeepingBits.{still_kept}
use Rattle.netlist_link.proofs.KeepingSteps.{no_targets_more, parent_below, around_module, instance_within, around_within}
use Rattle.std.specs.Prelude.{slice_get}
use Rattle.std.proofs.lemmas.List.{take_all}
use Rattle.verilog_netlist.specs.declared.runs.Run.{Run}
use Rattle.netlist_link.proofs.JoinedBits.{runs_push}
use Rattle.netlist_link.proofs.flat_bits.FlatBits.add_joined.Goals as goal

pub loop-r-init : goal.loop-r-init
loop-r-init c = λ started targets nets held. no_targets_more c.args.design.now started targets nets c.args.self.now held

pub bounds-visits-parent : goal.bounds-visits-parent
bounds-visits-parent c = rw c.visits-visits.ensures (parent_below c.args.design.now c.requires.sound.walk c.args.v c.requires.lower c.requires.visited)

pub add_run-requires-clause-visited : goal.add_run-requires-clause-visited
add_run-requires-clause-visited c =
    rw c.visits-visits.ensures (parent_below c.args.design.now c.requires.sound.walk c.args.v c.requires.lower c.requires.visited)

pub add_run-requires-clause-has : goal.add_run-requires-clause-has
add_run-requires-clause-has c =
    let d = c.args.design.now in
    let parent = (visit_at d.walk.now c.args.v).parent in
    let w = wired d.modules.now (top_of d.walk.now) (path_of d parent) in
    rw c.visits-visits.ensures (still_kept d parent c.args.self.now c.loop-r.self
    (map w (bits_in (take c.loop-r.r (connection_of d c.args.v c.args.c).runs))) c.requires.has c.loop-r.invariant)

pub add_run-requires-clause-within : goal.add_run-requires-clause-within
add_run-requires-clause-within c =
    let d = c.args.design.now in
    let v = c.args.v in
    let walk = c.requires.sound.walk in
    let lower = c.requires.lower in
    let around = (around_at d.walk.now v).«module» in
    let k = (visit_at d.walk.now v).instance in
    let here : slice_get (runs_at d.modules.now around k c.args.c) c.loop-r.r ≡ Some c.run.result =
    subst (λ (visits : List Visit). slice_get (runs_at d.modules.now (get_or visits (get_or visits v no_visit).parent no_visit).«module»
    (get_or visits v no_visit).instance c.args.c) c.loop-r.r ≡ Some c.run.result) c.visits-visits.ensures c.run.ensures.value in
    let within = c.sound.ensures.runs around k c.args.c c.loop-r.r c.run.result (around_within d walk v lower c.requires.visited)
    (instance_within d walk v lower c.requires.visited) c.requires.within here in
    rw c.visits-visits.ensures (subst (λ (m : ℕ). AreWithin (module_at d.modules.now m).names c.run.result.first c.run.result.count)
    (around_module d walk v lower c.requires.visited) within)

pub loop-r-preserved : goal.loop-r-preserved
loop-r-preserved c = λ started targets nets held.
    let d = c.args.design.now in
    let v = c.args.v in
    let r = c.loop-r.r in
    let around = (around_at d.walk.now v).«module» in
    let k = (visit_at d.walk.now v).instance in
    let runs = (connection_of d v c.args.c).runs in
    let parent = (visit_at d.walk.now v).parent in
    let w = wired d.modules.now (top_of d.walk.now) (path_of d parent) in
    let here : slice_get runs r ≡ Some c.run.result =
    subst (λ (visits : List Visit). slice_get (runs_at d.modules.now (get_or visits (get_or visits v no_visit).parent no_visit).«module»
    (get_or visits v no_visit).instance c.args.c) r ≡ Some c.run.result) c.visits-visits.ensures c.run.ensures.value in
    let so_far = c.loop-r.invariant started targets nets held in
    let added : HoldBits d started ((targets ++ map w (bits_in (take r runs))) ++ map w (bits_of_run c.run.result)) nets c.add_run.new.self =
    subst (λ (visits : List Visit). HoldBits d started ((targets ++ map w (bits_in (take r runs)))
    ++ map (wired d.modules.now (top_of d.walk.now) (path_of d (get_or visits v no_visit).parent)) (bits_of_run c.run.result)) nets c.add_run.new.self)
    c.visits-visits.ensures (c.in_ok-add_run.ensures started (targets ++ map w (bits_in (take r runs))) nets so_far) in
    subst (λ (l : List (Option NetBit)). HoldBits d started l nets c.add_run.new.self) (runs_push w targets runs r c.run.result here) added

pub returns : goal.returns
returns c = λ started targets nets held.
    let d = c.args.design.now in
    let v = c.args.v in
    let runs = (connection_of d v c.args.c).runs in
    let parent = (visit_at d.walk.now v).parent in
    let w = wired d.modules.now (top_of d.walk.now) (path_of d parent) in
    let many : c.run_count-r-end.result ≡ length runs =
    subst (λ (visits : List Visit). c.run_count-r-end.result ≡ length (runs_at d.modules.now (get_or visits (get_or visits v no_visit).parent no_visit).«module»
    (get_or visits v no_visit).instance c.args.c)) c.visits-visits.ensures c.run_count-r-end.ensures in
    let done : c.loop-r.r ≡ length runs =
    (let test = c.loop-r-test.false in let fits = c.loop-r.auto.r-end in omega arith) in
    subst (λ (l : List Run). HoldBits d started (targets ++ map w (bits_in l)) nets c.loop-r.self)
    (ap (λ (n : ℕ). take n runs) done ∙ take_all (length runs) runs (omega arith))
    (c.loop-r.invariant started targets nets held)
