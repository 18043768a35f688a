use Rattle.std.proofs.Common.{◌+◌, [], ◌++◌, map, Some, subst, arith}
use Rattle.hierarchy.specs.Walks.{joined_from}
use Rattle.netlist_link.specs.FlatBits.{bits_of_name, nets_of_name}
use Rattle.netlist_link.specs.FlatPins.{wired}
use Rattle.netlist_link.specs.PathTables.{top_of, visit_at}
use Rattle.netlist_link.specs.BitTables.{path_of}
use Rattle.netlist_link.specs.FlatBitTables.{joined_bits, IsNameJoined, IsJoinedBy, targets_before, nets_before, targets_of_name}
use Rattle.netlist_link.proofs.KeepingBits.{visit_kept, name_step}
use Rattle.netlist_link.proofs.KeepingSteps.{no_nets_more, parent_less, lower_targets}
use Rattle.netlist_link.proofs.JoinedBits.{own_targets, own_nets, joined_nets}
use Rattle.netlist_link.proofs.flat_bits.FlatBits.add_name.Goals as goal

pub add_joined-requires-clause-has : goal.add_joined-requires-clause-has
add_joined-requires-clause-has c =
    let d = c.args.design.now in
    let v = c.args.v in
    let i = c.args.i in
    let by : IsJoinedBy d v i c.in-Some.c = subst (IsNameJoined d v i) c.in-Some.is c.requires.joined in
    visit_kept d v (v + 1) (visit_at d.walk.now v).parent (joined_from (targets_of_name d.modules.now (top_of d.walk.now) (path_of d v)) 0 i)
    (nets_before d v ++ joined_from (nets_of_name d.modules.now (top_of d.walk.now) (path_of d v)) 0 i) c.args.self.now
    (parent_less d c.requires.sound.walk v by.lower c.requires.visited) (omega arith) c.requires.held

pub returns-in_ok-add_joined-in-Some : goal.returns-in_ok-add_joined-in-Some
returns-in_ok-add_joined-in-Some c =
    let d = c.args.design.now in
    let v = c.args.v in
    let i = c.args.i in
    let modules = d.modules.now in
    let top = top_of d.walk.now in
    let by : IsJoinedBy d v i c.in-Some.c = subst (IsNameJoined d v i) c.in-Some.is c.requires.joined in
    let targets = targets_before d v ++ joined_from (targets_of_name modules top (path_of d v)) 0 i in
    let nets = nets_before d v ++ joined_from (nets_of_name modules top (path_of d v)) 0 i in
    let more = map (wired modules top (path_of d (visit_at d.walk.now v).parent)) (joined_bits d v c.in-Some.c) in
    name_step d v c.add_joined.new.self i more [] (lower_targets d c.requires.sound.walk v by.lower c.requires.visited c.args.self.now.names i c.in-Some.c by)
    (joined_nets modules top (path_of d v) i (joined_bits d v c.in-Some.c) by.joined)
    (no_nets_more d (v + 1) (targets ++ more) nets c.add_joined.new.self (c.in_ok-add_joined-in-Some.ensures (v + 1) targets nets c.requires.held))

pub returns-in_ok-add_nets-in-None : goal.returns-in_ok-add_nets-in-None
returns-in_ok-add_nets-in-None c =
    let d = c.args.design.now in
    let v = c.args.v in
    let i = c.args.i in
    let modules = d.modules.now in
    let top = top_of d.walk.now in
    let none = subst (IsNameJoined d v i) c.in-None.is c.requires.joined in
    let targets = targets_before d v ++ joined_from (targets_of_name modules top (path_of d v)) 0 i in
    let nets = nets_before d v ++ joined_from (nets_of_name modules top (path_of d v)) 0 i in
    name_step d v c.add_nets.new.self i (map Some (bits_of_name modules top (path_of d v) i)) (bits_of_name modules top (path_of d v) i)
    (own_targets modules top (path_of d v) i none) (own_nets modules top (path_of d v) i none)
    (c.in_ok-add_nets-in-None.ensures (v + 1) targets nets c.requires.held)
