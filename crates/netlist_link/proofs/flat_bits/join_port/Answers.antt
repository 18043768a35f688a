use Rattle.std.proofs.Common.{◌≡◌, ℕ, ◌+◌, List, length, get_or, set, Some, sym, subst, arith}
use Rattle.hierarchy.specs.declared.walking.Visit.{Visit}
use Rattle.netlist_link.specs.PathTables.{no_visit}
use Rattle.netlist_link.specs.BitTables.{module_of}
use Rattle.netlist_link.specs.FlatBitTables.{connection_of, joined_bits, names_of}
use Rattle.netlist_link.proofs.KeepingSteps.{parent_below}
use Rattle.verilog_netlist.specs.NetModules.{connection_at, bits_at}
use Rattle.netlist_link.specs.FlatBitTables.{HoldJoined}
use Rattle.netlist_link.specs.PortTables.{IsFoundBy, IsPortNamed}
use Rattle.netlist_link.proofs.KeepingSteps.{lower_module_within}
use Rattle.netlist_link.proofs.JoinedNames.{join_one}
use Rattle.netlist_link.proofs.flat_bits.join_port.Goals as goal

pub bounds-visits-visits : goal.bounds-visits-visits
bounds-visits-visits c = rw c.visits-visits.ensures (parent_below c.args.design.now c.requires.sound.walk c.args.v c.requires.lower c.requires.visited)

pub port_number-requires-clause-within : goal.port_number-requires-clause-within
port_number-requires-clause-within c = lower_module_within c.args.design.now c.requires.sound.walk c.args.v c.requires.lower c.requires.visited

pub returns : goal.returns
returns c =
    let d = c.args.design.now in
    let v = c.args.v in
    let names = names_of d v in
    let number = c.in-Some.number in
    let within = lower_module_within d c.requires.sound.walk v c.requires.lower c.requires.visited in
    let port : c.port.result.now ≡ (connection_of d v c.args.c).port =
    subst (λ (visits : List Visit). c.port.result.now ≡ (connection_at d.modules.now (get_or visits (get_or visits v no_visit).parent no_visit).«module»
    (get_or visits v no_visit).instance c.args.c).port) c.visits-visits.ensures c.port.ensures in
    let many : c.bit_count.result ≡ length (joined_bits d v c.args.c) =
    subst (λ (visits : List Visit). c.bit_count.result ≡ length (bits_at d.modules.now (get_or visits (get_or visits v no_visit).parent no_visit).«module»
    (get_or visits v no_visit).instance c.args.c)) c.visits-visits.ensures c.bit_count.ensures in
    let found : IsFoundBy (IsPortNamed names) (length names) c.port.result.now (Some number) =
    subst (IsFoundBy (IsPortNamed names) (length names) c.port.result.now) c.in-Some.is c.port_number.ensures in
    subst (λ (n : ℕ). HoldJoined d v (c.args.c + 1) (set c.args.joined.now number (Some n))) (sym c.in_ok-to_u32.ensures)
    (join_one d v c.args.c c.args.joined.now c.requires.held number (c.sound.ensures.names (module_of d v) within) found.0
    (subst (IsPortNamed names number) port found.1) (let some = c.if-bit_count-eq0.false in omega arith))
