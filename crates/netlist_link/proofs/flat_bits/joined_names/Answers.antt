use Rattle.std.proofs.Common.{◌≡◌, ℕ, ◌<◌, ◌++◌, take, drop, replicate, length, None, inl, inr, sym, ap, ◌∙◌, subst, arith}
use Rattle.verilog_netlist.specs.NetModules.{module_at}
use Rattle.netlist_link.specs.PathTables.{visit_at, around_at}
use Rattle.netlist_link.specs.BitTables.{module_of}
use Rattle.netlist_link.proofs.KeepingSteps.{module_read, instance_within, around_within}
use Rattle.netlist_link.proofs.KeepingSteps.{lower_module_within}
use Rattle.std.proofs.lemmas.Bool.{cases_lt}
use Rattle.std.proofs.lemmas.List.{take-append-le, take_all, length-replicate}
use Rattle.netlist_link.specs.FlatBitTables.{AreNamesJoined}
use Rattle.netlist_link.proofs.JoinedLower.{none_joined, names_joined}
use Rattle.netlist_link.proofs.flat_bits.joined_names.Goals as goal

pub name_count-requires : goal.name_count-requires
name_count-requires c =
    let d = c.args.design.now in
    let v = c.args.v in
    subst (λ (m : ℕ). m < length d.modules.now) (sym (module_read d c.requires.sound.walk v c.requires.visited c.visits-visits.result.now c.visits-visits.ensures))
    (elim (cases_lt 0 v) [
      | inl lower ↦ lower_module_within d c.requires.sound.walk v lower c.requires.visited
      | inr first ↦ (let same : 0 ≡ v = omega arith in subst (λ (u : ℕ). module_of d u < length d.modules.now) same c.requires.top)
    ])

pub join_ports-requires-clause-held : goal.join_ports-requires-clause-held
join_ports-requires-clause-held c =
    let d = c.args.design.now in
    let v = c.args.v in
    let many = c.name_count.ensures ∙ ap (λ (m : ℕ). length (module_at d.modules.now m).names)
    (module_read d c.requires.sound.walk v c.requires.visited c.visits-visits.result.now c.visits-visits.ensures) in
    none_joined d v c.as_mut_slice.result.now (c.as_mut_slice.ensures.value ∙ c.in_ok-joined.ensures ∙ ap (λ (n : ℕ). replicate n None) many)

pub returns : goal.returns
returns c =
    let d = c.args.design.now in
    let v = c.args.v in
    let walk = c.requires.sound.walk in
    let lower : 0 < v = (let some = c.if-v-eq0.false in omega arith) in
    let within = lower_module_within d walk v lower c.requires.visited in
    let many = c.name_count.ensures ∙ ap (λ (m : ℕ). length (module_at d.modules.now m).names)
    (module_read d walk v c.requires.visited c.visits-visits.result.now c.visits-visits.ensures) in
    let new = c.join_ports.new.joined in
    let items = c.in_ok-joined.joined.items in
    let held = c.in_ok-join_ports.ensures in
    let count = held.count in
    let len = ap length c.in_ok-joined.ensures ∙ length-replicate c.name_count.result None in
    let ok = c.in_ok-joined.joined.ok in
    let whole : take c.in_ok-joined.joined.len (new ++ drop (length new) items) ≡ new =
    take-append-le c.in_ok-joined.joined.len new (drop (length new) items) (omega arith) ∙ take_all c.in_ok-joined.joined.len new (omega arith) in
    subst (AreNamesJoined d v) (sym whole)
    (names_joined d walk v lower c.requires.visited c.requires.design.cells
    (c.requires.faultless c.requires.design.cells c.requires.design.is c.requires.design.distinct)
    (c.sound.ensures.names (module_of d v) within)
    (c.sound.ensures.ports (around_at d.walk.now v).«module» (visit_at d.walk.now v).instance (around_within d walk v lower c.requires.visited)
    (instance_within d walk v lower c.requires.visited)) new held)
