use Rattle.std.proofs.Common.{ℕ, ◌<◌, length, get_or, sym, subst, arith}
use Rattle.verilog_netlist.specs.NetModules.{module_at}
use Rattle.netlist_link.specs.PathTables.{no_visit}
use Rattle.netlist_link.proofs.KeepingSteps.{module_read}
use Rattle.std.proofs.lemmas.Option.{slice_get-get_or}
use Rattle.netlist_link.specs.PortTables.{IsFoundBy, IsPortNamed, ArePortNumbers}
use Rattle.netlist_link.proofs.flat_bits.port_number.Goals as goal

pub bounds-design-m : goal.bounds-design-m
bounds-design-m c =
    let d = c.args.design.now in
    let is = module_read d c.requires.sound.walk c.args.v c.requires.visited c.visits-visits.result.now c.visits-visits.ensures in
    let count = c.requires.sound.ports.count in
    let within = c.requires.within in
    subst (λ (m : ℕ). m < length d.ports.now) (sym is) (omega arith)

pub returns : goal.returns
returns c =
    let d = c.args.design.now in
    let m = (get_or c.visits-visits.result.now c.args.v no_visit).«module» in
    let is = module_read d c.requires.sound.walk c.args.v c.requires.visited c.visits-visits.result.now c.visits-visits.ensures in
    let table = get_or d.ports.now m c.index-design-m.result in
    let below : m < length d.ports.now =
    subst (λ (n : ℕ). n < length d.ports.now) (sym is) (let count = c.requires.sound.ports.count in let within = c.requires.within in omega arith) in
    let kept : ArePortNumbers (module_at d.modules.now m).names table =
    c.requires.sound.ports.each m table (slice_get-get_or d.ports.now m c.index-design-m.result below) in
    subst (λ (n : ℕ). IsFoundBy (IsPortNamed (module_at d.modules.now n).names) (length (module_at d.modules.now n).names) c.args.port.now c.find.result) is
    (subst (IsFoundBy (IsPortNamed (module_at d.modules.now m).names) (length (module_at d.modules.now m).names) c.args.port.now) (sym c.find.ensures)
    (kept c.args.port))
