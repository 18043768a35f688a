use Rattle.std.proofs.Common.{◌≡◌, ℕ, ◌+◌, ◌<◌, ◌≤◌, length, get_or, None, sym, ap, ◌∙◌, subst, arith}
use Rattle.std.proofs.lemmas.List.{get_or_read}
use Rattle.verilog_netlist.specs.NetModules.{module_at}
use Rattle.verilog_netlist.specs.declared.runs.Bit.{Bit}
use Rattle.verilog_netlist.specs.declared.runs.Bit.TheVariants.{Wire}
use Rattle.netlist_link.specs.FlatPins.{wired}
use Rattle.netlist_link.specs.NamePlaces.{bits_before}
use Rattle.netlist_link.specs.PathTables.{top_of}
use Rattle.netlist_link.specs.BitTables.{path_of, module_of, IsBitOf, IsBitIn}
use Rattle.netlist_link.specs.FlatBitTables.{IsKept, targets_before}
use Rattle.netlist_link.proofs.BitPlaces.{module_there, visit_started, start_is, place_within, place_is}
use Rattle.netlist_link.proofs.flat_bits.FlatBits.kept.Goals as goal

pub overflow_add-index : goal.overflow_add-index
overflow_add-index c =
    let bits = c.args.self.now in
    let visit = c.args.visit in
    let d = c.requires.within.design in
    let has = c.requires.within.has in
    let inside : IsBitOf d visit c.in-Wire.name c.in-Wire.bit = subst (IsBitIn d visit) c.in-Wire.is c.requires.within.inside in
    let below = subst (λ (m : ℕ). m < length d.modules.now) (sym c.requires.within.module_is) (module_there d visit bits has c.in-Wire.name c.in-Wire.bit inside) in
    let start = get_or_read bits.starts.items visit c.index.result.now (visit_started d visit bits has c.in-Wire.name c.in-Wire.bit inside) c.index.ensures 0
    ∙ start_is d visit bits has c.in-Wire.name c.in-Wire.bit inside in
    let named = inside.name_below in
    let before = c.before-in-Wire.ensures d.modules.now has.held.names below
    (subst (λ (m : ℕ). c.in-Wire.name ≤ length (module_at d.modules.now m).names) (sym c.requires.within.module_is) (omega arith)) in
    let there = place_within d visit bits has c.in-Wire.name c.in-Wire.bit inside in
    let same = ap (λ (m : ℕ). bits_before (module_at d.modules.now m).names c.in-Wire.name) c.requires.within.module_is in
    let ok = bits.bits.ok in
    let small = bits.bits.small in
    omega arith

pub overflow_add-index-in-Wire : goal.overflow_add-index-in-Wire
overflow_add-index-in-Wire c =
    let bits = c.args.self.now in
    let visit = c.args.visit in
    let d = c.requires.within.design in
    let has = c.requires.within.has in
    let inside : IsBitOf d visit c.in-Wire.name c.in-Wire.bit = subst (IsBitIn d visit) c.in-Wire.is c.requires.within.inside in
    let below = subst (λ (m : ℕ). m < length d.modules.now) (sym c.requires.within.module_is) (module_there d visit bits has c.in-Wire.name c.in-Wire.bit inside) in
    let start = get_or_read bits.starts.items visit c.index.result.now (visit_started d visit bits has c.in-Wire.name c.in-Wire.bit inside) c.index.ensures 0
    ∙ start_is d visit bits has c.in-Wire.name c.in-Wire.bit inside in
    let named = inside.name_below in
    let before = c.before-in-Wire.ensures d.modules.now has.held.names below
    (subst (λ (m : ℕ). c.in-Wire.name ≤ length (module_at d.modules.now m).names) (sym c.requires.within.module_is) (omega arith)) in
    let there = place_within d visit bits has c.in-Wire.name c.in-Wire.bit inside in
    let same = ap (λ (m : ℕ). bits_before (module_at d.modules.now m).names c.in-Wire.name) c.requires.within.module_is in
    let ok = bits.bits.ok in
    let small = bits.bits.small in
    omega arith

pub index-requires-in-Wire : goal.index-requires-in-Wire
index-requires-in-Wire c =
    let bits = c.args.self.now in
    let visit = c.args.visit in
    let d = c.requires.within.design in
    let has = c.requires.within.has in
    let inside : IsBitOf d visit c.in-Wire.name c.in-Wire.bit = subst (IsBitIn d visit) c.in-Wire.is c.requires.within.inside in
    let below = subst (λ (m : ℕ). m < length d.modules.now) (sym c.requires.within.module_is) (module_there d visit bits has c.in-Wire.name c.in-Wire.bit inside) in
    let start = get_or_read bits.starts.items visit c.index.result.now (visit_started d visit bits has c.in-Wire.name c.in-Wire.bit inside) c.index.ensures 0
    ∙ start_is d visit bits has c.in-Wire.name c.in-Wire.bit inside in
    let named = inside.name_below in
    let before = c.before-in-Wire.ensures d.modules.now has.held.names below
    (subst (λ (m : ℕ). c.in-Wire.name ≤ length (module_at d.modules.now m).names) (sym c.requires.within.module_is) (omega arith)) in
    let there = place_within d visit bits has c.in-Wire.name c.in-Wire.bit inside in
    let same = ap (λ (m : ℕ). bits_before (module_at d.modules.now m).names c.in-Wire.name) c.requires.within.module_is in
    let ok = bits.bits.ok in
    omega arith

pub returns-in-Wire : goal.returns-in-Wire
returns-in-Wire c = record {
  on = λ d has module_is inside_any.
      let bits = c.args.self.now in
      let visit = c.args.visit in
      let inside : IsBitOf d visit c.in-Wire.name c.in-Wire.bit = subst (IsBitIn d visit) c.in-Wire.is inside_any in
      let below = subst (λ (m : ℕ). m < length d.modules.now) (sym module_is) (module_there d visit bits has c.in-Wire.name c.in-Wire.bit inside) in
      let start = get_or_read bits.starts.items visit c.index.result.now (visit_started d visit bits has c.in-Wire.name c.in-Wire.bit inside) c.index.ensures 0
      ∙ start_is d visit bits has c.in-Wire.name c.in-Wire.bit inside in
      let named = inside.name_below in
      let before = c.before-in-Wire.ensures d.modules.now has.held.names below
      (subst (λ (m : ℕ). c.in-Wire.name ≤ length (module_at d.modules.now m).names) (sym module_is) (omega arith))
      ∙ ap (λ (m : ℕ). bits_before (module_at d.modules.now m).names c.in-Wire.name) module_is in
      let there = place_within d visit bits has c.in-Wire.name c.in-Wire.bit inside in
      let place : c.index.result.now + c.before-in-Wire.result + c.in-Wire.bit
      ≡ length (targets_before d visit) + bits_before (module_at d.modules.now (module_of d visit)).names c.in-Wire.name + c.in-Wire.bit = omega arith in
      let read = get_or_read bits.bits.items (c.index.result.now + c.before-in-Wire.result + c.in-Wire.bit) c.index-in-Wire.result.now (omega arith)
      c.index-in-Wire.ensures None ∙ ap (λ (n : ℕ). get_or bits.bits.items n None) place in
      subst (λ (b : Bit). IsKept has.nets (wired d.modules.now (top_of d.walk.now) (path_of d visit) b) c.index-in-Wire.result.now) (sym c.in-Wire.is)
      (subst (IsKept has.nets (wired d.modules.now (top_of d.walk.now) (path_of d visit) (Wire c.in-Wire.name c.in-Wire.bit))) (sym read)
      (place_is d visit bits has c.in-Wire.name c.in-Wire.bit inside));
}
