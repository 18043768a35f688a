use Rattle.std.proofs.Common.{◌≡◌, ℕ, ◌<◌, List, length, get_or, sym, ap, ap₂, ◌∙◌, subst}
use Rattle.std.specs.Prelude.{slice_get, Some, None}
use Rattle.verilog_netlist.specs.NetModules.{NetConnection, module_at, instance_at, bits_in, bits_at, no_connection}
use Rattle.verilog_netlist.specs.SoundModules.{AreWithin}
use Rattle.hierarchy.specs.Hierarchy.{module_on}
use Rattle.hierarchy.specs.Walks.{visits}
use Rattle.hierarchy.specs.declared.walking.MetInstance.{MetInstance}
use Rattle.netlist_link.specs.FlatPins.{wired, IsNumbered}
use Rattle.netlist_link.specs.PathTables.{top_of}
use Rattle.netlist_link.specs.BitTables.{path_of, module_of}
use Rattle.netlist_link.specs.Designs.{met_of, connections_of}
use Rattle.netlist_link.specs.InstanceRows.{connection_of, IsFirstNet}
use Rattle.netlist_link.proofs.MetPlaces.{no_kept, kept_met, met_is}
use Rattle.netlist_link.proofs.FirstNets.{bit_inside, first_is, none_first}
use Rattle.netlist_link.proofs.instances.first_net.Goals as goal

pub net-requires : goal.net-requires
net-requires c =
    let d = c.args.design.now in
    let i = c.args.i in
    let bit = c.in_ok-bit.bit in
    let is_bit : slice_get (bits_at d.modules.now c.place_of-m.result.0 c.place_of-m.result.1 c.args.c) 0 ≡ Some bit = sym c.get_bit.ensures ∙ c.in_ok-bit.was in
    let visit = (get_or c.met-met.result.now i no_kept).visit in
    let met = met_is d.modules.now (top_of d.walk.now) d.walk.now c.requires.walk i c.requires.within in
    let visit_is : visit ≡ (kept_met d.walk.now i).visit = ap (λ (l : List MetInstance). (get_or l i no_kept).visit) c.met-met.ensures in
    let path_is : path_of d visit ≡ (met_of d i).path = ap (path_of d) visit_is ∙ met.path in
    let below : visit < length (visits d.modules.now (top_of d.walk.now)) =
    subst (λ (v : ℕ). v < length (visits d.modules.now (top_of d.walk.now))) (sym visit_is) met.visit in
    let same : (instance_at d.modules.now c.place_of-m.result.0 c.place_of-m.result.1).connections ≡ connections_of d i =
    ap₂ (λ (m k : ℕ). (instance_at d.modules.now m k).connections) c.place_of-m.ensures.module_is c.place_of-m.ensures.instance_is in
    let module_is : c.place_of-m.result.0 ≡ module_of d visit =
    c.place_of-m.ensures.module_is ∙ sym (ap (module_on d.modules.now (top_of d.walk.now)) path_is) in
    let inside = c.sound.ensures.bits c.place_of-m.result.0 c.place_of-m.result.1 c.args.c 0 bit c.place_of-m.ensures.module_within
    c.place_of-m.ensures.instance_within (subst (λ (l : List NetConnection). c.args.c < length l) (sym same) c.requires.connection) is_bit in
    record {
      within = record {
        design = d;
        are = c.requires.bits;
        visit_below = below;
        module_is = module_is;
        inside = bit_inside d visit bit below (subst (λ (m : ℕ). AreWithin (module_at d.modules.now m).names bit 1) module_is inside);
      };
    }

pub returns : goal.returns
returns c =
    let d = c.args.design.now in
    let i = c.args.i in
    let bit = c.in_ok-bit.bit in
    let is_bit : slice_get (bits_at d.modules.now c.place_of-m.result.0 c.place_of-m.result.1 c.args.c) 0 ≡ Some bit = sym c.get_bit.ensures ∙ c.in_ok-bit.was in
    let visit = (get_or c.met-met.result.now i no_kept).visit in
    let met = met_is d.modules.now (top_of d.walk.now) d.walk.now c.requires.walk i c.requires.within in
    let visit_is : visit ≡ (kept_met d.walk.now i).visit = ap (λ (l : List MetInstance). (get_or l i no_kept).visit) c.met-met.ensures in
    let path_is : path_of d visit ≡ (met_of d i).path = ap (path_of d) visit_is ∙ met.path in
    let below : visit < length (visits d.modules.now (top_of d.walk.now)) =
    subst (λ (v : ℕ). v < length (visits d.modules.now (top_of d.walk.now))) (sym visit_is) met.visit in
    let same : (instance_at d.modules.now c.place_of-m.result.0 c.place_of-m.result.1).connections ≡ connections_of d i =
    ap₂ (λ (m k : ℕ). (instance_at d.modules.now m k).connections) c.place_of-m.ensures.module_is c.place_of-m.ensures.instance_is in
    let module_is : c.place_of-m.result.0 ≡ module_of d visit =
    c.place_of-m.ensures.module_is ∙ sym (ap (module_on d.modules.now (top_of d.walk.now)) path_is) in
    let inside = c.sound.ensures.bits c.place_of-m.result.0 c.place_of-m.result.1 c.args.c 0 bit c.place_of-m.ensures.module_within
    c.place_of-m.ensures.instance_within (subst (λ (l : List NetConnection). c.args.c < length l) (sym same) c.requires.connection) is_bit in
    let here : slice_get (bits_in (connection_of d i c.args.c).runs) 0 ≡ Some bit =
    ap (λ (l : List NetConnection). slice_get (bits_in (get_or l c.args.c no_connection).runs) 0) (sym same) ∙ is_bit in
    first_is d (met_of d i).path (bits_in (connection_of d i c.args.c).runs) bit c.net.result here
    (subst (λ (path : List ℕ). IsNumbered d.modules.now (top_of d.walk.now) (wired d.modules.now (top_of d.walk.now) path bit) c.net.result) path_is
    (c.net.ensures.on d c.requires.bits below module_is
    (bit_inside d visit bit below (subst (λ (m : ℕ). AreWithin (module_at d.modules.now m).names bit 1) module_is inside))))

pub returns-in_err-bit : goal.returns-in_err-bit
returns-in_err-bit c =
    let d = c.args.design.now in
    let i = c.args.i in
    let same : (instance_at d.modules.now c.place_of-m.result.0 c.place_of-m.result.1).connections ≡ connections_of d i =
    ap₂ (λ (m k : ℕ). (instance_at d.modules.now m k).connections) c.place_of-m.ensures.module_is c.place_of-m.ensures.instance_is in
    let path = (met_of d i).path in
    let bits = bits_in (connection_of d i c.args.c).runs in
    let none : slice_get bits 0 ≡ None =
    ap (λ (l : List NetConnection). slice_get (bits_in (get_or l c.args.c no_connection).runs) 0) (sym same) ∙ sym c.get_bit.ensures ∙ c.in_err-bit.was in
    subst (IsFirstNet d path bits) (sym c.from_residual.ensures) (none_first d path bits none)
