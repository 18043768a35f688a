use Rattle.std.proofs.Common.{◌≡◌, ℕ, ◌+◌, List, length, sym, ap, ◌∙◌, subst, arith}
use Rattle.std.specs.Prelude.{slice_get, Some}
use Rattle.std.proofs.lemmas.List.{length_push}
use Rattle.verilog_netlist.specs.NetModules.{module_at}
use Rattle.netlist_link.specs.PortTables.{ArePortNumbers}
use Rattle.netlist_link.specs.Designs.{HoldAllPorts}
use Rattle.netlist_link.specs.declared.port_numbers.PortNumbers.{PortNumbers}
use Rattle.text_table.proofs.Pushing.{each_push}
use Rattle.netlist_link.proofs.design_tables.all_ports.Goals as goal

pub loop-m-preserved : goal.loop-m-preserved
loop-m-preserved c =
    let modules = c.args.modules.now in
    let old = c.loop-m.ports.items in
    let made = c.in_ok-ports_of_module.field-0 in
    let last : ArePortNumbers (module_at modules (length old)).names made =
    subst (λ (n : ℕ). ArePortNumbers (module_at modules n).names made) (sym c.loop-m.invariant.count) c.in_ok-ports_of_module.ensures in
    record {
      count = ap length c.in_ok-push.ensures.ok ∙ length_push old made ∙ ap (λ (n : ℕ). n + 1) c.loop-m.invariant.count;
      each = subst (λ (items : List PortNumbers). (i : ℕ) (ports : PortNumbers) → slice_get items i ≡ Some ports
          → ArePortNumbers (module_at modules i).names ports)
          (sym c.in_ok-push.ensures.ok) (each_push (λ i ports. ArePortNumbers (module_at modules i).names ports) old made c.loop-m.invariant.each last);
    }

pub returns : goal.returns
returns c =
    let done : c.loop-m.m ≡ length c.args.modules.now =
    (let end = c.module_count-m-end.ensures in let test = c.loop-m-test.false in let fits = c.loop-m.auto.m-end in omega arith) in
    subst (λ (n : ℕ). HoldAllPorts c.args.modules.now n c.loop-m.ports.items) done c.loop-m.invariant
