-- One module more.
use Rattle.std.proofs.Common.{◌≡◌, ℕ, length, ap, sym, ◌∙◌, subst, arith}
use Rattle.verilog_netlist.specs.ModuleTables.{modules_in}
use Rattle.verilog_netlist.specs.ModuleNumbers.{HoldsNumbers}
use Rattle.verilog_netlist.specs.NetModules.{NetModule}
use Rattle.verilog_netlist.proofs.TableReading.{length_modules}
use Rattle.verilog_netlist.proofs.Numbering.{numbers_next}
use Rattle.verilog_netlist.proofs.modules.number_modules.Goals as goal

pub loop-m-preserved : goal.loop-m-preserved
loop-m-preserved c =
    numbers_next (modules_in c.args.tables.now) c.loop-m.m c.name_at-name.result c.loop-m.numbers.entries c.insert.new.self.entries
    (c.name_at-name.ensures ∙ sym (ap (λ (o : NetModule). o.name) c.module.ensures.value)) c.loop-m.invariant c.in-Ok.ensures.updates.0

pub returns : goal.returns
returns c =
    let end : c.loop-m.m ≡ length (modules_in c.args.tables.now) =
    let past = c.loop-m-test.false in let few = c.loop-m.auto.m-end in let n = c.module_count-m-end.ensures in let l = length_modules c.args.tables.now c.requires in omega arith in
    subst (λ (n : ℕ). HoldsNumbers (modules_in c.args.tables.now) n c.loop-m.numbers.entries) end c.loop-m.invariant

pub module-requires-clause-place : goal.module-requires-clause-place
module-requires-clause-place c = let test = c.loop-m-test.true in let n = c.module_count-m-end.ensures in let l = length_modules c.args.tables.now c.requires in omega arith
