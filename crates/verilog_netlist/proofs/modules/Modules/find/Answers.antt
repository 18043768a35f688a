-- What the table of names holds.
use Rattle.std.proofs.Common.{List, ◌∙◌, subst}
use Rattle.verilog_netlist.specs.NetModules.{NetModule}
use Rattle.verilog_netlist.specs.ModuleNumbers.{AreNumbers}
use Rattle.verilog_netlist.proofs.Numbering.{found_some, found_none}
use Rattle.verilog_netlist.proofs.modules.Modules.find.Goals as goal

pub returns-clause-some : goal.returns-clause-some
returns-clause-some c =
    let numbers = subst (λ (l : List NetModule). AreNumbers l c.self.inside.numbers.entries) c.self.view_is c.self.invariant.1 in
    found_some c.args.self.now c.args.name c.self.inside.numbers.entries numbers c.copied.result (c.copied.ensures ∙ c.get.ensures.value)

pub returns-clause-none : goal.returns-clause-none
returns-clause-none c =
    let numbers = subst (λ (l : List NetModule). AreNumbers l c.self.inside.numbers.entries) c.self.view_is c.self.invariant.1 in
    found_none c.args.self.now c.args.name c.self.inside.numbers.entries numbers c.copied.result (c.copied.ensures ∙ c.get.ensures.value)
