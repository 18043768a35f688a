-- The rows of the module and of the next.
use Rattle.std.proofs.Common.{ap, ◌∙◌, ◌+◌, arith}
use Rattle.std.proofs.lemmas.List.{get_or_default}
use Rattle.verilog_netlist.specs.NameRows.{no_row}
use Rattle.verilog_netlist.specs.declared.places.ModuleRow.{ModuleRow}
use Rattle.verilog_netlist.proofs.Placing.{module_found, module_extent}
use Rattle.verilog_netlist.proofs.places.Places.module.Goals as goal

pub returns-clause-part : goal.returns-clause-part
returns-clause-part c entries h = module_found entries c.args.self.now h c.args.m c.index-row.result.now c.index-next.result.now c.requires c.index-row.ensures c.index-next.ensures

pub returns-clause-extent : goal.returns-clause-extent
returns-clause-extent c entries h = module_extent entries c.args.self.now h c.args.m c.index-row.result.now c.index-next.result.now c.requires c.index-row.ensures c.index-next.ensures

pub returns-clause-start : goal.returns-clause-start
returns-clause-start c = ap (λ (r : ModuleRow). r.place) (c.index-row.ensures ∙ get_or_default c.args.self.now.modules.items c.args.m c.index-row.result.now no_row (let r = c.requires in omega arith))

pub returns-clause-end : goal.returns-clause-end
returns-clause-end c = ap (λ (r : ModuleRow). r.place) (c.index-next.ensures ∙ get_or_default c.args.self.now.modules.items (c.args.m + 1) c.index-next.result.now no_row c.requires)
