-- The front of what stands behind the port.
use Rattle.std.proofs.Common.{ℕ, ◌+◌, List, sym, ap, ◌∙◌, subst}
use Rattle.std.specs.List.{prefix_len}
use Rattle.verilog_netlist.specs.Parts.{is_expression}
use Rattle.verilog_netlist.specs.PartPlaces.{stretch}
use Rattle.verilog_netlist.specs.ModuleTables.{IsJoinedAt}
use Rattle.verilog_netlist.specs.declared.entries.Entry.{Entry}
use Rattle.verilog_netlist.proofs.TableReading.{is_joined}
use Rattle.verilog_netlist.proofs.tables.Tables.joined.Goals as goal

pub returns : goal.returns
returns c =
    let extent = c.connection-extent.result in
    subst (λ (n : ℕ). IsJoinedAt c.args.self.now c.args.m c.args.k c.args.c (record { place = extent.place; end = extent.place + 1 + n }))
    (sym (c.expressions_in_front.ensures.value ∙ ap (prefix_len is_expression) (c.between-behind.ensures
    ∙ ap (λ (l : List Entry). stretch l (extent.place + 1) extent.end) c.deref.ensures.value)))
    (is_joined c.args.self.now c.args.m c.args.k c.args.c extent c.connection-extent.ensures)
