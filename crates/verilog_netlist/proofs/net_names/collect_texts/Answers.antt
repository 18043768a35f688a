-- The names differ that are there before those that are joined.
use Rattle.std.proofs.Common.{sym, subst, List, ℕ}
use Rattle.verilog_netlist.specs.ModuleNames.{texts_of}
use Rattle.verilog_netlist.specs.NameRows.{keys_of, AllDiffer}
use Rattle.verilog_netlist.specs.declared.name_text.NameText.{NameText}
use Rattle.verilog_netlist.specs.declared.net_names.Group.TheVariants as group
use Rattle.verilog_netlist.proofs.Naming.{differ_all}
use Rattle.verilog_netlist.proofs.net_names.collect_texts.Goals as goal

pub join_texts-requires : goal.join_texts-requires
join_texts-requires c =
    let bytes : List ℕ = c.args.bytes.now in
    subst AllDiffer (sym c.in_ok-add_texts-2.ensures) (differ_all (keys_of c.add_texts.new.texts.keys) (texts_of bytes group.Wires c.args.entries.now)
    (subst AllDiffer (sym c.in_ok-add_texts.ensures) (differ_all (keys_of c.args.texts.now.keys) (texts_of bytes group.Headers c.args.entries.now)
    (subst (λ (l : List NameText). AllDiffer (keys_of l)) (sym c.requires) tt))))
