-- A name that is put in has the place at which it was found, or the last.
use Rattle.std.proofs.Common.{refl, ◌∙◌}
use Rattle.verilog_netlist.specs.NameRows.{keys_of}
use Rattle.verilog_netlist.proofs.Naming.{text_inserted, place_of_text, found_some, held_kept}
use Rattle.verilog_netlist.proofs.net_names.number_text.Goals as goal

pub returns-in-Some-clause-texts : goal.returns-in-Some-clause-texts
returns-in-Some-clause-texts c =
    held_kept c.args.name.now (keys_of c.args.texts.now.keys) (found_some c.args.name.now c.args.texts.now.keys _ c.in-Some.ensures c.in-Some.place refl).0

pub returns-in-Some-clause-number : goal.returns-in-Some-clause-number
returns-in-Some-clause-number c =
    c.in_ok-known.ensures ∙ (found_some c.args.name.now c.args.texts.now.keys _ c.in-Some.ensures c.in-Some.place refl).1

pub returns-clause-texts : goal.returns-clause-texts
returns-clause-texts c =
    text_inserted c.args.texts.now.keys c.insert_full.new.self.keys (record { bytes = c.args.name }) c.in-Ok.ensures.keys

pub returns-clause-number : goal.returns-clause-number
returns-clause-number c = c.in_ok-number.ensures ∙ c.in-Ok.ensures.index ∙ place_of_text c.args.name.now c.args.texts.now.keys
