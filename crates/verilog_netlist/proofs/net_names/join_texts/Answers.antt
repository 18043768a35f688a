-- One entry more.
use Rattle.std.proofs.Common.{refl, sym, subst, ℕ, List, [], ◌∷◌, ◌++◌, take}
use Rattle.std.proofs.lemmas.List.{take_more}
use Rattle.verilog_netlist.specs.NameRows.{keys_of, AllDiffer, joined_texts}
use Rattle.verilog_netlist.specs.PartPlaces.{no_entry, entry_at}
use Rattle.verilog_netlist.specs.declared.entries.Entry.{Entry}
use Rattle.verilog_netlist.proofs.Naming.{Joins, joins_none, joins_more, differ_all}
use Rattle.verilog_netlist.proofs.net_names.join_texts.Goals as goal

pub loop-entry-init : goal.loop-entry-init
loop-entry-init c = joins_none c.args.bytes.now (keys_of c.args.texts.now.keys) c.args.numbers.now.items (keys_of c.args.texts.now.keys) c.args.numbers.now.items refl refl

pub loop-entry-preserved : goal.loop-entry-preserved
loop-entry-preserved c =
    let bytes : List ℕ = c.args.bytes.now in
    let entries : List Entry = c.args.entries.now in
    let n : ℕ = c.loop-entry.entry-index in
    let texts = keys_of c.loop-entry.texts.keys in
    let after = keys_of c.join_text.new.texts.keys in
    subst (λ (l : List Entry). Joins bytes (keys_of c.args.texts.now.keys) c.args.numbers.now.items l after c.push.new.items.items) (sym (take_more entries n no_entry c.loop-entry-test.true))
    (subst (λ (m : List ℕ). Joins bytes (keys_of c.args.texts.now.keys) c.args.numbers.now.items (take n entries ++ entry_at entries n ∷ []) after m) (sym c.in_ok-push.ensures.ok)
    (joins_more bytes (keys_of c.args.texts.now.keys) c.args.numbers.now.items (take n entries) texts after c.loop-entry.numbers.items c.in_ok-number.number (entry_at entries n) c.loop-entry.invariant c.in_ok-number.ensures.texts c.in_ok-number.ensures.number))

pub join_text-requires : goal.join_text-requires
join_text-requires c =
    subst AllDiffer (sym c.loop-entry.invariant.texts_are)
    (differ_all (keys_of c.args.texts.now.keys) (joined_texts c.args.bytes.now (take c.loop-entry.entry-index c.args.entries.now)) c.requires)
