use Rattle.std.proofs.Common.{◌≡◌, Some, sym, ap, ◌∙◌}
use Rattle.liberty_groups.specs.Tables.{group_at}
use Rattle.liberty_groups.specs.Groups.{args_of}
use Rattle.std.specs.List.{fold, slice_get}
use Rattle.std.proofs.Common.{drop, ◌+◌}
use Rattle.timing_arcs.specs.PinModel.{entries_of, with_entry}
use Rattle.timing_arcs.specs.PinTable.{entries_in, entry_at}
use Rattle.timing_arcs.proofs.PinLemmas.{arg_entry, fold_at}
use Rattle.timing_arcs.proofs.pins.add_names.Goals as goal

pub loop-place-preserved : goal.loop-place-preserved
loop-place-preserved c =
    let tree = c.args.tree.now in
    let here : slice_get (args_of (group_at tree c.args.group.0)) c.loop-place.place ≡ Some c.bytes.result.now = c.arg.ensures ∙ ap Some (sym c.bytes.ensures) in
    let entries = entries_of (group_at tree c.args.group.0) in
    let step = fold_at with_entry (entries_in tree c.loop-place.names c.loop-place.groups.items) entries c.loop-place.place (entry_at tree c.bytes.result.now c.args.group) (arg_entry tree c.args.group c.loop-place.place c.bytes.result.now here) in
    record {
      even = c.in_ok-add_name.ensures.even;
      within = c.in_ok-add_name.ensures.within tree c.requires.group c.loop-place.invariant.within;
      entries = ap (λ now. fold with_entry now (drop (c.loop-place.place + 1) entries)) (c.in_ok-add_name.ensures.entries tree) ∙ sym step ∙ c.loop-place.invariant.entries;
    }
