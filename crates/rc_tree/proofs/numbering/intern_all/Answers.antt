use Rattle.std.proofs.Common.{map, arith, ap, ◌∙◌}
use Rattle.std.proofs.lemmas.List.{length-map, get_or-map}
use Rattle.rc_tree.specs.Nodes.{with_node}
use Rattle.rc_tree.specs.PinNames.{pin_name}
use Rattle.rc_tree.proofs.Numbers.{names_more}
use Rattle.rc_tree.proofs.numbering.intern_all.Goals as goal

-- src/numbering.rt
pub loop-name-preserved : goal.loop-name-preserved
loop-name-preserved c =
    let size = length-map c.args.names.now pin_name in
    names_more (map pin_name c.args.names.now) c.args.table.now c.loop-name.table c.intern.new.self c.loop-name.name-index _ (omega (arith, size, c.loop-name-test.true))
    (get_or-map pin_name c.args.names.now c.loop-name.name-index _ _ (omega (arith, c.loop-name-test.true)))
    c.loop-name.invariant (c.in_ok-intern.ensures ∙ ap (with_node c.loop-name.table) c.key.ensures)
