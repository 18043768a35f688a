use Rattle.std.proofs.lemmas.Option.{slice_get-get_or}
use Rattle.std.proofs.Common.{get_or, ◌∙◌, arith}
use Rattle.rc_tree.specs.ListedPins.{no_name}
use Rattle.rc_tree.proofs.MarkingLemmas.{marks_size, marked_more, marked_end}
use Rattle.rc_tree.proofs.marking.mark_rest.Goals as goal

-- src/marking.rt
pub loop-node-preserved : goal.loop-node-preserved
loop-node-preserved g c =
    let named = slice_get-get_or c.args.section.now.nodes c.loop-node.node no_name (omega (arith, c.loop-node-test.true, c.node_count-node-end.ensures)) in
    record {
      size = marks_size _ _ _ _ _ _ c.in_ok-mark.ensures ∙ c.loop-node.invariant.size;
      marked = λ nodes start.
          marked_more 4294967295 c.args.section.now.nodes nodes c.args.section.now.nodes c.loop-node.node c.loop-node.node (get_or c.args.section.now.nodes c.loop-node.node no_name)
          c.loop-node.numbered.spots.items c.mark.new.numbered.spots.items c.loop-node.numbered.count c.mark.new.numbered.count c.requires.distinct named named c.in_ok-mark.ensures (c.loop-node.invariant.marked nodes start);
    }

pub returns-clause-marked : goal.returns-clause-marked
returns-clause-marked g c nodes start =
    marked_end 4294967295 c.args.section.now.nodes nodes c.args.section.now.nodes c.loop-node.node c.loop-node.numbered.spots.items c.loop-node.numbered.count
    (omega (arith, c.loop-node-test.false, c.node_count-node-end.ensures)) (c.loop-node.invariant.marked nodes start)
