use Rattle.std.proofs.Common.{◌+◌, List, map, sym, ap, subst, ◌∙◌, arith}
use Rattle.name_table.specs.declared.spef_names.NodeName.{NodeName}
use Rattle.spef_nets.specs.NodeNames.{IsKeyOf}
use Rattle.rc_tree.specs.Nodes.{node_of}
use Rattle.rc_tree.specs.Numbering.{Gets, other}
use Rattle.rc_tree.proofs.SectionNumbers.{Numbering, name_there, none_left, numbering_step, all_apart}
use Rattle.rc_tree.proofs.numbering.number_section.Goals.{then-len-count+in_ok-count, else-len-count+in_ok-key+in_ok-count-2+in-Named-1, else-len-count+in_ok-key+in_ok-count-2+in-Written-1}
use Rattle.rc_tree.proofs.numbering.number_section.Goals as goal

-- src/numbering.rt
pub loop-node-preserved : goal.loop-node-preserved
loop-node-preserved g c =
    let names = c.args.section.now.nodes in
    let pins = c.args.table.now in
    let node = c.loop-node.node in
    let state = c.loop-node.invariant.numbering in elim c.if-len-count.branch [
      | then-len-count+in_ok-count w ↦
          let size = state.size in
          let next = name_there names node (omega (arith, c.loop-node-test.true, c.node_count-node-end.ensures)) in
          let new = none_left names pins c.loop-node.spots.items c.loop-node.count node next.0 c.distinct.ensures next.1 (omega (arith, c.len.ensures, c.loop-node.spots.ok.0, size, w.if-len-count.true)) state in
          record {
            numbering = numbering_step names pins c.loop-node.spots.items c.if-len-count.spots.items c.loop-node.count c.if-len-count.count node next.0 c.distinct.ensures next.1
                (other new (ap (λ v. v.items) w.spots-is ∙ w.in_ok-count.ensures.spots) (w.count-is ∙ w.in_ok-count.ensures.count)) state;
            keys = w.keys-is ∙ c.loop-node.invariant.keys;
          }
      | else-len-count+in_ok-key+in_ok-count-2+in-Named-1 w ↦
          let named = subst (λ (nodes : List NodeName). IsKeyOf nodes node w.in_ok-key.key) c.loop-node.invariant.keys w.in_ok-key.ensures.key in
          record {
            numbering = subst (λ spots. Numbering names pins spots c.if-len-count.count (node + 1)) (sym (ap (λ v. v.items) w.spots-is))
                (subst (λ count. Numbering names pins w.number_node.new.spots.items count (node + 1)) (sym w.count-is)
                (numbering_step names pins c.loop-node.spots.items w.number_node.new.spots.items c.loop-node.count w.in_ok-count-2.count node named.0 c.distinct.ensures named.1
                (subst (λ key. Gets pins key c.loop-node.count c.loop-node.spots.items w.number_node.new.spots.items w.in_ok-count-2.count) named.2 w.in_ok-count-2.ensures) state));
            keys = w.keys-is ∙ w.in_ok-key.ensures.same ∙ c.loop-node.invariant.keys;
          }
      | else-len-count+in_ok-key+in_ok-count-2+in-Written-1 w ↦
          let named = subst (λ (nodes : List NodeName). IsKeyOf nodes node w.in_ok-key.key) c.loop-node.invariant.keys w.in_ok-key.ensures.key in
          record {
            numbering = subst (λ spots. Numbering names pins spots c.if-len-count.count (node + 1)) (sym (ap (λ v. v.items) w.spots-is))
                (subst (λ count. Numbering names pins w.number_node.new.spots.items count (node + 1)) (sym w.count-is)
                (numbering_step names pins c.loop-node.spots.items w.number_node.new.spots.items c.loop-node.count w.in_ok-count-2.count node named.0 c.distinct.ensures named.1
                (subst (λ key. Gets pins key c.loop-node.count c.loop-node.spots.items w.number_node.new.spots.items w.in_ok-count-2.count) named.2 w.in_ok-count-2.ensures) state));
            keys = w.keys-is ∙ w.in_ok-key.ensures.same ∙ c.loop-node.invariant.keys;
          }
    ]

pub returns-clause-apart : goal.returns-clause-apart
returns-clause-apart g c = all_apart c.args.table.now (map node_of c.args.section.now.nodes) c.len-count.ensures.apart
