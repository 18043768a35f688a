use Rattle.std.proofs.lemmas.Option.{slice_get-get_or, get_or_from_slice_get}
use Rattle.std.proofs.Common.{◌≡◌, replicate, sym, ap, subst, [], map}
use Rattle.rc_tree.specs.Nodes.{node_of, with_node, with_nodes}
use Rattle.rc_tree.specs.ListedPins.{no_name, no_conn, conn_name, listed_pins}
use Rattle.rc_tree.specs.Marking.{Marked}
use Rattle.rc_tree.proofs.ListedLemmas.{within_at, all_within, all_listed}
use Rattle.rc_tree.proofs.MarkingLemmas.{none_marked, mark_step, marked_all}
use Rattle.rc_tree.proofs.marking.number_listed.Goals as goal

-- src/marking.rt
pub returns : goal.returns
returns g c =
    let pins = listed_pins g.C.CornerSet.COUNT c.args.section.now c.args.pins.now.driver in
    let start = none_marked 4294967295 c.args.section.now.nodes c.refill.new.values.items (subst (λ n. c.refill.new.values.items ≡ replicate n 4294967295) c.node_count.ensures c.in_ok-refill.ensures) in
    let first = mark_step 4294967295 c.args.section.now.nodes [] c.conn.result.node (conn_name c.args.section.now c.conn.result) c.refill.new.values.items c.mark.new.numbered.spots.items 0 c.mark.new.numbered.count
    c.distinct.ensures (slice_get-get_or c.args.section.now.nodes c.conn.result.node no_name c.conn.ensures.node) c.in_ok-mark.ensures start in
    let driver = subst (λ name. Marked 4294967295 c.args.section.now.nodes (with_node [] (node_of name)) c.mark.new.numbered.spots.items c.mark.new.numbered.count)
    (sym (ap (conn_name c.args.section.now) (get_or_from_slice_get c.args.section.now.conns c.args.pins.now.driver c.conn.result no_conn c.conn.ensures.conn))) first in
    record {
      numbered = marked_all 4294967295 c.args.section.now pins c.mark_rest.new.numbered.spots.items c.mark_rest.new.numbered.count
          (c.in_ok-mark_rest.ensures.marked (with_nodes (with_node [] (node_of pins.driver)) (map node_of pins.sinks)) (c.in_ok-mark_sinks.ensures.marked (with_node [] (node_of pins.driver)) driver));
      listed = all_listed g.C.CornerSet.COUNT c.args.section.now c.args.pins.now.driver c.requires
          (all_within g.C.CornerSet.COUNT c.args.section.now c.args.pins.now.driver c.requires (within_at c.args.section.now c.args.pins.now.driver c.conn.result c.conn.ensures.conn c.conn.ensures.node) c.in_ok-mark_sinks.ensures.within);
    }
