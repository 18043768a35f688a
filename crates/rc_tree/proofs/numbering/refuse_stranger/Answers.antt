use Rattle.std.proofs.Common.{arith}
use Rattle.std.proofs.lemmas.List.{get_or_read}
use Rattle.rc_tree.proofs.Strangers.{listed_more, first_stranger}
use Rattle.rc_tree.proofs.numbering.refuse_stranger.Goals as goal

-- src/numbering.rt
pub loop-place-preserved : goal.loop-place-preserved
loop-place-preserved g c =
    let size = c.requires.are_spots.size in
    let read = get_or_read c.args.numbered.now.spots.items c.conn-node.result.node c.index.result.now (omega (arith, size, c.conn-node.ensures.node)) c.index.ensures 0 in
    listed_more c.args.section.now c.args.pins.now c.args.numbered.now.spots.items c.args.numbered.now.count c.requires c.len-sinks.ensures.apart c.loop-place.place c.conn-node.result c.conn-node.ensures.conn c.conn-node.ensures.node
    (omega (arith, read, c.if-index-sinks.false, c.len-sinks.ensures.len)) c.loop-place.invariant

pub returns-then-index-sinks-clause-refused : goal.returns-then-index-sinks-clause-refused
returns-then-index-sinks-clause-refused g c =
    let size = c.requires.are_spots.size in
    let read = get_or_read c.args.numbered.now.spots.items c.conn-node.result.node c.index.result.now (omega (arith, size, c.conn-node.ensures.node)) c.index.ensures 0 in
    first_stranger c.args.section.now c.args.pins.now c.args.numbered.now.spots.items c.args.numbered.now.count c.requires c.len-sinks.ensures.apart c.loop-place.place c.conn-node.result c.in_ok-name.name c.conn-node.ensures.conn c.in_ok-name.ensures
    (omega (arith, read, c.if-index-sinks.true, c.len-sinks.ensures.len)) c.loop-place.invariant
