use Rattle.std.proofs.Common.{◌<◌, length, slice_get, sym, ap, subst, ◌∙◌, arith}
use Rattle.std.proofs.lemmas.List.{get_or_read}
use Rattle.rc_tree.specs.ListedPins.{listed_pins}
use Rattle.rc_tree.specs.Searched.{all_nodes}
use Rattle.rc_tree.proofs.ListedLemmas.{place_within, sink_numbered}
use Rattle.rc_tree.proofs.pin_source.ListedPinsPinSource.sink_number.Goals as goal

-- src/pin_source.rt
pub conn-requires : goal.conn-requires
conn-requires g c = subst (λ k. k < length c.args.section.now.conns) (sym c.place.ensures) (place_within g.C.CornerSet.COUNT c.args.section.now c.args.self.now.driver c.args.sink c.requires.within)

pub returns : goal.returns
returns g c =
    let size = c.requires.numbered.are_spots.size in
    ap (slice_get (all_nodes c.args.section.now (listed_pins g.C.CornerSet.COUNT c.args.section.now c.args.self.now.driver)))
    (get_or_read c.args.numbered.now.spots.items c.conn.result.node c.index.result.now (omega (arith, size, c.conn.ensures.node)) c.index.ensures 0)
    ∙ sink_numbered g.C.CornerSet.COUNT c.args.section.now c.args.self.now.driver c.args.numbered.now.spots.items c.args.numbered.now.count c.args.sink c.conn.result c.requires.numbered c.requires.within
    (ap (slice_get c.args.section.now.conns) (sym c.place.ensures) ∙ c.conn.ensures.conn) c.conn.ensures.node
