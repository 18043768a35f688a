use Rattle.std.proofs.Common.{◌<◌, length, slice_get, subst, sym, ap, ◌∙◌}
use Rattle.rc_tree.proofs.ListedLemmas.{place_within, sink_name}
use Rattle.rc_tree.proofs.listed_pins.ListedPins.sink_sdf.Goals as goal

-- src/listed_pins.rt
pub conn-requires : goal.conn-requires
conn-requires g c = subst (λ k. k < length c.args.section.now.conns) (sym c.place.ensures) (place_within g.C.CornerSet.COUNT c.args.section.now c.args.self.now.driver c.args.sink c.requires.within)

pub returns : goal.returns
returns g c =
    let (name, named, is) = c.in_ok-sdf.ensures in
    let at = ap (slice_get c.args.section.now.conns) (sym c.place.ensures) ∙ c.conn.ensures.conn in
    (name, sink_name g.C.CornerSet.COUNT c.args.section.now c.args.self.now.driver c.args.sink c.conn.result name c.requires.within at named, is)
