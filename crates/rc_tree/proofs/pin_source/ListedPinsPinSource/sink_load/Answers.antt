use Rattle.std.proofs.Common.{subst, ◌<◌, length, sym, ap, ◌∙◌}
use Rattle.corner_set.specs.Places.{value_at}
use Rattle.rc_tree.proofs.ListedLemmas.{place_within, load_without}
use Rattle.rc_tree.proofs.pin_source.ListedPinsPinSource.sink_load.Goals as goal

-- src/pin_source.rt
pub conn_load-requires : goal.conn_load-requires
conn_load-requires g c = subst (λ k. k < length c.args.section.now.conns) (sym c.place.ensures) (place_within g.C.CornerSet.COUNT c.args.section.now c.args.self.now.driver c.args.sink c.requires.within)

pub returns-clause-load : goal.returns-clause-load
returns-clause-load g c =
    load_without g.C.CornerSet.COUNT (g.C.CornerSet.number_of c.args.corner) c.args.self.now.driver c.args.sink c.args.section.now.loads c.conn_load.result (g.met.C.CornerSet.number_below c.args.corner)
    (ap (λ k. value_at g.C.CornerSet.COUNT c.args.section.now.loads k (g.C.CornerSet.number_of c.args.corner)) (sym c.place.ensures) ∙ c.conn_load.ensures.load)
