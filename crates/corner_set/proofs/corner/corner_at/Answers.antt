use Rattle.std.proofs.Common.{sym, ap, ◌∙◌}
use Rattle.std.proofs.lemmas.Option.{same_Some, none-some}
use Rattle.corner_set.proofs.corner.corner_at.Goals as goal

-- src/corner.rt
pub returns : goal.returns
returns g c =
    let law = g.met.C.CornerSet.number_of_corner c.args.number c.requires in
    ap g.C.CornerSet.number_of (same_Some c.in-Some.corner law.0 (sym c.in-Some.is ∙ c.nth.ensures ∙ law.1)) ∙ law.2

pub unreachable-requires : goal.unreachable-requires
unreachable-requires g c =
    let law = g.met.C.CornerSet.number_of_corner c.args.number c.requires in
    none-some law.0 (sym c.in-None.is ∙ c.nth.ensures ∙ law.1)
