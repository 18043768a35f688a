-- The section that had begun is the last of those that have ended.
use Rattle.std.proofs.Common.{ap, ◌∙◌}
use Rattle.spef_text.specs.SectionTable.{closed}
use Rattle.spef_text.proofs.SectionLemmas.{closes_at, close_order_at}
use Rattle.spef_text.proofs.sections.Sections.close.Goals as goal

pub invariant_of-self-2 : goal.invariant_of-self-2
invariant_of-self-2 c = close_order_at c.self.inside.ends.items c.self.inside.net c.self.inside.conns.items c.self.inside.caps.items c.self.inside.ress.items c.self.invariant _ _ _ _ (c.len.ensures ∙ c.self.inside.conns.ok.0) (c.len-2.ensures ∙ c.self.inside.caps.ok.0) (c.len-3.ensures ∙ c.self.inside.ress.ok.0) c.in-Ok.ensures.items

pub returns : goal.returns
returns c = closes_at c.self.inside.ends.items c.self.inside.net c.self.inside.conns.items c.self.inside.caps.items c.self.inside.ress.items c.self.invariant _ _ _ _ (c.len.ensures ∙ c.self.inside.conns.ok.0) (c.len-2.ensures ∙ c.self.inside.caps.ok.0) (c.len-3.ensures ∙ c.self.inside.ress.ok.0) c.in-Ok.ensures.items ∙ ap closed c.self.view_is
