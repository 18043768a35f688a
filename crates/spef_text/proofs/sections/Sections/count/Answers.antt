-- A section ends where its end is kept.
use Rattle.std.proofs.Common.{sym, ◌∙◌}
use Rattle.spef_text.proofs.SectionLemmas.{count_is}
use Rattle.spef_text.proofs.sections.Sections.count.Goals as goal

pub returns : goal.returns
returns c = c.len.ensures ∙ c.self.inside.ends.ok.0 ∙ sym (count_is c.self.inside.ends.items c.self.inside.net c.self.inside.conns.items c.self.inside.caps.items c.self.inside.ress.items c.self.invariant c.args.self.now c.self.view_is)
