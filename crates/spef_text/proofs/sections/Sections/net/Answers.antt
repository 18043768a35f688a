-- The net's token is kept at the section's end.
use Rattle.spef_text.proofs.SectionLemmas.{in_vec, net_here}
use Rattle.spef_text.proofs.sections.Sections.net.Goals as goal

pub index-requires : goal.index-requires
index-requires c = in_vec c.self.inside.ends.items c.self.inside.net c.self.inside.conns.items c.self.inside.caps.items c.self.inside.ress.items c.self.invariant c.args.self.now c.self.view_is c.args.section c.requires _ c.self.inside.ends.ok.0

pub returns : goal.returns
returns c = net_here c.self.inside.ends.items c.self.inside.net c.self.inside.conns.items c.self.inside.caps.items c.self.inside.ress.items c.self.invariant c.args.self.now c.self.view_is c.args.section c.requires c.index.result.now c.index.ensures
