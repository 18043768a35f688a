-- Between the section's two ends.
use Rattle.std.proofs.Common.{ap, length}
use Rattle.spef_text.proofs.SectionLemmas.{in_vec, lies_here, ress_here}
use Rattle.spef_text.proofs.sections.Sections.res_count.Goals as goal

pub end_before-from-requires : goal.end_before-from-requires
end_before-from-requires c = in_vec c.self.inside.ends.items c.self.inside.net c.self.inside.conns.items c.self.inside.caps.items c.self.inside.ress.items c.self.invariant c.args.self.now c.self.view_is c.args.section c.requires _ (ap length c.as_slice.ensures.value)

pub index-requires : goal.index-requires
index-requires c = in_vec c.self.inside.ends.items c.self.inside.net c.self.inside.conns.items c.self.inside.caps.items c.self.inside.ress.items c.self.invariant c.args.self.now c.self.view_is c.args.section c.requires _ c.self.inside.ends.ok.0

pub overflow_sub-result : goal.overflow_sub-result
overflow_sub-result c = (lies_here c.self.inside.ends.items c.self.inside.net c.self.inside.conns.items c.self.inside.caps.items c.self.inside.ress.items c.self.invariant c.args.self.now c.self.view_is c.args.section c.requires c.as_slice.result.now c.as_slice.ensures.value c.end_before-from.result c.end_before-from.ensures c.index.result.now c.index.ensures).ress

pub returns : goal.returns
returns c = ress_here c.self.inside.ends.items c.self.inside.net c.self.inside.conns.items c.self.inside.caps.items c.self.inside.ress.items c.self.invariant c.args.self.now c.self.view_is c.args.section c.requires c.as_slice.result.now c.as_slice.ensures.value c.end_before-from.result c.end_before-from.ensures c.index.result.now c.index.ensures
