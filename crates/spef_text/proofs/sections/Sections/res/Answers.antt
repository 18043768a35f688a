-- Between the section's two ends.
use Rattle.std.proofs.Common.{ap, length}
use Rattle.spef_text.proofs.SectionLemmas.{in_vec, res_skip, res_here, res_read}
use Rattle.spef_text.proofs.sections.Sections.res.Goals as goal

pub end_before-from-requires : goal.end_before-from-requires
end_before-from-requires c = in_vec c.self.inside.ends.items c.self.inside.net c.self.inside.conns.items c.self.inside.caps.items c.self.inside.ress.items c.self.invariant c.args.self.now c.self.view_is c.args.section c.requires.section _ (ap length c.as_slice.ensures.value)

pub split_at-requires : goal.split_at-requires
split_at-requires c = res_skip c.self.inside.ends.items c.self.inside.net c.self.inside.conns.items c.self.inside.caps.items c.self.inside.ress.items c.self.invariant c.args.self.now c.self.view_is c.args.section c.requires.section c.as_slice.result.now c.as_slice.ensures.value c.end_before-from.result c.end_before-from.ensures c.as_slice-2.result.now c.as_slice-2.ensures.value

pub res_at-requires : goal.res_at-requires
res_at-requires c = res_here c.self.inside.ends.items c.self.inside.net c.self.inside.conns.items c.self.inside.caps.items c.self.inside.ress.items c.self.invariant c.args.self.now c.self.view_is c.args.section c.requires.section c.as_slice.result.now c.as_slice.ensures.value c.end_before-from.result c.end_before-from.ensures c.as_slice-2.result.now _ c.args.place c.as_slice-2.ensures.value c.split_at.ensures.back c.requires.place

pub returns : goal.returns
returns c = res_read c.self.inside.ends.items c.self.inside.net c.self.inside.conns.items c.self.inside.caps.items c.self.inside.ress.items c.self.invariant c.args.self.now c.self.view_is c.args.section c.requires.section c.as_slice.result.now c.as_slice.ensures.value c.end_before-from.result c.end_before-from.ensures c.as_slice-2.result.now _ c.args.place c.res_at.result c.as_slice-2.ensures.value c.split_at.ensures.back c.requires.place c.res_at.ensures
