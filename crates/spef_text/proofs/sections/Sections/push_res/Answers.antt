-- What has been pushed belongs to the section that has begun.
use Rattle.spef_text.proofs.SectionLemmas.{pushes_res, res_order}
use Rattle.spef_text.proofs.sections.Sections.push_res.Goals as goal

pub invariant_of-self-2 : goal.invariant_of-self-2
invariant_of-self-2 c = rw c.in-Ok.ensures.items (res_order _ 0 _ _ _ c.self.invariant c.args.res)

pub returns : goal.returns
returns c = rw (← c.self.view_is, c.in-Ok.ensures.items) (pushes_res _ _ _ _ _ c.self.invariant c.args.res)
