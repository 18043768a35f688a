use Rattle.std.proofs.Common.{◌∙◌, sym, true≢false}
use Rattle.rc_tree.proofs.tree.RcTree.rebuild.Goals as goal

-- src/building.rt
pub returns-then-is_too_large-clause-refused : goal.returns-then-is_too_large-clause-refused
returns-then-is_too_large-clause-refused g c = (c.in_ok-number.ensures.listed, c.is_too_large.ensures.0 c.if-is_too_large.true)

pub lone-requires-clause-fit : goal.lone-requires-clause-fit
lone-requires-clause-fit g c = (c.in_ok-number.ensures.listed, (λ large. true≢false (sym (c.is_too_large.ensures.1 large) ∙ c.if-is_too_large.false)))

pub branched-requires-clause-fit : goal.branched-requires-clause-fit
branched-requires-clause-fit g c = (c.in_ok-number.ensures.listed, (λ large. true≢false (sym (c.is_too_large.ensures.1 large) ∙ c.if-is_too_large.false)))
