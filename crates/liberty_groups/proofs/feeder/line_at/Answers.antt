use Rattle.std.proofs.Common.{◌+◌, ap, ◌∙◌, count_by}
use Rattle.token_texts.specs.Blanks.{is_line_end}
use Rattle.liberty_groups.proofs.Lines.{first_passed, none_left}
use Rattle.liberty_groups.proofs.feeder.line_at.Goals as goal

-- src/feeder.rt
pub loop-end-preserved : goal.loop-end-preserved
loop-end-preserved c =
    first_passed c.split_at.result.0.now c.split_at-in-loop-end.result.1.now c.loop-end.line c.loop-end.index c.in-Some.end c.loop-end.invariant
    c.split_at-in-loop-end.ensures.back c.in-Some.ensures

pub returns-clause-value : goal.returns-clause-value
returns-clause-value c =
    none_left c.split_at.result.0.now c.split_at-in-loop-end.result.1.now c.loop-end.line c.loop-end.index c.loop-end.invariant
    c.split_at-in-loop-end.ensures.back c.in_default.ensures
    ∙ ap (λ l. count_by is_line_end l + 1) c.split_at.ensures.front
