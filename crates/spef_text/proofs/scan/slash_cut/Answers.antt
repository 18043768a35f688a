-- A slash begins a comment, or a run.
use Rattle.std.proofs.Common.{ℕ, ◌+◌, sym, ap, ◌∙◌}
use Rattle.edge_io.specs.Bytes.{slash}
use Rattle.token_texts.specs.Comments.{comment_cut}
use Rattle.token_texts.specs.declared.cuts.Cut.TheVariants.{Skip, Take}
use Rattle.spef_text.specs.declared.scan.Kind.TheVariants.{Whole, Broken}
use Rattle.spef_text.proofs.Cutting.{cut_line, cut_comment, cut_slash}
use Rattle.spef_text.proofs.scan.slash_cut.Goals as goal

pub returns-then-begins_with : goal.returns-then-begins_with
returns-then-begins_with c =
    sym (cut_line c.args.rest.now (sym c.begins_with.ensures ∙ c.if-begins_with.true) ∙ sym (ap (λ (n : ℕ). Skip n) c.line_length.ensures.value))

pub returns-then-begins_with-2 : goal.returns-then-begins_with-2
returns-then-begins_with-2 c =
    sym (cut_comment c.args.rest.now (sym c.begins_with.ensures ∙ c.if-begins_with.false) (sym c.begins_with-else-begins_with.ensures ∙ c.if-begins_with-2.true)
    ∙ sym (c.comment_cut.ensures.value ∙ ap (comment_cut slash Broken) c.split_at.ensures.back))

pub returns-else-begins_with-2 : goal.returns-else-begins_with-2
returns-else-begins_with-2 c =
    sym (cut_slash c.args.rest.now (sym c.begins_with.ensures ∙ c.if-begins_with.false) (sym c.begins_with-else-begins_with.ensures ∙ c.if-begins_with-2.false)
    ∙ sym (ap (λ (n : ℕ). Take (n + 1) Whole) c.run_length.ensures.value))
