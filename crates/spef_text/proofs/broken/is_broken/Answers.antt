-- By the first byte.
use Rattle.std.proofs.Common.{ℕ, sym, ap, ◌∙◌}
use Rattle.spef_text.specs.Tokens.{cut_at, is_broken_cut}
use Rattle.spef_text.proofs.Breaking.{by_first, nothing_broken, backslash_broken, others_broken}
use Rattle.spef_text.proofs.Cutting.{cut_quote}
use Rattle.token_texts.specs.ByteLemmas.{not_byte}
use Rattle.spef_text.proofs.broken.is_broken.Goals as goal

pub returns-in_default : goal.returns-in_default
returns-in_default c = sym (nothing_broken c.args.text.now c.in_default.ensures.cases)

pub returns-then-first-eq34 : goal.returns-then-first-eq34
returns-then-first-eq34 c =
    sym (by_first c.args.text.now _ _ c.in-Some.ensures.cases.0 ∙ ap (λ (b : ℕ). is_broken_cut (cut_at b c.in-Some.rest.now)) c.if-first-eq34.true ∙ ap is_broken_cut (cut_quote c.in-Some.rest.now) ∙ sym c.is_open_text.ensures)

pub returns-then-first-eq47 : goal.returns-then-first-eq47
returns-then-first-eq47 c =
    sym (by_first c.args.text.now _ _ c.in-Some.ensures.cases.0 ∙ ap (λ (b : ℕ). is_broken_cut (cut_at b c.in-Some.rest.now)) c.if-first-eq47.true ∙ sym c.is_open_comment.ensures)

pub returns-then-first-eq92 : goal.returns-then-first-eq92
returns-then-first-eq92 c =
    sym (by_first c.args.text.now _ _ c.in-Some.ensures.cases.0 ∙ ap (λ (b : ℕ). is_broken_cut (cut_at b c.in-Some.rest.now)) c.if-first-eq92.true ∙ backslash_broken c.in-Some.rest.now ∙ sym c.is_empty.ensures)

pub returns-else-first-eq92 : goal.returns-else-first-eq92
returns-else-first-eq92 c =
    sym (by_first c.args.text.now _ _ c.in-Some.ensures.cases.0 ∙ others_broken c.in-Some.first.now c.in-Some.rest.now (not_byte _ 34 c.if-first-eq34.false) (not_byte _ 47 c.if-first-eq47.false) (not_byte _ 92 c.if-first-eq92.false))
