-- What stands at the front, by the first byte.
use Rattle.std.proofs.Common.{ℕ, ◌+◌, Some, sym, ap, ◌∙◌}
use Rattle.token_texts.specs.ByteLemmas.{not_byte}
use Rattle.liberty_groups.specs.Tokens.{cut_at}
use Rattle.liberty_groups.proofs.Cutting.{cut_simple, cut_blank, cut_quote, cut_backslash, cut_other, cut_mark, cut_word}
use Rattle.liberty_groups.specs.declared.scan.Kind.TheVariants.{Word}
use Rattle.token_texts.specs.declared.cuts.Cut.TheVariants.{Take}
use Rattle.liberty_groups.proofs.scan.cut_at.Goals as goal

pub returns-then-is_simple-clause-value : goal.returns-then-is_simple-clause-value
returns-then-is_simple-clause-value c =
    ap (λ n. Take (n + 1) Word) c.word_length.ensures.value
    ∙ sym (cut_simple c.args.first c.args.rest.now (sym c.is_simple.ensures ∙ c.if-is_simple.true))

pub returns-then-is_blank-clause-value : goal.returns-then-is_blank-clause-value
returns-then-is_blank-clause-value c = sym (cut_blank c.args.first c.args.rest.now (sym c.is_blank.ensures ∙ c.if-is_blank.true))

pub returns-then-first-eq34-clause-value : goal.returns-then-first-eq34-clause-value
returns-then-first-eq34-clause-value c =
    c.text_cut.ensures.value ∙ sym (cut_quote c.args.rest.now) ∙ ap (λ (b : ℕ). cut_at b c.args.rest.now) (sym c.if-first-eq34.true)

pub returns-then-first-eq92-clause-value : goal.returns-then-first-eq92-clause-value
returns-then-first-eq92-clause-value c =
    c.backslash_cut.ensures.value ∙ sym (cut_backslash c.args.rest.now) ∙ ap (λ (b : ℕ). cut_at b c.args.rest.now) (sym c.if-first-eq92.true)

pub returns-in-Some-clause-value : goal.returns-in-Some-clause-value
returns-in-Some-clause-value c =
    sym (cut_other c.args.first c.args.rest.now (Some c.in-Some.comment) (sym c.is_blank.ensures ∙ c.if-is_blank.false) (not_byte _ 34 c.if-first-eq34.false) (not_byte _ 92 c.if-first-eq92.false) (sym c.in-Some.ensures.value))

pub returns-in-Some-mark_of-clause-value : goal.returns-in-Some-mark_of-clause-value
returns-in-Some-mark_of-clause-value c =
    sym (cut_mark c.args.first c.args.rest.now c.in-Some-mark_of.kind (sym c.is_blank.ensures ∙ c.if-is_blank.false) (not_byte _ 34 c.if-first-eq34.false) (not_byte _ 92 c.if-first-eq92.false) (sym c.in_default.ensures.value) (sym c.in-Some-mark_of.ensures))

pub returns-in_default-mark_of-clause-value : goal.returns-in_default-mark_of-clause-value
returns-in_default-mark_of-clause-value c =
    c.word_cut.ensures.value ∙ sym (cut_word c.args.first c.args.rest.now (sym c.is_blank.ensures ∙ c.if-is_blank.false) (not_byte _ 34 c.if-first-eq34.false) (not_byte _ 92 c.if-first-eq92.false) (sym c.in_default.ensures.value) (sym c.in_default-mark_of.ensures))
