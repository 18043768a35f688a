-- What stands at the front, by the first byte.
use Rattle.std.proofs.Common.{ℕ, List, Some, None, sym, ap, ◌∙◌}
use Rattle.token_texts.specs.ByteLemmas.{not_byte}
use Rattle.sdf_reader.specs.Tokens.{word_length, word_cut, cut_at}
use Rattle.sdf_reader.proofs.Cutting.{cut_blank, cut_left, cut_right, cut_quote, cut_other}
use Rattle.sdf_reader.proofs.scan.cut_at.Goals as goal

pub returns-then-is_blank-clause-value : goal.returns-then-is_blank-clause-value
returns-then-is_blank-clause-value c = sym (cut_blank c.args.first c.args.rest.now (sym c.is_blank.ensures ∙ c.if-is_blank.true))

pub returns-then-first-eq40-clause-value : goal.returns-then-first-eq40-clause-value
returns-then-first-eq40-clause-value c = sym (cut_left c.args.rest.now) ∙ ap (λ (b : ℕ). cut_at b c.args.rest.now) (sym c.if-first-eq40.true)

pub returns-then-first-eq41-clause-value : goal.returns-then-first-eq41-clause-value
returns-then-first-eq41-clause-value c = sym (cut_right c.args.rest.now) ∙ ap (λ (b : ℕ). cut_at b c.args.rest.now) (sym c.if-first-eq41.true)

pub returns-then-first-eq34-clause-value : goal.returns-then-first-eq34-clause-value
returns-then-first-eq34-clause-value c =
    c.quoted_cut.ensures.value ∙ sym (cut_quote c.args.rest.now) ∙ ap (λ (b : ℕ). cut_at b c.args.rest.now) (sym c.if-first-eq34.true)

pub returns-in-Some-clause-value : goal.returns-in-Some-clause-value
returns-in-Some-clause-value c =
    sym (cut_other c.args.first c.args.rest.now (Some c.in-Some.comment) (sym c.is_blank.ensures ∙ c.if-is_blank.false) (not_byte _ 40 c.if-first-eq40.false) (not_byte _ 41 c.if-first-eq41.false) (not_byte _ 34 c.if-first-eq34.false) (sym c.in-Some.ensures.value))

pub returns-in_default-clause-value : goal.returns-in_default-clause-value
returns-in_default-clause-value c =
    c.word_cut.ensures.value ∙ ap (λ (l : List ℕ). word_cut l (word_length l)) c.requires.parts
    ∙ sym (cut_other c.args.first c.args.rest.now None (sym c.is_blank.ensures ∙ c.if-is_blank.false) (not_byte _ 40 c.if-first-eq40.false) (not_byte _ 41 c.if-first-eq41.false) (not_byte _ 34 c.if-first-eq34.false) (sym c.in_default.ensures.value))
