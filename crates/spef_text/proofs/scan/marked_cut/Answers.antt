-- What stands at the front where that is no blank, by the first byte.
use Rattle.std.proofs.Common.{ℕ, ◌+◌, sym, ap, ◌∙◌}
use Rattle.spef_text.specs.Tokens.{cut_at}
use Rattle.token_texts.specs.declared.cuts.Cut.TheVariants.{Take}
use Rattle.spef_text.specs.declared.scan.Kind.TheVariants.{Whole}
use Rattle.spef_text.proofs.Cutting.{cut_quote, cut_run}
use Rattle.token_texts.specs.ByteLemmas.{not_byte}
use Rattle.spef_text.proofs.scan.marked_cut.Goals as goal

pub returns-then-first-eq34 : goal.returns-then-first-eq34
returns-then-first-eq34 c =
    c.text_cut.ensures ∙ sym (cut_quote c.args.rest.now) ∙ ap (λ (b : ℕ). cut_at b c.args.rest.now) (sym c.if-first-eq34.true)

pub returns-else-first-eq92 : goal.returns-else-first-eq92
returns-else-first-eq92 c =
    sym (cut_run c.args.first c.args.rest.now c.requires.solid (not_byte _ 34 c.if-first-eq34.false) (not_byte _ 47 c.if-first-eq47.false) (not_byte _ 92 c.if-first-eq92.false)
    ∙ sym (ap (λ (n : ℕ). Take (n + 1) Whole) c.run_length.ensures.value))
