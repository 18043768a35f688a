-- A backslash takes the next byte, if there is one.
use Rattle.std.proofs.Common.{ℕ, ◌+◌, sym, ap, ◌∙◌, eqb-true}
use Rattle.spef_text.specs.Tokens.{run_length}
use Rattle.token_texts.specs.declared.cuts.Cut.TheVariants.{Take}
use Rattle.spef_text.specs.declared.scan.Kind.TheVariants.{Whole}
use Rattle.spef_text.proofs.Cutting.{cut_backslash, cut_backslash_last}
use Rattle.spef_text.proofs.Runs.{some_bytes}
use Rattle.spef_text.proofs.scan.backslash_cut.Goals as goal

pub returns-then-is_empty : goal.returns-then-is_empty
returns-then-is_empty c =
    sym (cut_backslash_last c.args.rest.now (eqb-true _ 0 (sym c.is_empty.ensures ∙ c.if-is_empty.true)))

pub returns-else-is_empty : goal.returns-else-is_empty
returns-else-is_empty c =
    sym (cut_backslash c.args.rest.now (some_bytes c.args.rest.now (sym c.is_empty.ensures ∙ c.if-is_empty.false)) ∙ sym (ap (λ (n : ℕ). Take (n + 2) Whole) (c.run_length.ensures.value ∙ ap run_length c.split_at.ensures.back)))
