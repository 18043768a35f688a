-- The place that was found is the first line end.
use Rattle.std.proofs.Common.{ℕ, ◌+◌, length, Option, Some, None, ap}
use Rattle.std.specs.Prelude.{unwrap_or}
use Rattle.token_texts.specs.Blanks.{is_line_end}
use Rattle.token_texts.specs.Searching.{byte_found}
use Rattle.token_texts.proofs.comments.line_length.Goals as goal

pub returns-in-Some-clause-value : goal.returns-in-Some-clause-value
returns-in-Some-clause-value c = ap (λ (end : Option ℕ). unwrap_or end (length c.args.rest.now) + 1) (byte_found is_line_end c.args.rest.now (Some c.in-Some.place) c.in-Some.ensures)

pub returns-in-None-clause-value : goal.returns-in-None-clause-value
returns-in-None-clause-value c = ap (λ (end : Option ℕ). unwrap_or end (length c.args.rest.now) + 1) (byte_found is_line_end c.args.rest.now None c.in-None.ensures)
