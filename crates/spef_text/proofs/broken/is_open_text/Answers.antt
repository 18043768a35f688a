-- The place that was found is the first quote or line end.
use Rattle.std.proofs.Common.{◌≡◌, ℕ, ◌+◌, Bool, true, false, cond, not, ◌==◌, Some, length, get_or, sym, refl, ap, ◌∙◌}
use Rattle.spef_text.specs.Tokens.{ends_text, text_cut, is_broken_cut}
use Rattle.token_texts.specs.declared.cuts.Cut.TheVariants.{Take}
use Rattle.spef_text.specs.declared.scan.Kind.TheVariants.{Whole, Broken}
use Rattle.token_texts.specs.Searching.{byte_found}
use Rattle.spef_text.proofs.broken.is_open_text.Goals as goal

unless : (n m : ℕ) (quote : Bool) → not quote ≡ is_broken_cut (cond quote (Take n Whole) (Take m Broken))
unless n m true = refl
unless n m false = refl

pub returns-in-Some : goal.returns-in-Some
returns-in-Some c =
    let place = c.in-Some.place in
    let at = sym (byte_found ends_text c.args.rest.now (Some place) c.in-Some.ensures) in
    unless (place + 2) (length c.args.rest.now + 1) (get_or c.args.rest.now place 0 == 34) ∙ sym (ap (λ end. is_broken_cut (text_cut c.args.rest.now end)) at)
