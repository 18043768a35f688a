-- The place that was found is the first quote or line end.
use Rattle.std.proofs.Common.{◌+◌, Bool, length, Some, None, cond, sym, ap, ◌∙◌, eq-eqb}
use Rattle.spef_text.specs.Tokens.{ends_text, text_cut}
use Rattle.token_texts.specs.declared.cuts.Cut.TheVariants.{Take}
use Rattle.spef_text.specs.declared.scan.Kind.TheVariants.{Whole, Broken}
use Rattle.token_texts.specs.Searching.{byte_found}
use Rattle.token_texts.specs.ByteLemmas.{not_byte}
use Rattle.spef_text.proofs.scan.text_cut.Goals.{in_default-via-in-Some+else-rest-place-eq34, in_default-via-in_default}
use Rattle.spef_text.proofs.scan.text_cut.Goals as goal

pub returns-in-Some : goal.returns-in-Some
returns-in-Some c =
    let place = c.in-Some.place in
    let at = sym (byte_found ends_text c.args.rest.now (Some place) c.in-Some.ensures) in
    sym (ap (text_cut c.args.rest.now) at ∙ ap (λ (b : Bool). cond b (Take (place + 2) Whole) (Take (length c.args.rest.now + 1) Broken)) (eq-eqb _ 34 c.if-rest-place-eq34.true))

pub returns-in_default : goal.returns-in_default
returns-in_default c = elim c.in_default.branch [
  | in_default-via-in-Some+else-rest-place-eq34 w ↦
      let place = w.in-Some.place in
      let at = sym (byte_found ends_text c.args.rest.now (Some place) w.in-Some.ensures) in
      let stops = not_byte _ 34 w.if-rest-place-eq34.false in
      sym (ap (text_cut c.args.rest.now) at
      ∙ ap (λ (b : Bool). cond b (Take (place + 2) Whole) (Take (length c.args.rest.now + 1) Broken)) stops)
  | in_default-via-in_default w ↦
      sym (ap (text_cut c.args.rest.now) (sym (byte_found ends_text c.args.rest.now None w.in_default.ensures)))
]
