-- One text more.
use Rattle.std.proofs.Common.{[], ◌∷◌, ◌++◌, take, sym, ap, ◌∙◌}
use Rattle.std.proofs.lemmas.List.{take_more}
use Rattle.std.proofs.lemmas.Option.{slice_get_within, get_or_from_slice_get}
use Rattle.hierarchy.proofs.uses.texts_of.Goals as goal

pub loop-number-preserved : goal.loop-number-preserved
loop-number-preserved c =
    let names = c.args.names.now in
    let n = c.loop-number.number in
    let lt = slice_get_within names n c.text.result.now c.text.ensures.text in
    let text = c.in_ok-from_bytes.ensures ∙ sym (get_or_from_slice_get names n c.text.result.now [] c.text.ensures.text) in
    c.in_ok-push.ensures.ok ∙ ap (λ ts. ts ++ c.in_ok-from_bytes.field-0 ∷ []) c.loop-number.invariant
    ∙ ap (λ t. take n names ++ t ∷ []) text ∙ sym (take_more names n [] lt)
