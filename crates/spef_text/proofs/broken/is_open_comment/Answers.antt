-- A slash begins a comment, which may be open, or a run.
use Rattle.std.proofs.Common.{◌≡◌, ℕ, List, Option, Some, None, Bool, true, false, not, refl, sym, ap, ◌∙◌}
use Rattle.std.specs.Option.{is_some}
use Rattle.token_texts.specs.Comments.{pair_place, comment_to}
use Rattle.spef_text.specs.Tokens.{is_broken_cut}
use Rattle.spef_text.specs.declared.scan.Kind.TheVariants.{Broken}
use Rattle.spef_text.proofs.Cutting.{cut_line, cut_comment, cut_slash}
use Rattle.spef_text.proofs.broken.is_open_comment.Goals as goal

pub returns-then-begins_with : goal.returns-then-begins_with
returns-then-begins_with c = sym (ap is_broken_cut (cut_line c.args.rest.now (sym c.begins_with.ensures ∙ c.if-begins_with.true)))

is_open : (inner : List ℕ) (end : Option ℕ) (none : Bool) → is_some end ≡ not none → none ≡ is_broken_cut (comment_to Broken inner end)
is_open inner None true is = refl
is_open inner None false is = absurd (cc)
is_open inner (Some place) true is = absurd (cc)
is_open inner (Some place) false is = refl

pub returns-then-begins_with-2 : goal.returns-then-begins_with-2
returns-then-begins_with-2 c =
    let cut = cut_comment c.args.rest.now (sym c.begins_with.ensures ∙ c.if-begins_with.false) (sym c.begins_with-else-begins_with.ensures ∙ c.if-begins_with-2.true) in
    is_open c.split_at.result.1.now c.pair_place.result c.is_none.result c.is_none.ensures
    ∙ sym (ap is_broken_cut (cut ∙ ap (λ l. comment_to Broken l (pair_place 42 47 l)) (sym c.split_at.ensures.back) ∙ ap (comment_to Broken c.split_at.result.1.now) (sym c.pair_place.ensures.value)))

pub returns-else-begins_with-2 : goal.returns-else-begins_with-2
returns-else-begins_with-2 c =
    sym (ap is_broken_cut (cut_slash c.args.rest.now (sym c.begins_with.ensures ∙ c.if-begins_with.false) (sym c.begins_with-else-begins_with.ensures ∙ c.if-begins_with-2.false)))
