use Rattle.std.proofs.Common.{[], ◌∷◌, ◌++◌, refl, ap, ◌∙◌}
use Rattle.rc_tree.specs.Numbering.{pin}
use Rattle.rc_tree.proofs.numbering.number_node.Goals as goal

-- src/numbering.rt
pub returns-in_ok-push-in-Some : goal.returns-in_ok-push-in-Some
returns-in_ok-push-in-Some c =
    pin c.in-Some.number c.in-Some.ensures.found (c.in_ok-push-in-Some.ensures.ok ∙ ap (λ number. c.args.spots.now.items ++ number ∷ []) c.in_ok-to_u32-in-Some.ensures) refl
