use Rattle.std.proofs.Common.{◌≡◌, [], ◌∷◌, Some, codes, sym, ap, ◌∙◌}
use Rattle.liberty_groups.specs.Tables.{tree_of, attribute_at}
use Rattle.liberty_tables.specs.Library.{values_in}
use Rattle.liberty_tables.proofs.UnitLemmas.{none_given, other_count, two_values, load_some, load_none}
use Rattle.liberty_tables.proofs.units.load_unit.Goals as goal

pub returns-in_err-attribute-clause-none : goal.returns-in_err-attribute-clause-none
returns-in_err-attribute-clause-none c =
    none_given (tree_of c.args.tree.now) c.from_residual.result (sym (ap (values_in (codes "capacitive_load_unit")) c.root.ensures.tree) ∙ sym c.in_err-attribute.ensures.values)

pub returns-then-value_count-ne2-clause-none : goal.returns-then-value_count-ne2-clause-none
returns-then-value_count-ne2-clause-none c =
    let values = (attribute_at c.args.tree.now c.in_ok-attribute.attribute.0).values in
    other_count (tree_of c.args.tree.now) values (sym (ap (values_in (codes "capacitive_load_unit")) c.root.ensures.tree) ∙ sym c.in_ok-attribute.ensures.values)
    (λ two. c.if-value_count-ne2.true (c.value_count.ensures ∙ two))

pub returns-clause-some : goal.returns-clause-some
returns-clause-some c =
    let values = (attribute_at c.args.tree.now c.in_ok-attribute.attribute.0).values in
    let two : values ≡ c.bytes-number.result.now ∷ c.bytes-word.result.now ∷ [] = two_values values c.bytes-number.result.now c.bytes-word.result.now (sym c.value_count.ensures ∙ c.if-value_count-ne2.false)
    (c.value.ensures ∙ ap Some (sym c.bytes-number.ensures)) (c.value-2.ensures ∙ ap Some (sym c.bytes-word.ensures)) in
    load_some (tree_of c.args.tree.now) c.bytes-number.result.now c.bytes-word.result.now c.unit_of.result
    (sym (ap (values_in (codes "capacitive_load_unit")) c.root.ensures.tree) ∙ sym c.in_ok-attribute.ensures.values ∙ ap Some two) c.unit_of.ensures.some

pub returns-clause-none : goal.returns-clause-none
returns-clause-none c =
    let values = (attribute_at c.args.tree.now c.in_ok-attribute.attribute.0).values in
    let two : values ≡ c.bytes-number.result.now ∷ c.bytes-word.result.now ∷ [] = two_values values c.bytes-number.result.now c.bytes-word.result.now (sym c.value_count.ensures ∙ c.if-value_count-ne2.false)
    (c.value.ensures ∙ ap Some (sym c.bytes-number.ensures)) (c.value-2.ensures ∙ ap Some (sym c.bytes-word.ensures)) in
    load_none (tree_of c.args.tree.now) c.bytes-number.result.now c.bytes-word.result.now c.unit_of.result
    (sym (ap (values_in (codes "capacitive_load_unit")) c.root.ensures.tree) ∙ sym c.in_ok-attribute.ensures.values ∙ ap Some two) c.unit_of.ensures.none
