use Rattle.std.proofs.Common.{◌∙◌, arith, FitsSigned, rules}
use Rattle.std.proofs.lemmas.Int.{ints, to_z-of_z}
use Rattle.std.specs.Int.{w128}
use Rattle.delay_units.proofs.ReadingLemmas.{reading_from, one_reading, all_past}
use Rattle.delay_units.proofs.readings.scale.Goals as goal

pub returns-in-Some-clause-reading : goal.returns-in-Some-clause-reading
returns-in-Some-clause-reading c =
    let f : FitsSigned w128 c.product_of.result = record { sfits = c.product_of.type_inv } in
    let g : FitsSigned w128 c.power_of.result = record { sfits = c.power_of.type_inv } in
    let ea = to_z-of_z w128 c.product_of.result f ∙ c.product_of.ensures.value in
    let eb = to_z-of_z w128 c.power_of.result g ∙ c.power_of.ensures.value in
    let h : FitsSigned w128 c.in-Some.value = search rules in
    simp to_z-of_z (reading_from c.args.number.now c.args.unit.now _ _ _ ea eb c.in-Some.ensures.value)

pub returns-in-Some-clause-only : goal.returns-in-Some-clause-only
returns-in-Some-clause-only c = λ v r.
    one_reading c.args.number.now c.args.unit.now v _ r (returns-in-Some-clause-reading c)

pub returns-in_default-clause-past : goal.returns-in_default-clause-past
returns-in_default-clause-past c =
    let f : FitsSigned w128 c.product_of.result = record { sfits = c.product_of.type_inv } in
    let g : FitsSigned w128 c.power_of.result = record { sfits = c.power_of.type_inv } in
    let ea = to_z-of_z w128 c.product_of.result f ∙ c.product_of.ensures.value in
    let eb = to_z-of_z w128 c.power_of.result g ∙ c.power_of.ensures.value in
    let h : FitsSigned w128 c.in-Some.value = search rules in
    (c.in-Some.value, reading_from c.args.number.now c.args.unit.now _ _ _ ea eb c.in-Some.ensures.value, omega (arith, ints))

pub returns-in_default-2-clause-past : goal.returns-in_default-2-clause-past
returns-in_default-2-clause-past c =
    let f : FitsSigned w128 c.product_of.result = record { sfits = c.product_of.type_inv } in
    let g : FitsSigned w128 c.power_of.result = record { sfits = c.power_of.type_inv } in
    let ea = to_z-of_z w128 c.product_of.result f ∙ c.product_of.ensures.value in
    let eb = to_z-of_z w128 c.power_of.result g ∙ c.power_of.ensures.value in
    let h : FitsSigned w128 c.in-Some.value = search rules in
    (c.in-Some.value, reading_from c.args.number.now c.args.unit.now _ _ _ ea eb c.in-Some.ensures.value, omega (arith, ints))

pub returns-in_default-3-clause-past : goal.returns-in_default-3-clause-past
returns-in_default-3-clause-past c =
    let f : FitsSigned w128 c.product_of.result = record { sfits = c.product_of.type_inv } in
    let g : FitsSigned w128 c.power_of.result = record { sfits = c.power_of.type_inv } in
    let ea = to_z-of_z w128 c.product_of.result f ∙ c.product_of.ensures.value in
    let eb = to_z-of_z w128 c.power_of.result g ∙ c.power_of.ensures.value in
    let p = c.in_default.ensures.past in
    (p.0, reading_from c.args.number.now c.args.unit.now _ _ p.0 ea eb p.1, omega (arith, ints, p.2))

pub returns-in_default-clause-all_past : goal.returns-in_default-clause-all_past
returns-in_default-clause-all_past c = λ v r.
    all_past c.args.number.now c.args.unit.now c.args.limit v (returns-in_default-clause-past c) r

pub returns-in_default-2-clause-all_past : goal.returns-in_default-2-clause-all_past
returns-in_default-2-clause-all_past c = λ v r.
    all_past c.args.number.now c.args.unit.now c.args.limit v (returns-in_default-2-clause-past c) r

pub returns-in_default-3-clause-all_past : goal.returns-in_default-3-clause-all_past
returns-in_default-3-clause-all_past c = λ v r.
    all_past c.args.number.now c.args.unit.now c.args.limit v (returns-in_default-3-clause-past c) r
