use Rattle.std.proofs.Common.{◌+ℤ◌, ◌*ℤ◌, ◌+◌, ap, ◌∙◌, FitsSigned, unsigned_abs, arith}
use Rattle.std.specs.Int.{w64, w128}
use Rattle.std.proofs.lemmas.Int.{ints, to_z-of_z}
use Rattle.nldm_lookup.specs.Axes.{most}
use Rattle.nldm_lookup.proofs.Answering.{weight_fits}
use Rattle.nldm_lookup.proofs.Scaling.{row_small, lone_small, fits, one_weight}
use Rattle.nldm_lookup.proofs.table.Table.row.Goals as goal

pub returns-then-load-eq0-clause-small : goal.returns-then-load-eq0-clause-small
returns-then-load-eq0-clause-small g c =
    let f : FitsSigned w128 c.value.result = record { sfits = c.value.type_inv } in
    let h : FitsSigned w128 c.by_weight-low.result = record { sfits = c.by_weight-low.type_inv } in
    let w : FitsSigned w64 c.args.load.low = weight_fits c.args.load.low c.requires.load.small_low in
    simp to_z-of_z (lone_small c.by_weight-low.result c.value.result c.args.load.low c.args.load.high most (simp to_z-of_z at c.by_weight-low.ensures) c.value.ensures.small)

pub overflow_add-result : goal.overflow_add-result
overflow_add-result g c =
    let f : FitsSigned w128 c.value.result = record { sfits = c.value.type_inv } in
    let f2 : FitsSigned w128 c.value-2.result = record { sfits = c.value-2.type_inv } in
    let h : FitsSigned w128 c.by_weight-low.result = record { sfits = c.by_weight-low.type_inv } in
    let h2 : FitsSigned w128 c.by_weight.result = record { sfits = c.by_weight.type_inv } in
    let w : FitsSigned w64 c.args.load.low = weight_fits c.args.load.low c.requires.load.small_low in
    let w2 : FitsSigned w64 c.args.load.high = weight_fits c.args.load.high c.requires.load.small_high in
    let small = row_small c.by_weight-low.result c.by_weight.result c.value.result c.value-2.result c.args.load.low c.args.load.high most
    (simp to_z-of_z at c.by_weight-low.ensures) (simp to_z-of_z at c.by_weight.ensures) c.value.ensures.small c.value-2.ensures.small in
    let few = one_weight (unsigned_abs c.args.load.low + unsigned_abs c.args.load.high) (omega (arith, c.requires.load.small_low, c.requires.load.small_high)) in
    simp to_z-of_z (fits (c.by_weight-low.result +ℤ c.by_weight.result) (omega (arith, small, few)))

pub returns-clause-value : goal.returns-clause-value
returns-clause-value g c =
    let f : FitsSigned w128 c.value.result = record { sfits = c.value.type_inv } in
    let f2 : FitsSigned w128 c.value-2.result = record { sfits = c.value-2.type_inv } in
    let h : FitsSigned w128 c.by_weight-low.result = record { sfits = c.by_weight-low.type_inv } in
    let h2 : FitsSigned w128 c.by_weight.result = record { sfits = c.by_weight.type_inv } in
    let w : FitsSigned w64 c.args.load.low = weight_fits c.args.load.low c.requires.load.small_low in
    let w2 : FitsSigned w64 c.args.load.high = weight_fits c.args.load.high c.requires.load.small_high in
    let low = simp to_z-of_z at c.by_weight-low.ensures in
    let high = simp to_z-of_z at c.by_weight.ensures in
    let small = row_small c.by_weight-low.result c.by_weight.result c.value.result c.value-2.result c.args.load.low c.args.load.high most
    low high c.value.ensures.small c.value-2.ensures.small in
    let few = one_weight (unsigned_abs c.args.load.low + unsigned_abs c.args.load.high) (omega (arith, c.requires.load.small_low, c.requires.load.small_high)) in
    let k : FitsSigned w128 (c.by_weight-low.result +ℤ c.by_weight.result) = fits (c.by_weight-low.result +ℤ c.by_weight.result) (omega (arith, small, few)) in
    let one = low ∙ ap (λ x. x *ℤ c.args.load.low) c.value.ensures.value in
    let other = high ∙ ap (λ x. x *ℤ c.args.load.high) c.value-2.ensures.value in
    simp to_z-of_z (omega (arith, ints, one, other))

pub returns-clause-small : goal.returns-clause-small
returns-clause-small g c =
    let f : FitsSigned w128 c.value.result = record { sfits = c.value.type_inv } in
    let f2 : FitsSigned w128 c.value-2.result = record { sfits = c.value-2.type_inv } in
    let h : FitsSigned w128 c.by_weight-low.result = record { sfits = c.by_weight-low.type_inv } in
    let h2 : FitsSigned w128 c.by_weight.result = record { sfits = c.by_weight.type_inv } in
    let w : FitsSigned w64 c.args.load.low = weight_fits c.args.load.low c.requires.load.small_low in
    let w2 : FitsSigned w64 c.args.load.high = weight_fits c.args.load.high c.requires.load.small_high in
    let small = row_small c.by_weight-low.result c.by_weight.result c.value.result c.value-2.result c.args.load.low c.args.load.high most
    (simp to_z-of_z at c.by_weight-low.ensures) (simp to_z-of_z at c.by_weight.ensures) c.value.ensures.small c.value-2.ensures.small in
    let few = one_weight (unsigned_abs c.args.load.low + unsigned_abs c.args.load.high) (omega (arith, c.requires.load.small_low, c.requires.load.small_high)) in
    let k : FitsSigned w128 (c.by_weight-low.result +ℤ c.by_weight.result) = fits (c.by_weight-low.result +ℤ c.by_weight.result) (omega (arith, small, few)) in
    simp to_z-of_z small
