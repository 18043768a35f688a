use Rattle.std.proofs.Common.{◌+ℤ◌, ◌*ℤ◌, ◌+◌, ◌*◌, ap, ◌∙◌, FitsSigned, unsigned_abs, arith}
use Rattle.std.specs.Int.{w64, w128}
use Rattle.std.proofs.lemmas.Int.{ints, to_z-of_z}
use Rattle.nldm_lookup.specs.Axes.{most}
use Rattle.nldm_lookup.specs.BetweenOf.{between_of}
use Rattle.nldm_lookup.specs.Rows.{row_at}
use Rattle.nldm_lookup.proofs.Answering.{weight_fits, no_bits}
use Rattle.nldm_lookup.proofs.Scaling.{row_small, lone_small, fits, one_weight, two_weights, alone}
use Rattle.nldm_lookup.proofs.Weighing.{by_rows}
use Rattle.nldm_lookup.proofs.table.Table.weighed.Goals as goal

pub returns-then-slew-eq0-clause-value : goal.returns-then-slew-eq0-clause-value
returns-then-slew-eq0-clause-value g c =
    let f : FitsSigned w128 c.row.result = record { sfits = c.row.type_inv } in
    let h : FitsSigned w128 c.by_weight-low.result = record { sfits = c.by_weight-low.type_inv } in
    let w : FitsSigned w64 c.args.slew.low = weight_fits c.args.slew.low c.requires.slew.small_low in
    let low = (simp to_z-of_z at c.by_weight-low.ensures) ∙ ap (λ x. x *ℤ c.args.slew.low) c.row.ensures.value in
    let none = no_bits c.args.slew.high c.requires.slew.small_high c.if-slew-eq0.true in
    simp to_z-of_z ((low ∙ alone _ (row_at c.args.self.now (c.args.slew.place + 1) (between_of c.args.load)) c.args.slew.low c.args.slew.high none) ∙ by_rows c.args.self.now (between_of c.args.slew) (between_of c.args.load))

pub returns-then-slew-eq0-clause-small : goal.returns-then-slew-eq0-clause-small
returns-then-slew-eq0-clause-small g c =
    let bound = most * (unsigned_abs c.args.load.low + unsigned_abs c.args.load.high) in
    let f : FitsSigned w128 c.row.result = record { sfits = c.row.type_inv } in
    let h : FitsSigned w128 c.by_weight-low.result = record { sfits = c.by_weight-low.type_inv } in
    let w : FitsSigned w64 c.args.slew.low = weight_fits c.args.slew.low c.requires.slew.small_low in
    simp to_z-of_z (lone_small c.by_weight-low.result c.row.result c.args.slew.low c.args.slew.high bound (simp to_z-of_z at c.by_weight-low.ensures) c.row.ensures.small)

pub overflow_add-result : goal.overflow_add-result
overflow_add-result g c =
    let bound = most * (unsigned_abs c.args.load.low + unsigned_abs c.args.load.high) in
    let f : FitsSigned w128 c.row.result = record { sfits = c.row.type_inv } in
    let f2 : FitsSigned w128 c.row-2.result = record { sfits = c.row-2.type_inv } in
    let h : FitsSigned w128 c.by_weight-low.result = record { sfits = c.by_weight-low.type_inv } in
    let h2 : FitsSigned w128 c.by_weight.result = record { sfits = c.by_weight.type_inv } in
    let w : FitsSigned w64 c.args.slew.low = weight_fits c.args.slew.low c.requires.slew.small_low in
    let w2 : FitsSigned w64 c.args.slew.high = weight_fits c.args.slew.high c.requires.slew.small_high in
    let small = row_small c.by_weight-low.result c.by_weight.result c.row.result c.row-2.result c.args.slew.low c.args.slew.high bound
    (simp to_z-of_z at c.by_weight-low.ensures) (simp to_z-of_z at c.by_weight.ensures) c.row.ensures.small c.row-2.ensures.small in
    let within = one_weight (unsigned_abs c.args.load.low + unsigned_abs c.args.load.high) (omega (arith, c.requires.load.small_low, c.requires.load.small_high)) in
    let few = two_weights bound (unsigned_abs c.args.slew.low + unsigned_abs c.args.slew.high) within (omega (arith, c.requires.slew.small_low, c.requires.slew.small_high)) in
    simp to_z-of_z (fits (c.by_weight-low.result +ℤ c.by_weight.result) (omega (arith, small, few)))

pub returns-clause-value : goal.returns-clause-value
returns-clause-value g c =
    let bound = most * (unsigned_abs c.args.load.low + unsigned_abs c.args.load.high) in
    let f : FitsSigned w128 c.row.result = record { sfits = c.row.type_inv } in
    let f2 : FitsSigned w128 c.row-2.result = record { sfits = c.row-2.type_inv } in
    let h : FitsSigned w128 c.by_weight-low.result = record { sfits = c.by_weight-low.type_inv } in
    let h2 : FitsSigned w128 c.by_weight.result = record { sfits = c.by_weight.type_inv } in
    let w : FitsSigned w64 c.args.slew.low = weight_fits c.args.slew.low c.requires.slew.small_low in
    let w2 : FitsSigned w64 c.args.slew.high = weight_fits c.args.slew.high c.requires.slew.small_high in
    let low = simp to_z-of_z at c.by_weight-low.ensures in
    let high = simp to_z-of_z at c.by_weight.ensures in
    let small = row_small c.by_weight-low.result c.by_weight.result c.row.result c.row-2.result c.args.slew.low c.args.slew.high bound
    low high c.row.ensures.small c.row-2.ensures.small in
    let within = one_weight (unsigned_abs c.args.load.low + unsigned_abs c.args.load.high) (omega (arith, c.requires.load.small_low, c.requires.load.small_high)) in
    let few = two_weights bound (unsigned_abs c.args.slew.low + unsigned_abs c.args.slew.high) within (omega (arith, c.requires.slew.small_low, c.requires.slew.small_high)) in
    let k : FitsSigned w128 (c.by_weight-low.result +ℤ c.by_weight.result) = fits (c.by_weight-low.result +ℤ c.by_weight.result) (omega (arith, small, few)) in
    let one = low ∙ ap (λ x. x *ℤ c.args.slew.low) c.row.ensures.value in
    let other = high ∙ ap (λ x. x *ℤ c.args.slew.high) c.row-2.ensures.value in
    simp to_z-of_z (omega (arith, ints, one, other, by_rows c.args.self.now (between_of c.args.slew) (between_of c.args.load)))

pub returns-clause-small : goal.returns-clause-small
returns-clause-small g c =
    let bound = most * (unsigned_abs c.args.load.low + unsigned_abs c.args.load.high) in
    let f : FitsSigned w128 c.row.result = record { sfits = c.row.type_inv } in
    let f2 : FitsSigned w128 c.row-2.result = record { sfits = c.row-2.type_inv } in
    let h : FitsSigned w128 c.by_weight-low.result = record { sfits = c.by_weight-low.type_inv } in
    let h2 : FitsSigned w128 c.by_weight.result = record { sfits = c.by_weight.type_inv } in
    let w : FitsSigned w64 c.args.slew.low = weight_fits c.args.slew.low c.requires.slew.small_low in
    let w2 : FitsSigned w64 c.args.slew.high = weight_fits c.args.slew.high c.requires.slew.small_high in
    let small = row_small c.by_weight-low.result c.by_weight.result c.row.result c.row-2.result c.args.slew.low c.args.slew.high bound
    (simp to_z-of_z at c.by_weight-low.ensures) (simp to_z-of_z at c.by_weight.ensures) c.row.ensures.small c.row-2.ensures.small in
    let within = one_weight (unsigned_abs c.args.load.low + unsigned_abs c.args.load.high) (omega (arith, c.requires.load.small_low, c.requires.load.small_high)) in
    let few = two_weights bound (unsigned_abs c.args.slew.low + unsigned_abs c.args.slew.high) within (omega (arith, c.requires.slew.small_low, c.requires.slew.small_high)) in
    let k : FitsSigned w128 (c.by_weight-low.result +ℤ c.by_weight.result) = fits (c.by_weight-low.result +ℤ c.by_weight.result) (omega (arith, small, few)) in
    simp to_z-of_z small
