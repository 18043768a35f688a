-- One row more.
use Rattle.std.proofs.Common.{rules, refl, ap, ◌∙◌, ◌+ℤ◌}
use Rattle.std.specs.Int.{w128}
use Rattle.std.proofs.lemmas.Int.{to_z-of_z}
use mir.Val.{SFits}
use Rattle.sdf_reader.specs.Lines.{time_or_zero, value_members, larger, largest}
use Rattle.sdf_reader.proofs.SumLemmas.{with_wire, with_path}
use Rattle.sdf_reader.proofs.summary.with_row.Goals as goal

pub returns-in-Wire : goal.returns-in-Wire
returns-in-Wire c =
    let before : SFits w128 c.args.summary.now.sum = search rules in
    let after : SFits w128 c.added.result = search rules in
    rw c.in-Wire.is
    (with_wire c.args.summary.now _ c.in-Wire.from c.in-Wire.to c.in-Wire.rise c.in-Wire.fall refl refl
    (to_z-of_z w128 c.added.result after ∙ c.added.ensures ∙ ap (λ n. n +ℤ time_or_zero c.in-Wire.rise.typ) (to_z-of_z w128 c.args.summary.now.sum before))
    (c.larger_of-in-Wire.ensures ∙ ap (λ m. larger m (largest (value_members c.in-Wire.fall))) c.larger_of.ensures))

pub returns-in-Path : goal.returns-in-Path
returns-in-Path c =
    let before : SFits w128 c.args.summary.now.sum = search rules in
    let between : SFits w128 c.added-in-Path.result = search rules in
    let after : SFits w128 c.added-in-Path-2.result = search rules in
    let rise = to_z-of_z w128 c.added-in-Path.result between ∙ c.added-in-Path.ensures ∙ ap (λ n. n +ℤ time_or_zero c.in-Path.rise.typ) (to_z-of_z w128 c.args.summary.now.sum before) in
    rw c.in-Path.is
    (with_path c.args.summary.now _ c.in-Path.cell c.in-Path.instance c.in-Path.from c.in-Path.to c.in-Path.rise c.in-Path.fall refl refl
    (to_z-of_z w128 c.added-in-Path-2.result after ∙ c.added-in-Path-2.ensures ∙ ap (λ n. n +ℤ time_or_zero c.in-Path.fall.typ) rise)
    (c.larger_of-in-Path-2.ensures ∙ ap (λ m. larger m (largest (value_members c.in-Path.fall))) c.larger_of-in-Path.ensures))
