use Rattle.std.proofs.Common.{◌≡◌, ◌*◌, ◌≤◌, ℕ, ℤ, pos, List, ◌≤ℤ◌, unsigned_abs, arith, FitsSigned, subst, ap}
use Rattle.std.specs.Int.{w64, w128}
use Rattle.std.proofs.lemmas.Int.{ints, to_z-of_z, fits_signed_from_abs}
use Rattle.std.proofs.lemmas.Result.{err_from_is_err_and}
use Rattle.delay_units.specs.Rounding.{IsRounding}
use Rattle.nldm_lookup.specs.Axes.{most}
use Rattle.nldm_lookup.specs.AxisEnds.{IsAxisEnd}
use Rattle.nldm_lookup.specs.Betweens.{IsBetween, IsPassed}
use Rattle.nldm_lookup.specs.BetweenOf.{between_of}
use Rattle.nldm_lookup.specs.Interpolant.{not_below}
use Rattle.nldm_lookup.specs.Rows.{size_of}
use Rattle.nldm_lookup.specs.Tables.{IsTable}
use Rattle.corner_set.specs.declared.choices.Beyond.TheVariants.{Extend}
use Rattle.nldm_lookup.specs.declared.faults.Which.TheVariants.{Slew, Load}
use Rattle.nldm_lookup.proofs.Answering.{refused_slew, refused_load, found, past_time, answers, only_answer}
use Rattle.nldm_lookup.proofs.Scaling.{one_weight, two_weights}
use Rattle.nldm_lookup.proofs.table.Table.interpolate.Goals as goal

kept : (slew : ℤ) → pos 0 ≤ℤ slew → slew ≤ℤ pos most → FitsSigned w64 slew
kept slew low high = fits_signed_from_abs w64 slew (omega (arith, ints, low, high))

moved : (P : List ℕ → ℕ → Type 0) (a b : List ℕ) (x y : ℕ) → a ≡ b → x ≡ y → P a x → P b y
moved P a b x y same other p = subst (λ z. P b z) other (subst (λ points. P points x) same p)

replaced : (n n' d d' v : ℤ) → n ≡ n' → d ≡ d' → IsRounding n d v → IsRounding n' d' v
replaced n n' d d' v same other rounding = subst (λ m. IsRounding m d' v) same (subst (λ e. IsRounding n e v) other rounding)

pub returns-in_err-on_slew-clause-answer : goal.returns-in_err-on_slew-clause-answer
returns-in_err-on_slew-clause-answer g c =
    let k : FitsSigned w64 c.args.slew.0 = kept c.args.slew.0 c.requires.not_negative c.requires.small in
    let size = simp to_z-of_z at c.unsigned_abs-slew.ensures.value in
    let p = err_from_is_err_and c.from_residual.result c.from_residual.ensures.1 in
    rw (p.1, p.2)
    (refused_slew c.args.self.now (unsigned_abs c.args.slew.0) c.args.load.0 c.args.grain c.args.beyond c.in_err-on_slew.field-0.0
    (omega (arith, ints, c.requires.not_negative, c.requires.small))
    (moved (λ points x. IsAxisEnd points Slew x c.args.beyond c.in_err-on_slew.field-0.0) _ _ _ _ (ap (λ t. t.slew) c.self.view_is) size c.in_err-on_slew.ensures.end))

pub returns-in_err-on_slew-clause-only : goal.returns-in_err-on_slew-clause-only
returns-in_err-on_slew-clause-only g c =
    only_answer c.args.self.now (unsigned_abs c.args.slew.0) c.args.load.0 c.args.grain c.args.beyond c.from_residual.result
    (subst (λ t. IsTable t) c.self.view_is c.self.invariant) (returns-in_err-on_slew-clause-answer g c)

pub returns-in_err-on_load-clause-answer : goal.returns-in_err-on_load-clause-answer
returns-in_err-on_load-clause-answer g c =
    let k : FitsSigned w64 c.args.slew.0 = kept c.args.slew.0 c.requires.not_negative c.requires.small in
    let size = simp to_z-of_z at c.unsigned_abs-slew.ensures.value in
    let whole = subst (λ t. IsTable t) c.self.view_is c.self.invariant in
    let p = err_from_is_err_and c.from_residual-in_err-on_load.result c.from_residual-in_err-on_load.ensures.1 in
    rw (p.1, p.2)
    (refused_load c.args.self.now (unsigned_abs c.args.slew.0) c.args.load.0 c.args.grain c.args.beyond c.in_err-on_load.field-0.0 (between_of c.in_ok-on_slew.on_slew) whole.slew
    (moved (λ points x. IsBetween points x c.args.beyond (between_of c.in_ok-on_slew.on_slew)) _ _ _ _ (ap (λ t. t.slew) c.self.view_is) size c.in_ok-on_slew.ensures.between)
    (subst (λ points. IsAxisEnd points Load c.args.load.0 c.args.beyond c.in_err-on_load.field-0.0) (ap (λ t. t.load) c.self.view_is) c.in_err-on_load.ensures.end))

pub returns-in_err-on_load-clause-only : goal.returns-in_err-on_load-clause-only
returns-in_err-on_load-clause-only g c =
    only_answer c.args.self.now (unsigned_abs c.args.slew.0) c.args.load.0 c.args.grain c.args.beyond c.from_residual-in_err-on_load.result
    (subst (λ t. IsTable t) c.self.view_is c.self.invariant) (returns-in_err-on_load-clause-answer g c)

pub rounded-value-requires-clause-small : goal.rounded-value-requires-clause-small
rounded-value-requires-clause-small g c =
    let n : FitsSigned w128 c.weighed-sum.result = record { sfits = c.weighed-sum.type_inv } in
    let slew = c.in_ok-on_slew.ensures.on in
    let load = c.in_ok-on_load.ensures.on in
    let row = one_weight (size_of (between_of c.in_ok-on_load.on_load)) (omega (arith, load.small_low, load.small_high)) in
    let all = two_weights (most * size_of (between_of c.in_ok-on_load.on_load)) (size_of (between_of c.in_ok-on_slew.on_slew)) row (omega (arith, slew.small_low, slew.small_high)) in
    simp to_z-of_z (omega (arith, c.weighed-sum.ensures.small, all))

pub returns-clause-answer : goal.returns-clause-answer
returns-clause-answer g c =
    let k : FitsSigned w64 c.args.slew.0 = kept c.args.slew.0 c.requires.not_negative c.requires.small in
    let size = simp to_z-of_z at c.unsigned_abs-slew.ensures.value in
    let n : FitsSigned w128 c.weighed-sum.result = record { sfits = c.weighed-sum.type_inv } in
    let r : FitsSigned w128 c.rounded-value.result = record { sfits = c.rounded-value.type_inv } in
    let whole = subst (λ t. IsTable t) c.self.view_is c.self.invariant in
    let on_slew = between_of c.in_ok-on_slew.on_slew in
    let on_load = between_of c.in_ok-on_load.on_load in
    let a = moved (λ points x. IsBetween points x c.args.beyond on_slew) _ _ _ _ (ap (λ t. t.slew) c.self.view_is) size c.in_ok-on_slew.ensures.between in
    let b = subst (λ points. IsBetween points c.args.load.0 c.args.beyond on_load) (ap (λ t. t.load) c.self.view_is) c.in_ok-on_load.ensures.between in
    let near = subst (λ points. c.args.beyond ≡ Extend → IsPassed points c.args.load.0 → c.args.load.0 ≤ most) (ap (λ t. t.load) c.self.view_is) c.in_ok-on_load.ensures.near in
    let rounds = replaced c.weighed-sum.result _ _ _ c.rounded-value.result c.weighed-sum.ensures.value c.divisor.ensures.value (simp to_z-of_z at c.rounded-value.ensures) in
    let small = subst (λ z. unsigned_abs z ≤ most * size_of on_load * size_of on_slew) c.weighed-sum.ensures.value c.weighed-sum.ensures.small in
    answers c.args.self.now (unsigned_abs c.args.slew.0) c.args.load.0 c.args.grain c.args.beyond (not_below c.args.beyond c.args.grain c.rounded-value.result) c.in_time.result
    (simp to_z-of_z at c.in_time.ensures.value) c.in_time.ensures.small c.in_time.ensures.past_time (simp to_z-of_z at c.in_time.ensures.large)
    (λ value is within. found c.args.self.now (unsigned_abs c.args.slew.0) c.args.load.0 c.args.grain c.args.beyond on_slew on_load c.rounded-value.result value a b near rounds is within)
    (λ large. past_time c.args.self.now (unsigned_abs c.args.slew.0) c.args.load.0 c.args.grain c.args.beyond on_slew on_load c.rounded-value.result whole a b small rounds large)

pub returns-clause-only : goal.returns-clause-only
returns-clause-only g c =
    only_answer c.args.self.now (unsigned_abs c.args.slew.0) c.args.load.0 c.args.grain c.args.beyond c.in_time.result
    (subst (λ t. IsTable t) c.self.view_is c.self.invariant) (returns-clause-answer g c)
