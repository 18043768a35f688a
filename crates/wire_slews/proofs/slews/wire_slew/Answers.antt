use Rattle.std.proofs.Common.{ℤ, pos, ◌≤ℤ◌, FitsSigned, sym, subst, arith}
use Rattle.std.specs.Int.{w64}
use Rattle.std.proofs.lemmas.Int.{ints, to_z-of_z, to_z_pos, fits_signed_from_abs}
use Rattle.wire_slews.specs.WireSlews.{IsWireSlew, most_slew}
use Rattle.corner_set.specs.declared.choices.WireSlew.TheVariants.{Rss}
use Rattle.wire_slews.proofs.OneSlew.{large_elmore, made_behind, past_behind}
use Rattle.wire_slews.proofs.slews.wire_slew.Goals as goal

kept : (slew : ℤ) → pos 0 ≤ℤ slew → slew ≤ℤ pos most_slew → FitsSigned w64 slew
kept slew low high = fits_signed_from_abs w64 slew (omega (arith, ints, low, high))

pub returns-then-elmore-gt-MOST_ELMORE-clause-none : goal.returns-then-elmore-gt-MOST_ELMORE-clause-none
returns-then-elmore-gt-MOST_ELMORE-clause-none c = λ behind is. large_elmore c.args.slew.0 behind c.args.elmore (omega arith) is

pub returns-then-behind-clause-none : goal.returns-then-behind-clause-none
returns-then-behind-clause-none c =
    let fits : FitsSigned w64 c.args.slew.0 = kept c.args.slew.0 c.requires.not_negative c.requires.small in
    past_behind c.args.slew.0 c.args.elmore c.own_slew-own.result c.root-behind.result c.requires.not_negative c.own_slew-own.ensures.only
    (simp to_z-of_z at c.root-behind.ensures) c.if-behind.true

pub returns-clause-some : goal.returns-clause-some
returns-clause-some c =
    let fits : FitsSigned w64 c.args.slew.0 = kept c.args.slew.0 c.requires.not_negative c.requires.small in
    subst (λ behind. IsWireSlew Rss c.args.slew.0 c.args.elmore behind) (sym (to_z_pos w64 c.root-behind.result (omega arith)))
    (made_behind c.args.slew.0 c.args.elmore c.own_slew-own.result c.root-behind.result c.requires.not_negative c.own_slew-own.ensures.rounded
    (simp to_z-of_z at c.root-behind.ensures))
