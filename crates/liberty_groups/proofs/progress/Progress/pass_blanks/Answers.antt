-- One blank more is passed.
use Rattle.std.proofs.Common.{◌≡◌, ℕ, ◌+◌, Bool, true, false, ◌||◌, List, drop, get_or, refl, sym, ap, ◌∙◌, subst, arith}
use Rattle.token_texts.specs.Blanks.{is_blank, is_line_end}
use Rattle.liberty_groups.specs.Feeding.{CanGoOn, HasRead}
use Rattle.liberty_groups.proofs.Feeding.{behind_blanks, blank_goes_on, blank_read}
use Rattle.liberty_groups.proofs.progress.Progress.pass_blanks.Goals as goal
use Rattle.liberty_groups.proofs.progress.Progress.pass_blanks.Goals.{then-byte-ne32+else-not-is_blank, else-byte-ne32}

or_false : (b : Bool) → (b || false) ≡ b
or_false true = refl
or_false false = refl

-- a space is a blank, and no line end
space_told : (b : ℕ) (fresh : Bool) → b ≡ 32 → (is_blank b ≡ true) × ((fresh || is_line_end b) ≡ fresh)
space_told b fresh is = (ap is_blank is, ap (λ n. fresh || is_line_end n) is ∙ or_false fresh)

pub loop-place-preserved : goal.loop-place-preserved
loop-place-preserved c =
    let place : ℕ = c.loop-place.place in
    let bytes : List ℕ = c.args.bytes.now in
    let fresh : Bool = c.loop-place.fresh in
    let b : ℕ = get_or bytes place 0 in
    let told : (is_blank b ≡ true) × ((fresh || is_line_end b) ≡ c.if-byte-ne32.fresh) = elim c.if-byte-ne32.branch [
      | then-byte-ne32+else-not-is_blank w ↦ (sym w.is_blank.ensures ∙ w.if-not-is_blank.false, sym w.fresh-is)
      | else-byte-ne32 w ↦ let space = space_told b fresh w.if-byte-ne32.false in (space.0, space.1 ∙ sym w.fresh-is)
    ] in
    record {
      within = let lt = c.loop-place-test.true in omega arith;
      goes_on = subst (λ t. CanGoOn (behind_blanks c.args.self.now t (place + 1))) told.1
          (blank_goes_on c.args.self.now bytes place fresh c.loop-place-test.true told.0 c.loop-place.invariant.goes_on);
      read = λ all read. subst (λ t. HasRead all (drop (place + 1) bytes) (behind_blanks c.args.self.now t (place + 1))) told.1
          (blank_read c.args.self.now bytes place fresh c.loop-place-test.true told.0 (c.loop-place.invariant.read all read));
    }
