-- A byte more, and where the text ends.
use Rattle.std.proofs.Common.{◌+◌, Bool, sym, subst}
use Rattle.token_texts.specs.QuotedLemmas.{EndSoFar, end_begins, ends_both, ends_taken, ends_other, end_found, end_goes_on, end_missing}
use Rattle.token_texts.proofs.quoted.quote_end.Goals as goal
use Rattle.token_texts.proofs.quoted.quote_end.Goals.{else-byte-eq34-via-then-byte-eq34+else-not-is_taken, else-byte-eq34-via-else-byte-eq34}

pub loop-place-init : goal.loop-place-init
loop-place-init c = end_begins c.args.escape c.args.rest.now

pub returns-then-not-is_taken-clause-value : goal.returns-then-not-is_taken-clause-value
returns-then-not-is_taken-clause-value c =
    sym (end_found c.args.escape c.args.rest.now c.loop-place.is_taken c.loop-place.place c.loop-place.invariant c.loop-place-test.true (ends_both _ _ c.if-byte-eq34.true c.if-not-is_taken.true))

pub loop-place-preserved : goal.loop-place-preserved
loop-place-preserved c =
    subst (λ (t : Bool). EndSoFar c.args.escape c.args.rest.now t (c.loop-place.place + 1)) (sym c.takes-is_taken.ensures)
    (end_goes_on c.args.escape c.args.rest.now c.loop-place.is_taken c.loop-place.place c.loop-place.invariant c.loop-place-test.true
    (elim c.else-byte-eq34.branch [
      | else-byte-eq34-via-then-byte-eq34+else-not-is_taken w ↦ ends_taken _ _ w.if-not-is_taken.false
      | else-byte-eq34-via-else-byte-eq34 w ↦ ends_other _ _ w.if-byte-eq34.false
    ]))

pub returns-clause-value : goal.returns-clause-value
returns-clause-value c = sym (end_missing c.args.escape c.args.rest.now c.loop-place.is_taken c.loop-place.place c.loop-place.invariant c.loop-place-test.false)
